-- Records with one field changed. A record is changed by these alone: a field that comes later is added here and nowhere else.
use Rattle.std.specs.Prelude.{ℕ, List}
use Rattle.rows.specs.declared.Row.{Row}
use Rattle.rows.specs.declared.Request.{Request}
use Rattle.rows.specs.declared.Process.{Process}
use Rattle.rows.specs.Tables.{State}

-- ---- the state
abbrev pub with_rows : List Row → State → State
with_rows rs st = record { rows = rs; requests = st.requests; processes = st.processes; next = st.next }

abbrev pub with_requests : List Request → State → State
with_requests vs st = record { rows = st.rows; requests = vs; processes = st.processes; next = st.next }

abbrev pub with_processes : List Process → State → State
with_processes ps st = record { rows = st.rows; requests = st.requests; processes = ps; next = st.next }

abbrev pub with_next : ℕ → State → State
with_next n st = record { rows = st.rows; requests = st.requests; processes = st.processes; next = n }

-- ---- a row
-- (rule R12) of a row that stands nothing changes but its place
unfoldable pub with_place : ℕ → Row → Row
with_place p r =
    record {
      number = r.number;
      kind = r.kind;
      object = r.object;
      operation = r.operation;
      rights = r.rights;
      place = p;
      source = r.source;
      via = r.via;
      depth = r.depth;
      request = r.request;
    }

-- (rule W8) sources as slots, and back
unfoldable pub with_sources : ℕ → ℕ → Row → Row
with_sources s v r =
    record {
      number = r.number;
      kind = r.kind;
      object = r.object;
      operation = r.operation;
      rights = r.rights;
      place = r.place;
      source = s;
      via = v;
      depth = r.depth;
      request = r.request;
    }

-- ---- a request
abbrev pub with_items : List ℕ → Request → Request
with_items is v = record { number = v.number; port = v.port; asker = v.asker; fetched = v.fetched; items = is }

abbrev pub with_fetched : ℕ → Request → Request
with_fetched k v = record { number = v.number; port = v.port; asker = v.asker; fetched = k; items = v.items }

-- ---- a process: in its prime node through none; in the node n through row e
abbrev pub in_prime_node : Process → Process
in_prime_node x = record { prime = x.prime; active = x.prime; through = 0 }

abbrev pub went_through : ℕ → ℕ → Process → Process
went_through e n x = record { prime = x.prime; active = n; through = e }
