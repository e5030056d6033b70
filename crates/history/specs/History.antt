-- The records of the history (docs/MANUAL.md, 10.1), and each with one field changed.
use Rattle.std.specs.Prelude.{ℕ, List}

-- (rule H2) a row noted: its sources, the request that it bears and the port that it is an end of, 0 for none
pub record Noted : Type 0 where
  pub number : ℕ
  pub sources : List ℕ
  pub request : ℕ
  pub port : ℕ

-- (rule H2) a request noted: its lender, its port, the ends among its items
pub record Loan : Type 0 where
  pub number : ℕ
  pub lender : ℕ
  pub port : ℕ
  pub ends : List ℕ

-- (rule H2) where a process went; a later `go` takes its place
pub record Went : Type 0 where
  pub process : ℕ
  pub through : ℕ

-- (rule H6) a request has an end on loan
pub record OnLoan : Type 0 where
  pub request : ℕ
  pub lent : ℕ

-- (rule H1) all newest first. `text`: the rows of the text. `dropped`, `closed_ports`, `closed_requests`: by a call.
pub record History : Type 0 where
  pub text : List ℕ
  pub rows : List Noted
  pub requests : List Loan
  pub dropped : List ℕ
  pub closed_ports : List ℕ
  pub closed_requests : List ℕ
  pub went : List Went
  pub loans : List OnLoan

-- ---- (rule H2) a history with one field changed: it is changed by these alone
abbrev pub with_noted_rows : List Noted → History → History
with_noted_rows rs h =
    record {
      text = h.text;
      rows = rs;
      requests = h.requests;
      dropped = h.dropped;
      closed_ports = h.closed_ports;
      closed_requests = h.closed_requests;
      went = h.went;
      loans = h.loans;
    }

abbrev pub with_noted_requests : List Loan → History → History
with_noted_requests vs h =
    record {
      text = h.text;
      rows = h.rows;
      requests = vs;
      dropped = h.dropped;
      closed_ports = h.closed_ports;
      closed_requests = h.closed_requests;
      went = h.went;
      loans = h.loans;
    }

abbrev pub with_dropped : List ℕ → History → History
with_dropped es h =
    record {
      text = h.text;
      rows = h.rows;
      requests = h.requests;
      dropped = es;
      closed_ports = h.closed_ports;
      closed_requests = h.closed_requests;
      went = h.went;
      loans = h.loans;
    }

abbrev pub with_closed_ports : List ℕ → History → History
with_closed_ports cs h =
    record {
      text = h.text;
      rows = h.rows;
      requests = h.requests;
      dropped = h.dropped;
      closed_ports = cs;
      closed_requests = h.closed_requests;
      went = h.went;
      loans = h.loans;
    }

abbrev pub with_closed_requests : List ℕ → History → History
with_closed_requests qs h =
    record {
      text = h.text;
      rows = h.rows;
      requests = h.requests;
      dropped = h.dropped;
      closed_ports = h.closed_ports;
      closed_requests = qs;
      went = h.went;
      loans = h.loans;
    }

abbrev pub with_went : List Went → History → History
with_went ws h =
    record {
      text = h.text;
      rows = h.rows;
      requests = h.requests;
      dropped = h.dropped;
      closed_ports = h.closed_ports;
      closed_requests = h.closed_requests;
      went = ws;
      loans = h.loans;
    }

abbrev pub with_loans : List OnLoan → History → History
with_loans os h =
    record {
      text = h.text;
      rows = h.rows;
      requests = h.requests;
      dropped = h.dropped;
      closed_ports = h.closed_ports;
      closed_requests = h.closed_requests;
      went = h.went;
      loans = os;
    }
