-- (rule P25) Isolation: what a process is answered is decided by what it can see, its view. If a call of another leaves the view, the next call is answered
-- as it would have been, but for the number that a new row or request takes, and for the three refusals that tell of shared room (16, 17, 18).
-- Ruled out: a kernel whose answers depend on a row of another's c-list, on a loan that the process neither made nor fetched, on another's node.
use Rattle.std.specs.Prelude.{ℕ, ◌<◌, ◌≤◌, Bool, true, false, not, ◌&&◌, List, [], map, ◌≡◌, ◌⊎◌, ltb, eqb, if◌then◌else◌}
use Rattle.rows.specs.declared.Row.{Row}
use Rattle.rows.specs.declared.Request.{Request}
use Rattle.rows.specs.declared.Process.{Process}
use Rattle.rows.specs.Lists.{filter, any, member}
use Rattle.rows.specs.Codes.{is_client, is_server, is_end, in_node, in_clist}
use Rattle.rows.specs.Tables.{State, row_of, process_at, sources, lists, on_loan, is_lent}
use Rattle.rows.specs.Sound.{sound, is_fetched}
use Rattle.calls.specs.declared.Call.{Call}
use Rattle.calls.specs.declared.Answer.{Answer}
use Rattle.calls.specs.declared.Answer.TheVariants.{Made, Refused}
use Rattle.calls.specs.Answers.{refusal_of}
use Rattle.calls.specs.Rules.{not_held, has_open, asked_of}
use Rattle.calls.specs.Calls.{lent_ends, caller_of}
use Rattle.text.specs.declared.Reading.TheVariants.{Asks}
use Rattle.text.specs.Entry.{answered}
use Rattle.security.specs.Sessions.{EveryStep}

-- ---- what process p can see
-- of an end that the open request at one of its server ends lists: its port is busy; it is with p; a newer request lists it
pub record SeenEnd : Type 0 where
  pub busy : Bool
  pub mine : Bool
  pub newer : Bool

-- of the open request at one of its server ends: the items only while it is not fetched
pub record SeenRequest : Type 0 where
  pub number : ℕ
  pub fetched : Bool
  pub items : List ℕ
  pub ends : List SeenEnd

-- of a row of its c-list: the row; some row has it for a source; it is lent (not of ends); its port is busy (of ends);
-- it is on loan (of client ends); the open request (of server ends)
pub record SeenRow : Type 0 where
  pub row : Row
  pub used : Bool
  pub lent : Bool
  pub busy : Bool
  pub away : Bool
  pub request : SeenRequest

-- its record, its c-list, the rows of its active node, the open requests that it asked
pub record View : Type 0 where
  pub process : Process
  pub rows : List SeenRow
  pub node : List Row
  pub asked : List ℕ

unfoldable pub seen_end : State → ℕ → Request → ℕ → SeenEnd
seen_end st p v e =
    record {
      busy = has_open st (row_of st.rows e).object;
      mine = not (not_held st p e);
      newer = any (λ w. ltb v.number w.number && lists e w) st.requests;
    }

unfoldable pub seen_request : State → ℕ → Request → SeenRequest
seen_request st p v =
    record { number = v.number; fetched = is_fetched v; items = (if is_fetched v then [] else v.items); ends = map (seen_end st p v) (lent_ends st v) }

unfoldable pub nothing_seen : SeenRequest
nothing_seen = record { number = 0; fetched = false; items = []; ends = [] }

unfoldable pub seen_row : State → ℕ → Row → SeenRow
seen_row st p r =
    record {
      row = r;
      used = any (λ x. member r.number (sources x)) st.rows;
      lent = not (is_end r.kind) && is_lent st r.number;
      busy = is_end r.kind && has_open st r.object;
      away = is_client r.kind && on_loan st.requests r.number;
      request = (if is_server r.kind then seen_request st p (asked_of st r.number) else nothing_seen);
    }

unfoldable pub view : State → ℕ → View
view st p =
    let x = process_at st.processes p in
    record {
      process = x;
      rows = map (seen_row st p) (filter (λ r. eqb r.place (in_clist p)) st.rows);
      node = filter (λ r. eqb r.place (in_node x.active)) st.rows;
      asked = map (λ v. v.number) (filter (λ v. eqb v.asker p) st.requests);
    }

-- ---- answers that are equal, up to the shared counter and the shared room
-- accepted, or refused for want of room
abbrev pub Roomless : Answer → Type 0
Roomless a = (refusal_of a ≡ 0) ⊎ (16 ≤ refusal_of a)

pub data Alike (st st' : State) (a a' : Answer) : Type 0 where
  -- the same refusal
  refused : (k : ℕ) → k < 16 → a ≡ Refused k → a' ≡ Refused k → Alike st st' a a'
  -- one of them for want of room
  no_room : (16 ≤ refusal_of a) ⊎ (16 ≤ refusal_of a') → Roomless a → Roomless a' → Alike st st' a a'
  -- accepted, with the same answer
  same : a ≡ a' → refusal_of a ≡ 0 → Alike st st' a a'
  -- accepted, each with its next number
  new-number : a ≡ Made st.next → a' ≡ Made st'.next → Alike st st' a a'

-- ==== on any two sound tables with the same view of p, a call of p (`comes` and `chain` have no caller) is answered alike
unfoldable pub ViewDecides : Type 0
ViewDecides =
    (st st' : State) → sound st ≡ true → sound st' ≡ true → (p : ℕ) → 0 < p → view st p ≡ view st' p →
    (c : Call) → caller_of c ≡ p → Alike st st' (answered st (Asks c)).answer (answered st' (Asks c)).answer

-- so a call of another that leaves the view of p changes no answer to p
unfoldable pub Isolation : Type 0
Isolation =
    EveryStep (λ st c st'. (p : ℕ) → 0 < p → view st p ≡ view st' p →
    (d : Call) → caller_of d ≡ p → Alike st st' (answered st (Asks d)).answer (answered st' (Asks d)).answer)
