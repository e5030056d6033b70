-- Sessions run on states, for the tests: what the history notes, and the tables.
use Rattle.std.specs.Prelude.{ℕ, Bool, ◌&&◌, List, [], ◌∷◌, map, eqb}
use Prim.Native.String.{String}
use Rattle.rows.specs.Lists.{any, all, member, bytes}
use Rattle.rows.specs.Codes.{in_clist}
use Rattle.rows.specs.Tables.{State, row_of, numbers}
use Rattle.text.specs.Opening.{Form, Opening, opens, refused_at, lines_of, opening_of}
use Rattle.text.specs.Answers.{printed}
use Rattle.text.specs.Entry.{call_on, state_opened}
use Rattle.history.specs.History.{History}
use Rattle.history.specs.Reading.{begun_by, note_line}
use Rattle.security.specs.Sessions.{Log, note_fetch}
use Rattle.security.specs.Holders.{Homes, form_homes, line_homes, place_said}

pub record Run : Type 0 where
  pub log : Log
  pub history : History
  pub homes : Homes
  pub state : State
  pub forms : List Form

unfoldable pub after_line : Run → List ℕ → Run
after_line r l =
    let o = call_on r.state l in
    let reply = printed o.answer in
    record {
      log = note_fetch r.log l reply;
      history = note_line r.history l reply;
      homes = line_homes r.forms r.history l reply r.homes;
      state = o.after;
      forms = r.forms;
    }

unfoldable pub after_lines : Run → List (List ℕ) → Run
after_lines r [] = r
after_lines r (l ∷ ls) = after_lines (after_line r l) ls

unfoldable pub opened : List Form → Run
opened fs = record { log = []; history = begun_by (opens fs []); homes = form_homes fs; state = state_opened fs; forms = fs }

unfoldable pub after_opening : Opening → Run
after_opening (opens fs rest) = after_lines (opened fs) rest
after_opening (refused_at k n) = opened []

-- an opening text and call lines
unfoldable pub run : String → Run
run t = after_opening (opening_of (lines_of (bytes t)))

-- further lines
unfoldable pub then : Run → List String → Run
then r ls = after_lines r (map bytes ls)

-- ---- what the tests ask
unfoldable pub stands : Run → ℕ → Bool
stands r n = member n (numbers r.state.rows)

unfoldable pub is_asked : Run → ℕ → Bool
is_asked r q = member q (map (λ v. v.number) r.state.requests)

unfoldable pub is_with : Run → ℕ → ℕ → Bool
is_with r p n = eqb (row_of r.state.rows n).place (in_clist p)

unfoldable pub has_on_loan : Run → ℕ → ℕ → Bool
has_on_loan r q e = any (λ o. eqb o.request q && eqb o.lent e) r.history.loans

-- of every row the notes say where it is
unfoldable pub places_said : Run → Bool
places_said r = all (λ n. eqb (row_of r.state.rows n).place (place_said r.history r.log r.homes n)) (numbers r.state.rows)
