-- (rule P11) On sound tables closing in one pass is closing round after round until nothing more is removed: one round finds all of it.
use Prim.Native.Nat.{ℕ, zero, suc}
use mathlib.Core.Bool.{Bool, true, false, not, ◌&&◌, ◌||◌}
use mathlib.Core.List.{List, [], ◌∷◌, map}
use mathlib.Core.Path.{◌≡◌, refl, ap, sym, ◌∙◌}
use mathlib.Core.Logic.{⊎_elim}
use borrow.Author.Tests.{eqb-true}
use lib.Dec.{eqb}
use lib.ListN.{length}
use Rattle.rows.specs.declared.Row.{Row}
use Rattle.rows.specs.declared.Request.{Request}
use Rattle.std.specs.Prelude.{if◌then◌else◌}
use Rattle.rows.specs.Lists.{filter, any, member, some}
use Rattle.rows.specs.Codes.{in_clist}
use Rattle.rows.specs.Tables.{State, no_row, no_request, row_of, request_of, numbers, marked, bears, lists}
use Rattle.rows.specs.Sound.{rows_rise, requests_rise}
use Rattle.rows.proofs.Bools.{clash, and_l, and_r, and_i, or_l, or_cases, pos-some, and-rf}
use Rattle.rows.proofs.Keyed.{first_key, rises-range}
use Rattle.tables.proofs.Sound.{Sound}
use Rattle.rows.proofs.Agree.{Agree, agree-map, filter-agree, keys_kept, agree-kept}
use Rattle.tables.proofs.Marking.{marked-seed, marked-source, marked-wider, marked-agree}
use Rattle.rows.proofs.RowSources.{client-there}
use Rattle.tables.proofs.Standing.{sources-older, via-listed}
use Rattle.tables.proofs.SoundFacts.{row_number}
use Rattle.closing.specs.Closing.{closes, oldest_listing, returned, listed_in, leaves, trimmed, remaining, homed, settled, closing, close_request, is_end_of, close_port}
use Rattle.rows.specs.Setters.{with_place, with_items}
use Rattle.closing.specs.Steps.{Gone, falls, remove_rows, close_requests, round, rounds, until_no_more, closing_by_steps, close_request_by_steps, close_port_by_steps}
use Rattle.closing.proofs.Facts.{copy_at}

-- ---- what is settled depends on the test only at the requests of the tables
module _ (f g : Request → Bool) where
  pub oldest-agree : (e : ℕ) (vs : List Request) → Agree f g vs → oldest_listing f e vs ≡ oldest_listing g e vs
  unfolding oldest_listing
  oldest-agree e [] a = refl
  oldest-agree e (v ∷ vs) a =
      λ i.
      let w = oldest-agree e vs a.1 i in
      if some w.number then w else (if a.0 i && lists e v then v else w)

  pub returned-agree : (vs : List Request) → Agree f g vs → (r : Row) → returned f vs r ≡ returned g vs r
  unfolding returned
  returned-agree vs a r =
      ap (λ (w : Request). if some w.number then with_place (in_clist w.asker) r else r) (oldest-agree r.number vs a)

  listed-agree : (e : ℕ) (vs : List Request) → Agree f g vs → listed_in f vs e ≡ listed_in g vs e
  unfolding listed_in any
  listed-agree e [] a = refl
  listed-agree e (v ∷ vs) a = λ i. a.0 i && lists e v || listed-agree e vs a.1 i

  module _ (gone : List ℕ) where
    trimmed-agree : (vs : List Request) → Agree f g vs → (v : Request) → trimmed f gone vs v ≡ trimmed g gone vs v
    unfolding trimmed leaves
    trimmed-agree vs a v = λ i. with_items (map (λ e. if member e gone || listed-agree e vs a i then 0 else e) v.items) v

    remaining-agree : (vs : List Request) → Agree f g vs → remaining f gone vs ≡ remaining g gone vs
    unfolding remaining
    remaining-agree [] a = refl
    remaining-agree (v ∷ vs) a =
        λ i. if a.0 i then remaining-agree vs a.1 i else trimmed-agree vs a.1 v i ∷ remaining-agree vs a.1 i

    settled-agree : (st : State) → Agree f g st.requests → settled gone f st ≡ settled gone g st
    unfolding settled
    settled-agree st a =
        λ i.
        record {
          rows = map (λ r. returned-agree st.requests a r i) (filter (λ r. not (member r.number gone)) st.rows);
          requests = remaining-agree st.requests a i;
          processes = map (homed gone) st.processes;
          next = st.next;
        }

-- ---- rounds: the rows that bear a closed request are seeds
module _ (st : State) (s : Sound st) (seed : Row → Bool) (qs : List ℕ)
    (bearers : (n : ℕ) → member n (numbers st.rows) ≡ true → member (row_of st.rows n).request qs ≡ true → some (row_of st.rows n).request ≡ true → seed (row_of st.rows n) ≡ true) where
  gone : List ℕ
  gone = marked seed st.rows

  shut : List ℕ
  shut = map (λ v. v.number) (filter (closes qs gone) st.requests)

  all-gone : Gone
  all-gone = record { removed = gone; closed = shut }

  shut-agree : Agree (λ v. member v.number shut) (closes qs gone) st.requests
  unfolding shut requests_rise
  shut-agree = agree-kept (λ v. v.number) no_request (closes qs gone) st.requests s.numbers.requests-rise

  -- the requests closed in a further round are the same
  shut-again : map (λ v. v.number) (filter (closes shut gone) st.requests) ≡ shut
  unfolding shut closes
  shut-again =
      ap (map (λ v. v.number))
      (filter-agree (closes shut gone) (closes qs gone) st.requests
      (agree-map (λ v. member v.number shut) (closes qs gone) (closes shut gone) (closes qs gone)
      (λ v e. ap (λ (b : Bool). b || member v.port gone) e ∙ twice (member v.number qs) (member v.port gone)) st.requests shut-agree))
    where
      twice : (a b : Bool) → a || b || b ≡ a || b
      twice true b = refl
      twice false true = refl
      twice false false = refl

  -- a row that bears a closed request's number is removed already
  bearer-gone : (n : ℕ) → member n (numbers st.rows) ≡ true → some (row_of st.rows n).request ≡ true → member (row_of st.rows n).request shut ≡ true → member n gone ≡ true
  unfolding gone shut closes rows_rise requests_rise request_of numbers
  bearer-gone n t b m = ⊎_elim by_number by-port (or_cases (member v.number qs) (member v.port gone) closed)
    where
      r : Row
      r = row_of st.rows n

      v : Request
      v = request_of st.requests r.request

      kept : member r.request (map (λ v. v.number) st.requests) && closes qs gone v ≡ true
      kept = sym (keys_kept (λ v. v.number) no_request (closes qs gone) st.requests s.numbers.requests-rise r.request) ∙ m

      closed : closes qs gone v ≡ true
      closed = and_r (member r.request (map (λ v. v.number) st.requests)) (closes qs gone v) kept

      by_number : member v.number qs ≡ true → member n gone ≡ true
      by_number e =
          let is_open : member r.request (map (λ v. v.number) st.requests) ≡ true = and_l (member r.request (map (λ v. v.number) st.requests)) (closes qs gone v) kept in
          marked-seed seed st.rows s.numbers.rows-rise (sources-older st s.numbers s.rows) n t
          (bearers n t (rw (first_key (λ v. v.number) no_request st.requests r.request is_open) at e) b)

      by-port : member v.port gone ≡ true → member n gone ≡ true
      by-port e =
          let copy = copy_at st s n t b in
          let stands = client-there st.rows r.via copy.via-client in
          let above = rises-range (λ r. r.number) st.rows s.numbers.rows-rise r.via stands in
          marked-source seed st.rows s.numbers.rows-rise (sources-older st s.numbers s.rows) n t r.via (via-listed r (pos-some r.via above.0)) (rw copy.through-port at e)

  -- so nothing more is removed
  gone-again : marked (falls all-gone) st.rows ≡ gone
  unfolding all-gone gone falls rows_rise
  gone-again =
      marked-wider seed (falls all-gone) st.rows s.numbers.rows-rise (sources-older st s.numbers s.rows)
      (λ n t e.
      or_l (member (row_of st.rows n).number gone) (some (row_of st.rows n).request && member (row_of st.rows n).request shut)
      (rw (row_number st.rows n t) (marked-seed seed st.rows s.numbers.rows-rise (sources-older st s.numbers s.rows) n t e)))
      (λ n t e.
      ⊎_elim (λ m. rw (row_number st.rows n t) at m)
      (λ m. bearer-gone n t (and_l (some (row_of st.rows n).request) (member (row_of st.rows n).request shut) m)
      (and_r (some (row_of st.rows n).request) (member (row_of st.rows n).request shut) m))
      (or_cases (member (row_of st.rows n).number gone) (some (row_of st.rows n).request && member (row_of st.rows n).request shut) e))

  -- a round from the removed rows, whether qs are closed or all of `shut`
  round-first : round st (record { removed = gone; closed = qs }) ≡ all-gone
  unfolding round remove_rows close_requests all-gone shut
  round-first = λ i. record { removed = gone-again i; closed = shut }

  round-again : round st all-gone ≡ all-gone
  unfolding round remove_rows close_requests all-gone
  round-again = ap (λ (c : List ℕ). remove_rows st.rows (record { removed = gone; closed = c })) shut-again ∙ (λ i. record { removed = gone-again i; closed = shut })

  rounds-stay : (k : ℕ) → rounds k st all-gone ≡ all-gone
  unfolding rounds
  rounds-stay zero = refl
  rounds-stay (suc k) = ap (rounds k st) round-again ∙ rounds-stay k

  until : until_no_more st (record { removed = gone; closed = qs }) ≡ all-gone
  unfolding until_no_more rounds
  until = ap (rounds (length st.requests) st) round-first ∙ rounds-stay (length st.requests)

  steps : (start : Gone) → start.closed ≡ qs → marked (falls start) st.rows ≡ marked seed st.rows → closing_by_steps start st ≡ closing seed qs st
  unfolding closing_by_steps closing remove_rows all-gone gone
  steps start c e =
      ap (λ (g : Gone). settled g.removed (λ v. member v.number g.closed) st) (ap (until_no_more st) (λ i. record { removed = e i; closed = c i }) ∙ until)
      ∙ settled-agree (λ v. member v.number shut) (closes qs gone) gone st shut-agree

-- a request's number, not 0, is borne by the rows that bear it
one_of : (x q : ℕ) → some q ≡ true → some x && member x (q ∷ []) ≡ eqb x q
unfolding member
one_of x q h = pick (eqb x q) refl
  where
    pick : (b : Bool) → eqb x q ≡ b → some x && (b || false) ≡ b
    pick true e = rw (eqb-true x q e, h) refl
    pick false e = and-rf (some x) false refl

pub close-request-steps : (st : State) → Sound st → (q : ℕ) → some q ≡ true → close_request_by_steps q st ≡ close_request q st
unfolding close_request_by_steps close_request falls bears member
close-request-steps st s q h =
    steps st s (bears q) (q ∷ [])
    (λ n t m b. sym (one_of (row_of st.rows n).request q h) ∙ and_i (some (row_of st.rows n).request) (member (row_of st.rows n).request (q ∷ [])) b m)
    (record { removed = []; closed = q ∷ [] }) refl
    (ap (λ (f : Row → Bool). marked f st.rows) (λ i r. one_of r.request q h i))

pub close-port-steps : (st : State) → Sound st → (c : ℕ) → close_port_by_steps c st ≡ close_port c st
unfolding close_port_by_steps close_port falls member rows_rise
close-port-steps st s c =
    steps st s (is_end_of c) [] (λ n t m b. clash m refl) (record { removed = ends; closed = [] }) refl
    (marked-agree (falls (record { removed = ends; closed = [] })) (is_end_of c) st.rows
    (agree-map (λ r. member r.number ends) (is_end_of c) (falls (record { removed = ends; closed = [] })) (is_end_of c)
    (λ r e. none_more (member r.number ends) (some r.request) ∙ e) st.rows (agree-kept (λ r. r.number) no_row (is_end_of c) st.rows s.numbers.rows-rise)))
  where
    ends : List ℕ
    ends = map (λ r. r.number) (filter (is_end_of c) st.rows)

    none_more : (a b : Bool) → a || (b && false) ≡ a
    none_more true b = refl
    none_more false true = refl
    none_more false false = refl
