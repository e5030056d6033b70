-- After the pass: with the marked rows and requests removed, what is left is what closing leaves.
use Prim.Native.Nat.{ℕ}
use mathlib.Core.Bool.{Bool, true, false, cond, not, ◌||◌}
use mathlib.Core.List.{List, [], ◌∷◌, map}
use mathlib.Core.Path.{◌≡◌, refl, ap, subst, ◌∙◌}
use lib.ListN.{length, length-map}
use Rattle.rows.specs.declared.Row.{Row}
use Rattle.rows.specs.declared.Request.{Request}
use Rattle.rows.specs.declared.Process.{Process}
use Rattle.rows.specs.Lists.{any, all, filter, member}
use Rattle.rows.specs.Tables.{State, sources}
use Rattle.rows.specs.Sound.{rows_rise, requests_rise, rows_fit, requests_fit, items_few}
use Rattle.rows.specs.Layout.{words_of}
use Rattle.rows.specs.vocabulary.Represents.{laid_well, Represents}
use Rattle.rows.specs.Setters.{with_rows, with_requests, with_processes, with_place, with_items}
use Rattle.rows.proofs.Bools.{not_t}
use Rattle.changes.specs.vocabulary.Marks.{tested, marks_of, closed_under}
use Rattle.closing.specs.Closing.{closes, returned, trimmed, remaining, settled}
use Rattle.closing.specs.vocabulary.Lists.{trimmed_all, returned_unless, partly_settled, lists_settled}
use Rattle.closing.proofs.Lookups.{returned-keeps}
use Rattle.closing.proofs.ListsMarks.{tested_eq, tested-map}

-- a test of requests that does not look at their items, as `closes` is
abbrev pub Blind : (Request → Bool) → Type 0
Blind f = (v : Request) (is : List ℕ) → f (with_items is v) ≡ f v

pub closes-blind : (qs g : List ℕ) → Blind (closes qs g)
unfolding closes
closes-blind qs g v is = refl

-- ---- rows
module _ {A : Type 0} (p : A → Bool) (h : A → A) (k : (x : A) → p (h x) ≡ p x) where
  filter_map : (xs : List A) → filter p (map h xs) ≡ map h (filter p xs)
  unfolding filter
  filter_map [] = refl
  filter_map (x ∷ xs) = rw (k x, filter_map xs) (pick (p x))
    where
      pick : (b : Bool) → cond b (h x ∷ map h (filter p xs)) (map h (filter p xs)) ≡ map h (cond b (x ∷ filter p xs) (filter p xs))
      pick true = refl
      pick false = refl

  map-agree : (k : A → A) → ((x : A) → p x ≡ true → h x ≡ k x) → (xs : List A) → map h (filter p xs) ≡ map k (filter p xs)
  unfolding filter
  map-agree k same [] = refl
  map-agree k same (x ∷ xs) = pick (p x) refl (map-agree k same xs)
    where
      pick : (b : Bool) → p x ≡ b → map h (filter p xs) ≡ map k (filter p xs) → map h (cond b (x ∷ filter p xs) (filter p xs)) ≡ map k (cond b (x ∷ filter p xs) (filter p xs))
      pick true e ih = (λ i. same x e i ∷ ih i)
      pick false e ih = ih

  all-map-eq : (xs : List A) → all p (map h xs) ≡ all p xs
  unfolding all
  all-map-eq [] = refl
  all-map-eq (x ∷ xs) = rw (k x, all-map-eq xs) refl

module _ (g : List ℕ) (f : Request → Bool) (st : State) where
  abbrev sent : Row → Row
  sent = returned_unless g f st.requests

  sent-keeps : {B : Type 0} (k : Row → B) → ((p : ℕ) (r : Row) → k (with_place p r) ≡ k r) → (r : Row) → k (sent r) ≡ k r
  unfolding returned_unless
  sent-keeps k same r = pick (member r.number g)
    where
      pick : (b : Bool) → k (cond b r (returned f st.requests r)) ≡ k r
      pick true = refl
      pick false = returned-keeps k same f st.requests r

  sent-number : (r : Row) → (sent r).number ≡ r.number
  sent-number = sent-keeps (λ r. r.number) (λ p r. unfold with_place in refl)

  pub lists-rows : length (lists_settled g f st).rows ≡ length st.rows
  unfolding lists_settled partly_settled
  lists-rows = length-map st.rows sent

  -- the same rows are marked, and the marks stay closed
  pub lists-marks : marks_of g (lists_settled g f st).rows ≡ marks_of g st.rows
  unfolding lists_settled partly_settled marks_of
  lists-marks =
      tested-map (λ r. member r.number g) sent st.rows
      ∙ tested_eq _ _ (λ r. ap (λ (n : ℕ). member n g) (sent-number r)) st.rows

  pub lists-closed : closed_under g (lists_settled g f st).rows ≡ closed_under g st.rows
  unfolding lists_settled partly_settled closed_under
  lists-closed = all-map-eq test sent (sent-keeps test (λ p r. unfold with_place sources in refl)) st.rows
    where
      test : Row → Bool
      test r = member r.number g || not (any (λ s. member s g) (sources r))

  pub lists-rows-left : filter (λ r. not (member r.number g)) (lists_settled g f st).rows ≡ (settled g f st).rows
  unfolding lists_settled partly_settled settled returned_unless
  lists-rows-left =
      filter_map stays sent (λ r. ap (λ (n : ℕ). not (member n g)) (sent-number r)) st.rows
      ∙ map-agree stays sent (λ r. ap (λ (n : ℕ). not (member n g)) (sent-number r)) (returned f st.requests) sends st.rows
    where
      stays : Row → Bool
      stays r = not (member r.number g)

      sends : (r : Row) → not (member r.number g) ≡ true → cond (member r.number g) r (returned f st.requests r) ≡ returned f st.requests r
      sends r e = ap (λ (b : Bool). cond b r (returned f st.requests r)) (not_t (member r.number g) e)

-- ---- requests
module _ (f : Request → Bool) (blind : Blind f) (g : List ℕ) where
  same_test : (v : Request) (old : List Request) (b : Bool) → f (cond b v (trimmed f g old v)) ≡ f v
  unfolding trimmed
  same_test v old true = refl
  same_test v old false = blind v _

  trimmed-tested : (vs : List Request) → tested f (trimmed_all f g vs) ≡ tested f vs
  unfolding trimmed_all tested
  trimmed-tested [] = refl
  trimmed-tested (v ∷ vs) = rw (same_test v vs (f v), trimmed-tested vs) refl

  trimmed-left : (vs : List Request) → filter (λ v. not (f v)) (trimmed_all f g vs) ≡ remaining f g vs
  unfolding trimmed_all filter remaining
  trimmed-left [] = refl
  trimmed-left (v ∷ vs) = rw (same_test v vs (f v), trimmed-left vs) (pick (f v))
    where
      pick : (b : Bool)
          → cond (not b) (cond b v (trimmed f g vs v) ∷ remaining f g vs) (remaining f g vs)
          ≡ cond b (remaining f g vs) (trimmed f g vs v ∷ remaining f g vs)
      pick true = refl
      pick false = refl

-- the words do not hold the process records
represented-processes : (st : State) (ps : List Process) (t : List ℕ) → Represents t st → Represents t (with_processes ps st)
unfolding laid_well rows_rise requests_rise rows_fit requests_fit items_few words_of
represented-processes st ps t rep = record { well = rep.well; words = rep.words }

module _ (g : List ℕ) (f : Request → Bool) (blind : Blind f) (st : State) where
  pub lists-tested : tested f (lists_settled g f st).requests ≡ tested f st.requests
  unfolding lists_settled partly_settled
  lists-tested = trimmed-tested f blind g st.requests

  pub lists-requests-left : filter (λ v. not (f v)) (lists_settled g f st).requests ≡ (settled g f st).requests
  unfolding lists_settled partly_settled settled
  lists-requests-left = trimmed-left f blind g st.requests

  -- ---- both
  -- the state with its lists settled, and then without the rows g and the requests that pass the test
  abbrev taken_out : State
  taken_out =
      let now = lists_settled g f st in
      with_requests (filter (λ v. not (f v)) now.requests) (with_rows (filter (λ r. not (member r.number g)) now.rows) now)

  pub lists-settled : (t : List ℕ) → Represents t taken_out → Represents t (settled g f st)
  unfolding settled
  lists-settled t rep = represented-processes left (settled g f st).processes t (subst (λ (s : State). Represents t s) same rep)
    where
      left : State
      left = record { rows = (settled g f st).rows; requests = (settled g f st).requests; processes = st.processes; next = st.next }

      same : taken_out ≡ left
      same =
          unfold lists_settled partly_settled in
          λ i. record { rows = lists-rows-left g f st i; requests = lists-requests-left i; processes = st.processes; next = st.next }
