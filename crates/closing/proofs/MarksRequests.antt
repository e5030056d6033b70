-- Marks of the requests that close: by the number, and by the mark of the port, which on sound tables is a row.
use Prim.Native.Nat.{ℕ, suc, ◌+◌}
use mathlib.Core.Bool.{Bool, true, false, ◌||◌}
use mathlib.Core.List.{List, ◌∷◌, ◌++◌}
use mathlib.Core.Path.{◌≡◌, refl, ap, sym, subst, ◌∙◌}
use lib.Dec.{ltb, eqb}
use lib.ListN.{get_or}
use Rattle.rows.specs.declared.Request.{Request}
use Rattle.rows.specs.Lists.{rises, all, member}
use Rattle.rows.specs.Codes.{is_client}
use Rattle.rows.specs.Tables.{State, no_request, row_of, numbers}
use Rattle.rows.specs.Sound.{sound, port_stands, ports_stand}
use Rattle.rows.specs.vocabulary.Sizes.{REQUESTS, Q-NUMBER}
use Rattle.rows.specs.vocabulary.Represents.{Represents}
use Rattle.rows.specs.Layout.{row_slot}
use Rattle.rows.proofs.Bools.{clash, and_l, or-false}
use Rattle.rows.proofs.Keyed.{all_first}
use Rattle.tables.proofs.Sound.{sound-open}
use Rattle.rows.proofs.RowSources.{client-there}
use Rattle.rows.proofs.Slots.{represented-well, row-none, request-words-at}
use Rattle.changes.specs.vocabulary.Marks.{marks_of}
use Rattle.closing.specs.declared.Seed.{Seed}
use Rattle.closing.specs.declared.Seed.TheVariants.{Bearing, EndsOf, Only}
use Rattle.closing.specs.Closing.{closes}
use Rattle.closing.specs.vocabulary.Seeds.{closes_of}
use Rattle.closing.specs.vocabulary.Marks.{Stands, RowsMarked}
use Rattle.closing.specs.vocabulary.Lists.{slot_marks, InSlot}
use Rattle.closing.proofs.ListsMarks.{mark-read}
use Rattle.closing.proofs.MarksPass.{member-cut, first-cut}

-- ---- the request that a closing starts from
module _ (s : Seed) (n : ℕ) where
  pub first-bearing : (q : ℕ) → s ≡ Bearing q → eqb n q ≡ member n (closes_of s)
  unfolding closes_of member
  first-bearing q e = rw e (sym (or-false (eqb n q)))

  pub first-end : (c : ℕ) → s ≡ EndsOf c → false ≡ member n (closes_of s)
  unfolding closes_of member
  first-end c e = rw e refl

  pub first-row : (e : ℕ) → s ≡ Only e → false ≡ member n (closes_of s)
  unfolding closes_of member
  first-row x e = rw e refl

-- ---- the mark of a row, by its number
module _ (st : State) (g : List ℕ) (n : ℕ) where
  pub unmarked-absent : Stands st n → row_slot st.rows n ≡ 0 → false ≡ member n g
  unmarked-absent there e = clash there (row-none st.rows n e)

  pub marked-found : (ms : List Bool) → RowsMarked ms g st → (i : ℕ) → row_slot st.rows n ≡ suc i → get_or ms i false ≡ member n g
  unfolding slot_marks marks_of
  marked-found ms m i e = mark-read (λ n. member n g) st.rows n i e ms m

-- ---- one request
-- where the ports start
abbrev Q-PORT : ℕ
Q-PORT = Q-NUMBER + REQUESTS

module _ {st : State} {t : List ℕ} (rep : Represents t st) (sd : sound st ≡ true)
    (new : List Request) (v : Request) (old : List Request) {j : ℕ} (here : InSlot j new v old st) where
  up : rises (λ v. v.number) (new ++ (v ∷ old)) ≡ true
  up = subst (λ (l : List Request). rises (λ v. v.number) l ≡ true) here.0 (represented-well rep).requests-rise

  port-there : Stands st v.port
  unfolding ports_stand port_stands
  port-there =
      let all-stand : all (port_stands st.rows) (new ++ (v ∷ old)) ≡ true
      = subst (λ (l : List Request). all (port_stands st.rows) l ≡ true) here.0 (sound-open st sd).loans.ports-stand in
      let stands : port_stands st.rows v ≡ true
      = subst (λ (x : Request). port_stands st.rows x ≡ true) (first-cut (λ v. v.number) no_request new v old up)
      (all_first (λ v. v.number) no_request (port_stands st.rows) (new ++ (v ∷ old)) v.number all-stand (member-cut (λ v. v.number) new v old up)) in
      client-there st.rows v.port (and_l (is_client (row_of st.rows v.port).kind) (ltb (suc v.port) v.number) stands)

  pub request-marked : (qs g : List ℕ) (a b : Bool) → a ≡ member (get_or t (Q-NUMBER + j) 0) qs
      → (Stands st (get_or t (Q-PORT + j) 0) → b ≡ member (get_or t (Q-PORT + j) 0) g) → a || b ≡ closes qs g v
  unfolding closes
  request-marked qs g a b p q =
      let words = request-words-at rep new v old here.0 in
      let number : get_or t (Q-NUMBER + j) 0 ≡ v.number = ap (λ (i : ℕ). get_or t (Q-NUMBER + i) 0) (sym here.1) ∙ words.number in
      let port : get_or t (Q-PORT + j) 0 ≡ v.port = ap (λ (i : ℕ). get_or t (Q-PORT + i) 0) (sym here.1) ∙ words.port in
      let first : a ≡ member v.number qs = p ∙ ap (λ (n : ℕ). member n qs) number in
      let goes : b ≡ member v.port g = q (ap (λ (n : ℕ). member n (numbers st.rows)) port ∙ port-there) ∙ ap (λ (n : ℕ). member n g) port in
      λ i. first i || goes i
