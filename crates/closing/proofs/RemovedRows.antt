-- What is removed: the law of `marked`, and the five facts of what is removed and closed on which everything kept rests.
use Prim.Native.Nat.{ℕ, zero, suc}
use mathlib.Core.Bool.{Bool, true, false, cond, ◌&&◌, ◌||◌}
use mathlib.Core.List.{List, [], ◌∷◌}
use mathlib.Core.Path.{◌≡◌, refl, sym, ap, ◌∙◌}
use lib.Dec.{ltb, eqb}
use borrow.Author.Tests.{eqb-true, lt-ltb}
use native.Mathlib.Omega.{arith}
use Rattle.rows.specs.declared.Row.{Row}
use Rattle.rows.specs.declared.Request.{Request}
use Rattle.rows.specs.Lists.{any, filter, member, some, nonzero}
use Rattle.rows.specs.Codes.{is_end}
use Rattle.rows.specs.Tables.{State, row_of, request_of, sources, marked}
use Rattle.rows.specs.Sound.{other_end, rows_rise, is_paired_with}
use Rattle.rows.proofs.Bools.{false_of, clash, and_l, and_r, or_l, or-fl, or-fr, or-false}
use Rattle.tables.proofs.Sound.{Sound}
use Rattle.tables.proofs.SoundFacts.{paired_at, row_below}
use Rattle.tables.proofs.Standing.{sources-older}
use Rattle.rows.proofs.RowSources.{end-there}
use Rattle.tables.proofs.Marking.{marked-stands, marked-closed}
use Rattle.closing.specs.Closing.{closes}
use Rattle.closing.specs.vocabulary.Marks.{Stands}
use Rattle.closing.proofs.Facts.{end-at, copy_at, copy-listed, lists-open, request-number}

-- one of the sources is in m, which has no 0
pub any-source : (m : List ℕ) → member 0 m ≡ false → (r : Row) → any (λ s. member s m) (sources r) ≡ member r.source m || member r.via m
unfolding sources nonzero filter any some
any-source m z r = pick (ltb 0 r.source) refl (ltb 0 r.via) refl
  where
    none : (n : ℕ) → ltb 0 n ≡ false → member n m ≡ false
    none zero e = z
    none (suc n) e = clash (lt-ltb 0 (suc n) (omega arith)) e

    pick : (a : Bool) → ltb 0 r.source ≡ a → (b : Bool) → ltb 0 r.via ≡ b
        → any (λ s. member s m) (cond a (r.source ∷ cond b (r.via ∷ []) []) (cond b (r.via ∷ []) [])) ≡ member r.source m || member r.via m
    pick true p true q = rw (or-false (member r.via m)) refl
    pick true p false q = rw (none r.via q) refl
    pick false p true q = rw (none r.source p, or-false (member r.via m)) refl
    pick false p false q = rw (none r.source p, none r.via q) refl

-- ---- what is removed, g, and closed, by f: the sources of what stays, stay
pub record Closed (g : List ℕ) (f : Request → Bool) (st : State) : Type 0 where
  pub none-removed : member 0 g ≡ false
  pub sources-stay : (n : ℕ) → Stands st n → member n g ≡ false → any (λ s. member s g) (sources (row_of st.rows n)) ≡ false
  pub other-end-stays : (n : ℕ) → Stands st n → is_end (row_of st.rows n).kind ≡ true → member n g ≡ false → member (other_end (row_of st.rows n)) g ≡ false
  pub port-stays : (v : Request) → f v ≡ false → member v.port g ≡ false
  pub request-stays : (n : ℕ) → Stands st n → member n g ≡ false → some (row_of st.rows n).request ≡ true
      → f (request_of st.requests (row_of st.rows n).request) ≡ false

module _ (g : List ℕ) (f : Request → Bool) (st : State) (c : Closed g f st) (n : ℕ) (t : Stands st n) (k : member n g ≡ false) where
  both-stay : member (row_of st.rows n).source g || member (row_of st.rows n).via g ≡ false
  both-stay = sym (any-source g c.none-removed (row_of st.rows n)) ∙ c.sources-stay n t k

  pub source_stays : member (row_of st.rows n).source g ≡ false
  source_stays = or-fl (member (row_of st.rows n).source g) (member (row_of st.rows n).via g) both-stay

  pub via-stays : member (row_of st.rows n).via g ≡ false
  via-stays = or-fr (member (row_of st.rows n).source g) (member (row_of st.rows n).via g) both-stay

-- the seeds: with an end its other end; and every row that bears a request of qs
pub record Closable (seed : Row → Bool) (qs : List ℕ) (st : State) : Type 0 where
  pub pairs : (n : ℕ) → Stands st n → is_end (row_of st.rows n).kind ≡ true
      → seed (row_of st.rows n) ≡ seed (row_of st.rows (other_end (row_of st.rows n)))
  pub bearing : (n : ℕ) → Stands st n → member (row_of st.rows n).request qs ≡ true → seed (row_of st.rows n) ≡ true

module _ (seed : Row → Bool) (qs : List ℕ) (st : State) (s : Sound st) (c : Closable seed qs st) where
  abbrev g : List ℕ
  g = marked seed st.rows

  abbrev R : ℕ → Row
  R n = row_of st.rows n

  abbrev source-gone : ℕ → Bool
  source-gone n = any (λ s. member s g) (sources (R n))

  law : (n : ℕ) → Stands st n → member n g ≡ seed (R n) || source-gone n
  unfolding rows_rise
  law n t = marked-closed seed st.rows s.numbers.rows-rise (sources-older st s.numbers s.rows) n t

  none : member 0 g ≡ false
  none = false_of _ (λ u. let (lo, hi) = row_below st s.numbers 0 (marked-stands seed st.rows 0 u) in omega arith)

  left : (n : ℕ) → Stands st n → member n g ≡ false → source-gone n ≡ false
  left n t h = or-fr (seed (R n)) (source-gone n) (sym (law n t) ∙ h)

  pub closable-closed : Closed g (closes qs g) st
  unfolding closes is_paired_with sources
  closable-closed =
      record {
        none-removed = none;
        sources-stay = left;
        other-end-stays = λ n t k h. sym (pair n t k) ∙ h;
        port-stays = λ v h. or-fr (member v.number qs) (member v.port g) h;
        request-stays = stays;
      }
    where
      -- both ends of a port have the same sources
      pair : (n : ℕ) → Stands st n → is_end (R n).kind ≡ true → member n g ≡ member (other_end (R n)) g
      pair n t k =
          let o : ℕ = other_end (R n) in
          let p : is_paired_with (R n) (R o) ≡ true = paired_at st s.rows n t k in
          let ko : is_end (R o).kind ≡ true = and_l (is_end (R o).kind) (eqb (R n).object (R o).object && eqb (R n).source (R o).source) p in
          let to : Stands st o = end-there st.rows o ko in
          let equal : eqb (R n).source (R o).source ≡ true = search (and_l, and_r) in
          let same_source : (R n).source ≡ (R o).source = eqb-true _ _ equal in
          let same-via : (R n).via ≡ (R o).via = (end-at st s n t k).no-via ∙ sym (end-at st s o to ko).no-via in
          law n t ∙ ap (λ b. b || source-gone n) (c.pairs n t k) ∙ (λ i. seed (R o) || any (λ s. member s g) (nonzero (same_source i ∷ same-via i ∷ []))) ∙ sym (law o to)

      stays : (n : ℕ) → Stands st n → member n g ≡ false → some (R n).request ≡ true → closes qs g (request_of st.requests (R n).request) ≡ false
      stays n t h k =
          let q : ℕ = (R n).request in
          let v : Request = request_of st.requests q in
          let num : v.number ≡ q = request-number st q (lists-open st n q (copy-listed st s n t k)) in
          let port : v.port ≡ (R n).via = (copy_at st s n t k).through-port in
          let a : member v.number qs ≡ false = ap (λ m. member m qs) num ∙ false_of (member q qs) (λ u. clash (law n t ∙ or_l (seed (R n)) (source-gone n) (c.bearing n t u)) h) in
          let b : member v.port g ≡ false = ap (λ m. member m g) port ∙ or-fr (member (R n).source g) (member (R n).via g) (sym (any-source g none (R n)) ∙ left n t h) in
          rw (a, b) refl
