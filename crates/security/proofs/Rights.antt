-- Rights never grow: the line of first sources of a row that is no end leads to a row of the text.
use Prim.Native.Nat.{ℕ, zero, suc, ◌<◌, ◌/◌, ◌%◌}
use native.Mathlib.Omega.{arith}
use mathlib.Core.Bool.{true, false, ◌&&◌}
use mathlib.Core.List.{List}
use mathlib.Core.Path.{◌≡◌, sym, ap, ◌∙◌}
use mathlib.Core.Logic.{◌⊎◌, inl, inr}
use lib.Dec.{leb, eqb}
use borrow.Author.Tests.{eqb-true, ne_eqb, leb-true, le-leb}
use Rattle.rows.specs.declared.Row.{Row}
use Rattle.rows.specs.Lists.{some}
use Rattle.rows.specs.Codes.{is_end, within}
use Rattle.rows.specs.Tables.{State, row_of}
use Rattle.rows.specs.Sound.{matches_source}
use Rattle.rows.proofs.Bools.{and_l, and_r, and_i, some-pos, none-zero, true-or-false}
use Rattle.tables.proofs.Sound.{Sound}
use Rattle.tables.proofs.Standing.{source-lower, standing-copy}
use Rattle.text.specs.Opening.{Form}
use Rattle.security.specs.Sessions.{IsRow, Log, Session}
use Rattle.security.specs.Rights.{Lessens, itself, from-source, FromText, RightsNeverGrow}
use Rattle.security.proofs.Sessions.{session-sound}
use Rattle.security.proofs.Rows.{source-listed, source-no-end}
use Rattle.security.proofs.Numbers.{source_row}
use Rattle.security.proofs.Moves.{within-self}
use Rattle.security.proofs.RowLaws.{every-row}
use Rattle.security.proofs.Derived.{rights-law, roots-law}

leb-trans : (a b c : ℕ) → leb a b ≡ true → leb b c ≡ true → leb a c ≡ true
leb-trans a b c p q = let x = leb-true a b p in let y = leb-true b c q in le-leb a c (omega arith)

within-trans : (r s t : ℕ) → within r s ≡ true → within s t ≡ true → within r t ≡ true
unfolding within
within-trans r s t p q =
    let a : leb (r % 2) (s % 2) ≡ true = and_l (leb (r % 2) (s % 2)) _ p in
    let b : leb (r / 2 % 2) (s / 2 % 2) ≡ true = and_l (leb (r / 2 % 2) (s / 2 % 2)) _ (and_r (leb (r % 2) (s % 2)) _ p) in
    let c : leb (r / 4 % 2) (s / 4 % 2) ≡ true = and_r (leb (r / 2 % 2) (s / 2 % 2)) _ (and_r (leb (r % 2) (s % 2)) _ p) in
    let d : leb (s % 2) (t % 2) ≡ true = and_l (leb (s % 2) (t % 2)) _ q in
    let e : leb (s / 2 % 2) (t / 2 % 2) ≡ true = and_l (leb (s / 2 % 2) (t / 2 % 2)) _ (and_r (leb (s % 2) (t % 2)) _ q) in
    let f : leb (s / 4 % 2) (t / 4 % 2) ≡ true = and_r (leb (s / 2 % 2) (t / 2 % 2)) _ (and_r (leb (s % 2) (t % 2)) _ q) in
    and_i _ _ (leb-trans (r % 2) (s % 2) (t % 2) a d) (and_i _ _ (leb-trans (r / 2 % 2) (s / 2 % 2) (t / 2 % 2) b e) (leb-trans (r / 4 % 2) (s / 4 % 2) (t / 4 % 2) c f))

module _ (fs : List Form) (log : Log) (st : State) (x : Session fs log st) where
  s : Sound st
  s = session-sound fs log st x

  abbrev R : ℕ → Row
  R n = row_of st.rows n

  pub lessens : (n : ℕ) → IsRow st n → is_end (R n).kind ≡ false → some (R n).source ≡ true → Lessens (R n) (R (R n).source)
  unfolding matches_source
  lessens n t e h =
      let none : eqb (R n).source 0 ≡ false = ne_eqb (R n).source 0 (λ z. let l = some-pos (R n).source h in omega arith) in
      let o = R (R n).source in
      let m : eqb (R n).kind o.kind && (eqb (R n).object o.object && (eqb (R n).operation o.operation && within (R n).rights o.rights)) ≡ true =
      rw (none, e) at (standing-copy st s.numbers s.rows n t) in
      record {
        kind = eqb-true (R n).kind o.kind (search and_l);
        object = eqb-true (R n).object o.object (search (and_l, and_r));
        operation = eqb-true (R n).operation o.operation (search (and_l, and_r));
        rights = search (and_l, and_r);
        only-lent = λ z. every-row fs _ (rights-law fs) log st x n t e z h;
      }

  from-text : (k n : ℕ) → n < k → IsRow st n → is_end (R n).kind ≡ false → FromText fs st n
  from-text zero n lt t e = absurd (omega arith)
  from-text (suc k) n lt t e =
      pick (true-or-false (some (R n).source)) (λ h. from-text k (R n).source (let l = source-lower st s.numbers s.rows n t in omega arith) (source_row st s n (R n).source t (source-listed (R n) h)) (source-no-end st s n t h))
    where
      pick : (some (R n).source ≡ true) ⊎ (some (R n).source ≡ false) → (some (R n).source ≡ true → FromText fs st (R n).source) → FromText fs st n
      pick (inl h) ih =
          let a = lessens n t e h in
          let b = ih h in
          record {
            text = b.text;
            line = from-source n b.text a b.line;
            opened = b.opened;
            unchanged = b.unchanged;
            kind = a.kind ∙ b.kind;
            object = a.object ∙ b.object;
            operation = a.operation ∙ b.operation;
            rights = within-trans (R n).rights (R (R n).source).rights _ a.rights b.rights;
          }
      pick (inr h) ih =
          let o = every-row fs _ (roots-law fs) log st x n t (none-zero (R n).source h) in
          record {
            text = n;
            line = itself n;
            opened = o.opened;
            unchanged = o.unchanged;
            kind = ap (λ r. r.kind) o.unchanged;
            object = ap (λ r. r.object) o.unchanged;
            operation = ap (λ r. r.operation) o.unchanged;
            rights = ap (λ r. within (R n).rights r.rights) (sym o.unchanged) ∙ within-self (R n).rights;
          }

pub rights-never-grow : RightsNeverGrow
unfolding RightsNeverGrow
rights-never-grow fs log st x n t e = from-text fs log st x (suc n) n (omega arith) t e
