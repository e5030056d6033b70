-- The head of a line that has groups: its second byte tells which it can be, and what head and groups read as is the form.
use Prim.Native.Nat.{ℕ, ◌<◌}
use mathlib.Core.Bool.{Bool, true, false, ◌&&◌, cond}
use mathlib.Core.List.{List}
use mathlib.Core.Path.{◌≡◌, refl, ap, ◌∙◌}
use native.Mathlib.Omega.{arith}
use borrow.Author.Tests.{eqb-true, eq-eqb}
use lib.ListN.{get_or}
use Rattle.rows.specs.Lists.{bytes}
use Rattle.rows.proofs.Bools.{false_of, clash}
use Rattle.text.specs.declared.Read.{Read}
use Rattle.text.specs.declared.Head.{Head}
use Rattle.text.specs.declared.Reading.{Reading}
use Rattle.text.specs.Patterns.{bad, began, passed, form, whole, most_groups}
use Rattle.text.specs.CallLines.{gathered, ask_form, comes_all_form}
use Rattle.text.specs.vocabulary.Sizes.{GROUPS}
use Rattle.text.specs.vocabulary.Groups.{c_next, ask_head, comes_all_head, head_of, head_judged, other_call, groups_form}
use Rattle.text.proofs.PatternLaws.{piece-number, number-high, second-piece, second-byte}

-- ---- a form whose second byte is another is bad
-- behind the bracket an ask has a digit
not-ask : (s : List ℕ) → c_next s 0 ≡ true → (form s 0 "(# ask #").good ≡ false
unfolding form bytes began passed bad
not-ask s c =
    false_of (form s 0 "(# ask #").good
    (λ g.
    let r = passed (began 0) in
    let high : 57 < get_or s 1 0 = omega (arith, eqb-true (get_or s 1 0) 99 c) in
    clash (second-piece s 35 (bytes " ask #") g) (ap (λ (f : Read). f.good) (piece-number s r 35 refl refl ∙ number-high s r high)))

-- and a comesall a `c`
pub not-comesall : (s : List ℕ) → c_next s 0 ≡ false → (form s 0 "(comesall").good ≡ false
unfolding form bytes
not-comesall s c =
    false_of (form s 0 "(comesall").good
    (λ g. clash (eq-eqb (get_or s 1 0) 99 (second-byte s 99 (bytes "omesall") (λ z. omega arith) (λ z. omega arith) g)) c)

-- ---- head, groups and end
pub head-judged : (s : List ℕ) →
    let h = head_of s 0 in
    let g = gathered GROUPS s h.next in
    cond (h.good && whole s (form s g.next ")\n")) (head_judged h g.groups) (other_call s) ≡ groups_form s
unfolding head_of ask_form comes_all_form most_groups
head-judged s = pick (c_next s 0) refl
  where
    head : Bool → Head
    head b = cond b (comes_all_head (form s 0 "(comesall")) (ask_head (form s 0 "(# ask #"))

    judged_by : Head → Reading
    judged_by h = let g = gathered GROUPS s h.next in cond (h.good && whole s (form s g.next ")\n")) (head_judged h g.groups) (other_call s)

    pick : (b : Bool) → c_next s 0 ≡ b → judged_by (head b) ≡ groups_form s
    pick true c = rw (not-ask s c) refl
    pick false c = rw (not-comesall s c) refl
