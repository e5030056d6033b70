-- How often an entry stands in a joined node: what is new is added once, what is there stays as often as it is.
use Prim.Native.Nat.{ℕ, suc, ◌+◌, ◌<◌}
use native.Mathlib.Omega.{arith}
use mathlib.Core.Bool.{Bool, true, false, cond, ◌&&◌, ◌||◌}
use mathlib.Core.List.{List, [], ◌∷◌, ◌++◌}
use mathlib.Core.Path.{◌≡◌, refl, sym, ap, ◌∙◌}
use lib.Dec.{eqb, ltb}
use lib.ListN.{length}
use borrow.Author.Tests.{eqb-true, ltb-true, ltb-false, lt-ltb}
use Rattle.rows.specs.Lists.{filter, any}
use Rattle.rows.proofs.Bools.{clash, and_l, and_r, eqb-self}
use Rattle.text.specs.declared.Entry.{Entry}
use Rattle.text.specs.Opening.{Form}
use Rattle.joining.specs.Joins.{node_in, entries_of, same_entry, with_new, with_all_new, entries_joined}
use Rattle.joining.specs.Opened.{times, times_joined}
use Rattle.joining.proofs.ListedNames.{no-entries}

-- ---- the same entry is an equal one
pub same-equal : (d e : Entry) → same_entry d e ≡ true → d ≡ e
unfolding same_entry
same-equal d e h =
    let a = eqb d.kind e.kind in
    let b = eqb d.object e.object in
    let c = eqb d.operation e.operation in
    let r = eqb d.rights e.rights in
    let h2 = and_r a (b && (c && r)) h in
    let h3 = and_r b (c && r) h2 in
    let kind = eqb-true d.kind e.kind (and_l a (b && (c && r)) h) in
    let object = eqb-true d.object e.object (and_l b (c && r) h2) in
    let operation = eqb-true d.operation e.operation (and_l c r h3) in
    let rights = eqb-true d.rights e.rights (and_r c r h3) in
    λ i. record { kind = kind i; object = object i; operation = operation i; rights = rights i }

pub same_self : (e : Entry) → same_entry e e ≡ true
unfolding same_entry
same_self e = rw (eqb-self e.kind, eqb-self e.object, eqb-self e.operation, eqb-self e.rights) refl

-- ---- one entry more
abbrev once : Bool → ℕ
once b = cond b 1 0

times-cons : (e x : Entry) (xs : List Entry) → times e (x ∷ xs) ≡ once (same_entry e x) + times e xs
unfolding times filter
times-cons e x xs = pick (same_entry e x)
  where
    pick : (b : Bool) → length (cond b (x ∷ filter (same_entry e) xs) (filter (same_entry e) xs)) ≡ cond b 1 0 + length (filter (same_entry e) xs)
    pick true = omega arith
    pick false = omega arith

times_snoc : (e x : Entry) (w : List Entry) → times e (w ++ (x ∷ [])) ≡ times e w + once (same_entry e x)
unfolding times filter
times_snoc e x [] = times-cons e x [] ∙ (let q : once (same_entry e x) + 0 ≡ 0 + once (same_entry e x) = omega arith in q)
times_snoc e x (y ∷ w) =
    let l = times-cons e y (w ++ (x ∷ [])) in
    let r = times-cons e y w in
    let h = times_snoc e x w in
    omega arith

pub any-times : (e : Entry) (w : List Entry) → any (same_entry e) w ≡ ltb 0 (times e w)
unfolding any times filter
any-times e [] = refl
any-times e (y ∷ w) = pick (same_entry e y) (any-times e w)
  where
    pick : (b : Bool) → any (same_entry e) w ≡ ltb 0 (length (filter (same_entry e) w))
        → b || any (same_entry e) w ≡ ltb 0 (length (cond b (y ∷ filter (same_entry e) w) (filter (same_entry e) w)))
    pick true h = sym (lt-ltb 0 (suc (length (filter (same_entry e) w))) (omega arith))
    pick false h = h

-- ---- an entry that is there stays as often
stays-new : (e x : Entry) (w : List Entry) → 0 < times e w → times e (with_new same_entry w x) ≡ times e w
unfolding with_new
stays-new e x w there = pick (any (same_entry x) w) refl (same_entry e x) refl (times_snoc e x w)
  where
    pick : (a : Bool) → any (same_entry x) w ≡ a → (b : Bool) → same_entry e x ≡ b → times e (w ++ (x ∷ [])) ≡ times e w + cond b 1 0 → times e (cond a w (w ++ (x ∷ []))) ≡ times e w
    pick true q b r s = refl
    pick false q false r s = s ∙ (let z : times e w + 0 ≡ times e w = omega arith in z)
    pick false q true r s =
        let same = same-equal e x r in
        clash (ap (λ (y : Entry). any (same_entry y) w) (sym same) ∙ any-times e w ∙ lt-ltb 0 (times e w) there) q

pub stays : (e : Entry) (xs w : List Entry) → 0 < times e w → times e (with_all_new same_entry w xs) ≡ times e w
unfolding with_all_new
stays e [] w there = refl
stays e (x ∷ xs) w there = let one = stays-new e x w there in stays e xs (with_new same_entry w x) (omega arith) ∙ one

-- ---- one that is not there is added once
added_new : (e x : Entry) (w : List Entry) → times e w ≡ 0 → times e (with_new same_entry w x) ≡ once (same_entry e x)
unfolding with_new
added_new e x w none = pick (any (same_entry x) w) refl (same_entry e x) refl (times_snoc e x w)
  where
    pick : (a : Bool) → any (same_entry x) w ≡ a → (b : Bool) → same_entry e x ≡ b → times e (w ++ (x ∷ [])) ≡ times e w + cond b 1 0 → times e (cond a w (w ++ (x ∷ []))) ≡ cond b 1 0
    pick false q b r s = s ∙ (let z : times e w + cond b 1 0 ≡ cond b 1 0 = omega arith in z)
    pick true q false r s = none
    pick true q true r s =
        let same = same-equal e x r in
        clash q (ap (λ (y : Entry). any (same_entry y) w) (sym same) ∙ any-times e w ∙ ap (ltb 0) none)

pub added : (e : Entry) (xs w : List Entry) → times e w ≡ 0 → times e (with_all_new same_entry w xs) ≡ once (ltb 0 (times e xs))
unfolding with_all_new times filter
added e [] w none = none
added e (x ∷ xs) w none = pick (same_entry e x) refl (added_new e x w none) (times-cons e x xs) (added e xs (with_new same_entry w x))
  where
    pick : (b : Bool) → same_entry e x ≡ b → times e (with_new same_entry w x) ≡ cond b 1 0 → times e (x ∷ xs) ≡ cond b 1 0 + times e xs
        → (times e (with_new same_entry w x) ≡ 0 → times e (with_all_new same_entry (with_new same_entry w x) xs) ≡ cond (ltb 0 (times e xs)) 1 0)
        → times e (with_all_new same_entry (with_new same_entry w x) xs) ≡ cond (ltb 0 (times e (x ∷ xs))) 1 0
    pick true q one more ih = stays e xs (with_new same_entry w x) (omega arith) ∙ one ∙ sym (ap (λ (b : Bool). cond b 1 0) (lt-ltb 0 (times e (x ∷ xs)) (omega arith)))
    pick false q one more ih =
        let same : times e xs ≡ times e (x ∷ xs) = omega arith in
        ih one ∙ ap (λ (m : ℕ). cond (ltb 0 m) 1 0) same

-- ---- in a joined node
module _ (fs gs : List Form) (n : ℕ) (e : Entry) where
  pub joined-times : times e (entries_joined fs gs n) ≡ times_joined fs gs n e
  unfolding entries_joined times_joined
  joined-times = pick (node_in fs n) (ltb 0 (times e (entries_of fs n))) refl
    where
      pick : (given b : Bool) → ltb 0 (times e (entries_of fs n)) ≡ b
          → times e (cond given (with_all_new same_entry (entries_of fs n) (entries_of gs n)) (entries_of gs n))
          ≡ cond given (cond b (times e (entries_of fs n)) (cond (ltb 0 (times e (entries_of gs n))) 1 0)) (times e (entries_of gs n))
      pick false b q = refl
      pick true true q = stays e (entries_of gs n) (entries_of fs n) (ltb-true 0 (times e (entries_of fs n)) q)
      pick true false q = added e (entries_of gs n) (entries_of fs n) (let z = ltb-false 0 (times e (entries_of fs n)) q in omega arith)

  pub joined-either : any (same_entry e) (entries_joined fs gs n) ≡ any (same_entry e) (entries_of fs n) || any (same_entry e) (entries_of gs n)
  unfolding times_joined times filter
  joined-either =
      any-times e (entries_joined fs gs n) ∙ ap (ltb 0) joined-times
      ∙ pick (node_in fs n) refl (ltb 0 (times e (entries_of fs n))) refl (ltb 0 (times e (entries_of gs n))) refl
      ∙ sym (λ i. any-times e (entries_of fs n) i || any-times e (entries_of gs n) i)
    where
      none-there : node_in fs n ≡ false → ltb 0 (times e (entries_of fs n)) ≡ true → ⊥
      none-there out some = clash some (ap (λ (es : List Entry). ltb 0 (times e es)) (no-entries fs n out))

      pick : (given : Bool) → node_in fs n ≡ given → (a : Bool) → ltb 0 (times e (entries_of fs n)) ≡ a → (b : Bool) → ltb 0 (times e (entries_of gs n)) ≡ b
          → ltb 0 (cond given (cond a (times e (entries_of fs n)) (cond b 1 0)) (times e (entries_of gs n))) ≡ a || b
      pick true g true q b r = q
      pick true g false q true r = refl
      pick true g false q false r = refl
      pick false g true q b r = absurd (none-there g q)
      pick false g false q b r = r
