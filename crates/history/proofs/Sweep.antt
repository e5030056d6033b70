-- Laws of `sweep`: what is left, two sweeps as one, which rows are left, and that they are noted as before.
use Prim.Native.Nat.{ℕ}
use mathlib.Core.Bool.{Bool, true, false, not, cond, ◌&&◌, ◌||◌}
use mathlib.Core.List.{List, [], ◌∷◌}
use mathlib.Core.Path.{◌≡◌, refl, sym, ap, ◌∙◌}
use lib.Dec.{eqb}
use borrow.Author.Tests.{eqb-true, eq-eqb}
use Rattle.rows.specs.Lists.{all, each, first_with, rises, member}
use Rattle.rows.proofs.Bools.{false_of, clash, and_l, and_r, and_i, not_t, or_map, or_r, all-mono, all-eq-on, eqb-sym-f}
use Rattle.rows.proofs.Keyed.{rises-rest, rises-fresh}
use Rattle.history.specs.History.{Noted}
use Rattle.history.specs.Notes.{noted, nothing_noted, noted_of, survives, sweep}

-- ---- the two conditions: numbers rise, and sources are noted and older
abbrev pub rising : List Noted → Bool
rising rs = rises (λ r. r.number) rs

abbrev pub sourced : List Noted → Bool
sourced rs = each (λ r older. all (λ s. member s (noted older)) r.sources) rs

pub sourced-rest : (r : Noted) (rs : List Noted) → sourced (r ∷ rs) ≡ true → sourced rs ≡ true
unfolding each
sourced-rest r rs e = and_r (all (λ s. member s (noted rs)) r.sources) (sourced rs) e

pub sourced-first : (r : Noted) (rs : List Noted) → sourced (r ∷ rs) ≡ true → all (λ s. member s (noted rs)) r.sources ≡ true
unfolding each
sourced-first r rs e = and_l (all (λ s. member s (noted rs)) r.sources) (sourced rs) e

pub rising-rest : (r : Noted) (rs : List Noted) → rising (r ∷ rs) ≡ true → rising rs ≡ true
rising-rest r rs e = rises-rest (λ r. r.number) r rs e

pub rising-fresh : (r : Noted) (rs : List Noted) → rising (r ∷ rs) ≡ true → member r.number (noted rs) ≡ false
unfolding noted
rising-fresh r rs e = rises-fresh (λ r. r.number) r rs e

-- a row of the rest is another one than the first
pub other : (r : Noted) (rs : List Noted) → member r.number (noted rs) ≡ false → (s : ℕ) → member s (noted rs) ≡ true → eqb s r.number ≡ false
other r rs fresh s t = false_of _ (λ q. clash t (ap (λ x. member x (noted rs)) (eqb-true s r.number q) ∙ fresh))

pub in_rest : (r : Noted) (rs : List Noted) (n : ℕ) → eqb n r.number ≡ false → member n (noted (r ∷ rs)) ≡ true → member n (noted rs) ≡ true
unfolding noted member
in_rest r rs n q t = rw q at t

pub noted_here : (r : Noted) (rs : List Noted) (n : ℕ) → eqb r.number n ≡ true → noted_of (r ∷ rs) n ≡ r
unfolding noted_of first_with
noted_here r rs n q = rw q refl

pub noted_other : (r : Noted) (rs : List Noted) (n : ℕ) → eqb r.number n ≡ false → noted_of (r ∷ rs) n ≡ noted_of rs n
unfolding noted_of first_with
noted_other r rs n q = rw q refl

-- ---- what is left is of the list
keep-sub : (b : Bool) (r : Noted) (k rs : List Noted) (s : ℕ) → (member s (noted k) ≡ true → member s (noted rs) ≡ true)
    → member s (noted (cond b (r ∷ k) k)) ≡ true → member s (noted (r ∷ rs)) ≡ true
unfolding noted member
keep-sub true r k rs s h e = or_map (eqb s r.number) (member s (noted k)) (member s (noted rs)) h e
keep-sub false r k rs s h e = or_r (eqb s r.number) (member s (noted rs)) (h e)

pub sweep-sub : (f : Noted → Bool) (rs : List Noted) (s : ℕ) → member s (noted (sweep f rs)) ≡ true → member s (noted rs) ≡ true
unfolding sweep
sweep-sub f [] s e = e
sweep-sub f (r ∷ rs) s e = keep-sub (survives f (noted (sweep f rs)) r) r (sweep f rs) rs s (sweep-sub f rs s) e

-- ---- to sweep twice is to sweep once by both tests
same_test : (f g : Noted → Bool) (k m : List ℕ) (r : Noted) → survives g k r ≡ true → survives f m r ≡ survives (λ x. g x || f x) m r
unfolding survives
same_test f g k m r e = rw (not_t (g r) (and_l (not (g r)) (all (λ s. member s k) r.sources) e)) refl

not-or-l : (a b : Bool) → not (a || b) ≡ true → not a ≡ true
not-or-l true b e = e
not-or-l false b e = refl

fails-too : (f g : Noted → Bool) (k m : List ℕ) (r : Noted) → ((s : ℕ) → member s m ≡ true → member s k ≡ true) → survives g k r ≡ false → survives (λ x. g x || f x) m r ≡ false
unfolding survives
fails-too f g k m r sub e =
    false_of _ (λ t. clash (and_i (not (g r)) (all (λ s. member s k) r.sources) (not-or-l (g r) (f r) (and_l _ _ t)) (all-mono _ _ sub r.sources (and_r (not (g r || f r)) _ t))) e)

sweep-step : (f g : Noted → Bool) (r : Noted) (k m : List Noted) → sweep f k ≡ m → ((s : ℕ) → member s (noted m) ≡ true → member s (noted k) ≡ true)
    → (b : Bool) → survives g (noted k) r ≡ b → sweep f (cond b (r ∷ k) k) ≡ cond (survives (λ x. g x || f x) (noted m) r) (r ∷ m) m
unfolding sweep
sweep-step f g r k m ih sub true e = rw (ih, same_test f g (noted k) (noted m) r e) refl
sweep-step f g r k m ih sub false e = rw (ih, fails-too f g (noted k) (noted m) r sub e) refl

pub sweep-sweep : (f g : Noted → Bool) (rs : List Noted) → sweep f (sweep g rs) ≡ sweep (λ x. g x || f x) rs
unfolding sweep
sweep-sweep f g [] = refl
sweep-sweep f g (r ∷ rs) =
    sweep-step f g r (sweep g rs) (sweep (λ x. g x || f x) rs) (sweep-sweep f g rs)
    (λ s e. sweep-sub f (sweep g rs) s (rw (sweep-sweep f g rs) e)) (survives g (noted (sweep g rs)) r) refl

-- ---- a row is left if f does not hold of it and its sources are left
-- the sources of a noted row are noted
pub sourced-at : (rs : List Noted) → sourced rs ≡ true → (n : ℕ) → all (λ s. member s (noted rs)) (noted_of rs n).sources ≡ true
unfolding noted_of first_with noted member all nothing_noted
sourced-at [] e n = refl
sourced-at (r ∷ rs) e n = pick (eqb r.number n) (sourced-at rs (sourced-rest r rs e) n)
  where
    wider : (ss : List ℕ) → all (λ s. member s (noted rs)) ss ≡ true → all (λ s. member s (noted (r ∷ rs))) ss ≡ true
    wider ss h = all-mono (λ s. member s (noted rs)) (λ s. member s (noted (r ∷ rs))) (λ s t. or_r (eqb s r.number) (member s (noted rs)) t) ss h

    pick : (b : Bool) → all (λ s. member s (noted rs)) (noted_of rs n).sources ≡ true → all (λ s. member s (noted (r ∷ rs))) (cond b r (noted_of rs n)).sources ≡ true
    pick true ih = wider r.sources (sourced-first r rs e)
    pick false ih = wider (noted_of rs n).sources ih

keep-other : (b : Bool) (r : Noted) (k : List Noted) (s : ℕ) → eqb s r.number ≡ false → member s (noted (cond b (r ∷ k) k)) ≡ member s (noted k)
unfolding noted member
keep-other true r k s e = rw e refl
keep-other false r k s e = refl

keep-here : (b : Bool) (r : Noted) (k : List Noted) → member r.number (noted k) ≡ false → member r.number (noted (cond b (r ∷ k) k)) ≡ b
unfolding noted member
keep-here true r k e = rw (eq-eqb r.number r.number refl) refl
keep-here false r k e = e

pub sweep-eq : (f : Noted → Bool) (rs : List Noted) → rising rs ≡ true → sourced rs ≡ true → (n : ℕ) → member n (noted rs) ≡ true
    → member n (noted (sweep f rs)) ≡ not (f (noted_of rs n)) && all (λ s. member s (noted (sweep f rs))) (noted_of rs n).sources
unfolding sweep noted_of first_with
sweep-eq f [] u v n t = clash t (unfold noted member in refl)
sweep-eq f (r ∷ rs) u v n t = pick (sweep-eq f rs (rising-rest r rs u) (sourced-rest r rs v) n) (eqb r.number n) refl
  where
    k : List Noted
    k = sweep f rs

    b : Bool
    b = survives f (noted k) r

    fresh : member r.number (noted rs) ≡ false
    fresh = rising-fresh r rs u

    same : (ss : List ℕ) → all (λ s. member s (noted rs)) ss ≡ true → all (λ s. member s (noted (cond b (r ∷ k) k))) ss ≡ all (λ s. member s (noted k)) ss
    same ss a = all-eq-on (λ s. member s (noted rs)) (λ s. member s (noted (cond b (r ∷ k) k))) (λ s. member s (noted k)) (λ s q. keep-other b r k s (other r rs fresh s q)) ss a

    pick : (member n (noted rs) ≡ true → member n (noted k) ≡ not (f (noted_of rs n)) && all (λ s. member s (noted k)) (noted_of rs n).sources)
        → (x : Bool) → eqb r.number n ≡ x
        → member n (noted (cond b (r ∷ k) k)) ≡ not (f (cond x r (noted_of rs n))) && all (λ s. member s (noted (cond b (r ∷ k) k))) (cond x r (noted_of rs n)).sources
    pick ih true q =
        ap (λ y. member y (noted (cond b (r ∷ k) k))) (sym (eqb-true r.number n q)) ∙ keep-here b r k (false_of _ (λ w. clash (sweep-sub f rs r.number w) fresh))
        ∙ (unfold survives in (ap (λ y. not (f r) && y) (sym (same r.sources (sourced-first r rs v)))))
    pick ih false q =
        keep-other b r k n (eqb-sym-f r.number n q) ∙ ih (in_rest r rs n (eqb-sym-f r.number n q) t)
        ∙ ap (λ y. not (f (noted_of rs n)) && y) (sym (same (noted_of rs n).sources (sourced-at rs (sourced-rest r rs v) n)))

-- ---- a row left is noted as it was
keep-noted : (b : Bool) (r : Noted) (k rs : List Noted) (n : ℕ) → member r.number (noted rs) ≡ false → ((s : ℕ) → member s (noted k) ≡ true → member s (noted rs) ≡ true)
    → (member n (noted k) ≡ true → noted_of k n ≡ noted_of rs n) → member n (noted (cond b (r ∷ k) k)) ≡ true → noted_of (cond b (r ∷ k) k) n ≡ noted_of (r ∷ rs) n
unfolding noted_of first_with
keep-noted true r k rs n fresh sub ih t = pick (eqb r.number n) refl
  where
    pick : (x : Bool) → eqb r.number n ≡ x → cond x r (noted_of k n) ≡ cond x r (noted_of rs n)
    pick true q = refl
    pick false q = ih (in_rest r k n (eqb-sym-f r.number n q) t)
keep-noted false r k rs n fresh sub ih t = ih t ∙ sym (noted_other r rs n (eqb-sym-f n r.number (other r rs fresh n (sub n t))))

pub noted-sweep : (f : Noted → Bool) (rs : List Noted) → rising rs ≡ true → (n : ℕ) → member n (noted (sweep f rs)) ≡ true → noted_of (sweep f rs) n ≡ noted_of rs n
unfolding sweep
noted-sweep f [] u n t = refl
noted-sweep f (r ∷ rs) u n t =
    keep-noted (survives f (noted (sweep f rs)) r) r (sweep f rs) rs n (rising-fresh r rs u) (sweep-sub f rs) (noted-sweep f rs (rising-rest r rs u) n) t
