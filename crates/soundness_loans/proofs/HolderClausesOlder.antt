-- (rule S25) Every request that lists an item of a newer one is fetched, told from the newest request to the oldest: what newer ones list is at hand.
use Prim.Native.Nat.{ℕ}
use mathlib.Core.Bool.{Bool, true, false, not, ◌&&◌, ◌||◌}
use mathlib.Core.List.{List, [], ◌∷◌}
use mathlib.Core.Path.{◌≡◌, refl, ap, sym, ◌∙◌}
use borrow.Author.Tests.{eqb-true}
use lib.Dec.{eqb}
use Rattle.rows.specs.declared.Request.{Request}
use Rattle.rows.specs.Lists.{any, all, each, member, some}
use Rattle.rows.specs.Tables.{State, lists}
use Rattle.rows.specs.Sound.{is_fetched, older_fetched_by, older_fetched}
use Rattle.rows.proofs.Bools.{clash, bool_eq, and_l, and_r, and_i, or_l, or_r, member-here, member-there, all-eq, any-mono, any_none}
use Rattle.soundness_loans.proofs.RequestClauses.{all_both}

-- of each request: it is fetched, or lists nothing that is listed by newer ones
unfoldable pub fetched_after : (ℕ → Bool) → List Request → Bool
fetched_after L [] = true
fetched_after L (v ∷ vs) = (is_fetched v || not (any L v.items)) && fetched_after (λ e. L e || lists e v) vs

-- ---- what two lists have in common
any_at : (f : ℕ → Bool) (ns : List ℕ) (n : ℕ) → member n ns ≡ true → f n ≡ true → any f ns ≡ true
unfolding any member
any_at f [] n t h = t
any_at f (m ∷ ns) n t h = pick (any_at f ns n) (eqb n m) refl t
  where
    pick : (member n ns ≡ true → f n ≡ true → any f ns ≡ true) → (b : Bool) → eqb n m ≡ b → b || member n ns ≡ true → f m || any f ns ≡ true
    pick ih true q t = or_l (f m) (any f ns) (ap f (sym (eqb-true n m q)) ∙ h)
    pick ih false q t = or_r (f m) (any f ns) (ih t h)

common : (xs ys : List ℕ) → any (λ e. some e && member e ys) xs ≡ true → any (λ e. some e && member e xs) ys ≡ true
unfolding any
common [] ys t = clash t refl
common (x ∷ xs) ys t = pick (common xs ys) (some x && member x ys) refl t
  where
    wider : (e : ℕ) → some e && member e xs ≡ true → some e && member e (x ∷ xs) ≡ true
    wider e h = and_i (some e) (member e (x ∷ xs)) (and_l (some e) (member e xs) h) (member-there e x xs (and_r (some e) (member e xs) h))

    pick : (any (λ e. some e && member e ys) xs ≡ true → any (λ e. some e && member e xs) ys ≡ true) → (b : Bool) → some x && member x ys ≡ b
        → b || any (λ e. some e && member e ys) xs ≡ true → any (λ e. some e && member e (x ∷ xs)) ys ≡ true
    pick ih true q t =
        any_at (λ e. some e && member e (x ∷ xs)) ys x (and_r (some x) (member x ys) q)
        (and_i (some x) (member x (x ∷ xs)) (and_l (some x) (member x ys) q) (member-here x xs))
    pick ih false q t = any-mono (λ e. some e && member e xs) (λ e. some e && member e (x ∷ xs)) wider ys (ih t)

lists-both : (v w : Request) → any (λ e. lists e v) w.items ≡ any (λ e. lists e w) v.items
unfolding lists
lists-both v w =
    bool_eq (any (λ e. some e && member e v.items) w.items) (any (λ e. some e && member e w.items) v.items)
    (common w.items v.items) (common v.items w.items)

any-or : (f g : ℕ → Bool) (ns : List ℕ) → any (λ e. f e || g e) ns ≡ any f ns || any g ns
unfolding any
any-or f g [] = refl
any-or f g (n ∷ ns) = rw (any-or f g ns) (mix (f n) (g n) (any f ns) (any g ns))
  where
    mix : (a b c d : Bool) → (a || b) || (c || d) ≡ (a || c) || (b || d)
    mix true b c d = refl
    mix false true true d = refl
    mix false true false d = refl
    mix false false c d = refl

-- ---- the two ways to tell it
abbrev clear : (ℕ → Bool) → Request → Bool
clear L w = is_fetched w || not (any L w.items)

clear-more : (L : ℕ → Bool) (v w : Request) → clear (λ e. L e || lists e v) w ≡ clear L w && (is_fetched w || not (any (λ e. lists e w) v.items))
clear-more L v w = rw (any-or L (λ e. lists e v) w.items, lists-both v w) (spread (is_fetched w) (any L w.items) (any (λ e. lists e w) v.items))
  where
    spread : (f a b : Bool) → f || not (a || b) ≡ (f || not a) && (f || not b)
    spread true a b = refl
    spread false true b = refl
    spread false false b = refl

after_is : (L : ℕ → Bool) (vs : List Request) → fetched_after L vs ≡ all (clear L) vs && each older_fetched_by vs
unfolding fetched_after all each older_fetched_by
after_is L [] = refl
after_is L (v ∷ vs) =
    ap (λ (b : Bool). clear L v && b) (after_is (λ e. L e || lists e v) vs)
    ∙ ap (λ (b : Bool). clear L v && (b && each older_fetched_by vs))
    (all-eq (clear (λ e. L e || lists e v)) (λ w. clear L w && apart w) (clear-more L v) vs ∙ all_both (clear L) apart vs)
    ∙ mix (clear L v) (all (clear L) vs) (all apart vs) (each older_fetched_by vs)
  where
    apart : Request → Bool
    apart w = is_fetched w || not (any (λ e. lists e w) v.items)

    mix : (a b c d : Bool) → a && ((b && c) && d) ≡ (a && b) && (c && d)
    mix true true c d = refl
    mix true false c d = refl
    mix false b c d = refl

pub older-after : (st : State) → older_fetched st.requests ≡ fetched_after (λ e. false) st.requests
unfolding older_fetched all
older-after st = sym (after_is (λ e. false) st.requests ∙ ap (λ (b : Bool). b && each older_fetched_by st.requests) (free st.requests))
  where
    or-true : (b : Bool) → b || true ≡ true
    or-true true = refl
    or-true false = refl

    free : (vs : List Request) → all (clear (λ e. false)) vs ≡ true
    free vs =
        all-eq (clear (λ e. false)) (λ w. true)
        (λ w. ap (λ (b : Bool). is_fetched w || not b) (any_none (λ e. false) (λ e. refl) w.items) ∙ or-true (is_fetched w)) vs
        ∙ each-one vs
      where
        each-one : (vs : List Request) → all (λ (w : Request). true) vs ≡ true
        each-one [] = refl
        each-one (v ∷ vs) = each-one vs
