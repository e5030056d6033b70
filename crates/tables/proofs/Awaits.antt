-- What awaits a fetch, and the requests that list it.
use Prim.Native.Nat.{ℕ}
use mathlib.Core.Bool.{Bool, true, false, not, cond, ◌&&◌, ◌||◌}
use mathlib.Core.List.{List, [], ◌∷◌}
use mathlib.Core.Path.{◌≡◌, refl, ap}
use Rattle.rows.specs.declared.Request.{Request}
use Rattle.rows.specs.Lists.{any, all, each, member, some}
use Rattle.rows.specs.Tables.{lists}
use Rattle.rows.specs.Sound.{is_fetched, older_fetched_by, awaits_fetch}
use Rattle.rows.proofs.Bools.{false_of, clash, and_l, and_r, and_i, or_l, or_r, or_map, not_t, not_f, all-mono}
use Rattle.rows.proofs.Lists.{any_at}

-- of what v lists, every older request that lists it is fetched
pub older-listers : (e : ℕ) (v : Request) (vs : List Request) → lists e v ≡ true → older_fetched_by v vs ≡ true → all (λ w. is_fetched w || not (lists e w)) vs ≡ true
unfolding older_fetched_by
older-listers e v vs l o =
    all-mono (λ w. is_fetched w || not (any (λ x. lists x w) v.items)) (λ w. is_fetched w || not (lists e w))
    (λ w t. or_map (is_fetched w) (not (any (λ x. lists x w) v.items)) (not (lists e w)) (unlisted w) t) vs o
  where
    unlisted : (w : Request) → not (any (λ x. lists x w) v.items) ≡ true → not (lists e w) ≡ true
    unlisted w n =
        ap not (false_of (lists e w) (λ h. clash (any_at (λ x. lists x w) v.items e (unfold lists in and_r (some e) (member e v.items) l) h) (not_t (any (λ x. lists x w) v.items) n)))

-- what only fetched requests list awaits no fetch, and back
pub awaits-none : (e : ℕ) (vs : List Request) → all (λ w. is_fetched w || not (lists e w)) vs ≡ true → awaits_fetch vs e ≡ false
unfolding awaits_fetch all
awaits-none e [] a = refl
awaits-none e (v ∷ vs) a =
    pick (awaits-none e vs (and_r (is_fetched v || not (lists e v)) (all (λ w. is_fetched w || not (lists e w)) vs) a)) (lists e v) (is_fetched v)
    (and_l (is_fetched v || not (lists e v)) (all (λ w. is_fetched w || not (lists e w)) vs) a)
  where
    pick : awaits_fetch vs e ≡ false → (b c : Bool) → c || not b ≡ true → cond b (not c) (awaits_fetch vs e) ≡ false
    pick ih true true t = refl
    pick ih true false t = clash t refl
    pick ih false c t = ih

pub listers-fetched : (e : ℕ) (vs : List Request) → each older_fetched_by vs ≡ true → awaits_fetch vs e ≡ false → all (λ w. is_fetched w || not (lists e w)) vs ≡ true
unfolding each awaits_fetch all
listers-fetched e [] o a = refl
listers-fetched e (v ∷ vs) o a = pick (listers-fetched e vs (and_r (older_fetched_by v vs) (each older_fetched_by vs) o)) (lists e v) refl a
  where
    pick : (awaits_fetch vs e ≡ false → all (λ w. is_fetched w || not (lists e w)) vs ≡ true) → (b : Bool) → lists e v ≡ b
        → cond b (not (is_fetched v)) (awaits_fetch vs e) ≡ false → (is_fetched v || not (lists e v)) && all (λ w. is_fetched w || not (lists e w)) vs ≡ true
    pick ih true q a =
        and_i (is_fetched v || not (lists e v)) (all (λ w. is_fetched w || not (lists e w)) vs) (or_l (is_fetched v) (not (lists e v)) (not_f (is_fetched v) a))
        (older-listers e v vs q (and_l (older_fetched_by v vs) (each older_fetched_by vs) o))
    pick ih false q a = and_i (is_fetched v || not (lists e v)) (all (λ w. is_fetched w || not (lists e w)) vs) (or_r (is_fetched v) (not (lists e v)) (ap not q)) (ih a)
