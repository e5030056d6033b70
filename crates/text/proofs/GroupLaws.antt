-- Laws of groups of two numbers: one more kept, what is judged of them, and the groups from a position on.
use Prim.Native.Nat.{ℕ, ◌≤◌, zero, suc, ◌<◌, ◌+◌, ◌-◌}
use native.Mathlib.Numerals.{add-one}
use native.Mathlib.Omega.{arith}
use mathlib.Core.Bool.{Bool, ◌&&◌, true, false, ◌||◌, not}
use mathlib.Core.List.{List, ◌++◌, ◌∷◌, [], map, map-append, append-nil}
use mathlib.Core.Path.{◌≡◌, refl, sym, ap, ◌∙◌}
use lib.Dec.{eqb}
use Rattle.std.specs.Prelude.{nat_eq}
use Rattle.std.specs.List.{list_any}
use lib.ListN.{length, take, get_or, drop, drop_of_length-le, set, length-map, length-append}
use lib.Seq.{drop-cons, append_snoc}
use borrow.Author.Tests.{ne_eqb, eq-eqb}
use Rattle.rows.proofs.Bools.{and-true, or-false, and-false, eqb-sym}
use Rattle.rows.proofs.LayoutColumns.{length-pad, get_d-pad}
use Rattle.rows.specs.Lists.{all, member, distinct, pad}
use Rattle.calls.specs.Calls.{four_from, sixteen_from}
use Rattle.text.specs.CallLines.{Group, group_of, item_ranged, item_of, pair_ranged, Gathered, packed, no_item, gathered, add_group}
use Rattle.text.specs.Patterns.{form}
use Rattle.text.specs.vocabulary.Groups.{groups_of, groups_from, seen_with}
use Rattle.text.specs.vocabulary.Sizes.{GROUPS}
use Rattle.text.specs.declared.Groups.{Groups}
use Rattle.text.specs.declared.Read.{Read}
use Rattle.text.specs.declared.Seen.{Seen}
use Rattle.changes.proofs.Put.{set-pad-end}

-- ---- lists with one element more
pub all_snoc : {A : Type 0} (f : A → Bool) (xs : List A) (y : A) → all f (xs ++ (y ∷ [])) ≡ all f xs && f y
unfolding all
all_snoc f [] y = and-true (f y)
all_snoc f (x ∷ xs) y = pick (f x) (all_snoc f xs y)
  where
    pick : (b : Bool) → all f (xs ++ (y ∷ [])) ≡ all f xs && f y → b && all f (xs ++ (y ∷ [])) ≡ (b && all f xs) && f y
    pick true h = h
    pick false h = refl

member-snoc : (n : ℕ) (xs : List ℕ) (y : ℕ) → member n (xs ++ (y ∷ [])) ≡ member n xs || eqb n y
unfolding member
member-snoc n [] y = or-false (eqb n y)
member-snoc n (x ∷ xs) y = pick (eqb n x) (member-snoc n xs y)
  where
    pick : (b : Bool) → member n (xs ++ (y ∷ [])) ≡ member n xs || eqb n y → b || member n (xs ++ (y ∷ [])) ≡ (b || member n xs) || eqb n y
    pick true h = refl
    pick false h = h

regrouped : (a b d m : Bool) → not (a || b) && (d && not m) ≡ (not a && d) && not (b || m)
regrouped true b d m = refl
regrouped false true d m = sym (and-false d)
regrouped false false d m = refl

distinct_snoc : (xs : List ℕ) (y : ℕ) → distinct (xs ++ (y ∷ [])) ≡ distinct xs && not (member y xs)
unfolding distinct member
distinct_snoc [] y = refl
distinct_snoc (x ∷ xs) y =
    rw (distinct_snoc xs y, member-snoc x xs y, eqb-sym y x) (regrouped (member x xs) (eqb x y) (distinct xs) (member y xs))

pub take-pad : (n : ℕ) (xs : List ℕ) → length xs ≤ n → take (length xs) (pad 0 n xs) ≡ xs
unfolding pad
take-pad n [] h = refl
take-pad zero (x ∷ xs) h = absurd (omega arith)
take-pad (suc n) (x ∷ xs) h = ap (λ (r : List ℕ). x ∷ r) (take-pad n xs (omega arith))

pub member-more : (n : ℕ) (xs : List ℕ) (i : ℕ) → i < length xs → (n ≡ get_or xs i 0 → ⊥) → member n (drop i xs) ≡ member n (drop (i + 1) xs)
unfolding member
member-more n xs i h e = rw (add-one, drop-cons xs i 0 h, ne_eqb n (get_or xs i 0) e)

pub member-found : (n : ℕ) (xs : List ℕ) (i : ℕ) → i < length xs → n ≡ get_or xs i 0 → member n (drop i xs) ≡ true
unfolding member
member-found n xs i h e = rw (drop-cons xs i 0 h, eq-eqb n (get_or xs i 0) e)

pub member-end : (n : ℕ) (xs : List ℕ) (i : ℕ) → length xs ≤ i → member n (drop i xs) ≡ false
unfolding member
member-end n xs i h = rw (drop_of_length-le xs h)

-- ---- one more group, as its form was read, and as the code keeps it
abbrev with_group : Gathered → Read → Gathered
with_group x f = record { groups = x.groups ++ (group_of f ∷ []); next = f.next }

abbrev seen_of : Groups → Seen
seen_of g = record { next = g.next; count = g.count; items = g.items; pairs = g.pairs; apart = g.apart }

abbrev pub kept : Groups → Read → Groups
kept g f =
    groups_of (seen_with (seen_of g) f (member f.b (take g.count g.firsts))) (set g.firsts g.count f.b) (set g.seconds g.count f.c)

column-kept : (of : Group → ℕ) (xs : List Group) (x : Group) → length xs < GROUPS → set (pad 0 GROUPS (map of xs)) (length xs) (of x) ≡ pad 0 GROUPS (map of (xs ++ (x ∷ [])))
column-kept of xs x h =
    let n : length (map of xs) ≡ length xs = length-map xs of in
    let lt : length (map of xs) < GROUPS = omega arith in
    rw (map-append of xs (x ∷ []), ← n) (set-pad-end GROUPS (map of xs) (of x) lt)

group-kept : (x : Gathered) (f : Read) → length x.groups < GROUPS → kept (groups_from x) f ≡ groups_from (with_group x f)
unfolding seen_with groups_from group_of
group-kept x f h =
    let xs = x.groups in
    let y = group_of f in
    let firsts_of = map (λ y. y.first) xs in
    let n : length firsts_of ≡ length xs = length-map xs (λ y. y.first) in
    let few : length firsts_of ≤ GROUPS = omega arith in
    let named : take (length xs) (pad 0 GROUPS firsts_of) ≡ firsts_of = ap (λ (k : ℕ). take k (pad 0 GROUPS firsts_of)) (sym n) ∙ take-pad GROUPS firsts_of few in
    let apart : distinct (map (λ y. y.first) (xs ++ (y ∷ []))) ≡ distinct firsts_of && not (member f.b (take (length xs) (pad 0 GROUPS firsts_of))) =
    rw (map-append (λ y. y.first) xs (y ∷ []), named) (distinct_snoc firsts_of f.b) in
    let counted : length (xs ++ (y ∷ [])) ≡ length xs + 1 = length-append xs (y ∷ []) in
    λ j.
    record {
      next = f.next;
      count = sym counted j;
      items = sym (all_snoc (λ y. item_ranged (item_of y)) xs y) j;
      pairs = sym (all_snoc pair_ranged xs y) j;
      apart = sym apart j;
      firsts = column-kept (λ y. y.first) xs y h j;
      seconds = column-kept (λ y. y.second) xs y h j;
    }

-- ---- what is judged of groups
-- the items of groups
pub items-ranged : (xs : List Group) → all item_ranged (map item_of xs) ≡ all (λ y. item_ranged (item_of y)) xs
unfolding all
items-ranged [] = refl
items-ranged (x ∷ xs) = ap (λ (b : Bool). item_ranged (item_of x) && b) (items-ranged xs)

pub items-rows : (xs : List Group) → map (λ i. i.row) (map item_of xs) ≡ map (λ y. y.first) xs
unfolding item_of
items-rows [] = refl
items-rows (x ∷ xs) = ap (λ (l : List ℕ). x.first ∷ l) (items-rows xs)

-- the first four
pub four-packed : (x : Gathered)
    → packed (map item_of x.groups)
    ≡ (let g = groups_from x in
    record { row = get_or g.firsts 0 0; rights = get_or g.seconds 0 0 } ∷ record { row = get_or g.firsts 1 0; rights = get_or g.seconds 1 0 }
    ∷ record { row = get_or g.firsts 2 0; rights = get_or g.seconds 2 0 } ∷ record { row = get_or g.firsts 3 0; rights = get_or g.seconds 3 0 } ∷ [])
unfolding packed groups_from no_item item_of pad
four-packed x = by x.groups
  where
    by : (xs : List Group)
        → packed (map item_of xs)
        ≡ record { row = get_or (pad 0 GROUPS (map (λ y. y.first) xs)) 0 0; rights = get_or (pad 0 GROUPS (map (λ y. y.second) xs)) 0 0 }
        ∷ record { row = get_or (pad 0 GROUPS (map (λ y. y.first) xs)) 1 0; rights = get_or (pad 0 GROUPS (map (λ y. y.second) xs)) 1 0 }
        ∷ record { row = get_or (pad 0 GROUPS (map (λ y. y.first) xs)) 2 0; rights = get_or (pad 0 GROUPS (map (λ y. y.second) xs)) 2 0 }
        ∷ record { row = get_or (pad 0 GROUPS (map (λ y. y.first) xs)) 3 0; rights = get_or (pad 0 GROUPS (map (λ y. y.second) xs)) 3 0 } ∷ []
    by [] = refl
    by (x ∷ []) = refl
    by (x ∷ y ∷ []) = refl
    by (x ∷ y ∷ z ∷ []) = refl
    by (x ∷ y ∷ z ∷ w ∷ xs) = refl

-- the first sixteen: 0 stands after the last
four-padded : (m : ℕ) (ns : List ℕ) (i : ℕ) → four_from (pad 0 m ns) i ≡ four_from ns i
unfolding four_from
four-padded m ns i j =
    record {
      first = get_d-pad 0 m ns i j;
      second = get_d-pad 0 m ns (i + 1) j;
      third = get_d-pad 0 m ns (i + 2) j;
      fourth = get_d-pad 0 m ns (i + 3) j;
    }

pub sixteen-padded : (m : ℕ) (ns : List ℕ) → sixteen_from (pad 0 m ns) ≡ sixteen_from ns
unfolding sixteen_from
sixteen-padded m ns j =
    record {
      first = four-padded m ns 0 j;
      second = four-padded m ns 4 j;
      third = four-padded m ns 8 j;
      fourth = four-padded m ns 12 j;
    }

-- ---- the groups from a position on: those read, then those left
abbrev joined : Gathered → Gathered → Gathered
joined g h = record { groups = g.groups ++ h.groups; next = h.next }

pub record Gathering (n : ℕ) (s : List ℕ) (at : ℕ) (a : Groups) : Type 0 where
  pub read : Gathered
  pub held : a ≡ groups_from read
  pub whole : gathered n s at ≡ joined read (gathered (n - length read.groups) s read.next)

module _ (n : ℕ) (s : List ℕ) (at : ℕ) where
  pub gathering-starts : (a : Groups) → a ≡ groups_from (record { groups = []; next = at }) → Gathering n s at a
  gathering-starts a e = let q : n - 0 ≡ n = omega arith in record { read = record { groups = []; next = at }; held = e; whole = rw q }

  module _ (a : Groups) (k : Gathering n s at a) where
    next-same : a.next ≡ k.read.next
    unfolding groups_from
    next-same = ap (λ (x : Groups). x.next) k.held

    count_same : a.count ≡ length k.read.groups
    unfolding groups_from
    count_same = ap (λ (x : Groups). x.count) k.held

    pub gathering-room : a.count < GROUPS → length a.firsts ≡ GROUPS
    unfolding groups_from
    gathering-room h =
        let q = count_same in
        let m = length-map k.read.groups (λ y. y.first) in
        ap (λ (x : Groups). length x.firsts) k.held ∙ length-pad 0 GROUPS (map (λ y. y.first) k.read.groups) (omega arith)

    one_more : (f : Read) → form s k.read.next " (# #)" ≡ f → f.good ≡ true → length k.read.groups < n
        → gathered n s at ≡ joined (with_group k.read f) (gathered (n - length (k.read.groups ++ (group_of f ∷ []))) s f.next)
    unfolding gathered add_group
    one_more f e good h =
        let m : length (k.read.groups ++ (group_of f ∷ [])) ≡ length k.read.groups + 1 = length-append k.read.groups (group_of f ∷ []) in
        let q : n - length k.read.groups ≡ suc (n - length (k.read.groups ++ (group_of f ∷ []))) = omega arith in
        k.whole ∙ (rw (q, e, good, append_snoc))

    -- one more group was read
    pub gathering-goes-on : (f : Read) → f ≡ form s a.next " (# #)" → f.good ≡ true → a.count < n → a.count < GROUPS → Gathering n s at (kept a f)
    gathering-goes-on f e good h room =
        let q = count_same in
        let there = ap (λ (i : ℕ). form s i " (# #)") (sym next-same) ∙ sym e in
        let is = ap (λ (y : Groups). kept y f) k.held ∙ group-kept k.read f (omega arith) in
        record { read = with_group k.read f; held = is; whole = one_more f there good (omega arith) }

    none_left : (m : ℕ) → (form s k.read.next " (# #)").good ≡ false → gathered m s k.read.next ≡ record { groups = []; next = k.read.next }
    unfolding gathered
    none_left zero e = refl
    none_left (suc m) e = rw e

    -- no group follows; no more are read
    pub gathering-stops : (f : Read) → f ≡ form s a.next " (# #)" → f.good ≡ false → a ≡ groups_from (gathered n s at)
    gathering-stops f e none =
        let there = ap (λ (i : ℕ). (form s i " (# #)").good) (sym next-same) ∙ ap (λ (x : Read). x.good) (sym e) ∙ none in
        k.held ∙ (rw (k.whole, none_left (n - length k.read.groups) there, append-nil))

    pub gathering-ends : n ≤ a.count → a ≡ groups_from (gathered n s at)
    unfolding gathered
    gathering-ends h =
        let c = count_same in
        let q : n - length k.read.groups ≡ 0 = omega arith in
        k.held ∙ (rw (k.whole, q, append-nil))

-- whether a number is one of a list's, by the library's test
pub any-member : (n : ℕ) (l : List ℕ) → list_any (λ y. nat_eq y n) l ≡ member n l
unfolding member
any-member n [] = refl
any-member n (m ∷ ms) = rw (eqb-sym m n, any-member n ms) refl
