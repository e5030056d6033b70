-- What an ask lends, in closed form: the copies stacked on the rows, the ends that move, the request's list.
use Prim.Native.Nat.{ℕ, suc, ◌+◌}
use mathlib.Core.Bool.{Bool, true, false, not, cond, ◌&&◌, ◌||◌}
use mathlib.Core.List.{List, [], ◌∷◌, ◌++◌, map, append_assoc, map-map}
use mathlib.Core.Path.{◌≡◌, refl, sym, ap, ◌∙◌}
use lib.Dec.{eqb}
use lib.ListN.{length}
use native.Mathlib.Omega.{arith}
use Rattle.rows.specs.declared.Row.{Row}
use Rattle.std.specs.Prelude.{if◌then◌else◌}
use Rattle.rows.specs.Lists.{filter, any}
use Rattle.rows.specs.Codes.{with_system}
use Rattle.rows.specs.Tables.{State}
use Rattle.rows.specs.Setters.{with_place}
use Rattle.rows.proofs.Bools.{eqb-sym}
use Rattle.rows.proofs.Lists.{map_same}
use Rattle.calls.specs.declared.Item.{Item}
use Rattle.calls.specs.Rules.{copy_of}
use Rattle.calls.specs.Loans.{moves, copies, copy_lent, Lending, to_system, lend_end, lend_copy, lend_item, lend_items}
use Rattle.kept.proofs.Moved.{moved}

-- e is an end that the items name
unfoldable pub is_item : State → List Item → ℕ → Bool
is_item st is e = any (λ i. moves st i && eqb i.row e) is

-- the request's list, copies numbered from n on
unfoldable pub listed : State → List Item → ℕ → List ℕ
listed st [] n = []
listed st (i ∷ is) n = if moves st i then i.row ∷ listed st is n else n ∷ listed st is (suc n)

-- copies of the items ks, numbered from n on, stacked on the rows rs
unfoldable pub stacked : State → ℕ → ℕ → List Item → ℕ → List Row → List Row
stacked st c v [] n rs = rs
stacked st c v (i ∷ ks) n rs = stacked st c v ks (suc n) (copy_lent st c v n i ∷ rs)

map-eq : {A : Type 0} (f g : A → A) → ((x : A) → f x ≡ g x) → (xs : List A) → map f xs ≡ map g xs
map-eq f g h [] = refl
map-eq f g h (x ∷ xs) = rw (h x, map-eq f g h xs) refl

module _ (st : State) (c v : ℕ) where
  -- ---- the three parts of a lending
  moved_none : (r : Row) → moved (is_item st []) with_system r ≡ r
  unfolding moved is_item any
  moved_none r = refl

  -- a copy is with the system already
  moved-copy : (t : ℕ → Bool) (n : ℕ) (i : Item) → moved t with_system (copy_lent st c v n i) ≡ copy_lent st c v n i
  unfolding moved copy_lent copy_of with_place
  moved-copy t n i = pick (t n)
    where
      pick : (b : Bool) → cond b (with_place with_system (copy_lent st c v n i)) (copy_lent st c v n i) ≡ copy_lent st c v n i
      pick true = refl
      pick false = refl

  moved-end : (i : Item) (is : List Item) → moves st i ≡ true → (r : Row) → moved (is_item st is) with_system (to_system i.row r) ≡ moved (is_item st (i ∷ is)) with_system r
  unfolding moved is_item any to_system with_place
  moved-end i is m r = rw (m, eqb-sym i.row r.number) (pick (eqb r.number i.row) (any (λ i. moves st i && eqb i.row r.number) is) refl)
    where
      pick : (a b : Bool) → any (λ i. moves st i && eqb i.row r.number) is ≡ b
          → cond (any (λ i. moves st i && eqb i.row (cond a (with_place with_system r) r).number) is) (with_place with_system (cond a (with_place with_system r) r)) (cond a (with_place with_system r) r)
          ≡ cond (a || any (λ i. moves st i && eqb i.row r.number) is) (with_place with_system r) r
      pick true true q = rw q refl
      pick true false q = rw q refl
      pick false true q = refl
      pick false false q = refl

  moved_other : (i : Item) (is : List Item) → moves st i ≡ false → (r : Row) → moved (is_item st is) with_system r ≡ moved (is_item st (i ∷ is)) with_system r
  unfolding moved is_item any
  moved_other i is m r = rw m refl

  pub lend-rows : (is : List Item) (l : Lending) → (lend_items st c v is l).rows ≡ stacked st c v (copies st is) l.next (map (moved (is_item st is) with_system) l.rows)
  unfolding lend_items lend_item copies filter stacked
  lend-rows [] l = sym (map_same (moved (is_item st []) with_system) moved_none l.rows)
  lend-rows (i ∷ is) l = pick (lend-rows is) (moves st i) refl
    where
      pick : ((l : Lending) → (lend_items st c v is l).rows ≡ stacked st c v (filter (λ i. not (moves st i)) is) l.next (map (moved (is_item st is) with_system) l.rows))
          → (b : Bool) → moves st i ≡ b
          → (lend_items st c v is (cond b (lend_end i l) (lend_copy st c v i l))).rows
          ≡ stacked st c v (cond (not b) (i ∷ filter (λ i. not (moves st i)) is) (filter (λ i. not (moves st i)) is)) l.next (map (moved (is_item st (i ∷ is)) with_system) l.rows)
      pick ih true m =
          ih (lend_end i l)
          ∙ (unfold lend_end in ap (stacked st c v (filter (λ i. not (moves st i)) is) l.next)
          (map-map (moved (is_item st is) with_system) (to_system i.row) l.rows
          ∙ map-eq (λ r. moved (is_item st is) with_system (to_system i.row r)) (moved (is_item st (i ∷ is)) with_system) (moved-end i is m) l.rows))
      pick ih false m =
          ih (lend_copy st c v i l)
          ∙ (unfold lend_copy stacked in
          rw (moved-copy (is_item st is) l.next i, map-eq (moved (is_item st is) with_system) (moved (is_item st (i ∷ is)) with_system) (moved_other i is m) l.rows) refl)

  pub lend-items : (is : List Item) (l : Lending) → (lend_items st c v is l).items ≡ l.items ++ listed st is l.next
  unfolding lend_items lend_item listed
  lend-items [] l = sym (append-nil l.items)
    where
      append-nil : (ns : List ℕ) → ns ++ [] ≡ ns
      append-nil ns = elim ns as (λ ms. ms ++ [] ≡ ms) [ [] ↦ refl | (n ∷ (ns → ih)) ↦ ap (λ ms. n ∷ ms) ih ]
  lend-items (i ∷ is) l = pick (lend-items is) (moves st i)
    where
      pick : ((l : Lending) → (lend_items st c v is l).items ≡ l.items ++ listed st is l.next) → (b : Bool)
          → (lend_items st c v is (cond b (lend_end i l) (lend_copy st c v i l))).items ≡ l.items ++ cond b (i.row ∷ listed st is l.next) (l.next ∷ listed st is (suc l.next))
      pick ih true = ih (lend_end i l) ∙ (unfold lend_end in append_assoc l.items (i.row ∷ []) (listed st is l.next))
      pick ih false = ih (lend_copy st c v i l) ∙ (unfold lend_copy in append_assoc l.items (l.next ∷ []) (listed st is (suc l.next)))

  pub lend_next : (is : List Item) (l : Lending) → (lend_items st c v is l).next ≡ l.next + length (copies st is)
  unfolding lend_items lend_item copies filter
  lend_next [] l = omega arith
  lend_next (i ∷ is) l = pick (lend_next is) (moves st i)
    where
      pick : ((l : Lending) → (lend_items st c v is l).next ≡ l.next + length (filter (λ i. not (moves st i)) is)) → (b : Bool)
          → (lend_items st c v is (cond b (lend_end i l) (lend_copy st c v i l))).next ≡ l.next + length (cond (not b) (i ∷ filter (λ i. not (moves st i)) is) (filter (λ i. not (moves st i)) is))
      pick ih true = ih (lend_end i l) ∙ (unfold lend_end in refl)
      pick ih false =
          let z : (lend_items st c v is (lend_copy st c v i l)).next ≡ suc l.next + length (filter (λ i. not (moves st i)) is) = (unfold lend_copy in ih (lend_copy st c v i l)) in omega arith
