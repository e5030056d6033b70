-- The rows that an accepted call makes: held, registered, an end of a new port, a lent copy.
use Prim.Native.Nat.{ℕ, suc, ◌<◌, ◌≤◌}
use native.Mathlib.Omega.{arith}
use mathlib.Core.Bool.{Bool, true, not, cond, ◌&&◌}
use mathlib.Core.List.{List, [], ◌∷◌, ◌++◌}
use mathlib.Core.Path.{◌≡◌, refl, sym, ap, ◌∙◌, subst}
use mathlib.Core.Logic.{◌⊎◌, inl, inr}
use lib.Dec.{eqb}
use borrow.Author.Tests.{ne_eqb}
use Rattle.rows.specs.declared.Row.{Row}
use Rattle.rows.specs.Lists.{any, all, first_with, member}
use Rattle.rows.specs.Codes.{in_clist, with_system}
use Rattle.rows.specs.Tables.{State, row_of, numbers, lists}
use Rattle.rows.specs.Setters.{with_place}
use Rattle.rows.proofs.Keyed.{keys-map}
use Rattle.closing.proofs.Lookups.{left-keys}
use Rattle.rows.proofs.Bools.{and_l, and_r, and_i, or_l, or_r, all-and, all_filter, eqb-self, member-cases}
use Rattle.tables.proofs.Sound.{Sound}
use Rattle.calls.specs.declared.Item.{Item}
use Rattle.calls.specs.declared.Call.{Call}
use Rattle.calls.specs.declared.Call.TheVariants.{Hold, Register, Port, Ask}
use Rattle.calls.specs.Rules.{asked_of, with_new_rows, with_record, copy_of}
use Rattle.calls.specs.Loans.{items_of, moves, copies, copy_lent, handed_to, handed_over}
use Rattle.calls.specs.Calls.{port_end}
use Rattle.kept.proofs.Allowed.{HoldAllowed, RegisterAllowed, PortAllowed, AskAllowed}
use Rattle.kept.proofs.AskItems.{is_item, stacked}
use Rattle.kept.proofs.Moved.{moved, moved-number}
use Rattle.kept.proofs.AskCopy.{lendable}
use Rattle.kept.proofs.AskStack.{row-stacked}
use Rattle.kept.proofs.AskFacts.{lent_rows, asked_rows}
use Rattle.security.specs.Sessions.{IsRow}
use Rattle.security.proofs.Effects.{held_row, registered_row, client_row, server_row, Adds, holds, registers, makes, Effect, tells, moves-to, adds, asks, fetches, shuts-off}

-- an item of the ask, as it is named there
abbrev pub Names : List Item → Item → Type 0
Names is i = any (λ j. eqb j.row i.row && eqb j.rights i.rights) is ≡ true

pub data Newly (st : State) : Call → ℕ → Row → Type 0 where
  held : (p s : ℕ) → HoldAllowed st p s → Newly st (Hold p s) st.next (held_row st p s)
  registered : (p e : ℕ) → RegisterAllowed st p e → Newly st (Register p e) st.next (registered_row st p e)
  client : (p e : ℕ) → PortAllowed st p e → Newly st (Port p e) st.next (client_row st p e)
  server : (p e : ℕ) → PortAllowed st p e → Newly st (Port p e) (suc st.next) (server_row st e)
  copied : (p c : ℕ) (is : List Item) → AskAllowed st p c (items_of is) → (n : ℕ) (i : Item) → Names (items_of is) i → lendable st p c i ≡ true → st.next < n
      → Newly st (Ask p c is) n (copy_lent st c st.next n i)

-- ---- new rows in front
pub first-row : (r : Row) (rs : List Row) → row_of (r ∷ rs) r.number ≡ r
unfolding row_of first_with
first-row r rs = rw (eqb-self r.number) refl

second-row : (r r' : Row) (rs : List Row) → (r.number ≡ r'.number → ⊥) → row_of (r ∷ r' ∷ rs) r'.number ≡ r'
unfolding row_of first_with
second-row r r' rs h = rw (ne_eqb r.number r'.number h, eqb-self r'.number) refl

pub adds-new : (st : State) (c : Call) (rs : List Row) → Adds st c rs → (n : ℕ) → member n (numbers (rs ++ st.rows)) ≡ true → (IsRow st n → ⊥) → Newly st c n (row_of (rs ++ st.rows) n)
unfolding numbers copy_of port_end
adds-new st c rs (holds p s a) n t u = pick (member-cases n st.next _ t)
  where
    pick : (n ≡ st.next) ⊎ (member n (numbers st.rows) ≡ true) → Newly st (Hold p s) n (row_of (held_row st p s ∷ st.rows) n)
    pick (inl z) = rw z (rw (first-row (held_row st p s) st.rows) (held p s a))
    pick (inr m) = absurd (u m)
adds-new st c rs (registers p e a) n t u = pick (member-cases n st.next _ t)
  where
    pick : (n ≡ st.next) ⊎ (member n (numbers st.rows) ≡ true) → Newly st (Register p e) n (row_of (registered_row st p e ∷ st.rows) n)
    pick (inl z) = rw z (rw (first-row (registered_row st p e) st.rows) (registered p e a))
    pick (inr m) = absurd (u m)
adds-new st c rs (makes p e a) n t u = pick (member-cases n (suc st.next) _ t)
  where
    rows : List Row
    rows = client_row st p e ∷ st.rows

    older : (n ≡ st.next) ⊎ (member n (numbers st.rows) ≡ true) → Newly st (Port p e) n (row_of (server_row st e ∷ rows) n)
    older (inl z) = rw z (rw (second-row (server_row st e) (client_row st p e) st.rows (λ z. omega arith)) (client p e a))
    older (inr m) = absurd (u m)

    pick : (n ≡ suc st.next) ⊎ (member n (numbers rows) ≡ true) → Newly st (Port p e) n (row_of (server_row st e ∷ rows) n)
    pick (inl z) = rw z (rw (first-row (server_row st e) rows) (server p e a))
    pick (inr m) = older (member-cases n st.next _ m)

-- ---- copies stacked on the rows
module _ (st : State) (c v : ℕ) (good : Item → Bool) where
  -- row m of these is the copy of a good item
  record Copied (n m : ℕ) (r : Row) : Type 0 where
    item : Item
    is-good : good item ≡ true
    above : n ≤ m
    is : r ≡ copy_lent st c v m item

  stacked-new : (ks : List Item) → all good ks ≡ true → (n : ℕ) (rs : List Row) (m : ℕ) → member m (numbers (stacked st c v ks n rs)) ≡ true
      → (member m (numbers rs) ≡ true) ⊎ Copied n m (row_of (stacked st c v ks n rs) m)
  unfolding stacked all
  stacked-new [] g n rs m t = inl t
  stacked-new (i ∷ ks) g n rs m t = pick (stacked-new ks (and_r (good i) (all good ks) g) (suc n) (copy_lent st c v n i ∷ rs) m t)
    where
      all-rows : List Row
      all-rows = stacked st c v ks (suc n) (copy_lent st c v n i ∷ rs)

      first : m ≡ n → row_of all-rows m ≡ copy_lent st c v m i
      first z =
          rw z (row-stacked st c v ks (suc n) (copy_lent st c v n i ∷ rs) n (omega arith) ∙ (unfold copy_lent copy_of in first-row (copy_lent st c v n i) rs))

      here : (m ≡ n) ⊎ (member m (numbers rs) ≡ true) → (member m (numbers rs) ≡ true) ⊎ Copied n m (row_of all-rows m)
      here (inl z) = inr (record { item = i; is-good = and_l (good i) (all good ks) g; above = omega arith; is = first z })
      here (inr u) = inl u

      pick : (member m (numbers (copy_lent st c v n i ∷ rs)) ≡ true) ⊎ Copied (suc n) m (row_of all-rows m) → (member m (numbers rs) ≡ true) ⊎ Copied n m (row_of all-rows m)
      pick (inl u) = here (member-cases m n (numbers rs) (unfold numbers copy_lent copy_of in u))
      pick (inr k) = inr (record { item = k.item; is-good = k.is-good; above = let l = k.above in omega arith; is = k.is })

named : List Item → Item → Bool
named is i = any (λ j. eqb j.row i.row && eqb j.rights i.rights) is

-- each item is named
all_named : (is ks : List Item) → ((i : Item) → named ks i ≡ true → named is i ≡ true) → all (named is) ks ≡ true
unfolding all named any
all_named is [] h = refl
all_named is (k ∷ ks) h =
    and_i (named is k) (all (named is) ks)
    (h k (or_l (eqb k.row k.row && eqb k.rights k.rights) (named ks k) (rw (eqb-self k.row, eqb-self k.rights) refl)))
    (all_named is ks (λ i e. h i (or_r (eqb k.row i.row && eqb k.rights i.rights) (named ks i) e)))

pub lent-number : (st : State) (is : List Item) (n : ℕ) → member n (numbers (lent_rows st is)) ≡ member n (numbers st.rows)
unfolding numbers
lent-number st is n = ap (member n) (keys-map (λ r. r.number) (moved (is_item st is) with_system) (moved-number (is_item st is) with_system) st.rows)

pub asks-new : (st : State) (s : Sound st) (p c : ℕ) (is : List Item) (a : AskAllowed st p c (items_of is)) (n : ℕ) → member n (numbers (asked_rows st c (items_of is))) ≡ true → (IsRow st n → ⊥)
    → Newly st (Ask p c is) n (row_of (asked_rows st c (items_of is)) n)
unfolding copies named
asks-new st s p c is a n t u = pick (stacked-new st c st.next good (copies st (items_of is)) all-good (suc st.next) (lent_rows st (items_of is)) n t)
  where
    good : Item → Bool
    good i = lendable st p c i && named (items_of is) i

    all-good : all good (copies st (items_of is)) ≡ true
    all-good =
        all-and (lendable st p c) (named (items_of is)) good (λ i. and_i (lendable st p c i) (named (items_of is) i)) (copies st (items_of is)) a.lent
        (all_filter (λ i. not (moves st i)) (named (items_of is)) (items_of is) (all_named (items_of is) (items_of is) (λ i e. e)))

    pick : (member n (numbers (lent_rows st (items_of is))) ≡ true) ⊎ Copied st c st.next good (suc st.next) n (row_of (asked_rows st c (items_of is)) n)
        → Newly st (Ask p c is) n (row_of (asked_rows st c (items_of is)) n)
    pick (inl m) = absurd (u (sym (lent-number st (items_of is) n) ∙ m))
    pick (inr k) =
        subst (Newly st (Ask p c is) n) (sym k.is)
        (copied p c is a n k.item (and_r (lendable st p c k.item) _ k.is-good) (and_l (lendable st p c k.item) _ k.is-good) (let l = k.above in omega arith))

pub fetched-rows : (st : State) (p e n : ℕ) → IsRow (handed_over p (asked_of st e) st) n → IsRow st n
unfolding handed_over handed_to numbers
fetched-rows st p e n t =
    sym (ap (member n) (keys-map (λ r. r.number) (λ r. cond (lists r.number (asked_of st e)) (with_place (in_clist p) r) r) (unfold moved in moved-number (λ m. lists m (asked_of st e)) (in_clist p)) st.rows)) ∙ t

-- ---- a row that was not there before the call
pub new_row : (st : State) → Sound st → (c : Call) (st' : State) → Effect st c st' → (n : ℕ) → IsRow st' n → (IsRow st n → ⊥) → Newly st c n (row_of st'.rows n)
unfolding with_new_rows
new_row st s c st' (tells c' x) n t u = absurd (u t)
new_row st s c st' (moves-to p e a) n t u = absurd (u (unfold with_record in t))
new_row st s c st' (adds c' rs k a z) n t u = adds-new st c rs a n t u
new_row st s c st' (asks p d is a) n t u = asks-new st s p d is a n t u
new_row st s c st' (fetches p e a) n t u = absurd (u (fetched-rows st p e n t))
new_row st s c st' (shuts-off c' g f x k) n t u = absurd (u (and_l (member n (numbers st.rows)) _ (sym (left-keys g f st n) ∙ t)))
