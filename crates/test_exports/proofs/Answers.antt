-- What the exported functions answer: a slot plus 1; and which slots a state has.
use Prim.Native.Nat.{ℕ, suc, ◌+◌, ◌≤◌, ◌<◌}
use native.Mathlib.Omega.{arith}
use mathlib.Core.Path.{◌≡◌, ap, sym}
use mathlib.Core.List.{List}
use lib.ListN.{length}
use Rattle.std.specs.Prelude.{Option}
use Rattle.std.specs.Prelude.{Some, None}
use Rattle.rows.specs.Tables.{State}
use Rattle.rows.specs.vocabulary.Represents.{Represents}
use Rattle.rows.specs.vocabulary.Slots.{found_slot, request_slot}
use Rattle.rows.specs.Layout.{row_slot}
use Rattle.rows.proofs.Slots.{found_at, found_nothing, slot-le, rows-most, requests-most, represented-rows, represented-requests}

-- a slot i was found: i + 1 stands for it
pub plus_one : {r : Option ℕ} (s i : ℕ) → r ≡ found_slot s → r ≡ Some i → found_slot (i + 1) ≡ found_slot s
plus_one s i found at = ap found_slot (omega (arith, found_at s i found at))

-- nothing was found: 0 stands for it
pub zero-slot : {r : Option ℕ} (s : ℕ) → r ≡ found_slot s → r ≡ None → found_slot 0 ≡ found_slot s
zero-slot s found at = ap found_slot (sym (found_nothing s found at))

-- no row stands in a slot from 1,024 on
pub no_slot : {A : Type 0} {t : List ℕ} (st : State) (n : ℕ) → Represents t st → (e : ℕ) → row_slot st.rows n ≡ suc e → 1024 ≤ e → A
unfolding row_slot
no_slot {t = t} st n rep e at past = absurd (omega (arith, at, past, slot-le (λ r. r.number) st.rows n, represented-rows rep, rows-most t))

-- there are at most 1,024 rows
pub no-count : {A : Type 0} {t : List ℕ} (st : State) → Represents t st → (count : ℕ) → count ≡ length st.rows → 1024 < count → A
no-count {t = t} st rep count same past = absurd (omega (arith, same, past, represented-rows rep, rows-most t))

-- no request stands in a slot from 128 on
pub no-request-slot : {A : Type 0} {t : List ℕ} (st : State) (q : ℕ) → Represents t st → (j : ℕ) → request_slot st.requests q ≡ suc j → 128 ≤ j → A
unfolding request_slot
no-request-slot {t = t} st q rep j at past =
    absurd (omega (arith, at, past, slot-le (λ v. v.number) st.requests q, represented-requests rep, requests-most t))
