-- Every answer to a call line on sound tables: an accepted one has a value of at most 4,294,967,294; a refusal has a number from 2 to 18 and leaves the state.
use Prim.Native.Nat.{ℕ, suc, ◌+◌, ◌<◌, ◌≤◌}
use native.Mathlib.Omega.{arith}
use mathlib.Core.Bool.{Bool, true, false, cond}
use mathlib.Core.List.{List, [], ◌∷◌}
use mathlib.Core.Path.{◌≡◌, refl}
use lib.ListN.{length}
use lib.Dec.{leb, ltb, eqb}
use borrow.Author.Tests.{ltb-true, leb-true, le-leb}
use Rattle.rows.specs.declared.Request.{Request}
use Rattle.rows.specs.Lists.{all, member, some, first_with}
use Rattle.rows.specs.Limits.{greatest_number}
use Rattle.rows.specs.Tables.{State, no_request, row_of, numbers, open_on}
use Rattle.rows.specs.Sound.{next_in_range}
use Rattle.rows.proofs.Bools.{and_l, and_r, all-mono}
use Rattle.tables.proofs.Sound.{Sound}
use Rattle.rows.proofs.Places.{between-range}
use Rattle.tables.proofs.SoundFacts.{requests-below}
use Rattle.calls.specs.declared.Answer.TheVariants.{Fetched, Told}
use Rattle.calls.specs.declared.Sixteen.{Sixteen}
use Rattle.calls.specs.declared.Call.{Call}
use Rattle.calls.specs.declared.Call.TheVariants.{Go, Hold, Register, Drop, Port, Close, Ask, Fetch, Revoke, Comes, Chain, ComesAll}
use Rattle.calls.specs.Answers.{refusal_of, values_of}
use Rattle.calls.specs.Rules.{Out, is_refusal, refused, asked_of}
use Rattle.calls.specs.Loans.{items_of, copies}
use Rattle.calls.specs.Calls.{done, made, fetched_answer, chained_answer, effect}
use Rattle.kept.proofs.AddRow.{numbers-room}
use Rattle.text.specs.Entry.{call_on}
use Rattle.history.proofs.Inv.{first_value}
use Rattle.history.proofs.Allowed.{Allowed, line-has}
use Rattle.history.proofs.FirstChains.{chain-some, chain_first, row-found-there}
use Rattle.history.proofs.PairValues.{pairs-some, pairs_first}

pub record Spoken (st : State) (o : Out) : Type 0 where
  pub has_value : refusal_of o.answer ≡ 0 → 0 < length (values_of o.answer)
  pub in-range : refusal_of o.answer ≡ 0 → first_value (values_of o.answer) ≤ greatest_number
  pub numbered : 0 < refusal_of o.answer → is_refusal (refusal_of o.answer) ≡ true
  pub untouched : 0 < refusal_of o.answer → o.after ≡ st

-- ---- each answer
refused-spoken : (st : State) (k : ℕ) → is_refusal k ≡ true → Spoken st (refused st k)
unfolding refused refusal_of
refused-spoken st k h =
    record {
      has_value = λ e. let z : k ≡ 0 = e in let l = leb-true 2 k (and_l (leb 2 k) (leb k 18) h) in absurd (omega arith);
      in-range = λ e. let z : k ≡ 0 = e in let l = leb-true 2 k (and_l (leb 2 k) (leb k 18) h) in absurd (omega arith);
      numbered = λ e. h;
      untouched = λ e. refl;
    }

-- an accepted answer with a value in range
accepted-spoken : (st : State) (o : Out) → refusal_of o.answer ≡ 0 → 0 < length (values_of o.answer) → first_value (values_of o.answer) ≤ greatest_number → Spoken st o
accepted-spoken st o e l h = record { has_value = λ _. l; in-range = λ _. h; numbered = λ z. absurd (omega arith); untouched = λ z. absurd (omega arith) }

done-spoken : (st a : State) → Spoken st (done a)
unfolding done refusal_of values_of first_value
done-spoken st a = accepted-spoken st _ refl (omega arith) (omega arith)

made-spoken : (st : State) (n : ℕ) (a : State) → n ≤ greatest_number → Spoken st (made n a)
unfolding made refusal_of values_of first_value
made-spoken st n a h = accepted-spoken st _ refl (omega arith) h

fetched-spoken : (st : State) (v : ℕ) (is : List ℕ) (after : State) → v ≤ greatest_number → Spoken st (record { answer = Fetched v is; after = after })
unfolding refusal_of values_of first_value
fetched-spoken st v is after h = accepted-spoken st _ refl (omega arith) h

told-spoken : (st : State) (t : Bool) (after : State) → Spoken st (record { answer = Told t; after = after })
unfolding refusal_of values_of first_value greatest_number
told-spoken st true after = accepted-spoken st _ refl (omega arith) (omega arith)
told-spoken st false after = accepted-spoken st _ refl (omega arith) (omega arith)

-- the numbers of a chain are those of rows
chained-spoken : (st : State) → Sound st → (e : ℕ) → member e (numbers st.rows) ≡ true → Spoken st (effect st (Chain e))
unfolding effect
chained-spoken st s e t = accepted-spoken st _ (unfold refusal_of chained_answer in refl) (chain-some st s e t) (chain_first st s e t)

-- what is told of the first pair is there, a number or `-`
pairs-spoken : (st : State) (es qs : Sixteen) → some es.first.first ≡ true → Spoken st (effect st (ComesAll es qs))
unfolding effect
pairs-spoken st es qs t = accepted-spoken st _ (unfold refusal_of in refl) (pairs-some st es qs t) (pairs_first _)

-- ---- the calls
-- a number is left, so the next one is in range
next-spoken : (st : State) (k : ℕ) (after : State) → 0 < k → st.next + k ≤ suc greatest_number → Spoken st (made st.next after)
next-spoken st k after h l = made-spoken st st.next after (omega arith)

-- ---- fetch: the request's number is one of the tables
request-ranged : (st : State) → Sound st → all (λ v. leb v.number greatest_number) st.requests ≡ true
unfolding next_in_range
request-ranged st s =
    let (lo, hi) = between-range 1 (suc greatest_number) st.next s.numbers.next-in-range in
    all-mono (λ v. ltb v.number st.next) (λ v. leb v.number greatest_number)
    (λ v e. let lt = ltb-true v.number st.next e in le-leb v.number greatest_number (omega arith)) st.requests (requests-below st s.numbers)

-- also where none is found
open-ranged : (m : ℕ) (vs : List Request) (c : ℕ) → all (λ v. leb v.number m) vs ≡ true → leb (open_on vs c).number m ≡ true
unfolding all open_on first_with no_request
open-ranged m [] c e = le-leb 0 m (omega arith)
open-ranged m (v ∷ vs) c e = pick (open-ranged m vs c (and_r (leb v.number m) (all (λ v. leb v.number m) vs) e)) (eqb v.port c)
  where
    pick : leb (first_with (λ v. v.port) no_request vs c).number m ≡ true → (b : Bool) → leb (cond b v (first_with (λ v. v.port) no_request vs c)).number m ≡ true
    pick ih true = and_l (leb v.number m) (all (λ v. leb v.number m) vs) e
    pick ih false = ih

asked-ranged : (st : State) → Sound st → (e : ℕ) → (asked_of st e).number ≤ greatest_number
unfolding asked_of
asked-ranged st s e =
    let c = (row_of st.rows e).object in
    leb-true (open_on st.requests c).number greatest_number (open-ranged greatest_number st.requests c (request-ranged st s))

effect-spoken : (st : State) → Sound st → (c : Call) → Allowed st c → Spoken st (effect st c)
unfolding Allowed effect fetched_answer
effect-spoken st s (Go p e) a = done-spoken st _
effect-spoken st s (Hold p e) a = next-spoken st 1 _ (omega arith) (numbers-room st 1 a.numbers-free)
effect-spoken st s (Register p e) a = next-spoken st 1 _ (omega arith) (numbers-room st 1 a.numbers-free)
effect-spoken st s (Drop p e) a = done-spoken st _
effect-spoken st s (Port p e) a = next-spoken st 2 _ (omega arith) (numbers-room st 2 a.numbers-free)
effect-spoken st s (Close p c) a = done-spoken st _
effect-spoken st s (Ask p c is) a = next-spoken st (suc (length (copies st (items_of is)))) _ (omega arith) a.numbers-room
effect-spoken st s (Fetch p e) a = fetched-spoken st (asked_of st e).number _ _ (asked-ranged st s e)
effect-spoken st s (Call.Answer p e served) a = done-spoken st _
effect-spoken st s (Revoke p q) a = done-spoken st _
effect-spoken st s (Comes e q) a = told-spoken st _ _
effect-spoken st s (Chain e) a = chained-spoken st s e (row-found-there st e a.row)
effect-spoken st s (ComesAll es qs) a = pairs-spoken st es qs a

-- ---- a line
pub call-spoken : (st : State) → Sound st → (line : List ℕ) → Spoken st (call_on st line)
call-spoken st s line = line-has (Spoken st) st s (refused-spoken st) line (effect-spoken st s)
