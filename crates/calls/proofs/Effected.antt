-- What the effect of each call leaves: the answer, the words and the records as its function has them.
use Prim.Native.Nat.{ℕ, suc, ◌≤◌}
use mathlib.Core.Bool.{Bool, true}
use mathlib.Core.List.{List}
use mathlib.Core.Path.{◌≡◌, refl, ap, sym, subst}
use borrow.Author.Tests.{eq-eqb, ne_eqb}
use Rattle.rows.specs.declared.Process.{Process}
use Rattle.rows.specs.declared.Request.{Request}
use Rattle.rows.specs.Codes.{is_operation}
use Rattle.rows.specs.Tables.{State, row_of, comes_from, first_chain}
use Rattle.rows.specs.Setters.{with_processes}
use Rattle.rows.specs.Sound.{rows_rise, requests_rise, rows_fit, requests_fit, items_few, sound}
use Rattle.rows.specs.Layout.{row_slot, words_of}
use Rattle.rows.proofs.Slots.{row-found}
use Rattle.tables.proofs.Sound.{sound-open}
use Rattle.tables.proofs.SoundFacts.{row-object, manager-listed, listed-range}
use Rattle.rows.specs.vocabulary.Represents.{laid_well, Represents}
use Rattle.calls.specs.declared.Item.{Item}
use Rattle.calls.specs.declared.Sixteen.{Sixteen}
use Rattle.calls.specs.declared.Answer.{Answer}
use Rattle.calls.specs.declared.Answer.TheVariants.{Done, Made, Fetched, Told, ToldAll}
use Rattle.calls.specs.declared.Call.{Call}
use Rattle.calls.specs.declared.Call.TheVariants.{Go, Hold, Register, Drop, Port, Close, Ask, Fetch, Revoke, Comes, Chain, ComesAll}
use Rattle.closing.specs.Closing.{close_request, close_port, drop_row}
use Rattle.calls.specs.Answers.{all_of}
use Rattle.calls.specs.Loans.{items_of, with_request, handed_over}
use Rattle.calls.specs.Rules.{asked_of, with_record, with_new_rows}
use Rattle.calls.specs.Calls.{go_home, go_through, with_held, with_registered, with_port, done, made, fetched_answer, chained_answer, told_each, sixteen_from, effect}
use Rattle.calls.specs.vocabulary.Performs.{Answers, Agrees}

-- the words say nothing of the records
pub records-apart : {t : List ℕ} (st : State) (ps : List Process) → Represents t st → Represents t (with_processes ps st)
unfolding laid_well words_of rows_rise requests_rise rows_fit requests_fit items_few
records-apart st ps rep = record { well = rep.well; words = rep.words }

module _ {t : List ℕ} (st : State) (p e : ℕ) (r : List Process) (rep : Represents t st) where
  pub went-home : e ≡ 0 → r ≡ (go_home st p).processes → Agrees t r Done (effect st (Go p e))
  unfolding effect done go_home with_record
  went-home z same = rw (eq-eqb e 0 z) (record { answer = refl; words = records-apart st _ rep; records = same })

  pub went-through : (e ≡ 0 → ⊥) → r ≡ (go_through st p e).processes → Agrees t r Done (effect st (Go p e))
  unfolding effect done go_through with_record
  went-through z same = rw (ne_eqb e 0 z) (record { answer = refl; words = records-apart st _ rep; records = same })

-- ---- calls that make a row: the answer is its number, and the records stay
module _ {after : List ℕ} (st : State) (p e : ℕ) where
  pub held-row : (n : ℕ) → n ≡ st.next → Represents after (with_held st p e) → Answers after (Made n) (effect st (Hold p e))
  unfolding effect made
  held-row n h rep = record { answer = ap Made h; words = rep }

  pub registered-row : (n : ℕ) → n ≡ st.next → Represents after (with_registered st p e) → Answers after (Made n) (effect st (Register p e))
  unfolding effect made
  registered-row n h rep = record { answer = ap Made h; words = rep }

  pub made-port : (n : ℕ) → n ≡ st.next → Represents after (with_port st p e) → Answers after (Made n) (effect st (Port p e))
  unfolding effect made
  made-port n h rep = record { answer = ap Made h; words = rep }

-- the request's number
pub made-request : {after : List ℕ} (st : State) (p c : ℕ) (is : List Item) (n : ℕ) → n ≡ st.next → Represents after (with_request st p c (items_of is)) → Answers after (Made n) (effect st (Ask p c is))
unfolding effect made
made-request st p c is n h rep = record { answer = ap Made h; words = rep }

pub ask-records : (st : State) (p c : ℕ) (is : List Item) → (effect st (Ask p c is)).after.processes ≡ st.processes
unfolding effect made with_request
ask-records st p c is = refl

module _ (st : State) (p e : ℕ) where
  pub hold-records : (effect st (Hold p e)).after.processes ≡ st.processes
  unfolding effect made with_held with_new_rows
  hold-records = refl

  pub register-records : (effect st (Register p e)).after.processes ≡ st.processes
  unfolding effect made with_registered with_new_rows
  register-records = refl

  pub port-records : (effect st (Port p e)).after.processes ≡ st.processes
  unfolding effect made with_port with_new_rows
  port-records = refl

-- the manager of an operation row is a process
pub manager-few : (st : State) → sound st ≡ true → (e i : ℕ) → row_slot st.rows e ≡ suc i → is_operation (row_of st.rows e).kind ≡ true → (row_of st.rows e).object ≤ 64
manager-few st sd e i at k =
    let so = sound-open st sd in
    let r = row_of st.rows e in
    (listed-range st so.placed r.object (manager-listed st.processes r (row-object st so.rows e (row-found st.rows e i at).0) k)).1

-- ---- calls that close
module _ {after : List ℕ} (st : State) (p e : ℕ) (r : List Process) where
  pub closed-port : Represents after (close_port e st) × (r ≡ (close_port e st).processes) → Agrees after r Done (effect st (Close p e))
  unfolding effect done
  closed-port h = record { answer = refl; words = h.0; records = h.1 }

  pub dropped-row : Represents after (drop_row e st) × (r ≡ (drop_row e st).processes) → Agrees after r Done (effect st (Drop p e))
  unfolding effect done
  dropped-row h = record { answer = refl; words = h.0; records = h.1 }

  pub revoked : Represents after (close_request e st) × (r ≡ (close_request e st).processes) → Agrees after r Done (effect st (Revoke p e))
  unfolding effect done
  revoked h = record { answer = refl; words = h.0; records = h.1 }

  -- the request that the server sees at its end e
  pub answered-request : (served : Bool) (q : ℕ) → q ≡ (asked_of st e).number → Represents after (close_request q st) × (r ≡ (close_request q st).processes)
      → Agrees after r Done (effect st (Call.Answer p e served))
  unfolding effect done
  answered-request served q same h =
      let h' = subst (λ (n : ℕ). Represents after (close_request n st) × (r ≡ (close_request n st).processes)) same h in
      record { answer = refl; words = h'.0; records = h'.1 }

-- ---- fetch, comes, chain and comesall
pub fetched-request : {after : List ℕ} (st : State) (p e : ℕ) (v : Request) → v ≡ asked_of st e → Represents after (handed_over p (asked_of st e) st)
    → Answers after (Fetched v.number v.items) (effect st (Fetch p e))
unfolding effect fetched_answer
fetched-request st p e v same rep = record { answer = ap fetched_answer same; words = rep }

pub fetch-records : (st : State) (p e : ℕ) → (effect st (Fetch p e)).after.processes ≡ st.processes
unfolding effect handed_over
fetch-records st p e = refl

pub told-comes : {t : List ℕ} (st : State) (e q : ℕ) (b : Bool) {ps : List Process} → Represents t st → st.processes ≡ ps → b ≡ comes_from st.rows q e
    → Agrees t ps (Told b) (effect st (Comes e q))
unfolding effect
told-comes st e q b rep same h = record { answer = ap Told h; words = rep; records = sym same }

pub told-chain : {t : List ℕ} (st : State) (e : ℕ) (r : Answer) {ps : List Process} → Represents t st → st.processes ≡ ps → r ≡ chained_answer (first_chain st.rows e)
    → Agrees t ps r (effect st (Chain e))
unfolding effect
told-chain st e r rep same h = record { answer = h; words = rep; records = sym same }

pub told-pairs : {t : List ℕ} (st : State) (es qs : Sixteen) (s : Sixteen) {ps : List Process} → Represents t st → st.processes ≡ ps
    → s ≡ sixteen_from (told_each st (all_of es) (all_of qs)) → Agrees t ps (ToldAll s) (effect st (ComesAll es qs))
unfolding effect
told-pairs st es qs s rep same h = record { answer = ap ToldAll h; words = rep; records = sym same }
