-- What `comes` answers, by the history: which pairs are answered, and whether the row comes from the request (rule P33).
use Prim.Native.Nat.{ℕ, ◌<◌, ◌≤◌}
use native.Mathlib.Omega.{arith}
use mathlib.Core.Bool.{Bool, true, false, not, ◌&&◌}
use mathlib.Core.List.{List, [], ◌∷◌, map, map-map}
use mathlib.Core.Path.{◌≡◌, refl, sym, ap, subst, ◌∙◌}
use mathlib.Core.Logic.{◌↔◌}
use lib.Dec.{eqb}
use borrow.Author.Tests.{ne_eqb}
use Rattle.rows.specs.Lists.{all, member, some}
use Rattle.rows.specs.Limits.{greatest_number}
use Rattle.rows.specs.Tables.{State, row_of, no_request, request_of, numbers, marked, bears, comes_from}
use Rattle.rows.specs.Sound.{rows_rise}
use Rattle.rows.proofs.Bools.{clash, false_of, and_l, and_r, and_i, not_t, not_f, pos-some}
use Rattle.rows.proofs.Agree.{keys_kept}
use Rattle.rows.proofs.Keyed.{first_key, first-there}
use Rattle.tables.proofs.Sound.{Sound}
use Rattle.tables.proofs.SoundFacts.{row_number, row_below}
use Rattle.tables.proofs.Marking.{marked-reaches}
use Rattle.closing.specs.Closing.{closes, closing, close_request}
use Rattle.closing.proofs.Lookups.{left-keys}
use Rattle.calls.specs.declared.Call.{Call}
use Rattle.calls.specs.declared.Answer.TheVariants.{Told}
use Rattle.calls.specs.Answers.{refusal_of, values_of}
use Rattle.calls.specs.Rules.{lowest, judge}
use Rattle.calls.specs.Calls.{refusals, refusals_comes, effect, perform, caller_of}
use Rattle.text.specs.declared.Reading.TheVariants.{Asks}
use Rattle.text.specs.CallLines.{reading_of}
use Rattle.text.specs.Answers.{printed}
use Rattle.text.specs.ReadBack.{Answered, answered_by, saying, value_in_range, answer_in_range}
use Rattle.text.specs.Entry.{Replied, caller_unlisted, answered, call_entry, open_entry}
use Rattle.text.proofs.AnswersBack.{answer-read}
use Rattle.history.specs.History.{History}
use Rattle.history.specs.Notes.{no_loan, loan_of, is_closed, open_loans, stands, note_revoke}
use Rattle.history.specs.Chains.{AskedOver, Stands, ComesFrom}
use Rattle.history.specs.Reading.{begun, accepts}
use Rattle.history.specs.ComesTold.{IsOpen, RightOf, from, not_from}
use Rattle.history.specs.Promises.{Accepted, after_lines, told_by, after_line}
use Rattle.history.proofs.Inv.{Inv, of_request, of_loan, first_value}
use Rattle.history.proofs.Find.{in-tables, row-stands}
use Rattle.history.proofs.Standing.{stands-chains, request-closed}
use Rattle.history.proofs.Comes.{revoke-takes}
use Rattle.history.proofs.StepClose.{found-there, request-range, revoked-inv}
use Rattle.history.proofs.FirstChains.{row-found-there}
use Rattle.history.proofs.Allowed.{Allowed}
use Rattle.history.proofs.Answered.{read-accepted}
use Rattle.history.proofs.Demand3.{Along, along-lines, along-opening, answered-as, taken_as}

pub told-in-range : (b : Bool) → answer_in_range (Told b) ≡ true
unfolding answer_in_range refusal_of values_of value_in_range all greatest_number
told-in-range true = refl
told-in-range false = refl

first-low : (b : Bool) → first_value (values_of (Told b)) ≤ greatest_number
unfolding first_value values_of greatest_number
first-low true = omega arith
first-low false = omega arith

module _ (h : History) (st : State) (i : Inv h st) (s : Sound st) where
  -- ---- open requests, in the tables and by the notes
  abbrev is_request : ℕ → Bool
  is_request q = member q (map (λ v. v.number) st.requests)

  requests-noted : (q : ℕ) → is_request q ≡ member q (map (λ v. v.number) h.requests) && not (is_closed h (loan_of h.requests q))
  unfolding of_request of_loan open_loans loan_of
  requests-noted q =
      ap (member q)
      (sym (map-map (λ o. o.number) of_request st.requests) ∙ ap (map (λ o. o.number)) i.requests ∙ map-map (λ o. o.number) of_loan (open_loans h))
      ∙ keys_kept (λ v. v.number) no_loan (λ v. not (is_closed h v)) h.requests i.fit.requests-rise q

  open-noted : (q : ℕ) → 0 < q → is_request q ≡ true → IsOpen h q
  unfolding loan_of
  open-noted q lo t =
      let both = sym (requests-noted q) ∙ t in
      let v = loan_of h.requests q in
      let asked : AskedOver h q v.port = record {
        is_number = lo;
        request = first_key (λ v. v.number) no_loan h.requests q (and_l (member q (map (λ v. v.number) h.requests)) _ both);
        port = refl;
      } in
      record {
        port = v.port;
        asked = asked;
        not_closed = λ g. clash ((request-closed h i.fit q v.port asked).1 g) (not_t (is_closed h v) (and_r (member q (map (λ v. v.number) h.requests)) _ both));
      }

  noted-open : (q : ℕ) → IsOpen h q → is_request q ≡ true
  unfolding loan_of no_loan
  noted-open q o =
      let there = first-there (λ v. v.number) no_loan (λ v. some v.number) (unfold some in refl) h.requests q (ap some o.asked.request ∙ pos-some q o.asked.is_number) in
      requests-noted q
      ∙ and_i (member q (map (λ v. v.number) h.requests)) _ there (ap not (false_of _ (λ c. o.not_closed ((request-closed h i.fit q o.port o.asked).0 c))))

  -- ---- comes from, in the tables and by the notes
  module _ (e q : ℕ) (row : member e (numbers st.rows) ≡ true) (lo : 0 < q) (hi : q < st.next) where
    left-by-revoke : stands (note_revoke q h) e ≡ not (comes_from st.rows q e)
    unfolding comes_from close_request closing rows_rise
    left-by-revoke =
        let g = marked (bears q) st.rows in
        sym (in-tables (note_revoke q h) (close_request q st) (revoked-inv h st i s q lo hi) e)
        ∙ left-keys g (closes (q ∷ []) g) st e
        ∙ ap (λ b. b && not (member e g)) row
        ∙ ap not (marked-reaches (bears q) st.rows s.numbers.rows-rise e)

    pub comes-noted : (comes_from st.rows q e ≡ true) ↔ ComesFrom h q e
    comes-noted =
        let takes = revoke-takes h i.fit q e lo (row-stands h st i e row) in
        (λ t. takes.0 (left-by-revoke ∙ ap not t), λ c. not_f _ (sym left-by-revoke ∙ takes.1 c))

-- ---- on words: a line `(comes e q)` after any lines
module _ (h : History) (w : Replied) (a : Along h w) (line : List ℕ) (e q : ℕ) (r : reading_of line ≡ Asks (Call.Comes e q)) where
  abbrev st : State
  st = a.st

  abbrev reply : List ℕ
  reply = (call_entry w.tables w.processes line).reply

  abbrev told : Bool
  told = comes_from st.rows q e

  -- accepted, it answers whether the row comes from the request
  module _ (acc : accepts reply ≡ true) where
    row-there : member e (numbers st.rows) ≡ true
    unfolding Allowed
    row-there = row-found-there st e (taken_as h w a line (Call.Comes e q) r acc).allows.row

    asked : eqb (request_of st.requests q).number 0 ≡ false
    unfolding Allowed
    asked = (taken_as h w a line (Call.Comes e q) r acc).allows.asked

    range : (0 < q) × (q < st.next)
    range = request-range st a.sound q asked

    replied : reply ≡ printed (Told told)
    unfolding effect
    replied = answered-as h w a line (Call.Comes e q) r ∙ ap (λ o. printed o.answer) (taken_as h w a line (Call.Comes e q) r acc).is

    reply-values : (answered_by reply).values ≡ values_of (Told told)
    unfolding saying
    reply-values = ap (λ (x : List ℕ). (answered_by x).values) replied ∙ ap (λ (x : Answered). x.values) (answer-read (Told told) (told-in-range told))

    pub reply-right : RightOf h q e (answered_by reply).values
    reply-right = subst (RightOf h q e) (sym reply-values) (pick told refl)
      where
        noted : (told ≡ true) ↔ ComesFrom h q e
        noted = comes-noted h st a.inv a.sound e q row-there range.0 range.1

        pick : (b : Bool) → told ≡ b → RightOf h q e (values_of (Told b))
        pick true t = unfold values_of in from (noted.0 t)
        pick false t = unfold values_of in not_from (λ c. clash (noted.1 c) t)

    pub reply-stands : Stands h e × IsOpen h q
    unfolding request_of
    reply-stands = (
      (stands-chains h a.inv.fit e).0 (row-stands h st a.inv e row-there),
      open-noted h st a.inv a.sound q range.0 (found-there st a.sound (λ v. v.number) q asked),
    )

  -- of a row that stands and a request that is open it is accepted
  pub reply-accepts : Stands h e → IsOpen h q → accepts reply ≡ true
  unfolding request_of
  reply-accepts k o = ap accepts (answered-as h w a line (Call.Comes e q) r ∙ ap printed telling) ∙ (read-accepted (Told told) (unfold refusal_of in refl) (unfold values_of in omega arith) (first-low told)).good
    where
      row : eqb (row_of st.rows e).number 0 ≡ false
      row =
          let t = in-tables h st a.inv e ∙ (stands-chains h a.inv.fit e).1 k in
          ne_eqb (row_of st.rows e).number 0 (λ z. omega (arith, (row_below st a.sound.numbers e t).0, row_number st.rows e t))

      request : eqb (request_of st.requests q).number 0 ≡ false
      request =
          let n = first_key (λ v. v.number) no_request st.requests q (noted-open h st a.inv a.sound q o) in
          ne_eqb (request_of st.requests q).number 0 (λ z. omega (arith, n, o.asked.is_number))

      telling : (answered st (Asks (Call.Comes e q))).answer ≡ Told told
      telling = unfold answered caller_unlisted caller_of some perform judge lowest refusals refusals_comes effect in (rw (row, request) refl)

-- ---- after an accepted opening
module _ (t p text : List ℕ) (ok : Accepted t p text) (lines : List (List ℕ)) (line : List ℕ) (e q : ℕ) (r : reading_of line ≡ Asks (Call.Comes e q)) where
  abbrev w : Replied
  w = after_lines t p text lines

  along : Along (told_by t p text lines) w
  along = along-lines (begun text) (open_entry t p text) (along-opening t p text ok) lines

  pub comes-told : accepts (after_line w line).reply ≡ true → RightOf (told_by t p text lines) q e (answered_by (after_line w line).reply).values
  comes-told = reply-right _ w along line e q r

  pub comes-accepted : (accepts (after_line w line).reply ≡ true) ↔ (Stands (told_by t p text lines) e × IsOpen (told_by t p text lines) q)
  comes-accepted = (reply-stands _ w along line e q r, λ x. reply-accepts _ w along line e q r x.0 x.1)
