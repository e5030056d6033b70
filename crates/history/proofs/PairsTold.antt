-- What `comesall` answers of each pair is what `comes` answers of it, and it changes nothing (rule P32).
use Prim.Native.Nat.{ℕ}
use native.Mathlib.Omega.{arith}
use mathlib.Core.Bool.{Bool, true, false, cond, ◌||◌}
use mathlib.Core.List.{List, [], ◌∷◌, map}
use mathlib.Core.Path.{◌≡◌, refl, sym, ap, ap₂, ◌∙◌}
use lib.Dec.{eqb}
use borrow.Author.Tests.{ne_eqb}
use Rattle.rows.specs.Lists.{all, some}
use Rattle.rows.specs.Limits.{greatest_number}
use Rattle.rows.specs.Tables.{State, row_of, request_of, comes_from}
use Rattle.rows.specs.Layout.{state_of, sound_words}
use Rattle.rows.proofs.Bools.{and_l, and_r, some-pos}
use Rattle.tables.proofs.Words.{words-state}
use Rattle.calls.specs.declared.Sixteen.{Sixteen}
use Rattle.calls.specs.declared.Call.TheVariants.{Comes, ComesAll}
use Rattle.calls.specs.declared.Answer.{Answer}
use Rattle.calls.specs.declared.Answer.TheVariants.{Told, ToldAll, Refused}
use Rattle.calls.specs.Answers.{Value, refusal_of, all_of, told_no, told_yes, not_told, told_value, values_of}
use Rattle.calls.specs.Rules.{lowest, judge, refused}
use Rattle.calls.specs.Calls.{refusals, refusals_comes, told, told_each, sixteen_from, effect, perform, caller_of}
use Rattle.text.specs.declared.Reading.{Reading}
use Rattle.text.specs.declared.Reading.TheVariants.{Asks}
use Rattle.text.specs.CallLines.{is_number, Group, pair_ranged, reading_of}
use Rattle.text.specs.Answers.{ok_text, printed}
use Rattle.text.specs.ReadBack.{pairs_of, comes_text, call_text, InRange, Answered, answered_by, saying, answer_in_range}
use Rattle.text.specs.Entry.{Replied, caller_unlisted, answered, call_on, reply_with, reply_of, call_entry}
use Rattle.text.proofs.Readings.{Good, number-some, reading-good}
use Rattle.text.proofs.CallsBack.{call-read}
use Rattle.text.proofs.AnswersBack.{answer-read}
use Rattle.history.specs.ComesTold.{first_in, comes_told}
use Rattle.history.proofs.PairValues.{pair_values}
use Rattle.history.proofs.Kept.{call-fits}
use Rattle.history.proofs.ComesTold.{told-in-range}

-- ---- one pair
-- what the text of an answer tells first
first_said : (a : Answer) → answer_in_range a ≡ true → first_in (answered_by (printed a)).values ≡ first_in (values_of a)
unfolding saying
first_said a r = ap (λ (x : Answered). first_in x.values) (answer-read a r)

-- the code of what is told of a pair tells what `comes` answers of it
single : (st : State) (e q : ℕ) → some e ≡ true → first_in (answered_by (printed (answered st (Asks (Comes e q))).answer)).values ≡ told_value (told st e q)
unfolding answered caller_unlisted caller_of some perform judge refusals refusals_comes lowest effect told
single st e q h = rw (ne_eqb e 0 (λ z. omega (arith, some-pos e h))) (pick (eqb (row_of st.rows e).number 0 || eqb (request_of st.requests q).number 0) (comes_from st.rows q e))
  where
    pick : (none from : Bool) → first_in (answered_by (printed (cond (eqb (cond none 7 0) 0) (record { answer = Told from; after = st }) (refused st (cond none 7 0))).answer)).values
        ≡ told_value (cond (eqb (cond none 7 0) 0) (cond from told_yes told_no) not_told)
    pick true from = unfold refused in (first_said (Refused 7) (unfold answer_in_range values_of refusal_of all greatest_number in refl) ∙ (unfold values_of first_in told_value told_no told_yes not_told in refl))
    pick false true = first_said (Told true) (told-in-range true) ∙ (unfold values_of first_in told_value told_no told_yes in refl)
    pick false false = first_said (Told false) (told-in-range false) ∙ (unfold values_of first_in told_value told_no told_yes in refl)

-- ---- all pairs
map-all : (f g : Group → Value) (P : Group → Bool) → ((x : Group) → P x ≡ true → f x ≡ g x) → (xs : List Group) → all P xs ≡ true → map f xs ≡ map g xs
unfolding all
map-all f g P e [] a = refl
map-all f g P e (x ∷ xs) a = ap₂ (λ (v : Value) (vs : List Value). v ∷ vs) (e x (and_l (P x) (all P xs) a)) (map-all f g P e xs (and_r (P x) (all P xs) a))

module _ (t p : List ℕ) (so : sound_words t p ≡ true) where
  abbrev st : State
  st = state_of t p

  pair-told : (x : Group) → pair_ranged x ≡ true → told_value (told st x.first x.second) ≡ comes_told t p x
  unfolding comes_told reply_of reply_with call_on pair_ranged call_text InRange
  pair-told x r =
      let e = x.first in
      let q = x.second in
      sym (ap (λ (w : Replied). first_in (answered_by w.reply).values) (call-fits t p (comes_text e q) so)
      ∙ ap (λ (y : Reading). first_in (answered_by (printed (answered st y).answer)).values) (call-read (Comes e q) r)
      ∙ single st e q (number-some e (and_l (is_number e) (is_number q) r)))

  module _ (line : List ℕ) (es qs : Sixteen) (r : reading_of line ≡ Asks (ComesAll es qs)) where
    values-told : map (λ x. told_value (told st x.first x.second)) (pairs_of es qs) ≡ map (comes_told t p) (pairs_of es qs)
    unfolding Good
    values-told = map-all _ (comes_told t p) pair_ranged pair-told (pairs_of es qs) (reading-good line (ComesAll es qs) r).pairs

    replied : call_entry t p line ≡ reply_with (ok_text (values_of (ToldAll (sixteen_from (told_each st (all_of es) (all_of qs)))))) st
    unfolding reply_of call_on answered caller_unlisted caller_of some perform judge lowest refusals effect printed refusal_of
    replied = call-fits t p line so ∙ ap (λ (y : Reading). reply_of (answered st y)) r

    pub comes-all-told : call_entry t p line ≡ record { reply = ok_text (map (comes_told t p) (pairs_of es qs)); tables = t; processes = p }
    unfolding reply_with
    comes-all-told =
        let back = words-state t p so in
        replied ∙ (λ j. record { reply = ok_text ((pair_values st es qs ∙ values-told) j); tables = back.0 j; processes = back.1 j })
