-- Every promise of two texts that are joined.
use Prim.Native.Nat.{ℕ}
use native.Mathlib.Omega.{arith}
use mathlib.Core.Bool.{Bool, true, false, cond}
use mathlib.Core.List.{List, [], reverse}
use mathlib.Core.Path.{◌≡◌, refl, sym, ap, subst, ◌∙◌}
use lib.Dec.{eqb}
use borrow.Author.Tests.{eqb-true, eq-eqb}
use Rattle.rows.specs.Lists.{any}
use Rattle.rows.specs.Tables.{empty}
use Rattle.rows.specs.Layout.{right_lengths}
use Rattle.tables.proofs.Words.{state-words}
use Rattle.text.specs.Opening.{Form, FirstPass, read_to, stopped_by, opens, lines_of, first_pass, opening_of, opened_from}
use Rattle.text.specs.Entry.{Replied, open_entry, opened_by, state_opened, reply_with}
use Rattle.text.proofs.Opening.{opened-opening, opened-sound}
use Rattle.text.proofs.OpeningForms.{opening-good, read-passed}
use Rattle.history.specs.Reading.{accepts}
use Rattle.history.specs.Demand3.{Demand3, state_in}
use Rattle.history.specs.Promises.{Accepted}
use Rattle.history.proofs.Answered.{read-ok0}
use Rattle.history.proofs.Demand3.{demand3}
use Rattle.history.proofs.Kept.{kept}
use Rattle.joining.specs.Joins.{same_entry, entries_joined, forms_joined, join_refusal, joins, refused_both, joined_by, after_second, after_first, join_of}
use Rattle.joining.specs.Written.{text_of, join_text, join}
use Rattle.joining.specs.Opened.{entries_at, times}
use Rattle.joining.specs.Promises.{TwoTexts, JoinsTwo, starts_in, Joined as JoinedState, Follows, JoinPromises}
use Rattle.joining.proofs.JoinedForms.{entries-turned, prime-turned}
use Rattle.joining.proofs.TextBack.{joined-opens}
use Rattle.joining.proofs.OpenedRows.{entries-opened, process-opened}
use Rattle.joining.proofs.OpenedTimes.{joined-times, joined-either}
use Rattle.joining.proofs.WithItself.{joined-itself}

-- ---- what is joined is two texts
join-printed : (input : List ℕ) (js : List Form) → join_of (lines_of input) ≡ joins js → join input ≡ text_of js
unfolding join join_text
join-printed input js e = ap join_text e

by_both : (fs gs js : List Form) → joined_by fs gs ≡ joins js → (join_refusal fs gs ≡ 0) × (js ≡ forms_joined fs gs)
unfolding joined_by
by_both fs gs js e = pick (eqb (join_refusal fs gs) 0) refl e
  where
    pick : (b : Bool) → eqb (join_refusal fs gs) 0 ≡ b → cond b (joins (forms_joined fs gs)) (refused_both (join_refusal fs gs)) ≡ joins js
        → (join_refusal fs gs ≡ 0) × (js ≡ forms_joined fs gs)
    pick true q r = (eqb-true (join_refusal fs gs) 0 q, let same : forms_joined fs gs ≡ js = cc in sym same)
    pick false q r = absurd (let z : ◌≡◌ {A = ℕ} 0 1 = cc in omega arith)

module _ (input : List ℕ) (js : List Form) (printed : join input ≡ text_of js) where
  by-second : (fs : List Form) (second : List (List ℕ)) → first_pass [] 1 (lines_of input) ≡ read_to fs second → (x : FirstPass) → first_pass [] 1 second ≡ x
      → after_second fs x ≡ joins js → JoinsTwo input js
  unfolding after_second
  by-second fs second first_read (stopped_by k n) q e = absurd (let z : ◌≡◌ {A = ℕ} 0 1 = cc in omega arith)
  by-second fs second first_read (read_to gs rest) q e =
      let k = by_both fs gs js e in
      record {
        first = fs;
        second = gs;
        texts = record { second = second; rest = rest; first_read = first_read; second-read = q; accepted = k.0 };
        forms = k.1;
        printed = printed;
      }

  by_first : (x : FirstPass) → first_pass [] 1 (lines_of input) ≡ x → after_first x ≡ joins js → JoinsTwo input js
  unfolding after_first
  by_first (stopped_by k n) q e = absurd (let z : ◌≡◌ {A = ℕ} 0 1 = cc in omega arith)
  by_first (read_to fs second) q e = by-second fs second q (first_pass [] 1 second) refl e

two-texts : (input : List ℕ) (js : List Form) → join_of (lines_of input) ≡ joins js → JoinsTwo input js
unfolding join_of
two-texts input js e = by_first input js (join-printed input js e) (first_pass [] 1 (lines_of input)) refl e

-- ---- and back: two texts are joined
module _ (input : List ℕ) (fs gs : List Form) (texts : TwoTexts input fs gs) where
  both-joined : join_of (lines_of input) ≡ joins (forms_joined fs gs)
  unfolding join_of after_first after_second joined_by
  both-joined = ap after_first texts.first_read ∙ ap (after_second fs) texts.second-read ∙ rw (eq-eqb (join_refusal fs gs) 0 texts.accepted) refl

  text-opens : opening_of (lines_of (join input)) ≡ opens (reverse (forms_joined fs gs)) []
  text-opens =
      ap (λ (l : List ℕ). opening_of (lines_of l)) (join-printed input (forms_joined fs gs) both-joined)
      ∙ joined-opens fs gs (read-passed _ _ fs texts.first_read) (read-passed _ _ gs texts.second-read) texts.accepted

  -- ---- the state
  pub state-joined : JoinedState fs gs (state_opened (reverse (forms_joined fs gs)))
  unfolding state_opened
  state-joined =
      let pf = read-passed _ _ fs texts.first_read in
      let pg = read-passed _ _ gs texts.second-read in
      let hs = reverse (forms_joined fs gs) in
      let good = opening-good (lines_of (join input)) [] hs text-opens in
      let entries : (n : ℕ) → entries_at (opened_from empty hs) n ≡ entries_joined fs gs n = λ n. entries-opened hs good.passed n ∙ entries-turned fs gs pf pg n in
      record {
        rows = opened-opening hs good;
        entries = entries;
        as-often = λ n e. ap (times e) (entries n) ∙ joined-times fs gs n e;
        of_either = λ n e. ap (any (same_entry e)) (entries n) ∙ joined-either fs gs n e;
        process = λ p. process-opened hs good.passed p ∙ ap starts_in (prime-turned fs gs pf pg p);
      }

  -- ---- on words of the right lengths
  module _ (t p : List ℕ) (fits : right_lengths t p ≡ true) where
    replied : open_entry t p (join input) ≡ opened_by (opens (reverse (forms_joined fs gs)) [])
    unfolding open_entry
    replied = rw fits (ap opened_by text-opens)

    accepted : Accepted t p (join input)
    unfolding opened_by reply_with
    accepted = ap (λ (r : Replied). accepts r.reply) replied ∙ read-ok0

    state-there : state_in (open_entry t p (join input)) ≡ state_opened (reverse (forms_joined fs gs))
    unfolding opened_by reply_with state_in
    state-there = ap state_in replied ∙ state-words (state_opened (reverse (forms_joined fs gs))) (opened-sound (lines_of (join input)) [] (reverse (forms_joined fs gs)) text-opens)

    tables-joined : JoinedState fs gs (state_in (open_entry t p (join input)))
    tables-joined = subst (JoinedState fs gs) (sym state-there) state-joined

    follows : (lines : List (List ℕ)) → Follows t p (join input) lines
    unfolding Demand3
    follows lines =
        let all = demand3 t p (join input) accepted lines in
        record { sound = kept.session-sound t p (join input) accepted lines; holds = all.0; revoked = all.1 }

pub join-promises : JoinPromises
join-promises =
    record {
      two-texts = two-texts;
      opens-so = λ input js e. let k = two-texts input js e in text-opens input k.first k.second k.texts ∙ ap (λ (fs : List Form). opens (reverse fs) []) (sym k.forms);
      state-joined = state-joined;
      tables-joined = tables-joined;
      with_itself = joined-itself;
      accepted = λ input js e. let k = two-texts input js e in accepted input k.first k.second k.texts;
      follows = λ input js e. let k = two-texts input js e in follows input k.first k.second k.texts;
    }
