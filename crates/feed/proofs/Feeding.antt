-- A byte more: what is printed at it, and then, is what is still printed before it; and the words at the end are the same.
use Prim.Native.Nat.{ℕ, ◌≤◌}
use native.Mathlib.Omega.{arith}
use mathlib.Core.Bool.{Bool, true, false, not, cond}
use mathlib.Core.List.{List, [], ◌∷◌, ◌++◌, map, append-nil}
use mathlib.Core.Path.{◌≡◌, refl, sym, ap, subst, ◌∙◌}
use lib.Dec.{eqb}
use lib.ListN.{length}
use borrow.Author.Tests.{eqb-true, eqb-false}
use Rattle.rows.specs.Lists.{all, same_list, bytes}
use Rattle.rows.specs.Layout.{right_lengths}
use Rattle.rows.proofs.LayoutColumns.{list_same}
use Rattle.text.specs.Opening.{Form, Line, last_line, form_line, bad_line, Opening as Verdict, opens, refused_at, lines_of, line_of, form_refusal, opening_of, kept_of_line, cut}
use Rattle.calls.specs.Answers.{num}
use Rattle.text.specs.Answers.{ok_text, no_text}
use Rattle.text.specs.Entry.{Replied, reply_with, call_entry, opened_by, open_entry}
use Rattle.feed.specs.declared.Stage.{Stage}
use Rattle.feed.specs.declared.Stage.TheVariants.{Opening, Calls, Over}
use Rattle.feed.specs.Feeding.{Session, line_start, with_line, Step, silent, stage_after, opened, opening_line, call_line, line_fed, byte_fed, unsaid, finished}
use Rattle.text.proofs.Lines.{plain, plain_byte, line-ends}
use Rattle.text.proofs.KeptLines.{plain-kept, cut_all, cut-length, line-goes-on, KeptLine, line_kept, lines_left}
use Rattle.feed.proofs.Openings.{Waiting, Goes, Stops, with_rest, lines-with, line-goes, last-stops, bad-stops, refused-stops, ends-whole, ends-begun}
use Rattle.feed.proofs.Replies.{saying, saying-last, answers_to, replies_on, opening-fits}

-- ---- a session under way
pub record OpenAt (s : Session) : Type 0 where
  pub fits : right_lengths s.tables s.processes ≡ true
  pub forms : List Form
  pub waiting : Waiting s.text forms

unfoldable pub AtStage : Stage → Session → Type 0
AtStage Opening s = OpenAt s
AtStage Calls s = s.text ≡ []
AtStage Over s = s.text ≡ []

pub record Under (s : Session) : Type 0 where
  pub plain-line : plain s.line ≡ true
  pub short-line : length s.line ≤ kept_of_line
  pub at_stage : AtStage s.stage s

-- what is still printed if y is all that follows, and both runs then
unfoldable pub left : Stage → Session → List ℕ → Replied
left Opening s y = replies_on (opening_of (lines_of s.text ++ map cut (lines_of (s.line ++ y))))
left Calls s y = answers_to s.tables s.processes (map cut (lines_of (s.line ++ y)))
left Over s y = unsaid s

-- x is the step of a session, at the stage g, on the bytes bs
pub record Does (g : Stage) (s : Session) (bs : List ℕ) (x : Step) : Type 0 where
  pub under : Under x.after
  pub prints : (y : List ℕ) → saying x.printed (left x.after.stage x.after y) ≡ left g s (bs ++ y)

-- ---- a byte of a line
module _ (s : Session) (u : Under s) (b : ℕ) (other : not (eqb b 10) ≡ true) where
  line : List ℕ
  line = cut (s.line ++ (b ∷ []))

  same-stage : (g : Stage) → AtStage g s → AtStage g (with_line line s)
  unfolding AtStage
  same-stage Opening o = record { fits = o.fits; forms = o.forms; waiting = o.waiting }
  same-stage Calls o = o
  same-stage Over o = o

  same_left : (g : Stage) (y : List ℕ) → left g (with_line line s) y ≡ left g s (b ∷ y)
  unfolding left unsaid line
  same_left Opening y = ap (λ ls. replies_on (opening_of (lines_of s.text ++ ls))) (line-goes-on s.line y b u.plain-line u.short-line other)
  same_left Calls y = ap (answers_to s.tables s.processes) (line-goes-on s.line y b u.plain-line u.short-line other)
  same_left Over y = refl

  byte-kept : Does s.stage s (b ∷ []) (silent (with_line line s))
  unfolding silent saying line
  byte-kept =
      record {
        under = record { plain-line = plain-kept s.line (b ∷ []) u.plain-line (plain_byte b other); short-line = cut-length (s.line ++ (b ∷ [])); at_stage = same-stage s.stage u.at_stage };
        prints = same_left s.stage;
      }

-- ---- a line has ended
-- what stood of it and the line feed, as they are kept
module _ (s : Session) (u : Under s) where
  ended : List ℕ
  ended = cut (s.line ++ (10 ∷ []))

  kept_line : KeptLine ended
  unfolding ended
  kept_line = line_kept s.line u.plain-line u.short-line

  lines-kept : (y : List ℕ) → map cut (lines_of (s.line ++ (10 ∷ y))) ≡ ended ∷ map cut (lines_of y)
  unfolding ended
  lines-kept y = ap (map cut) (line-ends s.line y u.plain-line)

  call-does : Does Calls s (10 ∷ []) (call_line s ended)
  unfolding call_line left answers_to saying AtStage plain all
  call-does =
      record {
        under = record { plain-line = refl; short-line = omega arith; at_stage = refl };
        prints = λ y. sym (ap (answers_to s.tables s.processes) (lines-kept y));
      }

  over-does : Does Over s (10 ∷ []) (silent (line_start Over [] s.tables s.processes))
  unfolding silent left unsaid saying AtStage plain all
  over-does = record { under = record { plain-line = refl; short-line = omega arith; at_stage = refl }; prints = λ y. refl }

  -- an opening goes on, or is decided
  module _ (o : OpenAt s) where
    lines-all : (y : List ℕ) → lines_of s.text ++ map cut (lines_of (s.line ++ (10 ∷ y))) ≡ lines_of (s.text ++ ended) ++ map cut (lines_of y)
    lines-all y = ap (λ ls. lines_of s.text ++ ls) (lines-kept y) ∙ sym (lines-with s.text o.forms o.waiting ended kept_line (map cut (lines_of y)))

    goes-does : (fs : List Form) → Goes s.text ended fs → Does Opening s (10 ∷ []) (opening_line s ended)
    unfolding opening_line silent left saying AtStage plain all
    goes-does fs k =
        rw k.waits
        (record {
          under = record { plain-line = refl; short-line = omega arith; at_stage = record { fits = o.fits; forms = fs; waiting = k.waiting } };
          prints = λ y. sym (ap (λ ls. replies_on (opening_of ls)) (lines-all y));
        })

    -- by the opening that is decided
    verdict-does : (v : Verdict) → open_entry s.tables s.processes (s.text ++ ended) ≡ opened_by v
        → ((ls : List (List ℕ)) → opening_of (lines_of (s.text ++ ended) ++ ls) ≡ with_rest ls v) → Does Opening s (10 ∷ []) (opened s (s.text ++ ended))
    unfolding opened opened_by reply_with stage_after left unsaid saying with_rest replies_on AtStage plain all no_text ok_text bytes same_list
    verdict-does (opens fs rest) e more =
        rw e
        (rw (list_same (ok_text (num 0 ∷ [])))
        (record {
          under = record { plain-line = refl; short-line = omega arith; at_stage = refl };
          prints = λ y. sym (ap (λ ls. replies_on (opening_of ls)) (lines-all y) ∙ ap replies_on (more (map cut (lines_of y))));
        }))
    verdict-does (refused_at k n) e more =
        rw e
        (record {
          under = record { plain-line = refl; short-line = omega arith; at_stage = refl };
          prints = λ y. saying-last (opened_by (refused_at k n)) ∙ sym (ap (λ ls. replies_on (opening_of ls)) (lines-all y) ∙ ap replies_on (more (map cut (lines_of y))));
        })

    stops-does : Stops s.text ended → Does Opening s (10 ∷ []) (opening_line s ended)
    unfolding opening_line
    stops-does k =
        rw k.decides
        (verdict-does (opening_of (lines_of (s.text ++ ended))) (opening-fits s.tables s.processes (s.text ++ ended) o.fits) k.rest-left)

    opening-does : Does Opening s (10 ∷ []) (opening_line s ended)
    opening-does = pick (line_of ended) refl
      where
        taken : (f : Form) → line_of ended ≡ form_line f → (b : Bool) → eqb (form_refusal o.forms f) 0 ≡ b → Does Opening s (10 ∷ []) (opening_line s ended)
        taken f e true q = goes-does (f ∷ o.forms) (line-goes s.text o.forms o.waiting ended kept_line f e (eqb-true (form_refusal o.forms f) 0 q))
        taken f e false q = stops-does (refused-stops s.text o.forms o.waiting ended kept_line f e (eqb-false (form_refusal o.forms f) 0 q))

        pick : (x : Line) → line_of ended ≡ x → Does Opening s (10 ∷ []) (opening_line s ended)
        pick last_line e = stops-does (last-stops s.text o.forms o.waiting ended kept_line e)
        pick bad_line e = stops-does (bad-stops s.text o.forms o.waiting ended kept_line e)
        pick (form_line f) e = taken f e (eqb (form_refusal o.forms f) 0) refl

  line_does : (g : Stage) → AtStage g s → Does g s (10 ∷ []) (line_fed g s ended)
  unfolding line_fed AtStage
  line_does Opening o = opening-does o
  line_does Calls e = call-does
  line_does Over e = over-does

-- ---- any byte
pub byte-does : (s : Session) (b : ℕ) → Under s → Does s.stage s (b ∷ []) (byte_fed s b)
unfolding byte_fed line ended
byte-does s b u = pick (eqb b 10) refl
  where
    Goal : Bool → ℕ → Type 0
    Goal q c = Does s.stage s (c ∷ []) (cond q (line_fed s.stage s (cut (s.line ++ (c ∷ [])))) (silent (with_line (cut (s.line ++ (c ∷ []))) s)))

    pick : (q : Bool) → eqb b 10 ≡ q → Goal q b
    pick true e = subst (Goal true) (sym (eqb-true b 10 e)) (line_does s u s.stage u.at_stage)
    pick false e = byte-kept s u b (ap not e)

-- ---- the end of the input
-- lines that no line follows
rest-none : (v : Verdict) → v ≡ with_rest [] v → opened_by v ≡ replies_on v
unfolding with_rest replies_on opened_by answers_to
rest-none (opens fs rest) e = sym (ap replies_on e ∙ saying-last (opened_by (opens fs rest)))
rest-none (refused_at k n) e = refl

module _ (s : Session) (u : Under s) where
  -- the line begun, if there is one, is kept whole
  begun-none : (l : List ℕ) → length l ≡ 0 → lines_of l ≡ []
  unfolding lines_of
  begun-none [] e = refl
  begun-none (b ∷ l) e = absurd (omega arith)

  begun-one : (length s.line ≡ 0 → ⊥) → lines_of s.line ≡ s.line ∷ []
  begun-one h = lines_left s.line u.plain-line h

  begun_kept : map cut (lines_of (s.line ++ [])) ≡ lines_of s.line
  begun_kept = ap (λ l. map cut (lines_of l)) (append-nil s.line) ∙ pick (eqb (length s.line) 0) refl
    where
      pick : (q : Bool) → eqb (length s.line) 0 ≡ q → map cut (lines_of s.line) ≡ lines_of s.line
      pick true q = rw (begun-none s.line (eqb-true (length s.line) 0 q))
      pick false q = rw (begun-one (eqb-false (length s.line) 0 q), cut_all s.line u.short-line)

  opening-ends : OpenAt s → finished Opening s ≡ left Opening s []
  unfolding finished left with_rest
  opening-ends o =
      opening-fits s.tables s.processes (s.text ++ s.line) o.fits
      ∙ ap (λ ls. opened_by (opening_of ls)) (o.waiting.joins s.line)
      ∙ rest-none (opening_of (lines_of s.text ++ lines_of s.line)) (pick (eqb (length s.line) 0) refl)
      ∙ sym (ap (λ ls. replies_on (opening_of (lines_of s.text ++ ls))) begun_kept)
    where
      Ends : List (List ℕ) → Type 0
      Ends ls = opening_of ls ≡ with_rest [] (opening_of ls)

      none : Ends (lines_of s.text)
      none = let e = ends-whole s.text o.forms o.waiting in e ∙ sym (ap (with_rest []) e)

      pick : (q : Bool) → eqb (length s.line) 0 ≡ q → Ends (lines_of s.text ++ lines_of s.line)
      pick true q = subst Ends (sym (ap (λ ls. lines_of s.text ++ ls) (begun-none s.line (eqb-true (length s.line) 0 q)) ∙ append-nil (lines_of s.text))) none
      pick false q = subst Ends (ap (λ ls. lines_of s.text ++ ls) (sym (begun-one (eqb-false (length s.line) 0 q)))) (ends-begun s.text o.forms o.waiting s.line)

  calls-end : finished Calls s ≡ left Calls s []
  unfolding finished left unsaid answers_to
  calls-end = pick (eqb (length s.line) 0) refl ∙ sym (ap (answers_to s.tables s.processes) begun_kept)
    where
      pick : (q : Bool) → eqb (length s.line) 0 ≡ q → cond q (unsaid s) (call_entry s.tables s.processes s.line) ≡ answers_to s.tables s.processes (lines_of s.line)
      pick true q = rw (begun-none s.line (eqb-true (length s.line) 0 q))
      pick false q = rw (begun-one (eqb-false (length s.line) 0 q)) (sym (saying-last (call_entry s.tables s.processes s.line)))

  pub end-does : (g : Stage) → AtStage g s → finished g s ≡ left g s []
  unfolding AtStage finished left
  end-does Opening o = opening-ends o
  end-does Calls e = calls-end
  end-does Over e = refl
