-- However the input is cut into parts, what is printed is the session of the whole input, and both runs are those of its end.
use Prim.Native.Nat.{ℕ, ◌≤◌}
use native.Mathlib.Omega.{arith}
use mathlib.Core.Bool.{true, cond}
use mathlib.Core.List.{List, [], ◌∷◌, ◌++◌, append_assoc, append-nil}
use mathlib.Core.Path.{◌≡◌, refl, sym, ap, ◌∙◌}
use lib.Dec.{eqb}
use lib.ListN.{length}
use Rattle.rows.specs.Lists.{all}
use Rattle.rows.specs.Layout.{right_lengths}
use Rattle.text.specs.Opening.{lines_of, opening_of}
use Rattle.text.specs.Entry.{Replied, call_entry}
use Rattle.text.specs.Session.{session, session_end}
use Rattle.history.specs.Kept.{joined}
use Rattle.feed.specs.declared.Stage.{Stage}
use Rattle.feed.specs.declared.Stage.TheVariants.{Opening, Calls, Over}
use Rattle.feed.specs.Feeding.{Session, begun, Step, silent, followed, byte_fed, fed, parts_fed, unsaid, finished, ended_on, printed_on}
use Rattle.feed.specs.Prints.{most_text, Leaves, Prints}
use Rattle.text.proofs.Lines.{plain}
use Rattle.feed.proofs.Openings.{waiting-starts, waiting-short}
use Rattle.feed.proofs.Replies.{saying, replies_on, replies-session, replies-end, replies-cut}
use Rattle.feed.proofs.Feeding.{AtStage, Under, left, Does, byte-does, end-does}

-- ---- steps one after the other
silent-does : (s : Session) → Under s → Does s.stage s [] (silent s)
unfolding silent saying
silent-does s u = record { under = u; prints = λ y. refl }

said-twice : (a b : List ℕ) (w : Replied) → saying (a ++ b) w ≡ saying a (saying b w)
unfolding saying
said-twice a b w = λ j. record { reply = append_assoc a b w.reply j; tables = w.tables; processes = w.processes }

followed-does : (s : Session) (bs cs : List ℕ) (x y : Step) → Does s.stage s bs x → Does x.after.stage x.after cs y → Does s.stage s (bs ++ cs) (followed x y)
unfolding followed saying
followed-does s bs cs x y a b =
    record {
      under = b.under;
      prints = λ z. said-twice x.printed y.printed (left y.after.stage y.after z) ∙ ap (saying x.printed) (b.prints z) ∙ a.prints (cs ++ z)
          ∙ ap (left s.stage s) (sym (append_assoc bs cs z));
    }

fed-does : (bs : List ℕ) (s : Session) → Under s → Does s.stage s bs (fed s bs)
unfolding fed
fed-does [] s u = silent-does s u
fed-does (b ∷ bs) s u =
    let x = byte_fed s b in
    let d = byte-does s b u in
    followed-does s (b ∷ []) bs x (fed x.after bs) d (fed-does bs x.after d.under)

parts-do : (parts : List (List ℕ)) (s : Session) → Under s → Does s.stage s (joined parts) (parts_fed s parts)
unfolding parts_fed joined
parts-do [] s u = silent-does s u
parts-do (part ∷ parts) s u =
    let x = fed s part in
    let d = fed-does part s u in
    followed-does s part (joined parts) x (parts_fed x.after parts) d (parts-do parts x.after d.under)

-- ---- a session from its beginning
module _ (t p : List ℕ) (fits : right_lengths t p ≡ true) where
  under-begun : Under (begun t p)
  unfolding begun AtStage plain all
  under-begun = record { plain-line = refl; short-line = omega arith; at_stage = record { fits = fits; forms = []; waiting = waiting-starts } }

  module _ (parts : List (List ℕ)) where
    x : Step
    x = parts_fed (begun t p) parts

    does : Does Opening (begun t p) (joined parts) x
    unfolding x begun
    does = parts-do parts (begun t p) under-begun

    -- all that is said and left is what the entry points reply and leave
    all_said : saying x.printed (ended_on t p parts) ≡ replies_on (opening_of (lines_of (joined parts)))
    unfolding ended_on x left lines_of begun
    all_said =
        ap (saying x.printed) (end-does x.after does.under x.after.stage does.under.at_stage) ∙ does.prints []
        ∙ ap (left Opening (begun t p)) (append-nil (joined parts)) ∙ replies-cut (lines_of (joined parts))

    prints-whole : printed_on t p parts ≡ session (joined parts)
    unfolding printed_on x saying
    prints-whole = ap (λ w. w.reply) all_said ∙ replies-session t p fits (joined parts)

    ends_there : Leaves (ended_on t p parts) (session_end (joined parts))
    unfolding saying
    ends_there = let e = replies-end (joined parts) in (ap (λ w. w.tables) all_said ∙ e.0, ap (λ w. w.processes) all_said ∙ e.1)

    -- at the start of a line nothing is left to print at the end
    prompt : (x.after.stage ≡ Opening → ⊥) → x.after.line ≡ [] → x.printed ≡ session (joined parts)
    unfolding x printed_on ended_on finished unsaid
    prompt answered none = sym (append-nil x.printed) ∙ ap (λ r. x.printed ++ r) (sym (nothing_left x.after.stage answered)) ∙ prints-whole
      where
        call-left : List ℕ → List ℕ
        call-left l = (cond (eqb (length l) 0) (unsaid x.after) (call_entry x.after.tables x.after.processes l)).reply

        nothing_left : (g : Stage) → (g ≡ Opening → ⊥) → (finished g x.after).reply ≡ []
        nothing_left Opening h = absurd (h refl)
        nothing_left Calls h = ap call-left none
        nothing_left Over h = refl

    text-kept : length x.after.text ≤ most_text
    unfolding x AtStage
    text-kept = pick x.after.stage does.under.at_stage
      where
        none : x.after.text ≡ [] → length x.after.text ≤ most_text
        none e = let n = ap length e in omega arith

        pick : (g : Stage) → AtStage g x.after → length x.after.text ≤ most_text
        pick Opening o = waiting-short x.after.text o.forms o.waiting
        pick Calls e = none e
        pick Over e = none e

pub prints : Prints
unfolding x
prints =
    record {
      whole = prints-whole;
      ends = ends_there;
      reads = λ t p fits parts. record {
        prompt = prompt t p fits parts;
        text-kept = text-kept t p fits parts;
        line_kept = (does t p fits parts).under.short-line;
      };
    }
