-- `answers::write_answer` meets its contract.
use native.Mathlib.Omega.{arith}
use mathlib.Core.Path.{refl, sym, ◌∙◌}
use Rattle.text.proofs.HandedOut.{reply-fits, text-handed}
use Rattle.joining.specs.vocabulary.Answers.{refusal_text}
use Rattle.joining.proofs.PrintedTexts.{refusal-short, same-refusal, no-refusal}
use Rattle.joining.proofs.answers.write_answer.Goals as goal

pub write_slots-requires : goal.write_slots-requires
write_slots-requires c = c.requires.0 c.in-Ok.is

pub returns-in-Ok : goal.returns-in-Ok
returns-in-Ok c =
    let room = c.requires.1 in
    let w = c.write_slots.ensures in
    record { joined = λ _. w; refused = λ e is. no-refusal e (sym c.in-Ok.is ∙ is); on = λ small. w.some small room; within = w.within }

pub hand_out-printed-requires : goal.hand_out-printed-requires
hand_out-printed-requires c =
    let e = c.in-Err.refusal in
    let room = c.requires.1 in
    (reply-fits (refusal_text e) _ (refusal-short e) c.refusal_text.ensures, room)

pub returns-in-Err : goal.returns-in-Err
returns-in-Err c =
    let e = c.in-Err.refusal in
    let room = c.requires.1 in
    let short = refusal-short e in
    let put = text-handed (refusal_text e) _ short c.refusal_text.ensures _ _ _ c.hand_out-printed.ensures in
    record { joined = λ none. no-refusal e (sym none ∙ c.in-Err.is); refused = λ f is. rw (same-refusal f e (sym is ∙ c.in-Err.is)) (refl, put); on = λ small. small; within = omega (arith, put.0, room, short) }
