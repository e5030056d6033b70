-- `answers::join_texts` meets its contract: both texts are read to their end, and what is printed has room.
use native.Mathlib.Omega.{arith}
use mathlib.Core.Path.{refl, sym, ◌∙◌}
use Rattle.joining.specs.Feeding.{begun}
use Rattle.joining.proofs.FedTexts.{begun-held, text-joined}
use Rattle.joining.proofs.PrintedTexts.{ended-accepted, puts-as, answer-put}
use Rattle.joining.proofs.answers.join_texts.Goals as goal

pub feed-fed-requires : goal.feed-fed-requires
feed-fed-requires c = record { texts = begun; holds = begun-held _ _ _ _ c.begin-j.ensures; long = refl }

pub finish-v-requires : goal.finish-v-requires
finish-v-requires c = let k = c.feed-fed.ensures.ready in record { progress = k.texts.progress; holds = k.holds.progress }

pub write_answer-written-requires : goal.write_answer-written-requires
write_answer-written-requires c =
    let k = c.feed-fed.ensures.ready in
    let p = k.texts.progress in
    let is = c.finish-v.ensures p k.holds.progress in
    let room = c.requires in
    (λ none. ended-accepted _ _ _ p k.holds.progress (sym none ∙ is), omega arith)

pub returns : goal.returns
returns c =
    let room = c.requires in
    let k = c.feed-fed.ensures in
    let h = k.fed begun (begun-held _ _ _ _ c.begin-j.ensures) in
    let is = c.finish-v.ensures _ h.progress in
    let w = c.write_answer-written.ensures in
    puts-as _ _ (text-joined _ _ _ _ k.reads h.progress) _ _ _ (answer-put _ _ _ _ _ _ room _ h.progress _ is w)
