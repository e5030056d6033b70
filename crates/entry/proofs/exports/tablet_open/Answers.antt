-- `exports::tablet_open` meets its contract: the entry point's reply handed out, or nothing touched where the reply has no room.
use native.Mathlib.Omega.{arith}
use mathlib.Core.Path.{refl}
use Rattle.text.proofs.HandedOut.{reply-fits}
use Rattle.text.proofs.ShortReplies.{open-short}
use Rattle.entry.proofs.Handed.{given}
use Rattle.entry.proofs.exports.tablet_open.Goals as goal

pub returns-then-reply-lt-REPLY : goal.returns-then-reply-lt-REPLY
returns-then-reply-lt-REPLY c = record { answered = λ h. absurd (omega arith); short = λ _. (refl, refl, refl, refl) }

pub hand_out-requires : goal.hand_out-requires
hand_out-requires c =
    let k = c.open-r in (reply-fits _ _ (open-short _ _ _) k.ensures.0, c.if-reply-lt-REPLY.false)

pub returns : goal.returns
returns c =
    let k = c.open-r in
    record {
      answered = λ h. given _ _ (open-short _ _ _) k.ensures.0 _ _ _ _ _ (k.ensures.1, k.ensures.2) c.hand_out.ensures;
      short = λ h. absurd (omega (arith, c.if-reply-lt-REPLY.false));
    }
