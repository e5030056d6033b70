-- `exports::tablet_join` meets its contract: what is printed of both texts, or nothing where it has no room.
use native.Mathlib.Omega.{arith}
use mathlib.Core.Path.{refl}
use Rattle.entry.proofs.exports.tablet_join.Goals as goal

pub returns-then-out-lt-JOINED : goal.returns-then-out-lt-JOINED
returns-then-out-lt-JOINED c = record { joined = λ room. absurd (omega (arith, c.if-out-lt-JOINED.true)); short = λ _. (refl, refl) }

pub returns : goal.returns
returns c = record { joined = λ _. c.join_texts.ensures; short = λ small. absurd (omega (arith, c.if-out-lt-JOINED.false)) }
