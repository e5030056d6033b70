-- The laws of effects for an accepted call: what it touches, how rows move, which rows are new.
use Rattle.rows.specs.Tables.{State}
use Rattle.tables.proofs.Sound.{Sound, sound-open}
use Rattle.calls.specs.declared.Call.{Call}
use Rattle.history.proofs.KeptCalls.{effect-kept}
use Rattle.security.specs.Sessions.{Step, EveryStep}
use Rattle.security.specs.Changes.{Touches}
use Rattle.security.specs.Authority.{Moves}
use Rattle.security.proofs.Sessions.{step-has}
use Rattle.security.proofs.Effects.{Effect, effect_of}
use Rattle.security.proofs.Touches.{touches}
use Rattle.security.proofs.Moves.{moves_of}

module _ (st st' : State) (c : Call) (s : Sound st) (k : Step st c st') where
  pub step-effect : Effect st c st'
  step-effect = step-has (Effect st c) st st' c s (effect_of st s c) k

  pub step-sound : Sound st'
  step-sound = step-has Sound st st' c s (effect-kept st s c) k

  pub step-touches : Touches st c st'
  step-touches = touches st s c st' step-effect

  pub step-moves : Moves st c st'
  step-moves = moves_of st s c st' step-effect

-- ==== what a call touches; authority moves only by the rules
pub every-touches : EveryStep Touches
every-touches st st' c s k = step-touches st st' c (sound-open st s) k

pub every-moves : EveryStep Moves
every-moves st st' c s k = step-moves st st' c (sound-open st s) k
