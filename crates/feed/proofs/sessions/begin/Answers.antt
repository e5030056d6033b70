-- `sessions::begin` meets its contract: nothing is kept.
use mathlib.Core.Path.{refl}
use Rattle.feed.proofs.Parts.{begin-ready}
use Rattle.feed.proofs.sessions.begin.Goals as goal

pub returns : goal.returns
returns c = begin-ready _ refl
