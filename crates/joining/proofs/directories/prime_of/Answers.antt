-- `directories::prime_of` meets its contract: by the word of the process; no process out of range has one.
use native.Mathlib.Omega.{arith}
use Rattle.joining.proofs.HeldForms.{prime-beyond}
use Rattle.joining.proofs.directories.prime_of.Goals as goal

pub returns-then-p-gt-LAST_PROCESS : goal.returns-then-p-gt-LAST_PROCESS
returns-then-p-gt-LAST_PROCESS c = let a = c.args in λ fs h. prime-beyond a.words.now fs h a.p (omega arith)

pub returns : goal.returns
returns c = λ fs h. h.prime c.args.p (omega arith)
