-- `kept_lines::keep_byte` meets its contract: a full line stays, another has the byte at its end.
use native.Mathlib.Omega.{arith}
use Rattle.text.proofs.KeptLines.{kept_full, kept_more}
use Rattle.text.proofs.kept_lines.keep_byte.Goals as goal

pub returns-then-n-eq-KEPT_LINE : goal.returns-then-n-eq-KEPT_LINE
returns-then-n-eq-KEPT_LINE c = let a = c.args in record { kept = kept_full a.line.now a.n a.b c.if-n-eq-KEPT_LINE.true (omega arith); within = omega arith }

pub returns : goal.returns
returns c = let a = c.args in record { kept = kept_more a.line.now a.n a.b (omega arith) (omega arith); within = omega arith }
