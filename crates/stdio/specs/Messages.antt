-- What a program writes of why a session did not come to its end.
use Rattle.std.specs.Prelude.{ℕ, List, codes}
use Rattle.stdio.specs.declared.Error.{Error}
use Rattle.stdio.specs.declared.Error.TheVariants.{NotRead, NotWritten}

abbrev pub message : Error → List ℕ
message NotRead = codes "the input cannot be read"
message NotWritten = codes "the output cannot be written"
