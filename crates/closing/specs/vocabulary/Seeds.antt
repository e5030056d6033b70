-- What a closing starts from, as the code names it.
use Rattle.std.specs.Prelude.{ℕ, Bool, List, [], ◌∷◌}
use Rattle.rows.specs.declared.Row.{Row}
use Rattle.rows.specs.Tables.{State, bears}
use Rattle.closing.specs.declared.Seed.{Seed}
use Rattle.closing.specs.declared.Seed.TheVariants.{Bearing, EndsOf, Only}
use Rattle.closing.specs.Closing.{closing, is_end_of, is_row}

-- the row is a seed
unfoldable pub seed_of : Seed → Row → Bool
seed_of (Bearing q) = bears q
seed_of (EndsOf c) = is_end_of c
seed_of (Only e) = is_row e

-- the requests that close whatever happens to their port
unfoldable pub closes_of : Seed → List ℕ
closes_of (Bearing q) = q ∷ []
closes_of (EndsOf c) = []
closes_of (Only e) = []

-- the closing from its seeds
unfoldable pub closing_from : Seed → State → State
closing_from s st = closing (seed_of s) (closes_of s) st
