-- What contracts say of slots: where a row or a request stands, and what a slot holds.
use Rattle.std.specs.Prelude.{ℕ, zero, suc, ◌<◌, List, [], ◌∷◌, length, ◌==◌, if◌then◌else◌}
use Rattle.rows.specs.declared.Row.{Row}
use Rattle.rows.specs.declared.Request.{Request}
use Rattle.std.specs.Prelude.{Option}
use Rattle.std.specs.Prelude.{Some, None}
use Rattle.rows.specs.Lists.{slot_with}
use Rattle.rows.specs.Setters.{with_sources}
unfoldable pub use Rattle.rows.specs.Layout.{slotted}

-- the slots, plus 1, of the request numbered q and of the newest on port c; 0 for none
unfoldable pub request_slot : List Request → ℕ → ℕ
request_slot vs q = slot_with (λ v. v.number) vs q

unfoldable pub open_slot : List Request → ℕ → ℕ
open_slot vs c = slot_with (λ v. v.port) vs c

-- a slot plus 1 as a look-up's answer
unfoldable pub found_slot : ℕ → Option ℕ
found_slot zero = None
found_slot (suc i) = Some i

-- what is found is below a count
unfoldable pub Within : ℕ → Option ℕ → Type 0
Within k (Some i) = i < k
Within k None = Unit {0}

-- the number of the row at a slot plus 1, 0 for none
unfoldable pub number_of_slot : List Row → ℕ → ℕ
number_of_slot [] s = 0
number_of_slot (r ∷ rs) s = if suc (length rs) == s then r.number else number_of_slot rs s

-- a row whose sources are given by slot, as the state has it
unfoldable pub with_source_numbers : List Row → Row → Row
with_source_numbers rs w = with_sources (number_of_slot rs w.source) (number_of_slot rs w.via) w
