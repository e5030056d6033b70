-- `call_line::see_group` meets its contract.
use Rattle.rows.specs.Limits.{all_rights}
use Rattle.text.specs.CallLines.{group_of, item_ranged, item_of, pair_ranged}
use Rattle.text.specs.vocabulary.Groups.{seen_with}
use Rattle.text.proofs.call_line.see_group.Goals as goal

pub returns : goal.returns
unfolding seen_with group_of item_ranged item_of pair_ranged all_rights
returns c =
    let second = c.is_number in
    let first = c.is_number-good in
    rw (first.ensures, second.ensures)
