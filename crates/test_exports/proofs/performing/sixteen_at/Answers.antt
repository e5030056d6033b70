-- `performing::sixteen_at` meets its contract: four times four.
use Rattle.test_exports.proofs.performing.sixteen_at.Goals as goal

pub returns : goal.returns
returns c = λ i.
    record {
      first = c.four_from.ensures i;
      second = c.four_from-2.ensures i;
      third = c.four_from-3.ensures i;
      fourth = c.four_from-4.ensures i;
    }
