-- Four times four.
use Rattle.calls.specs.Calls.{sixteen_from}
use Rattle.calls.proofs.numbers.sixteen_from.Goals as goal

pub returns : goal.returns
unfolding sixteen_from
returns c = λ i.
    record {
      first = c.four_from.ensures i;
      second = c.four_from-2.ensures i;
      third = c.four_from-3.ensures i;
      fourth = c.four_from-4.ensures i;
    }
