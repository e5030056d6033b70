-- `close::take_out`: the words that each of the four calls leaves are what the next one is told of.
use mathlib.Core.Path.{◌∙◌}
use Rattle.changes.specs.vocabulary.Bits.{marks_in}
use Rattle.closing.specs.Closing.{closes}
use Rattle.closing.specs.vocabulary.Seeds.{closes_of}
use Rattle.closing.proofs.ListsSettled.{closes-blind}
use Rattle.closing.proofs.CloseParts.{taken-out}
use Rattle.closing.proofs.close.take_out.Goals as goal

pub returns : goal.returns
returns c =
    let a = c.args in
    let marks = c.mark_requests-closed in
    let lists = c.settle_lists in
    let rows = c.remove_rows in
    let requests = c.remove_requests in record {
      out = (λ st g sd rep count gone under.
          let f = closes (closes_of a.s) g in
          let long = c.count_requests-m.ensures.counted st rep in
          let ended = marks.ensures st g sd rep count long gone in
          taken-out a.n (marks_in a.removed.now) marks.result lists.new.t rows.new.t requests.new.t rows.ensures requests.ensures
          g f (closes-blind (closes_of a.s) g) st count gone ended under (lists.ensures.settled st g f sd rep count long gone ended));
      long = requests.auto.t ∙ rows.auto.t ∙ lists.ensures.long;
    }
