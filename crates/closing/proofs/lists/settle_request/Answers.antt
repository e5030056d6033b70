-- `lists::settle_request`: the request that is read is the one in the slot; its mark says which of the two functions is called.
use mathlib.Core.Path.{sym, ◌∙◌}
use Rattle.changes.specs.vocabulary.Bits.{marks_in}
use Rattle.closing.proofs.ListsPass.{closed-done, open_done}
use Rattle.closing.proofs.lists.settle_request.Goals as goal

pub returns-then-closes : goal.returns-then-closes
returns-then-closes c =
    let called = c.items_back in
    let read = c.request_at-v in
    let a = c.args in record {
      settled = (λ st g f new v old sd count here closes done.
          closed-done st sd g f new v old a.n a.j count here a.t.now (marks_in a.out.now) done read.result read.ensures
          (sym closes ∙ c.if-closes.true) called.new.t (marks_in called.new.out) called.ensures.back);
      long = called.ensures.long;
    }

pub returns-else-closes : goal.returns-else-closes
returns-else-closes c =
    let called = c.items_out in
    let read = c.request_at-v in
    let a = c.args in record {
      settled = (λ st g f new v old sd count here closes done.
          open_done st sd g f new v old a.n a.j count here a.t.now (marks_in a.out.now) done read.result read.ensures
          (sym closes ∙ c.if-closes.false) called.new.t called.ensures.out);
      long = called.ensures.long;
    }
