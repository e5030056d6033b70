-- `directories::go_through`: the record of p is replaced; the node is the object of the row in slot i.
use mathlib.Core.Path.{◌∙◌}
use Rattle.rows.specs.Layout.{records_in}
use Rattle.rows.proofs.Slots.{row-words}
use Rattle.calls.proofs.Added.{through-record}
use Rattle.calls.proofs.directories.go_through.Goals as goal

pub returns : goal.returns
returns c =
    let written = c.set_record in
    let x = c.record_at-x in
    let a = c.args in record {
      there = (λ st rep at same.
          written.ensures.written
          ∙ through-record st (records_in a.ps.now) same a.p c.requires.3.0 x.result x.ensures a.e _ (row-words rep a.e a.i at).object);
      long = written.ensures.long;
    }
