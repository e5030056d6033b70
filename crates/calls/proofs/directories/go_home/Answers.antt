-- `directories::go_home`: the record of p is replaced.
use mathlib.Core.Path.{◌∙◌}
use Rattle.rows.specs.Layout.{records_in}
use Rattle.calls.proofs.Added.{home-record}
use Rattle.calls.proofs.directories.go_home.Goals as goal

pub returns : goal.returns
returns c =
    let written = c.set_record in
    let x = c.record_at-x in
    let a = c.args in record { home = (λ st same. written.ensures.written ∙ home-record st (records_in a.ps.now) same a.p c.requires.1.0 x.result x.ensures); long = written.ensures.long }
