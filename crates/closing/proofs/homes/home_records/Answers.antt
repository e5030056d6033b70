-- `homes::home_records`: nothing to do, or the records that are stored are those read, gone home.
use native.Mathlib.Omega.{arith}
use mathlib.Core.List.{map}
use mathlib.Core.Path.{ap, sym, ◌∙◌}
use Rattle.rows.specs.Layout.{records_in}
use Rattle.rows.proofs.LayoutRequests.{records-back}
use Rattle.rows.proofs.ProcessRecords.{length-in}
use Rattle.closing.specs.Closing.{homed}
use Rattle.closing.proofs.HomesAll.{none-away}
use Rattle.closing.proofs.homes.home_records.Goals as goal

pub returns-then-not-any_away : goal.returns-then-not-any_away
returns-then-not-any_away c =
    let told = c.any_away in
    let p = c.args.ps.now in
    let long = c.requires.2 in record {
      homed = (λ st g sd rep count gone same.
          none-away g (records_in p) (λ k lt. told.ensures c.if-not-any_away.true k (omega (arith, lt, length-in 64 p long))));
      long = long;
    }

pub returns : goal.returns
returns c =
    let stored = c.store in
    let homes = c.home_all-after in
    let read = c.load-before in record {
      homed = (λ st g sd rep count gone same.
          ap records_in stored.ensures ∙ records-back homes.result ∙ homes.ensures st g sd rep count gone (same ∙ sym read.ensures) ∙ ap (map (homed g)) read.ensures);
      long = stored.auto.p ∙ c.requires.2;
    }
