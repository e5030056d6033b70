-- `close::close`: the marks are those of what comes from the seeds; records and words follow from them.
use mathlib.Core.List.{map}
use mathlib.Core.Path.{sym, ap, ◌∙◌}
use Rattle.rows.specs.Tables.{marked}
use Rattle.closing.specs.Closing.{homed, settled, closing}
use Rattle.closing.specs.vocabulary.Seeds.{seed_of, closing_from}
use Rattle.closing.proofs.CloseParts.{represented-closed}
use Rattle.closing.proofs.close.close.Goals as goal

pub returns : goal.returns
unfolding closing_from closing settled
returns c =
    let taken = c.take_out in
    let homes = c.home_records in
    let marks = c.mark_rows-removed in
    let counted = c.count_rows-n in
    let a = c.args in record {
      closed = (λ st sd rep same.
          let g = marked (seed_of a.s) st.rows in
          let count = counted.ensures.counted st rep in
          let gone = marks.ensures st rep count in (
            taken.ensures.out st g sd rep count gone (represented-closed (seed_of a.s) st a.t.now rep),
            homes.ensures.homed st g sd rep count gone same ∙ ap (map (homed g)) (sym same),
          ));
      long = (taken.ensures.long, homes.ensures.long);
    }
