-- `directories::add_held`: a copy more, then the next number.
use native.Mathlib.Omega.{arith}
use native.Mathlib.Numerals.{add-one}
use mathlib.Core.Path.{ap, sym, subst, ◌∙◌}
use Rattle.rows.specs.Tables.{State, process_at}
use Rattle.rows.specs.vocabulary.Represents.{Represents}
use Rattle.rows.specs.vocabulary.Slots.{number_of_slot}
use Rattle.rows.proofs.Slots.{row-words, number-of-row}
use Rattle.tables.proofs.Sound.{sound-open}
use Rattle.tables.proofs.SoundFacts.{rows-top, listed-range}
use Rattle.calls.proofs.NewRows.{number-of-word}
use Rattle.calls.proofs.Added.{through-among, held-state}
use Rattle.calls.proofs.directories.add_held.Goals as goal

pub returns : goal.returns
returns c =
    let put = c.set_next in
    let copy = c.append_copy in
    let place = c.clist in
    let a = c.args in record {
      held = (λ st e sd h at l via deep next.
          let so = sound-open st sd in
          let x = (process_at st.processes a.p).through in
          let first = ap (number_of_slot st.rows) (add-one a.i) ∙ number-of-row st.rows e a.i at in
          let second = number-of-word st.rows x a.via via (through-among st so a.p l) in
          let mid = copy.ensures.copied st e e x h at (omega (arith, rows-top st so.numbers, next)) first second in
          subst (λ (y : State). Represents put.new.t y)
          (held-state st a.p e a.next _ _ a.d (sym next) (row-words h.0 e a.i at).rights (place.ensures (listed-range st so.placed a.p l).1) (sym deep))
          (put.ensures.represents _ mid));
      long = put.ensures.long;
    }
