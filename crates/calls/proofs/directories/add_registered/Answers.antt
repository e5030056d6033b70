-- `directories::add_registered`: a copy more, then the next number.
use native.Mathlib.Omega.{arith}
use mathlib.Core.Path.{sym, subst}
use Rattle.rows.specs.Tables.{State, row_of}
use Rattle.rows.specs.vocabulary.Represents.{Represents}
use Rattle.rows.proofs.Slots.{row-words, row-found}
use Rattle.tables.proofs.Sound.{sound-open}
use Rattle.tables.proofs.SoundFacts.{rows-top}
use Rattle.calls.proofs.NewRows.{number-of-none, number-of-word}
use Rattle.calls.proofs.Added.{source-among, registered-state}
use Rattle.calls.proofs.directories.add_registered.Goals as goal

pub returns : goal.returns
returns c =
    let put = c.set_next in
    let copy = c.append_copy in
    let a = c.args in record {
      registered = (λ st p e sd h at node source deep next.
          let so = sound-open st sd in
          let x = (row_of st.rows e).source in
          let first = number-of-word st.rows x a.source source (source-among st so e (row-found st.rows e a.i at).0) in
          let mid = copy.ensures.copied st e x 0 h at (omega (arith, rows-top st so.numbers, next)) first (number-of-none st.rows) in
          subst (λ (y : State). Represents put.new.t y)
          (registered-state st p e a.next _ a.node a.d (sym next) (row-words h.0 e a.i at).rights (sym node) (sym deep))
          (put.ensures.represents _ mid));
      long = put.ensures.long;
    }
