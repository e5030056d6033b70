-- `ports::add_port`: both ends, then the next number.
use native.Mathlib.Omega.{arith}
use native.Mathlib.Numerals.{add-one}
use mathlib.Core.Path.{ap, sym, subst, ◌∙◌}
use Prim.Native.Nat.{ℕ, ◌+◌, ◌≤◌}
use Rattle.rows.specs.Codes.{in_clist}
use Rattle.rows.specs.Tables.{State}
use Rattle.rows.specs.vocabulary.Represents.{Represents}
use Rattle.rows.specs.vocabulary.Slots.{number_of_slot}
use Rattle.rows.proofs.Slots.{row-words, number-of-row}
use Rattle.tables.proofs.Sound.{sound-open}
use Rattle.tables.proofs.SoundFacts.{rows-top}
use Rattle.calls.specs.declared.NewPort.{NewPort}
use Rattle.calls.proofs.Added.{port-state}
use Rattle.calls.proofs.ports.add_port.Goals as goal

pub returns : goal.returns
returns c =
    let put = c.set_next in
    let ends = c.append_ends in
    let there = c.clist-2 in
    let here = c.clist in
    let a = c.args in
    let w : NewPort = record { number = a.next; source = a.i + 1; client = here.result; server = there.result; depth = a.d } in record {
      made = (λ st e sd h at few deep next.
          let object = (row-words h.0 e a.i at).object in
          let first = ap (number_of_slot st.rows) (add-one a.i) ∙ number-of-row st.rows e a.i at in
          let mid = ends.ensures.added st e h (omega (arith, rows-top st (sound-open st sd).numbers, next)) first in
          subst (λ (y : State). Represents put.new.t y)
          (port-state st a.p e w (sym next) (here.ensures c.requires.4.1) (there.ensures (subst (λ (k : ℕ). k ≤ 64) (sym object) few) ∙ ap in_clist object) (sym deep))
          (put.ensures.represents _ mid));
      long = put.ensures.long;
    }
