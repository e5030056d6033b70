-- `lend::add_request`: the items lent, the request appended, the next number set.
use native.Mathlib.Omega.{arith}
use native.Mathlib.Numerals.{add-one}
use mathlib.Core.Path.{refl, ap, sym, subst, ◌∙◌}
use Prim.Native.Nat.{suc}
use Rattle.rows.specs.Lists.{pad}
use Rattle.rows.specs.Tables.{State}
use Rattle.rows.specs.vocabulary.Represents.{Represents}
use Rattle.tables.proofs.Sound.{sound-open}
use Rattle.tables.proofs.SoundFacts.{requests-top}
use Rattle.calls.specs.vocabulary.Asks.{named_in}
use Rattle.calls.proofs.Lent.{loan-begun, request-listed, request-state}
use Rattle.calls.proofs.lend.add_request.Goals as goal

pub returns : goal.returns
unfolding pad
returns c =
    let put = c.set_next in
    let added = c.append_request in
    let lent = c.lend_items-lent in
    let a = c.args in
    let w = a.w in record {
      made = (λ st sd h over held.
          let number = sym over.1 in
          let begun = loan-begun _ st sd h.0 h.1 (add-one w.number ∙ ap suc number) refl refl in
          let done = lent.ensures.lent st _ sd begun over.0.0 held in
          let stored = added.ensures.represents _ done.words h.2 (omega (arith, requests-top st (sound-open st sd).numbers, number)) in
          subst (λ (y : State). Represents put.new.t y)
          (request-state st w.asker w.port w.number (named_in a.items) number _ done.next _ (request-listed st w _ _ number done.items))
          (put.ensures.represents _ stored));
      long = put.ensures.long;
    }
