-- `lend::lend_item`: no item, an end, a copy.
use borrow.Author.Rules.{rules}
use native.Mathlib.Omega.{arith}
use mathlib.Core.Path.{sym, subst}
use Rattle.rows.specs.Sound.{rows_rise}
use Rattle.tables.proofs.Sound.{sound-open}
use Rattle.calls.specs.Loans.{Lending}
use Rattle.calls.specs.vocabulary.Asks.{LentTo}
use Rattle.calls.proofs.Asked.{word_of, no_item, an_item, copy-stays, end-moves}
use Rattle.calls.proofs.Lent.{named_none, named_end, named-copy}
use Rattle.calls.proofs.lend.lend_item.Goals as goal

pub returns-then-x-eq0 : goal.returns-then-x-eq0
returns-then-x-eq0 c =
    let a = c.args in
    let x = a.x in record {
      lent = (λ st l sd h port held.
          subst (λ (y : Lending). LentTo a.t.now a.k st y) (sym (named_none st a.w.port a.w.number x.item l (no_item st a.w.asker x held c.if-x-eq0.true))) h);
      grows = search rules;
      long = c.requires.0;
    }

pub returns-then-x-eq0-2 : goal.returns-then-x-eq0-2
returns-then-x-eq0-2 c =
    let end = c.lend_end in
    let a = c.args in
    let x = a.x in
    let p = a.w.asker in
    let grown = end.ensures.grows in record {
      lent = (λ st l sd h port held.
          let named = an_item st p x held (unfold rows_rise in (sound-open st sd).numbers.rows-rise) c.if-x-eq0.false in
          subst (λ (y : Lending). LentTo end.new.t end.result st y)
          (sym (named_end st a.w.port a.w.number x.item l named (end-moves st p x held named c.if-x-eq0-2.true)))
          (end.ensures.lent st l h (word_of st p x held)));
      grows = (grown.0, omega (arith, grown.1), omega (arith, grown.2), grown.3);
      long = end.ensures.long;
    }

pub returns : goal.returns
returns c =
    let copy = c.lend_copy in
    let a = c.args in
    let x = a.x in
    let p = a.w.asker in
    let grown = copy.ensures.grows in
    let some-copy = c.if-x-eq0-2.false in record {
      lent = (λ st l sd h port held.
          let named = an_item st p x held (unfold rows_rise in (sound-open st sd).numbers.rows-rise) c.if-x-eq0.false in
          subst (λ (y : Lending). LentTo copy.new.t copy.result st y)
          (sym (named-copy st a.w.port a.w.number x.item l named (copy-stays st p x held some-copy)))
          (copy.ensures.lent st l sd h port (word_of st p x held)));
      grows = (grown.0, omega (arith, some-copy, grown.1), omega (arith, some-copy, grown.2), grown.3);
      long = copy.ensures.long;
    }
