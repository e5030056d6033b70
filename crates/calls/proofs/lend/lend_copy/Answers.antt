-- `lend::lend_copy`: the copy that is appended is that of the state before.
use borrow.Author.Rules.{rules}
use Prim.Native.Nat.{suc, ◌+◌, ◌-◌}
use native.Mathlib.Omega.{arith}
use native.Mathlib.Numerals.{add-one}
use mathlib.Core.List.{◌∷◌}
use mathlib.Core.Path.{◌≡◌, refl, ap, sym, subst, ◌∙◌}
use Rattle.rows.specs.declared.Row.{Row}
use Rattle.rows.specs.Setters.{with_rows}
use Rattle.rows.specs.vocabulary.Represents.{Represents}
use Rattle.rows.specs.vocabulary.Slots.{number_of_slot}
use Rattle.rows.proofs.Slots.{number-of-row}
use Rattle.calls.specs.declared.NewCopy.{NewCopy}
use Rattle.calls.proofs.LookedUp.{depth-most}
use Rattle.calls.proofs.Lent.{depth-kept, depth-over-kept, copy-kept, copy-lent}
use Rattle.calls.proofs.lend.lend_copy.Goals as goal

pub returns : goal.returns
returns c =
    let copied = c.append_copy in
    let over = c.depth_over in
    let k = c.args.k in
    let w = c.args.w in
    let x = c.args.x in
    let i = x.word - 1 in
    let e = x.item.row in
    let word-at : x.word ≡ suc i = omega (arith, c.requires.3) in
    let made : NewCopy =
    record { number = k.next; rights = x.item.rights; place = 200; source = x.word; via = w.slot + 1; depth = over.result; request = w.number } in record {
      lent = (λ st l sd h port word.
          let at = word ∙ word-at in
          let mid = with_rows l.rows st in
          let row' = (h.kept e i at).0 in
          let port' = (h.kept w.port w.slot port).0 in
          let deep = over.ensures mid e w.port h.words (row' ∙ sym word-at) (port' ∙ sym (add-one w.slot))
          (omega (arith, depth-most st sd e, depth-kept st l h.kept e i w.port w.slot at port e i at))
          (omega (arith, depth-most st sd w.port, depth-kept st l h.kept e i w.port w.slot at port w.port w.slot port))
          ∙ depth-over-kept st l h.kept e i w.port w.slot at port in
          let first = ap (number_of_slot l.rows) word-at ∙ number-of-row l.rows e i row' in
          let second = ap (number_of_slot l.rows) (add-one w.slot) ∙ number-of-row l.rows w.port w.slot port' in
          let rep = copied.ensures.copied mid e e w.port (h.words, h.rows) row' (omega (arith, h.top, h.next)) first second in
          copy-lent k st l h c.requires.1.2 x.item w.port w.number
          (subst (λ (r : Row). Represents copied.new.t (with_rows (r ∷ l.rows) st))
          (copy-kept st l h.kept e i w.port w.slot at port x.item refl made w.number h.next refl refl deep refl) rep));
      grows = search rules;
      long = copied.ensures.long;
    }
