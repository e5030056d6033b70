-- `lend::lend_end`: the row to the system, its number in the list.
use borrow.Author.Rules.{rules}
use Prim.Native.Nat.{suc, ◌-◌}
use native.Mathlib.Omega.{arith}
use mathlib.Core.Path.{◌≡◌, ◌∙◌}
use Rattle.rows.specs.Setters.{with_rows}
use Rattle.calls.proofs.Lent.{end-lent}
use Rattle.calls.proofs.lend.lend_end.Goals as goal

pub returns : goal.returns
returns c =
    let put = c.set_place in
    let k = c.args.k in
    let x = c.args.x in
    let next : x.word ≡ suc (x.word - 1) = omega (arith, c.requires.2) in record {
      lent = (λ st l h word.
          let slot = (h.kept x.item.row (x.word - 1) (word ∙ next)).0 in
          end-lent k st l h c.requires.1 x.item (put.ensures.represents (with_rows l.rows st) x.item.row h.words slot));
      grows = search rules;
      long = put.ensures.long;
    }
