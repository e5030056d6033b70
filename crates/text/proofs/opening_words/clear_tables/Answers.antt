-- `opening_words::clear_tables` meets its contract.
use mathlib.Core.Path.{subst, sym}
use mathlib.Core.List.{List}
use Prim.Native.Nat.{ℕ}
use Rattle.rows.specs.Setters.{with_next}
use Rattle.rows.specs.Tables.{empty}
use Rattle.rows.specs.vocabulary.Represents.{Represents}
use Rattle.text.proofs.WrittenLaws.{cleared-tables}
use Rattle.text.proofs.opening_words.clear_tables.Goals as goal

pub returns : goal.returns
unfolding empty
returns c =
    let cleared = c.clear in
    let none = cleared-tables c.args.t.now c.requires in
    (c.set_next.ensures.represents (with_next 0 empty) (subst (λ (t : List ℕ). Represents t (with_next 0 empty)) (sym cleared.ensures) none)).words
