-- The tables that an opening leaves: every row is a row of the text, every process is in its prime node, nothing is asked.
use Prim.Native.Nat.{ℕ}
use mathlib.Core.Bool.{true}
use mathlib.Core.List.{List}
use mathlib.Core.Path.{◌≡◌}
use borrow.Author.Tests.{eqb-true}
use Rattle.rows.specs.Tables.{no_row, row_of, numbers}
use Rattle.rows.specs.Sound.{is_opening}
use Rattle.rows.proofs.Bools.{and_l, and_r}
use Rattle.rows.proofs.Keyed.{all_first}
use Rattle.text.specs.Opening.{Form, opens, lines_of, opening_of}
use Rattle.text.specs.Entry.{state_opened}
use Rattle.text.proofs.OpeningForms.{opening-good}
use Rattle.text.proofs.Opening.{opened-opening}
use Rattle.security.specs.Sessions.{IsRow}
use Rattle.security.proofs.Rows.{IsText}

module _ (text : List ℕ) (rest : List (List ℕ)) (fs : List Form) (e : opening_of (lines_of text) ≡ opens fs rest) where
  pub opened-text : (n : ℕ) → IsRow (state_opened fs) n → IsText (row_of (state_opened fs).rows n)
  unfolding state_opened row_of numbers is_opening
  opened-text n t =
      let r = row_of (state_opened fs).rows n in
      let h : is_opening r ≡ true = all_first (λ r. r.number) no_row is_opening (state_opened fs).rows n (opened-opening fs (opening-good (lines_of text) rest fs e)) t in
      record {
        node = search and_l;
        copied = search (and_l, and_r);
        source = eqb-true r.source 0 (search (and_l, and_r));
        via = eqb-true r.via 0 (search (and_l, and_r));
        request = eqb-true r.request 0 (search (and_l, and_r));
      }
