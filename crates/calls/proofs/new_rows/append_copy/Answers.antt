-- `new_rows::append_copy`: what is appended is the copy.
use mathlib.Core.List.{◌∷◌}
use mathlib.Core.Path.{subst}
use Rattle.rows.specs.declared.Row.{Row}
use Rattle.rows.specs.Tables.{row_of}
use Rattle.rows.specs.Setters.{with_rows}
use Rattle.rows.specs.vocabulary.Represents.{Represents}
use Rattle.calls.proofs.NewRows.{copied-fields, copy-made}
use Rattle.calls.proofs.new_rows.append_copy.Goals as goal

pub returns : goal.returns
returns c =
    let put = c.append_row in
    let a = c.args in
    let of = c.row_at-of in record {
      copied = (λ st e s v h at new first second.
          subst (λ (r : Row). Represents put.new.t (with_rows (r ∷ st.rows) st))
          (copy-made st.rows (row_of st.rows e) of.result a.w (copied-fields h.0 e a.i at of.result of.ensures) s v first second)
          (put.ensures.represents st h.0 h.1 new));
      long = put.ensures.long;
    }
