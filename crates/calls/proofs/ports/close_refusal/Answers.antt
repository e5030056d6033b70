-- `ports::close_refusal`: the kind, then whether the end is on loan.
use mathlib.Core.Bool.{not}
use mathlib.Core.Path.{ap, sym, ◌∙◌}
use Rattle.rows.specs.Codes.{is_client}
use Rattle.rows.specs.Tables.{row_of, on_loan}
use Rattle.rows.proofs.Slots.{row-words}
use Rattle.calls.proofs.Judging.{test-holds, test-fails}
use Rattle.calls.proofs.Refusing.{held, close-rest, no-client, is-client, row-some}
use mathlib.Core.Path.{refl}
use Rattle.calls.proofs.ports.close_refusal.Goals as goal

pub returns-then-t-i-ne-A_CLIENT_END : goal.returns-then-t-i-ne-A_CLIENT_END
returns-then-t-i-ne-A_CLIENT_END c =
    let a = c.args in
    λ st p sd rep m.
    let kind = (row_of st.rows a.c).kind in
    let other = no-client kind (λ k. c.if-t-i-ne-A_CLIENT_END.true ((row-words rep a.c a.i m.0).kind ∙ k)) in
    test-holds (not (is_client kind)) 8 _ other ∙ sym (close-rest st p a.c (held st p a.c m.1))

pub returns-then-on_loan : goal.returns-then-on_loan
returns-then-on_loan c =
    let a = c.args in
    λ st p sd rep m.
    let kind = (row_of st.rows a.c).kind in
    let client = is-client kind (sym (row-words rep a.c a.i m.0).kind ∙ c.if-t-i-ne-A_CLIENT_END.false) in
    let lent = sym (c.on_loan.ensures st rep (row-some rep a.c a.i m.0).1) ∙ c.if-on_loan.true in
    test-fails (not (is_client kind)) 8 (ap not client) (test-holds (on_loan st.requests a.c) 12 _ lent) ∙ sym (close-rest st p a.c (held st p a.c m.1))

pub returns : goal.returns
returns c =
    let a = c.args in
    λ st p sd rep m.
    let kind = (row_of st.rows a.c).kind in
    let client = is-client kind (sym (row-words rep a.c a.i m.0).kind ∙ c.if-t-i-ne-A_CLIENT_END.false) in
    let free = sym (c.on_loan.ensures st rep (row-some rep a.c a.i m.0).1) ∙ c.if-on_loan.false in
    test-fails (not (is_client kind)) 8 (ap not client) (test-fails (on_loan st.requests a.c) 12 free refl) ∙ sym (close-rest st p a.c (held st p a.c m.1))
