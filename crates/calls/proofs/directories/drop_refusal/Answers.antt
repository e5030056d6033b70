-- `directories::drop_refusal`: the kind, then whether the row is in use.
use mathlib.Core.Path.{refl, ap, sym, ◌∙◌}
use Rattle.rows.specs.Codes.{is_end}
use Rattle.rows.specs.Tables.{row_of}
use Rattle.rows.proofs.Slots.{row-words}
use Rattle.calls.specs.Calls.{in_use}
use Rattle.calls.proofs.Judging.{test-holds, test-fails}
use Rattle.calls.proofs.Refusing.{held, drop-rest, in-use}
use Rattle.calls.proofs.directories.drop_refusal.Goals as goal

pub returns-then-is_end : goal.returns-then-is_end
returns-then-is_end c =
    let a = c.args in
    λ st p h m x.
    let kind = (row_of st.rows a.e).kind in
    let end = ap is_end (sym (row-words h.0 a.e a.i m.0).kind) ∙ sym c.is_end.ensures ∙ c.if-is_end.true in
    test-holds (is_end kind) 8 _ end ∙ sym (drop-rest st p a.e (held st p a.e m.1))

pub returns-then-is_source-through : goal.returns-then-is_source-through
returns-then-is_source-through c =
    let a = c.args in
    λ st p h m x.
    let kind = (row_of st.rows a.e).kind in
    let end = ap is_end (sym (row-words h.0 a.e a.i m.0).kind) ∙ sym c.is_end.ensures ∙ c.if-is_end.false in
    let used = sym (in-use st p a.e a.through c.is_source.result (c.is_source.ensures st a.e h m.0) x) ∙ c.if-is_source-through.true in
    test-fails (is_end kind) 8 end (test-holds (in_use st p a.e) 13 _ used) ∙ sym (drop-rest st p a.e (held st p a.e m.1))

pub returns : goal.returns
returns c =
    let a = c.args in
    λ st p h m x.
    let kind = (row_of st.rows a.e).kind in
    let end = ap is_end (sym (row-words h.0 a.e a.i m.0).kind) ∙ sym c.is_end.ensures ∙ c.if-is_end.false in
    let free = sym (in-use st p a.e a.through c.is_source.result (c.is_source.ensures st a.e h m.0) x) ∙ c.if-is_source-through.false in
    test-fails (is_end kind) 8 end (test-fails (in_use st p a.e) 13 free refl) ∙ sym (drop-rest st p a.e (held st p a.e m.1))
