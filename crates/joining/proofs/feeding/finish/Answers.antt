-- `feeding::finish` meets its contract: by how far reading has come.
use Rattle.joining.proofs.ReadOn.{verdict-going, verdict-refused, both-held, verdict-joined, verdict-both}
use mathlib.Core.Path.{sym, ◌∙◌}
use Rattle.std.proofs.lemmas.Result.{err_from_is_err_and}
use Rattle.calls.proofs.Judging.{refusal-some}
use Rattle.joining.proofs.feeding.finish.Goals as goal

pub returns-then-is_going : goal.returns-then-is_going
returns-then-is_going c = let a = c.args in λ p h. rw c.into-number.ensures (verdict-going a.j a.first.now a.second.now p h (sym c.is_going.ensures ∙ c.if-is_going.true))

pub returns-in-Some : goal.returns-in-Some
returns-in-Some c = let a = c.args in λ p h. verdict-refused a.j a.first.now a.second.now p h (sym c.is_going.ensures ∙ c.if-is_going.false) c.in-Some.number c.in-Some.is

pub refusal_of-requires : goal.refusal_of-requires
refusal_of-requires c = both-held c.args.j c.args.first.now c.args.second.now c.requires.progress c.requires.holds (sym c.is_going.ensures ∙ c.if-is_going.false) c.in_default.is

pub returns-in_err-refusal_of : goal.returns-in_err-refusal_of
returns-in_err-refusal_of c =
    let a = c.args in
    let p = err_from_is_err_and c.from_residual.result c.from_residual.ensures.1 in
    let r = c.in_err-refusal_of in
    λ q h. rw (p.1, p.2) (verdict-both a.j a.first.now a.second.now q h (sym c.is_going.ensures ∙ c.if-is_going.false) c.in_default.is _ (refusal-some _) r.ensures)

pub returns : goal.returns
returns c =
    let a = c.args in
    λ p h. verdict-joined a.j a.first.now a.second.now p h (sym c.is_going.ensures ∙ c.if-is_going.false) c.in_default.is c.in_ok-refusal_of.ensures
