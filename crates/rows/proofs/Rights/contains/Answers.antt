-- A right is there if it is within. Assumes nothing.
use Rattle.std.proofs.Common.{ℕ, ap, ◌∙◌}
use Rattle.rows.specs.Codes.{within}
use Rattle.rows.proofs.RightsWithin.{hold-within, transfer-within, register-within}
use Rattle.rows.proofs.Rights.contains.Goals as goal

pub returns : goal.returns
returns c =
    let s : ℕ = c.args.self.0 in
    let e = c.within.ensures in record { all = e; hold = (λ n. e ∙ ap (λ (x : ℕ). within x s) n ∙ hold-within s); transfer = (λ n. e ∙ ap (λ (x : ℕ). within x s) n ∙ transfer-within s); register = (λ n. e ∙ ap (λ (x : ℕ). within x s) n ∙ register-within s) }
