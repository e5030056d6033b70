use Rattle.std.proofs.Common.{ℕ, ◌+◌, ◌-◌, ◌/◌, arith, rules}
use Rattle.rows.specs.vocabulary.Slots.{Within}
use Rattle.rows.proofs.Searches.{bracket, half_up, half_down, half-hit, half-none}
use Rattle.rows.proofs.find.search.Goals as goal

pub loop-lo-init : goal.loop-lo-init
loop-lo-init c = (search rules, (λ u. bracket c.args.column.now c.args.count c.args.n))

pub returns-then-x-n : goal.returns-then-x-n
unfolding Within
returns-then-x-n c =
    let mid : ℕ = c.loop-lo.lo + (c.loop-lo.hi - c.loop-lo.lo) / 2 in
    record { within = search rules; found = (λ u. half-hit _ _ _ u mid (search rules) c.if-x-n.true) }

pub loop-lo-preserved-then-x-n-2 : goal.loop-lo-preserved-then-x-n-2
loop-lo-preserved-then-x-n-2 c =
    let mid : ℕ = c.loop-lo.lo + (c.loop-lo.hi - c.loop-lo.lo) / 2 in
    (search rules, (λ u. half_up _ _ _ u c.loop-lo.lo c.loop-lo.hi mid (search rules) c.if-x-n-2.true (c.loop-lo.invariant.1 u)))

pub loop-lo-preserved : goal.loop-lo-preserved
loop-lo-preserved c =
    let mid : ℕ = c.loop-lo.lo + (c.loop-lo.hi - c.loop-lo.lo) / 2 in
    (search rules, (λ u. half_down _ _ _ u c.loop-lo.lo c.loop-lo.hi mid (omega (arith, c.if-x-n-2.false, c.if-x-n.false)) (c.loop-lo.invariant.1 u)))

pub returns : goal.returns
unfolding Within
returns c =
    record { within = tt; found = (λ u. half-none _ _ _ c.loop-lo.lo c.loop-lo.hi c.loop-lo-test.false (c.loop-lo.invariant.1 u)) }
