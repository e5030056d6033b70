-- `find::row_among` meets its contract: the row numbered n stands where the last number up to n does, or nowhere.
use Rattle.std.proofs.Common.{◌≡◌, ℕ, ◌+◌, ◌<◌, eqb, ltb, get_or, arith, length-take-le, ltb-true, lt-ltb, eq-eqb, eqb-true}
use Rattle.rows.specs.vocabulary.Slots.{Within}
use Rattle.rows.proofs.Bools.{and_l, and_r, and_i, clash}
use Rattle.rows.proofs.Lookups.{row-hit, row-missed}
use Rattle.rows.proofs.find.row_among.Goals as goal

pub last_up_to-last-requires : goal.last_up_to-last-requires
last_up_to-last-requires c =
    omega (arith, length-take-le 1024 c.args.t.now (omega (arith, c.requires.0)))

pub bounds-t-last : goal.bounds-t-last
bounds-t-last c =
    omega (arith, c.last_up_to-last.ensures.within, length-take-le 1024 c.args.t.now (omega (arith, c.requires.0)), c.requires.0)

pub returns-then-last-count : goal.returns-then-last-count
unfolding Within
returns-then-last-count c =
    let last = c.last_up_to-last.result in
    let word : ℕ = get_or c.args.t.now (0 + last) 0 in
    let below = ltb-true last c.args.count (and_l (ltb last c.args.count) (eqb word c.args.n) c.if-last-count.true) in
    let here = eqb-true word c.args.n (and_r (ltb last c.args.count) (eqb word c.args.n) c.if-last-count.true) in
    record { within = below; found = (λ st rep counted. row-hit rep c.args.count c.args.n last counted c.last_up_to-last.ensures.last below here) }

pub returns : goal.returns
unfolding Within
returns c =
    let last = c.last_up_to-last.result in
    let word : ℕ = get_or c.args.t.now (0 + last) 0 in
    let other : last < c.args.count → word ≡ c.args.n → ⊥ =
    λ h e. clash (and_i (ltb last c.args.count) (eqb word c.args.n) (lt-ltb last c.args.count h) (eq-eqb word c.args.n e)) c.if-last-count.false in
    record { within = tt; found = (λ st rep counted. row-missed rep c.args.count c.args.n last counted c.last_up_to-last.ensures.last other) }
