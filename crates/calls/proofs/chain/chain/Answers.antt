-- `chain::chain`: no such row, or its chain.
use native.Mathlib.Omega.{arith}
use Rattle.rows.specs.Layout.{row_slot}
use Rattle.rows.proofs.Slots.{at-below, found_at, found_nothing}
use Rattle.calls.specs.declared.Call.TheVariants.{Chain}
use Rattle.calls.specs.Calls.{refusals}
use Rattle.calls.proofs.Judging.{by-number, refused-agrees, accepted-agrees}
use Rattle.calls.proofs.Refusing.{chain-no-row, chain-row, row-some}
use Rattle.calls.proofs.Effected.{told-chain}
use Rattle.calls.proofs.chain.chain.Goals as goal

pub returns-in_default : goal.returns-in_default
unfolding refusals
returns-in_default c =
    let found = c.row_among in
    let count = c.count_rows-n in
    let a = c.args in
    λ ps st sd rep same listed.
    let none = found_nothing (row_slot st.rows a.e) (found.ensures.found st rep (count.ensures.counted st rep)) c.in_default.is in
    by-number c.into.ensures (refused-agrees st (Chain a.e) rep same 7 (chain-no-row st a.e none) (λ z. absurd (omega arith)))

pub chain_at-requires : goal.chain_at-requires
chain_at-requires c =
    let found = c.row_among in
    let count = c.count_rows-n in
    (c.requires, omega (arith, count.ensures.within, at-below count.result found.result c.in-Some.i found.ensures.within c.in-Some.is))

pub returns : goal.returns
unfolding refusals
returns c =
    let found = c.row_among in
    let count = c.count_rows-n in
    let a = c.args in
    λ ps st sd rep same listed.
    let at = found_at (row_slot st.rows a.e) c.in-Some.i (found.ensures.found st rep (count.ensures.counted st rep)) c.in-Some.is in
    accepted-agrees st (Chain a.e) (chain-row st a.e (row-some rep a.e c.in-Some.i at).0)
    (told-chain st a.e c.chain_at.result rep same (c.chain_at.ensures st a.e sd rep at))
