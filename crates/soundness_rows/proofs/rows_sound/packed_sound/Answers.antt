use Rattle.std.proofs.Common.{◌≡◌, ℕ, ◌<◌, length, subst, arith}
use Rattle.soundness_rows.specs.vocabulary.Clauses.{by_sources}
use Rattle.soundness_rows.proofs.SlotLoops.{Tested, tested-none, tested-more, tested-all}
use Rattle.soundness_rows.proofs.rows_sound.packed_sound.Goals as goal

pub loop-i-init : goal.loop-i-init
loop-i-init c = (omega arith, (λ st rep long f. tested-none by_sources st.rows))

pub sources_at-right-requires : goal.sources_at-right-requires
sources_at-right-requires c =
    let pre = c.requires in
    let i = c.loop-i.i in
    let h = c.loop-i-test.true in
    record { sizes = (pre.sizes.0, h, pre.sizes.1); sources = pre.sources i h; packed = pre.packed }

pub loop-i-preserved : goal.loop-i-preserved
loop-i-preserved c =
    let turn = c.loop-i in
    let r = c.sources_at-right in (
      omega arith,
      (λ st rep long f.
          let h : turn.i < length st.rows = omega arith in
          tested-more r.result h (turn.invariant.1 st rep long f) (r.ensures st rep long f)),
    )

pub returns : goal.returns
returns c =
    λ st rep long f.
    let last = c.loop-i in
    let whole : last.i ≡ length st.rows = omega arith in
    tested-all by_sources st.rows last.right (subst (λ (k : ℕ). Tested by_sources st.rows k last.right) whole (last.invariant.1 st rep long f))
