use Rattle.std.proofs.Common.{◌≡◌, ℕ, ◌+◌, ◌<◌, ◌≤◌, Bool, List, length, set, sym, refl, ap, ◌∙◌, subst, arith, length-set}
use Rattle.rows.specs.declared.Row.{Row}
use Rattle.rows.specs.Layout.{records_in}
use Rattle.soundness_rows.specs.vocabulary.Clauses.{own_right}
use Rattle.soundness_rows.specs.vocabulary.Packed.{packed, PacksRows}
use Rattle.rows.proofs.ProcessRecords.{length-in}
use Rattle.soundness_rows.proofs.PackedRows.{packs-start, packs-more}
use Rattle.soundness_rows.proofs.SlotLoops.{Tested, tested-none, tested-more, tested-all, each_all}
use Rattle.soundness_rows.proofs.RowsSound.{own_at, faithful, fields-then}
use Rattle.soundness_rows.proofs.rows_sound.sources_sound.Goals as goal

pub loop-i-init : goal.loop-i-init
loop-i-init c =
    let a = c.args in
    (refl, packs-start a.t.now _ refl, (λ st rep long. tested-none (λ y old. own_right (records_in a.p.now) y) st.rows))

pub loop-i-preserved : goal.loop-i-preserved
loop-i-preserved c =
    let turn = c.loop-i in
    let a = c.args in
    let t = a.t.now in
    let x = c.row_at-x in
    let r = c.own_right-right in
    let word = c.pack.ensures ∙ ap packed x.ensures in
    let h : turn.i + 1 < length turn.packs = omega (arith, turn.invariant.0, c.loop-i-test.true, c.requires.sizes.2) in (
      length-set turn.packs (turn.i + 1) c.pack.result ∙ turn.invariant.0,
      subst (λ (w : ℕ). PacksRows t (turn.i + 1) (set turn.packs (turn.i + 1) w)) (sym word) (packs-more t turn.packs turn.i h turn.invariant.1),
      (λ st rep long.
          let g : turn.i < length st.rows = omega (arith, c.loop-i-test.true, long) in
          tested-more r.result g (turn.invariant.2 st rep long) (own_at rep turn.i x.result x.ensures (records_in a.p.now) r.ensures)),
    )

pub packed_sound-requires : goal.packed_sound-requires
packed_sound-requires c =
    let last = c.loop-i in
    let end : last.i ≡ c.args.n = omega arith in
    record { sizes = (c.requires.sizes.0, c.requires.sizes.2); sources = c.requires.sources; packed = subst (λ (k : ℕ). PacksRows c.args.t.now k last.packs) end last.invariant.1 }

pub returns : goal.returns
returns c =
    λ st rep long.
    let last = c.loop-i in
    let ps = records_in c.args.p.now in
    let F : Row → List Row → Bool = λ y old. own_right ps y in
    let whole : last.i ≡ length st.rows = omega arith in
    let own = tested-all F st.rows last.right (subst (λ (k : ℕ). Tested F st.rows k last.right) whole (last.invariant.2 st rep long)) ∙ each_all (own_right ps) st.rows in
    let few : length ps ≤ 64 = omega (arith, length-in 64 c.args.p.now c.requires.sizes.1) in
    fields-then last.right c.packed_sound.result ps st.rows own (λ h. c.packed_sound.ensures st rep long (faithful ps st.rows few h))
