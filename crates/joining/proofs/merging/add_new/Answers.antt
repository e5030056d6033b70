use borrow.Author.Rules.{rules}
use Prim.Native.Nat.{◌-◌, ◌+◌}
use native.Mathlib.Omega.{arith}
use mathlib.Core.Path.{refl, sym, ◌∙◌}
use Rattle.joining.proofs.NewEntries.{Adding, adding-starts, adding-old, adding-new, adding-ends}
use Rattle.joining.proofs.merging.add_new.Goals as goal
use Rattle.joining.proofs.merging.add_new.Goals.{else-not-is_named, then-not-is_named}

pub loop-i-init : goal.loop-i-init
loop-i-init c =
    (refl, omega arith, c.requires.1, adding-starts c.args.c c.args.others.now c.requires.0 (search rules))

pub slice_bounds-is_named-end : goal.slice_bounds-is_named-end
slice_bounds-is_named-end c =
    let l = c.loop-i in
    let room = l.invariant.3.room in
    let long = l.invariant.3.long in
    search rules

pub bounds-codes-count : goal.bounds-codes-count
bounds-codes-count c =
    let l = c.loop-i in
    let room = l.invariant.3.room in
    let long = l.invariant.3.long in
    search rules

pub overflow_add-count : goal.overflow_add-count
overflow_add-count c =
    let l = c.loop-i in
    let room = l.invariant.3.room in
    search rules

pub loop-i-preserved : goal.loop-i-preserved
loop-i-preserved c =
    let l = c.loop-i in
    let k = l.invariant.3 in
    let room = k.room in
    let some = c.loop-i-test.true in
    let named = c.is_named in
    let next : Adding c.args.c c.args.others.now (l.i + 1) c.if-not-is_named.count c.if-not-is_named.codes = (elim c.if-not-is_named.branch [ then-not-is_named w ↦ rw (w.codes-is, w.count-is) (adding-new c.args.c c.args.others.now l.i l.count l.codes k (omega arith) (omega arith) (l.count - 0) (omega arith) (sym named.ensures ∙ w.if-not-is_named.true)) | else-not-is_named w ↦ rw (w.codes-is, w.count-is) (adding-old c.args.c c.args.others.now l.i l.count l.codes k (omega arith) (omega arith) (l.count - 0) (omega arith) (sym named.ensures ∙ w.if-not-is_named.false)) ]) in
    (refl, omega arith, l.invariant.2, next)

pub returns : goal.returns
returns c =
    let l = c.loop-i in
    adding-ends c.args.c c.args.others.now l.i l.count l.codes l.invariant.3 (omega arith)
