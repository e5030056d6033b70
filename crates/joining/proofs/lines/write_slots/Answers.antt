use borrow.Author.Rules.{rules}
use Prim.Native.Nat.{◌-◌, ◌≤◌}
use native.Mathlib.Omega.{arith}
use mathlib.Core.Path.{◌≡◌, refl, ◌∙◌}
use lib.ListN.{length, drop, length-drop}
use lib.Seq.{length-take-le}
use Rattle.text.specs.vocabulary.Sizes.{REPLY}
use Rattle.text.proofs.HandedOut.{text-handed, reply-long}
use Rattle.joining.specs.vocabulary.Lines.{slot_text, slots_text}
use Rattle.joining.proofs.SlotLines.{slot-written}
use Rattle.joining.proofs.lines.write_slots.Goals as goal

pub loop-k-init : goal.loop-k-init
unfolding slots_text
loop-k-init c =
    let a = c.args in
    let none : a.from - a.from ≡ 0 = omega arith in
    (omega arith, λ h. h, omega arith, refl, omega arith, λ fs gs ha hb. rw none (refl, refl))

pub slot_line-line-requires : goal.slot_line-line-requires
slot_line-line-requires c = (c.requires, omega arith)

pub hand_out-n-requires : goal.hand_out-n-requires
hand_out-n-requires c =
    let l = c.loop-k in
    let left = length-drop l.n l.out in
    let part = length-take-le (length l.out - l.n) (drop l.n l.out) (omega arith) in
    let room = c.if-out-n-ge-REPLY.true in
    (c.slot_line-line.ensures.1, omega arith)

pub overflow_add-n : goal.overflow_add-n
overflow_add-n c =
    let l = c.loop-k in
    let room = c.if-out-n-ge-REPLY.true in
    let few = c.slot_line-line.ensures.1 in
    let count = c.hand_out-n.ensures.0 in
    search rules

pub loop-k-smaller : goal.loop-k-smaller
loop-k-smaller c = let more = c.loop-k-test.true in omega arith

pub loop-k-preserved : goal.loop-k-preserved
loop-k-preserved c =
    let l = c.loop-k in
    let more = c.loop-k-test.true in
    let room = c.if-out-n-ge-REPLY.true in
    let line = c.slot_line-line in
    let few = line.ensures.1 in
    let hands = c.hand_out-n.ensures in
    let same = c.out-1.given.1 in (
      omega (arith, l.invariant.0),
      λ h. omega (arith, more),
      omega (arith, l.invariant.0, l.invariant.2, few, hands.0),
      same ∙ l.invariant.3,
      omega (arith, room, l.invariant.3, few, hands.0),
      λ fs gs ha hb.
          let is = line.ensures.0 fs gs ha hb in
          let short : length (slot_text fs gs l.k) ≤ REPLY = omega (arith, reply-long (slot_text fs gs l.k) line.result is, few) in
          slot-written fs gs c.args.out.now l.out c.args.from l.k l.n l.invariant.0 l.invariant.3 l.invariant.4 (l.invariant.5 fs gs ha hb) _ _ _ refl (text-handed (slot_text fs gs l.k) line.result short is _ _ _ hands),
    )

pub returns-else-out-n-ge-REPLY : goal.returns-else-out-n-ge-REPLY
returns-else-out-n-ge-REPLY c =
    let l = c.loop-k in
    let more = c.loop-k-test.true in
    let full = c.if-out-n-ge-REPLY.false in
    record {
      low = l.invariant.0;
      high = l.invariant.1;
      within = l.invariant.4;
      slots = l.invariant.5;
      some = λ small room. omega (arith, full, l.invariant.0, l.invariant.2, l.invariant.3);
      all = λ small room. omega (arith, full, more, l.invariant.0, l.invariant.2, l.invariant.3);
    }

pub returns-after-loop-k : goal.returns-after-loop-k
returns-after-loop-k c =
    let l = c.loop-k in
    let left = c.loop-k-test.false in
    record {
      low = l.invariant.0;
      high = l.invariant.1;
      within = l.invariant.4;
      slots = l.invariant.5;
      some = λ small room. omega (arith, left);
      all = λ small room. omega (arith, left, l.invariant.1 small);
    }
