-- The slots that are left are listed, and their words move down in all columns.
use Rattle.std.proofs.Common.{◌≡◌, ℕ, ◌≤◌, ◌-◌, List, length, take, sym, arith, length-take-le, rules}
use Rattle.changes.specs.vocabulary.Bits.{marks_in, EndsWord}
use Rattle.changes.specs.vocabulary.Marks.{Lists}
use Rattle.changes.proofs.Lefts.{lists-front}
use Rattle.changes.proofs.Parts.{moved_listed}
use Rattle.changes.proofs.gather.gather_word.Goals as goal

-- they are no more than the slots that have their marks in one word
listed-few : (ms : List ℕ) (from end : ℕ) (slots : List ℕ) (n : ℕ) → EndsWord from end end → Lists (marks_in ms) from end slots n → n ≤ 64
listed-few ms from end slots n word q =
    let after = word.after in
    let last = word.same (end - 1) (omega (arith, after)) (omega (arith, after)) in
    omega (arith, q.few, after, last)

pub list_left-n-requires : goal.list_left-n-requires
list_left-n-requires c =
    (search rules, c.requires.sizes.3, c.requires.word)

pub slice_bounds-slots-end : goal.slice_bounds-slots-end
slice_bounds-slots-end c =
    let listed = c.list_left-n in
    let few = listed-few c.args.marks.now c.args.from c.args.end listed.new.slots listed.result c.requires.word listed.ensures in
    sym (length-take-le listed.result listed.new.slots (omega (arith, few, listed.auto.slots)))

pub on_each-requires : goal.on_each-requires
on_each-requires c =
    let listed = c.list_left-n in
    let n : ℕ = listed.result in
    let slots = listed.new.slots in
    let few = listed-few c.args.marks.now c.args.from c.args.end slots n c.requires.word listed.ensures in
    let room : n ≤ length slots = omega (arith, few, listed.auto.slots) in
    let long : length (take n slots) ≡ n = length-take-le n slots room in
    let q = lists-front (marks_in c.args.marks.now) c.args.from c.args.end slots n room listed.ensures in
    record { sizes = c.requires.sizes.0; fits = (omega (arith, long, q.few, c.requires.sizes), (λ x h. let y = q.ahead x (omega arith) in (omega (arith, y, c.requires.sizes), omega (arith, y, c.requires.sizes)))) }

pub returns : goal.returns
returns c =
    let called = c.on_each in
    let listed = c.list_left-n in
    let n : ℕ = listed.result in
    let slots = listed.new.slots in
    let ms = marks_in c.args.marks.now in
    let few = listed-few c.args.marks.now c.args.from c.args.end slots n c.requires.word listed.ensures in
    let room : n ≤ length slots = omega (arith, few, listed.auto.slots) in
    let long : length (take n slots) ≡ n = length-take-le n slots room in
    record {
      number = listed.ensures.number;
      moved = λ l₀ whole p.
          moved_listed ms c.args.size c.args.columns l₀ c.args.part.now whole c.requires.sizes.0 c.args.from c.args.to c.args.end p
          c.requires.sizes.1 c.requires.sizes.2 (take n slots) n (lists-front ms c.args.from c.args.end slots n room listed.ensures) called.new.part (rw long at called.ensures);
    }
