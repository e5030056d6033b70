-- A row is marked by its sources, and by the request that it bears.
use native.Mathlib.Omega.{arith}
use Rattle.questions.proofs.PairMarks.{words-low, by-sources, by-request}
use Rattle.questions.proofs.pairs.marks_of.Goals as goal

pub returns-then-borne-eq0 : goal.returns-then-borne-eq0
returns-then-borne-eq0 c =
    let second = c.marks_at-2 in
    let first = c.marks_at in
    let a = c.args in
    λ right st n so rep at k few asks.
    let low = words-low a.t.now a.i a.requests.now a.marks.now right st n so rep at in
    by-sources a.t.now a.i a.requests.now a.marks.now right st n so rep at first.result second.result
    (first.ensures (omega (arith, low.0, c.requires.1))) (second.ensures (omega (arith, low.1, c.requires.1))) k few asks c.if-borne-eq0.true

pub returns : goal.returns
returns c =
    let second = c.marks_at-2 in
    let first = c.marks_at in
    let a = c.args in
    λ right st n so rep at k few asks.
    let low = words-low a.t.now a.i a.requests.now a.marks.now right st n so rep at in
    by-request a.t.now a.i a.requests.now a.marks.now right st n so rep at first.result second.result
    (first.ensures (omega (arith, low.0, c.requires.1))) (second.ensures (omega (arith, low.1, c.requires.1))) k few asks
    c.asking.result c.asking.ensures
