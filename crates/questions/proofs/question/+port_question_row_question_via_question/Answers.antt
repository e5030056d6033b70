-- `question::row_question`, `via_question` and `port_question` meet their contracts: one proof for the cycle.
use Rattle.std.proofs.Common.{◌≡◌, ◌-◌, ◌+◌, arith}
use mathlib.Core.Bool.{true, false}
use Rattle.questions.proofs.Questions.{question-none, question-touched, question-via, question-source, via-none, via-row, via-port, row-port, port-source}
use Rattle.questions.proofs.question.+port_question_row_question_via_question.Goals as goal

pub port_question-returns-then-at-eq0 : goal.port_question-returns-then-at-eq0
port_question-returns-then-at-eq0 t c =
    let a = c.args in row-port a.t.now a.c a.q a.d false (question-none a.t.now a.c a.q a.d (λ x y z. omega arith))

pub port_question-returns-then-at-gt-ROWS : goal.port_question-returns-then-at-gt-ROWS
port_question-returns-then-at-gt-ROWS t c =
    let a = c.args in row-port a.t.now a.c a.q a.d false (question-none a.t.now a.c a.q a.d (λ x y z. omega arith))

pub port_question-returns-then-d-eq0 : goal.port_question-returns-then-d-eq0
port_question-returns-then-d-eq0 t c =
    let a = c.args in row-port a.t.now a.c a.q a.d false (question-none a.t.now a.c a.q a.d (λ x y z. omega arith))

pub port_question-returns-then-touched : goal.port_question-returns-then-touched
port_question-returns-then-touched t c =
    let a = c.args in
    let own = rw c.if-touched.true at c.touched.ensures in
    row-port a.t.now a.c a.q a.d true (question-touched a.t.now (a.c - 1) a.q a.d a.c (omega arith) own)

pub port_question-returns : goal.port_question-returns
port_question-returns t c =
    let a = c.args in
    let own = rw c.if-touched.false at c.touched.ensures in
    port-source a.t.now (a.c - 1) a.q a.d a.c (omega arith) own _ c.row_question.ensures

pub row_question-loop-left-init : goal.row_question-loop-left-init
row_question-loop-left-init t c = λ r h. h

pub row_question-returns-then-word-eq0 : goal.row_question-returns-then-word-eq0
row_question-returns-then-word-eq0 t c =
    let l = c.loop-left in l.invariant false (question-none c.args.t.now l.word c.args.q l.left (λ x y z. omega arith))

pub row_question-returns-then-word-gt-LAST_WORD : goal.row_question-returns-then-word-gt-LAST_WORD
row_question-returns-then-word-gt-LAST_WORD t c =
    let l = c.loop-left in l.invariant false (question-none c.args.t.now l.word c.args.q l.left (λ x y z. omega arith))

pub row_question-returns-then-touched : goal.row_question-returns-then-touched
row_question-returns-then-touched t c =
    let a = c.args in
    let l = c.loop-left in
    let own = rw c.if-touched.true at c.touched.ensures in
    l.invariant true (question-touched a.t.now (l.word - 1) a.q l.left l.word (omega arith) own)

pub row_question-returns-then-via_question : goal.row_question-returns-then-via_question
row_question-returns-then-via_question t c =
    let a = c.args in
    let l = c.loop-left in
    let own = rw c.if-touched.false at c.touched.ensures in
    let here : (l.left - 1) + 1 ≡ l.left = omega arith in
    let second = rw (c.if-via_question.true, here) at c.via_question.ensures in
    l.invariant true (question-via a.t.now (l.word - 1) a.q l.left l.word (omega arith) own second)

pub row_question-loop-left-preserved : goal.row_question-loop-left-preserved
row_question-loop-left-preserved t c =
    let a = c.args in
    let l = c.loop-left in
    let own = rw c.if-touched.false at c.touched.ensures in
    let here : (l.left - 1) + 1 ≡ l.left = omega arith in
    let second = rw (c.if-via_question.false, here) at c.via_question.ensures in
    λ r h. l.invariant r (question-source a.t.now (l.word - 1) a.q l.left l.word (omega arith) own second r h)

pub row_question-returns : goal.row_question-returns
row_question-returns t c =
    let l = c.loop-left in l.invariant false (question-none c.args.t.now l.word c.args.q l.left (λ x y z. omega arith))

pub via_question-returns-then-via-eq0 : goal.via_question-returns-then-via-eq0
via_question-returns-then-via-eq0 t c = let a = c.args in via-none a.t.now a.i a.q a.d c.if-via-eq0.true

pub via_question-returns-then-t-i-eq0 : goal.via_question-returns-then-t-i-eq0
via_question-returns-then-t-i-eq0 t c = let a = c.args in via-row a.t.now a.i a.q a.d _ c.row_question.ensures

pub via_question-returns : goal.via_question-returns
via_question-returns t c = let a = c.args in via-port a.t.now a.i a.q a.d c.if-t-i-eq0.false _ c.port_question.ensures
