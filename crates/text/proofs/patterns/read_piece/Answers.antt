-- `patterns::read_piece` meets its contract: one law for each arm.
use mathlib.Core.Path.{sym, ◌∙◌}
use borrow.Author.Tests.{not-true, not-false}
use Rattle.text.proofs.PatternLaws.{piece-bad, piece-number, piece-word, piece_byte}
use Rattle.text.proofs.patterns.read_piece.Goals as goal

pub returns-then-not-r : goal.returns-then-not-r
returns-then-not-r c =
    let a = c.args in
    sym (piece-bad a.s.now a.r a.p (not-true _ c.if-not-r.true))

pub returns-in-35 : goal.returns-in-35
returns-in-35 c =
    let a = c.args in
    c.read_number.ensures ∙ sym (piece-number a.s.now a.r a.p (not-false _ c.if-not-r.false) c.in-35.is)

pub returns-in-64 : goal.returns-in-64
returns-in-64 c =
    let a = c.args in
    c.read_word.ensures ∙ sym (piece-word a.s.now a.r a.p (not-false _ c.if-not-r.false) c.in-64.is)

pub returns-in_default : goal.returns-in_default
returns-in_default c =
    let a = c.args in
    let byte = piece_byte a.s.now a.r a.p (not-false _ c.if-not-r.false) c.in_default.in_default-own.rest.0.1 c.in_default.in_default-own.rest.1 in
    c.read_byte.ensures ∙ sym byte
