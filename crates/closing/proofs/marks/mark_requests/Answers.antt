use borrow.Author.Rules.{rules}
use native.Mathlib.Omega.{arith}
use mathlib.Core.Bool.{◌||◌}
use Rattle.rows.specs.vocabulary.Sizes.{REQUESTS}
use Rattle.closing.specs.Closing.{closes}
use Rattle.closing.specs.vocabulary.Seeds.{closes_of}
use Rattle.closing.proofs.MarksPass.{pad-none, marked_start, marked_turn, marked-end}
use Rattle.closing.proofs.MarksRequests.{request-marked}
use Rattle.closing.proofs.marks.mark_requests.Goals as goal

pub loop-j-init : goal.loop-j-init
loop-j-init c = (search rules, (λ st g sd rep count long gone. marked_start (closes (closes_of c.args.s) g) REQUESTS st.requests _ (pad-none REQUESTS)))

pub loop-j-preserved : goal.loop-j-preserved
loop-j-preserved c =
    let l = c.loop-j in
    let qs = closes_of c.args.s in
    let first = c.closes_first-first in
    let port = c.is_marked-port in (
      search rules,
      (λ st g sd rep count long gone.
          marked_turn (closes qs g) REQUESTS st.requests l.j l.closed (first.result || port.result)
          (omega (arith, c.loop-j-test.true, c.requires.2)) (l.invariant.1 st g sd rep count long gone)
          (λ new v old cut slot so_far.
          request-marked rep sd new v old (cut, slot) qs g first.result port.result first.ensures (port.ensures st g rep count gone))),
    )

pub returns : goal.returns
returns c =
    let l = c.loop-j in
    λ st g sd rep count long gone.
    marked-end (closes (closes_of c.args.s) g) REQUESTS st.requests l.j l.closed (omega (arith, c.loop-j-test.false, l.invariant.0))
    (l.invariant.1 st g sd rep count long gone)
