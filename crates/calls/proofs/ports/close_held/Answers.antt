-- `ports::close_held`: refused, or the port closes.
use Rattle.std.proofs.lemmas.Result.{err_from_is_err_and}
use Rattle.calls.specs.declared.Call.TheVariants.{Close}
use Rattle.calls.specs.Calls.{refusals}
use Rattle.calls.proofs.Judging.{refusal-some, refused-agrees, accepted-agrees}
use Rattle.calls.proofs.Effected.{closed-port}
use Rattle.calls.proofs.ports.close_held.Goals as goal

pub returns-in_err-close_refusal : goal.returns-in_err-close_refusal
unfolding refusals
returns-in_err-close_refusal c =
    let no = c.in_err-close_refusal in
    let (y, is, same) = err_from_is_err_and c.from_residual.result c.from_residual.ensures.1 in
    let a = c.args in record {
      closes = (λ st p sd rep records here. rw (is, same) (refused-agrees st (Close p a.c) rep records _ (no.ensures st p sd rep here) (refusal-some _)));
      long = (c.requires.0, c.requires.1);
    }

pub returns : goal.returns
unfolding refusals
returns c =
    let closed = c.close_port in
    let no = c.in_ok-close_refusal in
    let a = c.args in record {
      closes = (λ st p sd rep records here.
          accepted-agrees st (Close p a.c) (no.ensures st p sd rep here) (closed-port st p a.c _ (closed.ensures.closed st sd rep records)));
      long = closed.ensures.long;
    }
