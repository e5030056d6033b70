-- `directories::drop_held`: refused, or the row goes.
use Rattle.std.proofs.lemmas.Result.{err_from_is_err_and}
use Rattle.calls.specs.declared.Call.TheVariants.{Drop}
use Rattle.calls.specs.Calls.{refusals}
use Rattle.calls.proofs.Judging.{refusal-some, refused-agrees, accepted-agrees}
use Rattle.calls.proofs.Effected.{dropped-row}
use Rattle.calls.proofs.directories.drop_held.Goals as goal

pub returns-in_err-drop_refusal : goal.returns-in_err-drop_refusal
unfolding refusals
returns-in_err-drop_refusal c =
    let no = c.in_err-drop_refusal in
    let (y, is, same) = err_from_is_err_and c.from_residual.result c.from_residual.ensures.1 in
    let a = c.args in record {
      drops = (λ st p sd h records here x. rw (is, same) (refused-agrees st (Drop p a.e) h.0 records _ (no.ensures st p h here x) (refusal-some _)));
      long = (c.requires.0, c.requires.1);
    }

pub returns : goal.returns
unfolding refusals
returns c =
    let dropped = c.drop_row in
    let no = c.in_ok-drop_refusal in
    let a = c.args in record {
      drops = (λ st p sd h records here x.
          accepted-agrees st (Drop p a.e) (no.ensures st p h here x) (dropped-row st p a.e _ (dropped.ensures.dropped st sd h.0 records)));
      long = dropped.ensures.long;
    }
