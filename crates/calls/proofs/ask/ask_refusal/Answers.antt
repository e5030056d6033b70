-- `ask::ask_refusal`: one return a test, then those of the request.
use Prim.Native.Nat.{ℕ}
use native.Mathlib.Omega.{arith}
use mathlib.Core.Bool.{not, ◌||◌}
use mathlib.Core.Path.{ap, sym, ◌∙◌}
use Rattle.rows.specs.Lists.{any}
use Rattle.rows.specs.Codes.{is_client}
use Rattle.rows.specs.Tables.{row_of}
use Rattle.rows.proofs.Slots.{row-words}
use Rattle.calls.specs.Rules.{lowest, has_open, too_deep}
use Rattle.calls.specs.Loans.{copies, copy_depth}
use Rattle.calls.specs.Calls.{lacks_right, is_busy}
use Rattle.calls.specs.vocabulary.Asks.{named_in}
use Rattle.calls.proofs.Judging.{test-holds, test-fails}
use Rattle.calls.proofs.Refusing.{held as held-row, no-client, is-client}
use Rattle.calls.proofs.Asked.{none-missing, ask-rest, space_tests, copies-counted}
use Rattle.calls.proofs.ask.ask_refusal.Goals as goal

pub returns-then-t-i-ne-A_CLIENT_END : goal.returns-then-t-i-ne-A_CLIENT_END
returns-then-t-i-ne-A_CLIENT_END c =
    let w = c.args.w in
    let xs = c.args.items in record {
      lowest = (λ st sd h over held.
          let p = w.asker in
          let kind = (row_of st.rows w.port).kind in
          let rest = ask-rest st p w.port (named_in xs) (held-row st p w.port over.0.1) (none-missing st p xs held) in
          let word = (row-words h.0 w.port w.slot over.0.0).kind in
          test-holds (not (is_client kind)) 8 _ (no-client kind (λ k. c.if-t-i-ne-A_CLIENT_END.true (word ∙ k))) ∙ sym rest);
      space = (λ z. absurd (omega arith));
    }

pub returns-then-any_lacks : goal.returns-then-any_lacks
returns-then-any_lacks c =
    let w = c.args.w in
    let xs = c.args.items in record {
      lowest = (λ st sd h over held.
          let p = w.asker in
          let kind = (row_of st.rows w.port).kind in
          let rest = ask-rest st p w.port (named_in xs) (held-row st p w.port over.0.1) (none-missing st p xs held) in
          let word = (row-words h.0 w.port w.slot over.0.0).kind in
          let client = ap not (is-client kind (sym word ∙ c.if-t-i-ne-A_CLIENT_END.false)) in
          let lacks = sym (c.any_lacks.ensures st p h.0 held) ∙ c.if-any_lacks.true in
          test-fails (not (is_client kind)) 8 client (test-holds (any (lacks_right st) (named_in xs)) 9 _ lacks) ∙ sym rest);
      space = (λ z. absurd (omega arith));
    }

pub returns-then-has_open-any_busy : goal.returns-then-has_open-any_busy
returns-then-has_open-any_busy c =
    let w = c.args.w in
    let xs = c.args.items in record {
      lowest = (λ st sd h over held.
          let p = w.asker in
          let kind = (row_of st.rows w.port).kind in
          let rest = ask-rest st p w.port (named_in xs) (held-row st p w.port over.0.1) (none-missing st p xs held) in
          let word = (row-words h.0 w.port w.slot over.0.0).kind in
          let client = ap not (is-client kind (sym word ∙ c.if-t-i-ne-A_CLIENT_END.false)) in
          let lacks = sym (c.any_lacks.ensures st p h.0 held) ∙ c.if-any_lacks.false in
          let asked = c.has_open.ensures st (h.0, h.2) in
          let items = c.any_busy.ensures st p (h.0, h.2) held in
          let busy = (λ j. sym asked j || sym items j) ∙ c.if-has_open-any_busy.true in
          test-fails (not (is_client kind)) 8 client
          (test-fails (any (lacks_right st) (named_in xs)) 9 lacks (test-holds (has_open st w.port || any (is_busy st w.port) (named_in xs)) 10 _ busy)) ∙ sym rest);
      space = (λ z. absurd (omega arith));
    }

pub returns-then-any_deep : goal.returns-then-any_deep
returns-then-any_deep c =
    let w = c.args.w in
    let xs = c.args.items in record {
      lowest = (λ st sd h over held.
          let p = w.asker in
          let kind = (row_of st.rows w.port).kind in
          let rest = ask-rest st p w.port (named_in xs) (held-row st p w.port over.0.1) (none-missing st p xs held) in
          let word = (row-words h.0 w.port w.slot over.0.0).kind in
          let client = ap not (is-client kind (sym word ∙ c.if-t-i-ne-A_CLIENT_END.false)) in
          let lacks = sym (c.any_lacks.ensures st p h.0 held) ∙ c.if-any_lacks.false in
          let asked = c.has_open.ensures st (h.0, h.2) in
          let items = c.any_busy.ensures st p (h.0, h.2) held in
          let busy = (λ j. sym asked j || sym items j) ∙ c.if-has_open-any_busy.false in
          let deep = sym (c.any_deep.ensures st p w.port sd h.0 over.0.0 held) ∙ c.if-any_deep.true in
          test-fails (not (is_client kind)) 8 client
          (test-fails (any (lacks_right st) (named_in xs)) 9 lacks
          (test-fails (has_open st w.port || any (is_busy st w.port) (named_in xs)) 10 busy
          (test-holds (any (λ i. too_deep (copy_depth st w.port i)) (copies st (named_in xs))) 15 _ deep))) ∙ sym rest);
      space = (λ z. absurd (omega arith));
    }

pub request_refusal-requires : goal.request_refusal-requires
request_refusal-requires c = (c.requires.1, c.requires.2, c.copies_of.ensures.few)

pub returns : goal.returns
returns c =
    let w = c.args.w in
    let xs = c.args.items in record {
      lowest = (λ st sd h over held.
          let p = w.asker in
          let kind = (row_of st.rows w.port).kind in
          let rest = ask-rest st p w.port (named_in xs) (held-row st p w.port over.0.1) (none-missing st p xs held) in
          let word = (row-words h.0 w.port w.slot over.0.0).kind in
          let client = ap not (is-client kind (sym word ∙ c.if-t-i-ne-A_CLIENT_END.false)) in
          let lacks = sym (c.any_lacks.ensures st p h.0 held) ∙ c.if-any_lacks.false in
          let asked = c.has_open.ensures st (h.0, h.2) in
          let items = c.any_busy.ensures st p (h.0, h.2) held in
          let busy = (λ j. sym asked j || sym items j) ∙ c.if-has_open-any_busy.false in
          let deep = sym (c.any_deep.ensures st p w.port sd h.0 over.0.0 held) ∙ c.if-any_deep.false in
          let space = c.request_refusal.ensures.lowest st h.1 h.2 over.1 ∙ ap (λ (k : ℕ). lowest (space_tests st k)) (c.copies_of.ensures.counted ∙ copies-counted st p xs held) in
          test-fails (not (is_client kind)) 8 client
          (test-fails (any (lacks_right st) (named_in xs)) 9 lacks
          (test-fails (has_open st w.port || any (is_busy st w.port) (named_in xs)) 10 busy
          (test-fails (any (λ i. too_deep (copy_depth st w.port i)) (copies st (named_in xs))) 15 deep space))) ∙ sym rest);
      space = rw (← c.copies_of.ensures.counted) c.request_refusal.ensures.room;
    }
