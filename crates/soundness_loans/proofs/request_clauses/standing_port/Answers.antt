-- `request_clauses::standing_port` meets its contract.
use borrow.Author.Rules.{rules}
use mathlib.Core.Bool.{Bool, ◌&&◌}
use mathlib.Core.Path.{refl, ap, sym, ◌∙◌}
use lib.Dec.{eqb}
use Rattle.soundness_loans.specs.vocabulary.Clauses.{word_at}
use Rattle.soundness_loans.proofs.RequestClauses.{kind-word, stands, standing-yes, standing-no}
use Rattle.soundness_loans.proofs.request_clauses.standing_port.Goals as goal

pub returns-then-kind-newer : goal.returns-then-kind-newer
returns-then-kind-newer c =
    let kind = c.word_at-kind in
    let v = c.args.v in record {
      within = c.slot_among-s.ensures.within;
      found = (λ st rep e.
          let slot = c.slot_among-s.ensures.found st rep e in
          let right = kind.ensures ∙ ap (word_at c.args.t.now 1024) slot ∙ kind-word rep v.port in
          let newer = ap (λ (x : Bool). eqb kind.result 3 && x) c.newer_than_port-newer.ensures in
          let same = newer ∙ stands rep v v.port v.number kind.result refl refl right in
          standing-yes st.rows v c.slot_among-s.result (sym same ∙ c.if-kind-newer.true) slot);
    }

pub returns : goal.returns
returns c =
    let kind = c.word_at-kind in
    let v = c.args.v in record {
      within = search rules;
      found = (λ st rep e.
          let slot = c.slot_among-s.ensures.found st rep e in
          let right = kind.ensures ∙ ap (word_at c.args.t.now 1024) slot ∙ kind-word rep v.port in
          let newer = ap (λ (x : Bool). eqb kind.result 3 && x) c.newer_than_port-newer.ensures in
          let same = newer ∙ stands rep v v.port v.number kind.result refl refl right in
          standing-no st.rows v (sym same ∙ c.if-kind-newer.false));
    }
