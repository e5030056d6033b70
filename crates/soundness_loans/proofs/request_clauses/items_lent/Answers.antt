use Rattle.std.proofs.Common.{◌≡◌, ℕ, List, ◌<◌, length, get_or, add-one, arith, sym, ap, ◌∙◌, refl}
use Rattle.std.proofs.lemmas.List.{get_or-map}
use Rattle.rows.specs.declared.Request.{Request}
use Rattle.rows.specs.Tables.{row_of}
use Rattle.rows.specs.Layout.{row_slot}
use Rattle.soundness_loans.specs.vocabulary.Clauses.{may_be_lent, items_listable, item_slots}
use Rattle.soundness_loans.proofs.RequestClauses.{all-more, all-passed}
use Rattle.soundness_loans.proofs.request_clauses.items_lent.Goals as goal

pub loop-k-init : goal.loop-k-init
loop-k-init c = λ st rep es. refl

pub may_be_listed-lent-requires : goal.may_be_listed-lent-requires
may_be_listed-lent-requires c =
    record { sizes = (c.requires.sizes.0, c.requires.sizes.1, c.requires.sizes.3 c.loop-k.k); vias = c.requires.vias }

pub loop-k-preserved : goal.loop-k-preserved
loop-k-preserved c =
    λ st rep es.
    let l = c.loop-k in
    let v = c.request_at-v.result in
    let lt : l.k < length v.items = omega arith in
    let slot : get_or c.args.slots l.k 0 ≡ row_slot st.rows (get_or v.items l.k 0)
    = ap (λ (ss : List ℕ). get_or ss l.k 0) es ∙ get_or-map (row_slot st.rows) v.items l.k 0 0 lt in
    rw (c.may_be_listed-lent.ensures st rep slot, add-one)
    (all-more (λ e. may_be_lent v (row_of st.rows e)) l.lent l.k v.items lt ∙ l.invariant st rep es)

pub returns : goal.returns
returns c =
    λ st rep es.
    let l = c.loop-k in
    let v = c.request_at-v in
    sym (all-passed (λ e. may_be_lent v.result (row_of st.rows e)) l.lent l.k v.result.items (omega arith))
    ∙ l.invariant st rep (es ∙ ap (λ (x : Request). item_slots st.rows x) (sym v.ensures))
    ∙ ap (λ (x : Request). items_listable st.rows x) v.ensures
