-- `holder_clauses::list_request` meets its contract: a request that lists nothing changes nothing.
use Prim.Native.Nat.{ℕ}
use native.Mathlib.Omega.{arith}
use mathlib.Core.Bool.{◌&&◌}
use mathlib.Core.List.{List}
use mathlib.Core.Path.{ap, ◌∙◌}
use Rattle.rows.specs.declared.Request.{Request}
use Rattle.rows.specs.Layout.{request_at}
use Rattle.soundness_loans.specs.vocabulary.Clauses.{once_in, marked_in, item_slots}
use Rattle.soundness_loans.proofs.RequestClauses.{none_lent}
use Rattle.soundness_loans.proofs.HolderClauses.{once-none, list-none}
use Rattle.soundness_loans.proofs.holder_clauses.list_request.Goals as goal

pub returns-then-none : goal.returns-then-none
returns-then-none c =
    let a = c.args in
    let v = request_at a.t.now a.j in
    let none = c.lists_none-none.ensures c.if-none.true in
    record { right = (λ st rep e i. none_lent st.rows v none i && once-none rep v none a.listing.now i); marked = (λ st rep e. list-none rep v none a.listing.now) }

pub items_lent-lent-requires : goal.items_lent-lent-requires
items_lent-lent-requires c =
    record { sizes = (c.requires.sizes.0, c.requires.sizes.1, c.requires.sizes.2, c.item_slots-slots.ensures.within); vias = c.requires.vias }

pub listed_once-once-requires : goal.listed_once-once-requires
listed_once-once-requires c = λ k. omega (arith, c.item_slots-slots.ensures.within k, c.requires.sizes.1)

pub returns : goal.returns
returns c =
    let v = request_at c.args.t.now c.args.j in
    let l = c.args.listing.now in
    let slots = c.item_slots-slots in
    let read = c.request_at-v.ensures in
    let once = c.listed_once-once.ensures in record {
      right = (λ st rep e.
          let same = slots.ensures.found st rep e ∙ ap (λ (x : Request). item_slots st.rows x) read in
          let told = once.once ∙ ap (λ (x : Request). once_in l slots.result x) read ∙ ap (λ (ss : List ℕ). once_in l ss v) same in
          λ i. c.items_lent-lent.ensures st rep same i && told i);
      marked = (λ st rep e.
          once.all ∙ ap (λ (x : Request). marked_in l slots.result x) read
          ∙ ap (λ (ss : List ℕ). marked_in l ss v) (slots.ensures.found st rep e ∙ ap (λ (x : Request). item_slots st.rows x) read));
    }
