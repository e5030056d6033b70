-- The ends that a request lists, asked of one after the other: busy, away; and the tests of answer.
use Prim.Native.Nat.{ℕ, suc, ◌+◌}
use mathlib.Core.Bool.{Bool, true, false, cond, not, ◌&&◌, ◌||◌}
use mathlib.Core.List.{List}
use mathlib.Core.Path.{◌≡◌, refl, ap, sym, ◌∙◌}
use native.Mathlib.Omega.{arith}
use native.Mathlib.Numerals.{add-one}
use lib.Dec.{ltb, eqb}
use lib.ListN.{length}
use Rattle.rows.specs.declared.Request.{Request}
use Rattle.std.specs.Prelude.{Option}
use Rattle.std.specs.Prelude.{Some, None}
use Rattle.rows.specs.Lists.{any, filter, member, some, nonzero}
use Rattle.rows.specs.Codes.{client_end, server_end, is_client, is_server, is_end}
use Rattle.rows.specs.Tables.{State, no_row, no_request, row_of, lists}
use Rattle.rows.specs.Sound.{is_fetched}
use Rattle.rows.specs.Layout.{row_slot, request_at, requests_to}
use Rattle.rows.specs.vocabulary.Represents.{Represents}
use Rattle.rows.specs.vocabulary.Slots.{found_slot, open_slot}
use Rattle.rows.proofs.Bools.{and-rf, or-false, any-eq}
use Rattle.rows.proofs.Lists.{filter-filter}
use Rattle.rows.proofs.Slots.{found_at, found_nothing, row-absent, represented-requests, open-absent}
use Rattle.questions.proofs.Listed.{requests-read}
use Rattle.calls.specs.Rules.{lowest, not_held, has_open, asked_of}
use Rattle.calls.specs.Calls.{lent_ends, is_away, refusals_answer}
use Rattle.calls.specs.vocabulary.Answering.{end_slot, end_item, listed_newer}
use Rattle.calls.proofs.Refusing.{row-some}
use Rattle.std.specs.List.{list_any}
use Rattle.calls.proofs.Joined.{any-filter, any-list, any-member}

-- ---- one item
module _ (st : State) (e : ℕ) where
  pub end-absent : row_slot st.rows e ≡ 0 → None ≡ end_slot st e
  unfolding end_slot found_slot
  end-absent s = rw s (pick (is_end (row_of st.rows e).kind))
    where
      pick : (b : Bool) → ◌≡◌ {A = Option ℕ} None (cond b None None)
      pick true = refl
      pick false = refl

  pub end-here : (i : ℕ) → row_slot st.rows e ≡ suc i → is_end (row_of st.rows e).kind ≡ true → Some i ≡ end_slot st e
  unfolding end_slot found_slot
  end-here i s h = rw (h, s) refl

  pub end-other : is_end (row_of st.rows e).kind ≡ false → None ≡ end_slot st e
  unfolding end_slot
  end-other h = rw h refl

  -- what the look-up says of the item
  pub no_end : (r : Option ℕ) → r ≡ end_slot st e → r ≡ None → end_item st e ≡ false
  unfolding end_slot no_row is_end is_client is_server client_end server_end
  no_end r f none = and-rf (some e) (is_end (row_of st.rows e).kind) (pick (is_end (row_of st.rows e).kind) refl f)
    where
      pick : (b : Bool) → is_end (row_of st.rows e).kind ≡ b → r ≡ cond b (found_slot (row_slot st.rows e)) None → b ≡ false
      pick true q f = sym q ∙ (λ i. is_end (row-absent st.rows e (found_nothing (row_slot st.rows e) f none) i).kind)
      pick false q f = refl

  pub an-end : {t : List ℕ} → Represents t st → (r : Option ℕ) (i : ℕ) → r ≡ end_slot st e → r ≡ Some i → (row_slot st.rows e ≡ suc i) × (end_item st e ≡ true)
  unfolding end_slot
  an-end rep r i f a = pick (is_end (row_of st.rows e).kind) refl f
    where
      pick : (b : Bool) → is_end (row_of st.rows e).kind ≡ b → r ≡ cond b (found_slot (row_slot st.rows e)) None → (row_slot st.rows e ≡ suc i) × (some e && b ≡ true)
      pick true q f = let at = found_at (row_slot st.rows e) i f a in (at, rw (row-some rep e i at).1 refl)
      pick false q f = let z : ◌≡◌ {A = ℕ} 0 1 = cc in absurd (omega arith)

  -- it is not with the caller; it is, and newer requests decide
  module _ (p : ℕ) (v : Request) where
    pub away : not_held st p e ≡ true → is_away st p v e ≡ true
    unfolding is_away
    away h = rw h refl

    pub with-caller : not_held st p e ≡ false → (q : ℕ) → v.number ≡ q → is_away st p v e ≡ listed_newer st q e
    unfolding is_away
    with-caller h q n = rw (h, n) refl

pub and_both : {a b c : Bool} → a ≡ true → c ≡ b → c ≡ a && b
and_both p q = rw p q

pub and_first : {a : Bool} (b : Bool) → a ≡ false → false ≡ a && b
and_first b p = rw p refl

-- ---- all items
any-ends : (f g : ℕ → Bool) (is : List ℕ) → any f (filter g (nonzero is)) ≡ any (λ e. (some e && g e) && f e) is
unfolding nonzero
any-ends f g is = ap (any f) (filter-filter g some (λ e. some e && g e) (λ e. refl) is) ∙ any-filter f (λ e. some e && g e) is

-- the tests of the items, joined
pub any-lent : (st : State) (v : Request) (f : ℕ → Bool) → list_any (λ e. end_item st e && f e) v.items ≡ any f (lent_ends st v)
unfolding lent_ends
any-lent st v f = any-list (λ e. end_item st e && f e) v.items ∙ sym (any-ends f (λ e. is_end (row_of st.rows e).kind) v.items)

-- ---- requests that are newer and list an item
pub newer-read : (t : List ℕ) (k q e : ℕ) (w : Request) → w ≡ request_at t k → (b : Bool) → b ≡ list_any (λ i. eqb i e) w.items
    → ltb q w.number && b ≡ ltb q (request_at t k).number && member e (request_at t k).items
newer-read t k q e w h b r = rw (r, h, any-list (λ i. eqb i e) (request_at t k).items, any-member e (request_at t k).items) refl

module _ (t : List ℕ) (q e : ℕ) where
  abbrev newer : Request → Bool
  newer w = ltb q w.number && member e w.items

  -- one of the first k requests is newer and lists e
  unfoldable pub newer_to : ℕ → Bool
  newer_to k = any newer (requests_to t k)

  pub newer-none : false ≡ newer_to 0
  unfolding newer_to any requests_to
  newer-none = refl

  pub newer-more : (k : ℕ) (here found : Bool) → here ≡ ltb q (request_at t k).number && member e (request_at t k).items → found ≡ newer_to k → here || found ≡ newer_to (k + 1)
  unfolding newer_to any requests_to
  newer-more k here found h f = rw (add-one k, h, f) refl

  pub newer-all : (m : ℕ) (st : State) → Represents t st → m ≡ length st.requests → some e ≡ true → newer_to m ≡ listed_newer st q e
  unfolding newer_to lists
  newer-all m st rep h pos =
      ap (λ (k : ℕ). any newer (requests_to t k)) (h ∙ sym (represented-requests rep)) ∙ ap (any newer) (requests-read rep)
      ∙ any-eq newer (λ w. ltb q w.number && lists e w) (λ w. rw pos refl) st.requests

-- ---- the tests of answer
module _ (st : State) (p e : ℕ) (served : Bool) (h : not_held st p e ≡ false) where
  abbrev pub server_of : Bool
  server_of = is_server (row_of st.rows e).kind

  abbrev pub busy_lent : Bool
  busy_lent = any (λ x. has_open st (row_of st.rows x).object) (lent_ends st (asked_of st e))

  abbrev pub away_lent : Bool
  away_lent = any (is_away st p (asked_of st e)) (lent_ends st (asked_of st e))

  pub answer-rest : lowest (refusals_answer st p e served)
      ≡ cond (not server_of) 8 (cond (served && busy_lent) 10
      (cond (eqb (asked_of st e).number 0 || (served && not (is_fetched (asked_of st e)))) 11 (cond (served && away_lent) 14 0)))
  unfolding refusals_answer lowest
  answer-rest = rw h refl

  -- with 1, and with 0
  pub answer-served : served ≡ true → lowest (refusals_answer st p e served)
      ≡ cond (not server_of) 8 (cond busy_lent 10 (cond (eqb (asked_of st e).number 0 || not (is_fetched (asked_of st e))) 11 (cond away_lent 14 0)))
  unfolding refusals_answer lowest
  answer-served s = rw (h, s) refl

  pub answer-declined : served ≡ false → lowest (refusals_answer st p e served) ≡ cond (not server_of) 8 (cond (eqb (asked_of st e).number 0) 11 0)
  unfolding refusals_answer lowest
  answer-declined s = rw (h, s, or-false (eqb (asked_of st e).number 0)) refl

-- no request lists nothing
pub none_lent : (st : State) (e : ℕ) → open_slot st.requests (row_of st.rows e).object ≡ 0 → (f : ℕ → Bool) → any f (lent_ends st (asked_of st e)) ≡ false
unfolding asked_of lent_ends no_request nonzero filter any
none_lent st e h f = rw (open-absent st.requests (row_of st.rows e).object h) refl
