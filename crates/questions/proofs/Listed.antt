-- What the requests list, in their words: the items of a slot, and whether an open request lists an end.
use Prim.Native.Nat.{ℕ, ◌+◌}
use mathlib.Core.Bool.{Bool, false, ◌||◌}
use mathlib.Core.List.{List}
use mathlib.Core.Path.{◌≡◌, refl, ◌∙◌}
use native.Mathlib.Numerals.{add-one}
use Rattle.rows.specs.declared.Request.{Request}
use Rattle.rows.specs.Lists.{any, member}
use Rattle.rows.specs.Limits.{row_slots, request_slots}
use Rattle.rows.specs.Tables.{State, lists, on_loan}
use Rattle.rows.specs.Sound.{items_few}
use Rattle.rows.specs.Layout.{row_columns, request_columns, requests_at, request_at, requests_to, requests_in}
use Rattle.rows.specs.vocabulary.Represents.{Represents}
use Rattle.rows.proofs.Bools.{any-eq}
use Rattle.rows.proofs.LayoutRequests.{requests-back}
use Rattle.rows.proofs.RepresentedWords.{represented-well, represented-requests, represented-request}
use Rattle.questions.specs.vocabulary.Questions.{OnLoan}

-- the requests are read back from the words that represent a state
pub requests-read : {st : State} {t : List ℕ} → Represents t st → requests_to t (requests_in t) ≡ st.requests
unfolding items_few request_slots requests_at row_columns row_slots request_columns
requests-read {st} {t} rep =
    rw (represented-requests rep)
    (requests-back t st.requests (represented-well rep).requests-fit (represented-request rep) (represented-well rep).items-few)

-- ---- whether an open request lists an end
module _ (t : List ℕ) (e : ℕ) where
  abbrev listed : Request → Bool
  listed v = member e v.items

  -- one of the first j requests lists e
  unfoldable pub listed_to : ℕ → Bool
  listed_to j = any listed (requests_to t j)

  pub listed-none : false ≡ listed_to 0
  unfolding listed_to any requests_to
  listed-none = refl

  pub listed_more : (j : ℕ) (here found : Bool) → here ≡ member e (request_at t j).items → found ≡ listed_to j
      → here || found ≡ listed_to (j + 1)
  unfolding listed_to any requests_to
  listed_more j here found h f = rw (add-one j, h, f) refl

  pub listed-loan : (found : Bool) → found ≡ listed_to (requests_in t) → OnLoan t e found
  unfolding listed_to on_loan lists
  listed-loan found f st rep pos = f ∙ rw (requests-read rep) (any-eq listed (lists e) (λ v. rw pos refl) st.requests)
