-- The words of a request's slot, found by its number or by its port.
use Rattle.std.proofs.Common.{◌≡◌, ℕ, suc, ◌+◌, ◌*◌, ◌<◌, Bool, true, eqb, List, [], ◌∷◌, ◌++◌, map, length, get_or, sym, refl, ap, ◌∙◌, subst, arith, length-append, eqb-true}
use Rattle.rows.specs.declared.Request.{Request}
use Rattle.rows.specs.Lists.{first_with, all, laid, member, slot_with}
use Rattle.rows.specs.Limits.{row_slots, request_slots, most_items}
use Rattle.rows.specs.Tables.{State, no_request, request_of, open_on}
use Rattle.rows.specs.Sound.{items_few}
use Rattle.rows.specs.Layout.{row_columns, requests_at, request_word, request_field, request_at}
use Rattle.rows.specs.vocabulary.Represents.{Represents}
use Rattle.rows.specs.vocabulary.Slots.{request_slot, open_slot}
use Rattle.rows.proofs.Bools.{and_l, and_r}
use Rattle.rows.proofs.Keyed.{older_of, first-none}
use Rattle.rows.proofs.LayoutColumns.{laid-at}
use Rattle.rows.proofs.KeySlots.{slot-none, slot-member, slot-older, slot-found, newer_of, cut-first}
use Rattle.rows.proofs.RepresentedWords.{represented-well, represented-request}
use Rattle.rows.proofs.LayoutRequests.{four}

pub record RequestWords (t : List ℕ) (j : ℕ) (v : Request) : Type 0 where
  pub number : get_or t (10240 + j) 0 ≡ v.number
  pub port : get_or t (10368 + j) 0 ≡ v.port
  pub asker : get_or t (10496 + j) 0 ≡ v.asker
  pub fetched : get_or t (10624 + j) 0 ≡ v.fetched
  pub item1 : get_or t (10752 + j) 0 ≡ get_or v.items 0 0
  pub item2 : get_or t (10880 + j) 0 ≡ get_or v.items 1 0
  pub item3 : get_or t (11008 + j) 0 ≡ get_or v.items 2 0
  pub item4 : get_or t (11136 + j) 0 ≡ get_or v.items 3 0
  pub items : length v.items ≡ 4

-- where the word of column c stands
at-column : (t : List ℕ) (c j n : ℕ) → 10240 + (c * 128 + j) ≡ n → request_field t c j ≡ get_or t n 0
unfolding request_field requests_at row_columns row_slots request_slots
at-column t c j n e = ap (λ (k : ℕ). get_or t k 0) e

pub request-of-words : (t : List ℕ) (j : ℕ) (v : Request) → RequestWords t j v → request_at t j ≡ v
unfolding request_at
request-of-words t j v w =
    λ i.
    record {
      number = (at-column t 0 j (10240 + j) (omega arith) ∙ w.number) i;
      port = (at-column t 1 j (10368 + j) (omega arith) ∙ w.port) i;
      asker = (at-column t 2 j (10496 + j) (omega arith) ∙ w.asker) i;
      fetched = (at-column t 3 j (10624 + j) (omega arith) ∙ w.fetched) i;
      items = (items ∙ four v.items w.items) i;
    }
  where
    items : request_field t 4 j ∷ request_field t 5 j ∷ request_field t 6 j ∷ request_field t 7 j ∷ []
        ≡ get_or v.items 0 0 ∷ get_or v.items 1 0 ∷ get_or v.items 2 0 ∷ get_or v.items 3 0 ∷ []
    items =
        λ i.
        (at-column t 4 j (10752 + j) (omega arith) ∙ w.item1) i
        ∷ (at-column t 5 j (10880 + j) (omega arith) ∙ w.item2) i
        ∷ (at-column t 6 j (11008 + j) (omega arith) ∙ w.item3) i
        ∷ (at-column t 7 j (11136 + j) (omega arith) ∙ w.item4) i
        ∷ []

all-cut : {A : Type 0} (P : A → Bool) (new : List A) (x : A) (old : List A) → all P (new ++ (x ∷ old)) ≡ true → P x ≡ true
unfolding all
all-cut P [] x old e = and_l (P x) (all P old) e
all-cut P (y ∷ new) x old e = all-cut P new x old (and_r (P y) (all P (new ++ (x ∷ old))) e)

module _ {st : State} {t : List ℕ} (rep : Represents t st) where
  module _ (new : List Request) (v : Request) (old : List Request) (e : st.requests ≡ new ++ (v ∷ old)) where
    request-word : (c n : ℕ) → c < 8 → 10240 + (c * 128 + length old) ≡ n → get_or t n 0 ≡ request_word c v old
    request-word c n h d =
        ap (λ (k : ℕ). get_or t k 0) (sym d)
        ∙ represented-request rep c (length old) h (omega (arith, (represented-well rep).requests-fit, ap length e, length-append new (v ∷ old)))
        ∙ ap (λ (l : List Request). get_or (laid (request_word c) l) (length old) 0) e
        ∙ laid-at (request_word c) new v old

    four-items : length v.items ≡ 4
    unfolding items_few most_items
    four-items = eqb-true (length v.items) 4 (all-cut (λ v. eqb (length v.items) 4) new v old (rw e at (represented-well rep).items-few))

    -- by the position in the list
    pub request-words-at : RequestWords t (length old) v
    unfolding request_word
    request-words-at =
        record {
          number = request-word 0 (10240 + length old) (omega arith) (omega arith);
          port = request-word 1 (10368 + length old) (omega arith) (omega arith);
          asker = request-word 2 (10496 + length old) (omega arith) (omega arith);
          fetched = request-word 3 (10624 + length old) (omega arith) (omega arith);
          item1 = request-word 4 (10752 + length old) (omega arith) (omega arith);
          item2 = request-word 5 (10880 + length old) (omega arith) (omega arith);
          item3 = request-word 6 (11008 + length old) (omega arith) (omega arith);
          item4 = request-word 7 (11136 + length old) (omega arith) (omega arith);
          items = four-items;
        }

  -- by any key
  words-with : (key : Request → ℕ) (n j : ℕ) → slot_with key st.requests n ≡ suc j → RequestWords t j (first_with key no_request st.requests n)
  words-with key n j e =
      subst (λ (k : ℕ). RequestWords t k (first_with key no_request st.requests n)) (slot-older key st.requests n j e)
      (request-words-at (newer_of key st.requests n) (first_with key no_request st.requests n) (older_of key st.requests n)
      (cut-first key no_request st.requests n (slot-member key st.requests n j e)))

  -- by the number
  pub request-words : (q j : ℕ) → request_slot st.requests q ≡ suc j → RequestWords t j (request_of st.requests q)
  unfolding request_slot request_of
  request-words q j e = words-with (λ v. v.number) q j e

  pub raw-request : (q j : ℕ) → request_slot st.requests q ≡ suc j → request_at t j ≡ request_of st.requests q
  raw-request q j e = request-of-words t j (request_of st.requests q) (request-words q j e)

  -- by the port
  pub open-words : (c j : ℕ) → open_slot st.requests c ≡ suc j → RequestWords t j (open_on st.requests c)
  unfolding open_slot open_on
  open-words c j e = words-with (λ v. v.port) c j e

  pub raw-open : (c j : ℕ) → open_slot st.requests c ≡ suc j → request_at t j ≡ open_on st.requests c
  raw-open c j e = request-of-words t j (open_on st.requests c) (open-words c j e)

pub request-found : (vs : List Request) (q j : ℕ) → request_slot vs q ≡ suc j → (member q (map (λ v. v.number) vs) ≡ true) × ((request_of vs q).number ≡ q) × (j < length vs)
unfolding request_slot request_of
request-found vs q j e = slot-found (λ v. v.number) no_request vs q j e

pub open-found : (vs : List Request) (c j : ℕ) → open_slot vs c ≡ suc j → (member c (map (λ v. v.port) vs) ≡ true) × ((open_on vs c).port ≡ c) × (j < length vs)
unfolding open_slot open_on
open-found vs c j e = slot-found (λ v. v.port) no_request vs c j e

pub request-absent : (vs : List Request) (q : ℕ) → request_slot vs q ≡ 0 → request_of vs q ≡ no_request
unfolding request_slot request_of
request-absent vs q e = first-none (λ v. v.number) no_request vs q (slot-none (λ v. v.number) vs q e)

pub open-absent : (vs : List Request) (c : ℕ) → open_slot vs c ≡ 0 → open_on vs c ≡ no_request
unfolding open_slot open_on
open-absent vs c e = first-none (λ v. v.port) no_request vs c (slot-none (λ v. v.port) vs c e)

-- the words of slot j are the request there
pub request-read : (t : List ℕ) (j : ℕ)
    → record {
      number = get_or t (10240 + j) 0;
      port = get_or t (10368 + j) 0;
      asker = get_or t (10496 + j) 0;
      fetched = get_or t (10624 + j) 0;
      items = get_or t (10752 + j) 0 ∷ get_or t (10880 + j) 0 ∷ get_or t (11008 + j) 0 ∷ get_or t (11136 + j) 0 ∷ [];
    } ≡ request_at t j
request-read t j =
    sym
    (request-of-words t j _ record { number = refl; port = refl; asker = refl; fetched = refl; item1 = refl; item2 = refl; item3 = refl; item4 = refl; items = refl })
