-- Requests and process records read back from the words that represent them.
use Rattle.std.proofs.Common.{◌≡◌, ℕ, zero, suc, ◌+◌, ◌*◌, ◌<◌, ◌≤◌, true, eqb, List, [], ◌∷◌, ◌++◌, length, get_or, sym, refl, ap, ◌∙◌, append_assoc, arith, length-append, eqb-true}
use Rattle.rows.specs.declared.Request.{Request}
use Rattle.rows.specs.declared.Process.{Process}
use Rattle.rows.specs.Lists.{all, pad, laid}
use Rattle.rows.specs.Limits.{request_slots, most_items}
use Rattle.rows.specs.Setters.{with_items}
use Rattle.rows.specs.Layout.{request_columns, requests_at, words_of_request, request_from, request_word, request_words, request_field, request_at, requests_to, records_of, records_in}
use Rattle.rows.proofs.Bools.{and_l, and_r}
use Rattle.rows.proofs.LayoutColumns.{columns, laid-at}

pub request-columns : (c : ℕ) (vs : List Request) → request_words c vs ≡ columns request_slots request_word c vs
unfolding request_words columns
request-columns zero vs = refl
request-columns (suc c) vs = ap (λ (l : List ℕ). l ++ pad 0 request_slots (laid (request_word c) vs)) (request-columns c vs)

-- a list of four, position by position
pub four : (l : List ℕ) → length l ≡ 4 → get_or l 0 0 ∷ get_or l 1 0 ∷ get_or l 2 0 ∷ get_or l 3 0 ∷ [] ≡ l
four [] e = absurd (omega arith)
four (a ∷ []) e = absurd (omega arith)
four (a ∷ b ∷ []) e = absurd (omega arith)
four (a ∷ b ∷ c ∷ []) e = absurd (omega arith)
four (a ∷ b ∷ c ∷ d ∷ []) e = refl
four (a ∷ b ∷ c ∷ d ∷ x ∷ l) e = absurd (omega arith)

-- ---- the order of the columns, there and back
pub request-from-words : (v : Request) → length v.items ≡ 4 → request_from (λ c. get_or (words_of_request v) c 0) ≡ v
request-from-words v h = ap (λ (is : List ℕ). with_items is v) (four v.items h)

pub request-word-from : (word : ℕ → ℕ) (c : ℕ) → c < 8 → get_or (words_of_request (request_from word)) c 0 ≡ word c
request-word-from word zero h = refl
request-word-from word (suc zero) h = refl
request-word-from word (suc (suc zero)) h = refl
request-word-from word (suc (suc (suc zero))) h = refl
request-word-from word (suc (suc (suc (suc zero)))) h = refl
request-word-from word (suc (suc (suc (suc (suc zero))))) h = refl
request-word-from word (suc (suc (suc (suc (suc (suc zero)))))) h = refl
request-word-from word (suc (suc (suc (suc (suc (suc (suc zero))))))) h = refl
request-word-from word (suc (suc (suc (suc (suc (suc (suc (suc c)))))))) h = absurd (omega arith)

-- requests from words that agree are the same
pub request-from-same : (f g : ℕ → ℕ) → ((c : ℕ) → c < 8 → f c ≡ g c) → request_from f ≡ request_from g
request-from-same f g same =
    λ i.
    record {
      number = same 0 (omega arith) i;
      port = same 1 (omega arith) i;
      asker = same 2 (omega arith) i;
      fetched = same 3 (omega arith) i;
      items = same 4 (omega arith) i ∷ same 5 (omega arith) i ∷ same 6 (omega arith) i ∷ same 7 (omega arith) i ∷ [];
    }

-- ---- words that hold the requests, column by column
module _ (t : List ℕ) (requests : List Request) (few : length requests ≤ request_slots)
    (at : (c i : ℕ) → c < request_columns → i < request_slots → get_or t (requests_at + (c * request_slots + i)) 0 ≡ get_or (laid (request_word c) requests) i 0) where
  field_at : (c : ℕ) (new : List Request) (v : Request) (old : List Request) → requests ≡ new ++ (v ∷ old) → c < request_columns → request_field t c (length old) ≡ request_word c v old
  unfolding request_field
  field_at c new v old e h =
      at c (length old) h (omega (arith, ap length e, length-append new (v ∷ old)))
      ∙ ap (λ (l : List Request). get_or (laid (request_word c) l) (length old) 0) e
      ∙ laid-at (request_word c) new v old

  request-back : (new : List Request) (v : Request) (old : List Request) → requests ≡ new ++ (v ∷ old) → length v.items ≡ 4 → request_at t (length old) ≡ v
  unfolding request_at request_word request_columns
  request-back new v old e h =
      request-from-same (λ c. request_field t c (length old)) (λ c. request_word c v old) (λ c h. field_at c new v old e h) ∙ request-from-words v h

  requests-to : (new old : List Request) → requests ≡ new ++ old → all (λ v. eqb (length v.items) most_items) old ≡ true → requests_to t (length old) ≡ old
  unfolding requests_to all most_items
  requests-to new [] e s = refl
  requests-to new (v ∷ old) e s =
      let few : eqb (length v.items) 4 ≡ true = and_l (eqb (length v.items) 4) (all (λ v. eqb (length v.items) 4) old) s in
      let here = request-back new v old e (eqb-true (length v.items) 4 few) in
      let rest = requests-to (new ++ (v ∷ [])) old (e ∙ sym (append_assoc new (v ∷ []) old)) (and_r (eqb (length v.items) 4) (all (λ v. eqb (length v.items) 4) old) s) in
      λ j. here j ∷ rest j

  pub requests-back : all (λ v. eqb (length v.items) most_items) requests ≡ true → requests_to t (length requests) ≡ requests
  requests-back s = requests-to [] requests refl s

-- ---- process records
pub records-back : (ps : List Process) → records_in (records_of ps) ≡ ps
unfolding records_in records_of
records-back [] = refl
records-back (x ∷ ps) = ap (λ (l : List Process). x ∷ l) (records-back ps)

pub length-records : (ps : List Process) → length (records_of ps) ≡ 3 * length ps
unfolding records_of
length-records [] = refl
length-records (x ∷ ps) = omega (arith, length-records ps)

-- words in threes are all read
pub records-words : (n : ℕ) (p : List ℕ) → length p ≡ 3 * n → records_of (records_in p) ≡ p
unfolding records_of records_in
records-words zero [] e = refl
records-words zero (a ∷ p) e = absurd (omega arith)
records-words (suc n) [] e = refl
records-words (suc n) (a ∷ []) e = absurd (omega arith)
records-words (suc n) (a ∷ b ∷ []) e = absurd (omega arith)
records-words (suc n) (a ∷ b ∷ c ∷ p) e = ap (λ (l : List ℕ). a ∷ b ∷ c ∷ l) (records-words n p (omega arith))
