-- Rows read back from the words that represent them.
use Rattle.std.proofs.Common.{◌≡◌, ℕ, zero, suc, ◌+◌, ◌*◌, ◌<◌, ◌≤◌, Bool, true, false, cond, eqb, List, [], ◌∷◌, ◌++◌, map, length, get_or, sym, refl, ap, ◌∙◌, inl, inr, append_assoc, arith, length-append, lt-ltb, eqb-true}
use Rattle.rows.specs.declared.Row.{Row}
use Rattle.rows.specs.declared.Request.{Request}
use Rattle.rows.specs.Lists.{each, rises, pad, laid, member, some, slot_with}
use Rattle.rows.specs.Limits.{row_slots}
use Rattle.rows.specs.Tables.{numbers}
use Rattle.rows.specs.Sound.{source_right, source_of, via_of}
use Rattle.rows.specs.Setters.{with_sources}
use Rattle.rows.specs.Layout.{row_columns, row_slot, source_slot, words_of_row, row_from, slotted, row_word, row_words, row_field, number_at, row_at, rows_to, raw_row}
use Rattle.rows.proofs.Bools.{clash, and_l, and_r, pos-some, eqb-sym-f}
use Rattle.rows.proofs.Keyed.{rises-rest, rises-range}
use Rattle.rows.proofs.LayoutColumns.{columns, laid-at}
use Rattle.rows.proofs.RowSources.{Among, shape, shape-sources}

-- ---- the order of the columns, there and back
pub row-word-from : (word : ℕ → ℕ) (c : ℕ) → c < 10 → get_or (words_of_row (row_from word)) c 0 ≡ word c
row-word-from word zero h = refl
row-word-from word (suc zero) h = refl
row-word-from word (suc (suc zero)) h = refl
row-word-from word (suc (suc (suc zero))) h = refl
row-word-from word (suc (suc (suc (suc zero)))) h = refl
row-word-from word (suc (suc (suc (suc (suc zero))))) h = refl
row-word-from word (suc (suc (suc (suc (suc (suc zero)))))) h = refl
row-word-from word (suc (suc (suc (suc (suc (suc (suc zero))))))) h = refl
row-word-from word (suc (suc (suc (suc (suc (suc (suc (suc zero)))))))) h = refl
row-word-from word (suc (suc (suc (suc (suc (suc (suc (suc (suc zero))))))))) h = refl
row-word-from word (suc (suc (suc (suc (suc (suc (suc (suc (suc (suc c)))))))))) h = absurd (omega arith)

-- rows from words that agree are the same
pub row-from-same : (f g : ℕ → ℕ) → ((c : ℕ) → c < 10 → f c ≡ g c) → row_from f ≡ row_from g
row-from-same f g same =
    λ i.
    record {
      number = same 0 (omega arith) i;
      kind = same 1 (omega arith) i;
      object = same 2 (omega arith) i;
      operation = same 3 (omega arith) i;
      rights = same 4 (omega arith) i;
      place = same 5 (omega arith) i;
      source = same 6 (omega arith) i;
      via = same 7 (omega arith) i;
      depth = same 8 (omega arith) i;
      request = same 9 (omega arith) i;
    }

-- ---- columns
pub row-columns : (c : ℕ) (rs : List Row) → row_words c rs ≡ columns row_slots row_word c rs
unfolding row_words columns
row-columns zero rs = refl
row-columns (suc c) rs = ap (λ (l : List ℕ). l ++ pad 0 row_slots (laid (row_word c) rs)) (row-columns c rs)

-- words that hold the rows, column by column
module _ (t : List ℕ) (rows : List Row) (few : length rows ≤ row_slots)
    (at : (c i : ℕ) → c < row_columns → i < row_slots → get_or t (c * row_slots + i) 0 ≡ get_or (laid (row_word c) rows) i 0) where
  -- the older rows, of which this is the length
  shorter : (new old : List Row) → rows ≡ new ++ old → length old ≤ length rows
  shorter new old e = omega (arith, ap length e, length-append new old)

  field_at : (c : ℕ) (new : List Row) (r : Row) (old : List Row) → rows ≡ new ++ (r ∷ old) → c < row_columns → row_field t c (length old) ≡ row_word c r old
  unfolding row_field
  field_at c new r old e h =
      at c (length old) h (omega (arith, shorter new (r ∷ old) e)) ∙ ap (λ (l : List Row). get_or (laid (row_word c) l) (length old) 0) e ∙ laid-at (row_word c) new r old

  further : (new : List Row) (r : Row) (old : List Row) → rows ≡ new ++ (r ∷ old) → rows ≡ (new ++ (r ∷ [])) ++ old
  further new r old e = e ∙ sym (append_assoc new (r ∷ []) old)

  slot-back : (new old : List Row) → rows ≡ new ++ old → (n : ℕ) → member n (numbers old) ≡ true → number_at t (length rows) (row_slot old n) ≡ n
  unfolding row_slot numbers member number_at row_word slotted with_sources row_columns slot_with
  slot-back new [] e n m = clash m refl
  slot-back new (r ∷ old) e n m = pick (slot-back (new ++ (r ∷ [])) old (further new r old e) n) (eqb r.number n) refl m
    where
      pick : (member n (map (λ r. r.number) old) ≡ true → number_at t (length rows) (row_slot old n) ≡ n) → (b : Bool) → eqb r.number n ≡ b → member n (r.number ∷ map (λ r. r.number) old) ≡ true
          → number_at t (length rows) (cond b (suc (length old)) (row_slot old n)) ≡ n
      pick ih true q m =
          rw (lt-ltb (length old) (length rows) (omega (arith, shorter new (r ∷ old) e))) (field_at 0 new r old e (omega arith) ∙ eqb-true r.number n q)
      pick ih false q m = ih (rw (eqb-sym-f r.number n q) at m)

  number-back : (new old : List Row) → rows ≡ new ++ old → rises (λ r. r.number) old ≡ true → (n : ℕ) → Among old n → number_at t (length rows) (source_slot old n) ≡ n
  unfolding source_slot some number_at numbers
  number-back new old e up n (inl z) = rw z refl
  number-back new old e up n (inr m) = rw (pos-some n (rises-range (λ r. r.number) old up n m).0) (slot-back new old e n m)

  module _ (vs : List Request) where
    row_back : (new : List Row) (r : Row) (old : List Row) → rows ≡ new ++ (r ∷ old) → rises (λ r. r.number) old ≡ true → source_right vs r old ≡ true
        → row_at t (length rows) (length old) ≡ r
    unfolding row_at raw_row row_word slotted with_sources row_columns
    row_back new r old e up s =
        let (a, b) = shape-sources vs r old (shape vs r (source_of old r) (via_of old r) s) in
        let f = further new r old e in
        let raw = row-from-same (λ c. row_field t c (length old)) (λ c. row_word c r old) (λ c h. field_at c new r old e h) in
        ap (λ (x : Row). with_sources (number_at t (length rows) x.source) (number_at t (length rows) x.via) x) raw
        ∙ (λ j.
        with_sources (number-back (new ++ (r ∷ [])) old f up r.source a j) (number-back (new ++ (r ∷ [])) old f up r.via b j) r)

    rows-to : (new old : List Row) → rows ≡ new ++ old → rises (λ r. r.number) old ≡ true → each (source_right vs) old ≡ true → rows_to t (length rows) (length old) ≡ old
    unfolding rows_to each
    rows-to new [] e up s = refl
    rows-to new (r ∷ old) e up s =
        let here = row_back new r old e (rises-rest (λ r. r.number) r old up) (and_l (source_right vs r old) (each (source_right vs) old) s) in
        let rest = rows-to (new ++ (r ∷ [])) old (further new r old e) (rises-rest (λ r. r.number) r old up) (and_r (source_right vs r old) (each (source_right vs) old) s) in
        λ j. here j ∷ rest j

    pub rows_back : rises (λ r. r.number) rows ≡ true → each (source_right vs) rows ≡ true → rows_to t (length rows) (length rows) ≡ rows
    rows_back up s = rows-to [] rows refl up s
