-- Marks of the rows that a closing removes: a row's words tell whether it is a seed, and at the slots of its sources stand their marks.
use Prim.Native.Nat.{ℕ, zero, suc, ◌+◌, ◌-◌, ◌<◌, ◌≤◌, zero-le}
use mathlib.Core.Bool.{Bool, true, false, not, cond, ◌&&◌, ◌||◌}
use mathlib.Core.List.{List, [], ◌∷◌, ◌++◌, append_assoc, append-nil}
use mathlib.Core.Path.{◌≡◌, refl, ap, sym, subst, ◌∙◌}
use mathlib.Core.Logic.{inl, inr}
use native.Mathlib.Nat.{not-suc-le-zero, le_of_suc-le-suc, le_of_lt}
use native.Mathlib.Numerals.{add-one}
use native.Mathlib.Omega.{arith}
use lib.Dec.{eqb, lit<}
use lib.ListN.{length, get_or, set, replicate, length-append, get_or-append}
use lib.Seq.{append_snoc, ext_get_or}
use Rattle.rows.specs.declared.Row.{Row}
use Rattle.rows.specs.Lists.{any, rises, member, pad, filter}
use Rattle.rows.specs.Limits.{row_slots}
use Rattle.rows.specs.Codes.{is_end}
use Rattle.rows.specs.Tables.{State, no_row, row_of, numbers, sources, marked, bears}
use Rattle.rows.specs.Layout.{source_slot, row_field, row_slot, raw_row}
use Rattle.rows.specs.vocabulary.Sizes.{ROWS, SOURCE, VIA, REQUEST}
use Rattle.rows.specs.vocabulary.Represents.{Represents, sources_older}
use Rattle.rows.specs.Setters.{with_sources}
use Rattle.rows.specs.vocabulary.Slots.{slotted}
use Rattle.rows.proofs.Bools.{false_of, or_r, or-false}
use Rattle.rows.proofs.Keyed.{older_of, rises-rest, rises-range}
use Rattle.rows.proofs.LayoutColumns.{get_d-pad}
use Rattle.rows.proofs.RowSources.{Among}
use Rattle.tables.proofs.Marking.{marked-stands, marked-closed}
use Rattle.rows.proofs.Slots.{represented-well, rises-old, slot-there, source-zero, source-le, source-rises, sources-among, row-words-at, raw-row-at}
use Rattle.changes.specs.vocabulary.Bits.{BITS, WORDS, marks_in, gones}
use Rattle.changes.specs.vocabulary.Marks.{tested, marks_of, NoneMarked, lefts}
use Rattle.changes.proofs.BitLaws.{length-marks, none-marked}
use Rattle.changes.proofs.Keep.{length-pad, length-tested}
use Rattle.changes.proofs.Lefts.{gones-lefts}
use Rattle.changes.proofs.Renumber.{lefts-tested, pad-begins}
use Rattle.closing.specs.declared.Seed.{Seed}
use Rattle.closing.specs.declared.Seed.TheVariants.{Bearing, EndsOf, Only}
use Rattle.closing.specs.Closing.{is_end_of, is_row}
use Rattle.closing.specs.vocabulary.Seeds.{seed_of}
use Rattle.closing.specs.vocabulary.Marks.{RowsMarked, DerivedTo, MarksOn, CountsRemoved, word_mark, either_mark}
use Rattle.closing.proofs.RemovedRows.{any-source}
use Rattle.closing.proofs.ListsMarks.{mark-at}
use Rattle.closing.proofs.MarksPass.{member-cut, first-cut, MarkedTo, marked-end}

-- ---- seeds, by the words of a slot
-- where the kinds and the objects start
abbrev KIND : ℕ
KIND = ROWS

abbrev pub OBJECT : ℕ
OBJECT = KIND + ROWS

module _ (t : List ℕ) (i : ℕ) (s : Seed) where
  pub seed-bearing : (q : ℕ) → s ≡ Bearing q → eqb (get_or t (REQUEST + i) 0) q ≡ seed_of s (raw_row t i)
  unfolding seed_of raw_row row_field row_slots bears
  seed-bearing q e = rw e refl

  pub seed-end : (c : ℕ) → s ≡ EndsOf c → is_end (get_or t (KIND + i) 0) && eqb (get_or t (OBJECT + i) 0) c ≡ seed_of s (raw_row t i)
  unfolding seed_of raw_row row_field row_slots is_end_of
  seed-end c e = rw e refl

  pub seed-row : (n : ℕ) → s ≡ Only n → eqb (get_or t (0 + i) 0) n ≡ seed_of s (raw_row t i)
  unfolding seed_of raw_row row_field row_slots is_row
  seed-row n e = rw e refl

-- a seed whatever its sources are
seed-slotted : (s : Seed) (r : Row) (old : List Row) → seed_of s (slotted r old) ≡ seed_of s r
unfolding seed_of slotted with_sources bears is_end_of is_row
seed-slotted (Bearing q) r old = refl
seed-slotted (EndsOf c) r old = refl
seed-slotted (Only e) r old = refl

-- ---- words of sources, where nothing is marked before a slot
pub word_none : (ms : List Bool) (first w : ℕ) → NoneMarked ms 0 first → w ≤ first → word_mark ms w ≡ false
unfolding word_mark
word_none ms first zero clear h = refl
word_none ms first (suc j) clear h = clear j zero-le h

none-either : (ms : List Bool) (first : ℕ) → NoneMarked ms 0 first → (w v : ℕ) → w ≤ first → v ≤ first → either_mark ms w v ≡ false
unfolding either_mark
none-either ms first clear w v h k = rw (word_none ms first w clear h, word_none ms first v clear k) refl

pub word-slot : (ms : List Bool) (w : ℕ) → zero < w → word_mark ms w ≡ get_or ms (w - 1) false
unfolding word_mark
word-slot ms zero h = absurd (not-suc-le-zero h)
word-slot ms (suc j) h = let e : suc j - 1 ≡ j = omega arith in sym (ap (λ (i : ℕ). get_or ms i false) e)

-- ---- marks that are padded
-- of words that are all 0 none is set
pub none-set : marks_in (replicate WORDS 0) ≡ pad false ROWS []
none-set =
    ext_get_or false (marks_in (replicate WORDS 0)) (pad false ROWS [])
    (length-marks BITS (replicate WORDS 0) ∙ sym (length-pad false ROWS [] zero-le))
    (λ i h. none-marked BITS (lit< tt) WORDS i ∙ sym (get_d-pad false ROWS [] i))

set-within : (k : ℕ) (done : List Bool) (x : Bool) (rest : List Bool) (b : Bool) → length done < k
    → set (pad false k (done ++ (x ∷ rest))) (length done) b ≡ pad false k (done ++ (b ∷ rest))
unfolding pad
set-within zero done x rest b h = absurd (not-suc-le-zero h)
set-within (suc k) [] x rest b h = refl
set-within (suc k) (y ∷ done) x rest b h = ap (λ (l : List Bool). y ∷ l) (set-within k done x rest b (le_of_suc-le-suc h))

tested-append : {A : Type 0} (f : A → Bool) (xs ys : List A) → tested f (xs ++ ys) ≡ tested f ys ++ tested f xs
unfolding tested
tested-append f [] ys = sym (append-nil (tested f ys))
tested-append f (x ∷ xs) ys = ap (λ (l : List Bool). l ++ (f x ∷ [])) (tested-append f xs ys) ∙ append_assoc (tested f ys) (tested f xs) (f x ∷ [])

-- ---- one row, over the older ones
module _ {st : State} {t : List ℕ} (rep : Represents t st) (s : Seed) where
  abbrev gone : List ℕ
  gone = marked (seed_of s) st.rows

  abbrev pub Gone : Row → Bool
  Gone r = member r.number gone

  none-gone : member 0 gone ≡ false
  unfolding numbers
  none-gone =
      false_of (member 0 gone)
      (λ m.
      let (lo, hi) = rises-range (λ r. r.number) st.rows (represented-well rep).rows-rise 0 (marked-stands (seed_of s) st.rows 0 m) in
      omega arith)

  module _ (new : List Row) (r : Row) (old : List Row) (cut : st.rows ≡ new ++ (r ∷ old)) where
    up : rises (λ r. r.number) (new ++ (r ∷ old)) ≡ true
    up = subst (λ (l : List Row). rises (λ r. r.number) l ≡ true) cut (represented-well rep).rows-rise

    -- it goes as a seed, or with one of its sources
    row-gone : member r.number gone ≡ seed_of s r || (member r.source gone || member r.via gone)
    unfolding numbers row_of
    row-gone =
        let there : member r.number (numbers st.rows) ≡ true
        = subst (λ (l : List Row). member r.number (numbers l) ≡ true) (sym cut) (member-cut (λ r. r.number) new r old up) in
        let found : row_of st.rows r.number ≡ r
        = ap (λ (l : List Row). row_of l r.number) cut ∙ first-cut (λ r. r.number) no_row new r old up in
        marked-closed (seed_of s) st.rows (represented-well rep).rows-rise (represented-well rep).sources-old r.number there
        ∙ ap (λ (x : Row). seed_of s x || any (λ n. member n gone) (sources x)) found
        ∙ ap (λ (b : Bool). seed_of s r || b) (any-source gone none-gone r)

    -- the marks of the older rows, whatever comes after them
    module _ (ms rest : List Bool) (so_far : ms ≡ pad false ROWS (marks_of gone old ++ rest)) where
      source-mark : (n : ℕ) → Among old n → word_mark ms (source_slot old n) ≡ member n gone
      unfolding word_mark marks_of row_slot numbers
      source-mark n (inl z) = rw (z, source-zero old) (sym none-gone)
      source-mark n (inr m) =
          let i = length (older_of (λ r. r.number) old n) in
          let slot : row_slot old n ≡ suc i = slot-there (λ r. r.number) old n m in
          let rise : rises (λ r. r.number) old ≡ true = rises-rest (λ r. r.number) r old (rises-old (λ r. r.number) new (r ∷ old) up) in
          let low : suc i ≤ length old = subst (λ (x : ℕ). x ≤ length old) (source-rises old rise n ∙ slot) (source-le old n) in
          ap (λ (s : ℕ). get_or (false ∷ ms) s false) (source-rises old rise n ∙ slot)
          ∙ ap (λ (l : List Bool). get_or l i false) so_far
          ∙ get_d-pad false ROWS (tested Gone old ++ rest) i
          ∙ get_or-append (tested Gone old) rest false i (omega (arith, length-tested Gone old))
          ∙ mark-at (λ r. r.number) (λ n. member n gone) n old i slot

      -- its words, at slot i, are those of its sources among the older rows
      module _ (i : ℕ) (long : length old ≡ i) where
        source-word : get_or t (SOURCE + i) 0 ≡ source_slot old r.source
        source-word = ap (λ (j : ℕ). get_or t (SOURCE + j) 0) (sym long) ∙ (row-words-at rep new r old cut).source

        via-word : get_or t (VIA + i) 0 ≡ source_slot old r.via
        via-word = ap (λ (j : ℕ). get_or t (VIA + j) 0) (sym long) ∙ (row-words-at rep new r old cut).via

        -- they name slots before its own
        words-low : (get_or t (SOURCE + i) 0 ≤ i) × (get_or t (VIA + i) 0 ≤ i)
        words-low = (omega (arith, source-word, source-le old r.source), omega (arith, via-word, source-le old r.via))

        -- it goes as a seed, or if the mark of one of its sources is set
        gone-by-marks : member r.number gone ≡ seed_of s r || either_mark ms (get_or t (SOURCE + i) 0) (get_or t (VIA + i) 0)
        unfolding either_mark
        gone-by-marks =
            let among = sources-among new r old up (subst (λ (l : List Row). sources_older l ≡ true) cut (represented-well rep).sources-old) in
            let source : word_mark ms (get_or t (SOURCE + i) 0) ≡ member r.source gone = ap (word_mark ms) source-word ∙ source-mark r.source among.0 in
            let via : word_mark ms (get_or t (VIA + i) 0) ≡ member r.via gone = ap (word_mark ms) via-word ∙ source-mark r.via among.1 in
            row-gone ∙ sym (λ j. seed_of s r || (source j || via j))

  -- ---- the pass that marks the seeds
  pub seed-at : (i : ℕ) (new : List Row) (r : Row) (old : List Row) → st.rows ≡ new ++ (r ∷ old) → length old ≡ i → seed_of s (raw_row t i) ≡ seed_of s r
  seed-at i new r old cut long =
      ap (λ (j : ℕ). seed_of s (raw_row t j)) (sym long) ∙ ap (seed_of s) (raw-row-at rep new r old cut) ∙ seed-slotted s r old

  pub seeds-end : (n : ℕ) (ms : List Bool) → length st.rows ≡ n → MarkedTo (seed_of s) ROWS st.rows n ms → DerivedTo s st 0 ms
  unfolding marks_of tested
  seeds-end n ms e d new [] cut long = marked-end (seed_of s) ROWS st.rows n ms e d ∙ ap (λ (l : List Row). pad false ROWS (tested (seed_of s) l)) (cut ∙ append-nil new)
  seeds-end n ms e d new (r ∷ old) cut long = absurd (omega arith)

  -- ---- the pass over the rows
  few : length st.rows ≤ ROWS
  few = (represented-well rep).rows-fit

  -- the row at slot i, and the marks up to it and after it
  pub derived-turn : (i : ℕ) (ms : List Bool) (b : Bool) → DerivedTo s st i ms
      → (get_or t (SOURCE + i) 0 ≤ i → get_or t (VIA + i) 0 ≤ i → b ≡ either_mark ms (get_or t (SOURCE + i) 0) (get_or t (VIA + i) 0))
      → DerivedTo s st (i + 1) (cond b (set ms i true) ms)
  unfolding marks_of tested
  derived-turn i ms b ih here new [] cut long = absurd (omega arith)
  derived-turn i ms b ih here new (r ∷ old) cut long =
      let long' : length old ≡ i = omega arith in
      let rest : List Bool = seed_of s r ∷ tested (seed_of s) new in
      let so_far : ms ≡ pad false ROWS (tested Gone old ++ rest)
      = ih (new ++ (r ∷ [])) old (cut ∙ sym (append_snoc new r old)) long' ∙ ap (λ (l : List Bool). pad false ROWS (tested Gone old ++ l)) (tested-append (seed_of s) new (r ∷ [])) in
      let low = words-low new r old cut ms rest so_far i long' in
      let gone-is = gone-by-marks new r old cut ms rest so_far i long' ∙ ap (λ (c : Bool). seed_of s r || c) (sym (here low.0 low.1)) in
      pick (tested Gone old) (tested (seed_of s) new) (seed_of s r) (length-tested Gone old ∙ long') (omega (arith, ap length cut, length-append new (r ∷ old), few)) so_far b
      ∙ ap (λ (c : Bool). pad false ROWS (tested Gone old ++ (c ∷ tested (seed_of s) new))) (sym gone-is)
      ∙ ap (pad false ROWS) (sym (append_assoc (tested Gone old) (Gone r ∷ []) (tested (seed_of s) new)))
    where
      pick : (done rest : List Bool) (seed : Bool) → length done ≡ i → i < ROWS → ms ≡ pad false ROWS (done ++ (seed ∷ rest)) → (b : Bool)
          → cond b (set ms i true) ms ≡ pad false ROWS (done ++ ((seed || b) ∷ rest))
      pick done rest seed at room so_far true =
          ap (λ (l : List Bool). set l i true) so_far ∙ ap (λ (j : ℕ). set (pad false ROWS (done ++ (seed ∷ rest))) j true) (sym at)
          ∙ set-within ROWS done seed rest true (omega arith) ∙ ap (λ (c : Bool). pad false ROWS (done ++ (c ∷ rest))) (sym (or_r seed true refl))
      pick done rest seed at room so_far false = so_far ∙ ap (λ (c : Bool). pad false ROWS (done ++ (c ∷ rest))) (sym (or-false seed))

  -- rows older than all that is marked have nothing marked among their sources
  pub derived-skip : (ms : List Bool) (first : ℕ) → NoneMarked ms 0 first → DerivedTo s st 0 ms → (i : ℕ) → i ≤ first → DerivedTo s st i ms
  derived-skip ms first clear start zero h = start
  derived-skip ms first clear start (suc i) h =
      subst (λ (j : ℕ). DerivedTo s st j ms) (add-one i)
      (derived-turn i ms false (derived-skip ms first clear start i (le_of_lt h)) (λ a b. sym (none-either ms first clear _ _ (omega arith) (omega arith))))

  pub derived-end : (n : ℕ) (ms : List Bool) → length st.rows ≡ n → DerivedTo s st n ms → RowsMarked ms gone st
  unfolding marks_of tested
  derived-end n ms e d = d [] st.rows refl e ∙ ap (pad false ROWS) (append-nil (tested Gone st.rows))

-- one row more, of every state that the words represent
pub marks-on : (t : List ℕ) (from i : ℕ) (ms₀ ms : List Bool) (b : Bool) → i < ROWS
    → (get_or t (SOURCE + i) 0 ≤ ROWS → get_or t (VIA + i) 0 ≤ ROWS → b ≡ either_mark ms (get_or t (SOURCE + i) 0) (get_or t (VIA + i) 0))
    → MarksOn t from i ms₀ ms → MarksOn t from (i + 1) ms₀ (cond b (set ms i true) ms)
marks-on t from i ms₀ ms b room here on st s rep h start =
    derived-turn rep s i ms b (on st s rep (omega arith) start) (λ x y. here (omega arith) (omega arith))

-- ---- how many are removed
pub removed-counted : (n r : ℕ) (ms : List Bool) → n ≤ ROWS → r ≡ gones ms n → CountsRemoved n ms r
unfolding marks_of
removed-counted n r ms h counted st g rows marks =
    let left = subst (λ (l : List Bool). lefts l (length st.rows) ≡ length (filter (λ x. not (member x.number g)) st.rows)) (sym marks)
    (lefts-tested (λ x. member x.number g) (pad false ROWS (tested (λ x. member x.number g) st.rows)) st.rows (pad-begins (λ x. member x.number g) st.rows ROWS (omega arith))) in
    omega (arith, counted, gones-lefts ms n, ap (lefts ms) rows, left, rows)
