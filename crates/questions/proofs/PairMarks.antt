-- One pass for many pairs: the bits of the pairs that ask of a request, and the marks of a row by those of its sources.
use Prim.Native.Nat.{ℕ, suc, ◌+◌, ◌*◌, ◌%◌, ◌^◌, ◌≤◌, ◌<◌}
use mathlib.Core.Bool.{Bool, true, false, ◌&&◌, ◌||◌}
use mathlib.Core.List.{List}
use mathlib.Core.Path.{◌≡◌, refl, ap, ap₂, sym, ◌∙◌}
use native.Mathlib.Decide.{dec_lt}
use native.Mathlib.Nat.{le_refl}
use native.Mathlib.Numerals.{add-one}
use native.Mathlib.Omega.{arith}
use mir.Val.{bool_byte}
use borrow.Author.Count.{below_more}
use borrow.Author.Tests.{eq-eqb, ne_eqb}
use lib.Bits.{bit_or, or_zero_r}
use lib.Dec.{eqb, lit<}
use lib.ListN.{length, get_or, set}
use lib.Pow.{shl_exact}
use lib.Seq.{get_or-set_same, get_or-set_other}
use Rattle.rows.specs.Lists.{some}
use Rattle.rows.specs.Tables.{State, row_of, bears, comes_from}
use Rattle.rows.specs.Sound.{sound}
use Rattle.rows.specs.Layout.{row_slot}
use Rattle.rows.specs.vocabulary.Sizes.{SOURCE, VIA, REQUEST}
use Rattle.rows.specs.vocabulary.Represents.{Represents}
use Rattle.rows.proofs.Bools.{and-true, and-false, or-false, or_swap, eqb-sym, some-pos}
use Rattle.rows.proofs.Slots.{represented-well, row-found, row-none, row-words, source-of, via-of}
use Rattle.tables.proofs.Sound.{sound-open}
use Rattle.changes.specs.vocabulary.Bits.{bit}
use Rattle.changes.proofs.BitLaws.{bit-none, bit-or, bit-power}
use Rattle.questions.specs.vocabulary.Questions.{RowAt}
use Rattle.questions.specs.vocabulary.Pairs.{PAIRS, BitsOfAsking, mark_at, MarksPairs, MarksRow}
use Rattle.questions.proofs.Questions.{reaches-none, reaches_step}

-- ---- the pairs that ask of a request
-- one bit more, in a word of w bits, where b says so
bit-with : (w n k j : ℕ) → k < w → (b : Bool) → bit (bit_or n ((bool_byte b * 2 ^ k) % 2 ^ w)) j ≡ bit n j || (b && eqb j k)
bit-with w n k j h true =
    let mask : (1 * 2 ^ k) % 2 ^ w ≡ 2 ^ k = shl_exact 1 k w (lit< tt) (omega arith) ∙ omega arith in
    ap (λ (x : ℕ). bit (bit_or n x) j) mask ∙ bit-or n (2 ^ k) j ∙ ap (λ (c : Bool). bit n j || c) (bit-power k j)
bit-with w n k j h false =
    let mask : (0 * 2 ^ k) % 2 ^ w ≡ 0 = shl_exact 1 k w (lit< tt) (omega arith) ∙ omega arith in
    ap (λ (x : ℕ). bit (bit_or n x) j) mask ∙ ap (λ (x : ℕ). bit x j) (or_zero_r n) ∙ sym (or-false (bit n j))

-- of the first k pairs, those that ask of request q have their bits set, and no other bit is
pub record AskedTo (qs : List ℕ) (q k bits : ℕ) : Type 0 where
  pub asked : (j : ℕ) → j < k → bit bits j ≡ eqb (get_or qs j 0) q
  pub clear : (j : ℕ) → k ≤ j → bit bits j ≡ false

pub asked-none : (qs : List ℕ) (q : ℕ) → AskedTo qs q 0 0
asked-none qs q = record { asked = λ j h. absurd (omega arith); clear = λ j h. bit-none j }

pub asked-turn : (qs : List ℕ) (q k bits : ℕ) → k < PAIRS → AskedTo qs q k bits
    → AskedTo qs q (k + 1) (bit_or bits ((bool_byte (eqb (get_or qs k 0) q) * 2 ^ k) % 2 ^ PAIRS))
asked-turn qs q k bits room a =
    let b : Bool = eqb (get_or qs k 0) q in
    let more : (j : ℕ) → bit (bit_or bits ((bool_byte b * 2 ^ k) % 2 ^ PAIRS)) j ≡ bit bits j || (b && eqb j k) = λ j. bit-with PAIRS bits k j room b in
    record {
      asked = below_more (λ (j : ℕ). bit (bit_or bits ((bool_byte b * 2 ^ k) % 2 ^ PAIRS)) j ≡ eqb (get_or qs j 0) q) k
          (λ j h. more j ∙ rw (ne_eqb j k (λ e. omega arith)) (ap (λ (c : Bool). bit bits j || c) (and-false b) ∙ or-false (bit bits j) ∙ a.asked j h))
          (more k ∙ rw (eq-eqb k k refl, a.clear k (le_refl k)) (and-true b));
      clear = λ j h. more j ∙ rw (ne_eqb j k (λ e. omega arith), a.clear j (omega arith)) (and-false b);
    }

-- ---- the marks of a row
module _ (t : List ℕ) (i : ℕ) (qs marks : List ℕ) (right : MarksPairs t i qs marks) (st : State) (n : ℕ) (so : sound st ≡ true) (rep : Represents t st) (at : RowAt i n st) where
  -- it bears the request of a pair, or a source of it comes from that
  step : (q : ℕ) → comes_from st.rows q n
      ≡ bears q (row_of st.rows n) || (comes_from st.rows q (row_of st.rows n).source || comes_from st.rows q (row_of st.rows n).via)
  unfolding comes_from
  step q = reaches_step st (sound-open st so) (bears q) n (row-found st.rows n i at).0

  -- the marks at its source words are those of its sources
  source-slot : get_or t (SOURCE + i) 0 ≡ row_slot st.rows (row_of st.rows n).source
  source-slot = (row-words rep n i at).source ∙ (source-of st (represented-well rep) n i at).0

  via-slot : get_or t (VIA + i) 0 ≡ row_slot st.rows (row_of st.rows n).via
  via-slot = (row-words rep n i at).via ∙ (via-of st (represented-well rep) n i at).0

  -- they name slots before its own
  pub words-low : (get_or t (SOURCE + i) 0 ≤ i) × (get_or t (VIA + i) 0 ≤ i)
  words-low =
      (omega (arith, (row-words rep n i at).source, (source-of st (represented-well rep) n i at).1), omega (arith, (row-words rep n i at).via, (via-of st (represented-well rep) n i at).1))

  module _ (s v : ℕ) (is-s : s ≡ mark_at marks (get_or t (SOURCE + i) 0)) (is-v : v ≡ mark_at marks (get_or t (VIA + i) 0)) (k : ℕ) (few : k < PAIRS) (asks : some (get_or qs k 0) ≡ true) where
    abbrev q : ℕ
    q = get_or qs k 0

    from-sources : bit (bit_or s v) k ≡ comes_from st.rows q (row_of st.rows n).source || comes_from st.rows q (row_of st.rows n).via
    from-sources =
        let source : bit s k ≡ comes_from st.rows q (row_of st.rows n).source =
        ap (λ (x : ℕ). bit x k) (is-s ∙ ap (mark_at marks) source-slot) ∙ right st (row_of st.rows n).source so rep (omega (arith, source-slot, words-low.0)) k few asks in
        let via : bit v k ≡ comes_from st.rows q (row_of st.rows n).via =
        ap (λ (x : ℕ). bit x k) (is-v ∙ ap (mark_at marks) via-slot) ∙ right st (row_of st.rows n).via so rep (omega (arith, via-slot, words-low.1)) k few asks in
        bit-or s v k ∙ ap₂ (λ a b. a || b) source via

    bears-word : bears q (row_of st.rows n) ≡ eqb (get_or t (REQUEST + i) 0) q
    unfolding bears
    bears-word = ap (λ (x : ℕ). eqb x q) (sym (row-words rep n i at).request)

    -- a row that bears no request
    pub by-sources : get_or t (REQUEST + i) 0 ≡ 0 → bit (bit_or s v) k ≡ comes_from st.rows q n
    by-sources none = from-sources ∙ sym (step q ∙ rw (bears-word, none, ne_eqb 0 q (λ e. omega (arith, some-pos q asks))) refl)

    -- one that does
    pub by-request : (b : ℕ) → BitsOfAsking qs (get_or t (REQUEST + i) 0) b → bit (bit_or (bit_or s v) b) k ≡ comes_from st.rows q n
    by-request b asking =
        bit-or (bit_or s v) b k ∙ ap₂ (λ x y. x || y) from-sources (asking k few ∙ eqb-sym q (get_or t (REQUEST + i) 0) ∙ sym bears-word)
        ∙ or_swap (comes_from st.rows q (row_of st.rows n).source || comes_from st.rows q (row_of st.rows n).via) (bears q (row_of st.rows n))
        ∙ sym (step q)

-- ---- the pass
-- no row: nothing comes from a request
pub pairs_start : (t qs marks : List ℕ) → mark_at marks 0 ≡ 0 → MarksPairs t 0 qs marks
unfolding comes_from
pairs_start t qs marks z st n so rep low k few asks =
    let none : row_slot st.rows n ≡ 0 = omega arith in
    ap (λ (s : ℕ). bit (mark_at marks s) k) none ∙ ap (λ (m : ℕ). bit m k) z ∙ bit-none k
    ∙ sym (reaches-none st (sound-open st so) (bears (get_or qs k 0)) n (row-none st.rows n none))

-- one row more
pub pairs-turn : (t : List ℕ) (i : ℕ) (qs marks : List ℕ) (m : ℕ) → i + 1 < length marks → MarksPairs t i qs marks → MarksRow t i qs marks m
    → MarksPairs t (i + 1) qs (set marks (i + 1) m)
pairs-turn t i qs marks m room right row st n so rep low k few asks =
    let w : ℕ = row_slot st.rows n in
    elim (dec_lt i w) [
      | yes h ↦
          let at : w ≡ suc i = omega arith in
          ap (λ (x : ℕ). bit x k) (ap (mark_at (set marks (i + 1) m)) (at ∙ sym (add-one i)) ∙ get_or-set_same marks (i + 1) m 0 room) ∙ row right st n so rep at k few asks
      | no h ↦ ap (λ (x : ℕ). bit x k) (get_or-set_other marks (i + 1) w m 0 (λ e. omega arith)) ∙ right st n so rep (omega arith) k few asks
    ]
