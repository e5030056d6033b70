-- Laws of a page: lines one after the other, how many have room, and that they are the page of the rows.
use Prim.Native.Nat.{ℕ, zero, suc, ◌+◌, ◌*◌, ◌-◌, ◌/◌, ◌<◌, ◌≤◌}
use native.Mathlib.Decide.{dec_lt}
use native.Mathlib.Omega.{arith}
use mathlib.Core.List.{List, [], ◌∷◌, ◌++◌, append_assoc}
use mathlib.Core.Path.{◌≡◌, refl, sym, ap, ◌∙◌}
use lib.ListN.{length, get_or, take, drop, set, length-append, length-drop}
use lib.Seq.{take_at, drop_at, drop-drop, drop-cons, set_at}
use borrow.Rule.Slice.PartMut.{put_mid}
use borrow.Author.Tests.{le-leb, lt-leb}
use Rattle.rows.specs.Layout.{raw_row}
use Rattle.text.specs.Answers.{digits_of}
use Rattle.page.specs.declared.Shown.{Shown}
use Rattle.page.specs.Page.{spaces, left_in, right_in, kind_text, place_text, shown, line_of, lines_from}
use Rattle.page.specs.vocabulary.Columns.{WIDTH, LINE, lines_fit}
use Rattle.page.proofs.ColumnLaws.{spaces-long, left-long, right-long}

-- ---- a line
-- every line has 64 bytes, whatever it shows
pub line-long : (s : Shown) → length (line_of s) ≡ WIDTH
unfolding line_of
line-long s =
    let number = right_in 10 (digits_of s.number) in
    let kind = left_in 6 (kind_text s.kind) in
    let place = left_in 8 (place_text s.place) in
    let rights = right_in 2 (digits_of s.rights) in
    let depth = right_in 2 (digits_of s.depth) in
    let d : length (depth ++ spaces 32) ≡ 34 = omega (arith, length-append depth (spaces 32), right-long 2 (digits_of s.depth), spaces-long 32) in
    let r = after rights 2 34 (right-long 2 (digits_of s.rights)) _ d in
    let p = after place 8 37 (left-long 8 (place_text s.place)) _ r in
    let k = after kind 6 46 (left-long 6 (kind_text s.kind)) _ p in
    after number 10 53 (right-long 10 (digits_of s.number)) _ k
  where
    after : (c : List ℕ) (w n : ℕ) → length c ≡ w → (rest : List ℕ) → length rest ≡ n → length (c ++ (spaces 1 ++ rest)) ≡ w + (1 + n)
    after c w n lc rest lr = omega (arith, length-append c (spaces 1 ++ rest), length-append (spaces 1) rest, spaces-long 1)

-- ---- lines of slots
pub lines_long : (t : List ℕ) (i n : ℕ) → length (lines_from t i n) ≡ LINE * n
unfolding lines_from
lines_long t i zero = refl
lines_long t i (suc n) =
    let l = line_of (shown (raw_row t (i + n))) in
    omega (arith, length-append (lines_from t i n) (l ++ (10 ∷ [])), length-append l (10 ∷ []), line-long (shown (raw_row t (i + n))), lines_long t i n)

-- a line x and its line feed after the lines s, in front of what d has there
line-more : (s d out x : List ℕ) (n : ℕ) → length s ≡ n → length x ≡ WIDTH → n + LINE ≤ length d → out ≡ s ++ drop n d
    → set (put_mid n WIDTH out x) (n + WIDTH) 10 ≡ (s ++ (x ++ (10 ∷ []))) ++ drop (n + LINE) d
line-more s d out x n ls lx room is =
    let y = get_or d (n + WIDTH) 0 in
    let rest = drop (suc (n + WIDTH)) d in
    let last : suc (n + WIDTH) ≡ n + LINE = omega arith in
    let front : take n out ≡ s = ap (take n) is ∙ take_at s (drop n d) n ls in
    let back : drop WIDTH (drop n out) ≡ y ∷ rest =
    ap (drop WIDTH) (ap (drop n) is ∙ drop_at s (drop n d) n ls) ∙ drop-drop WIDTH n d ∙ drop-cons d (n + WIDTH) 0 (omega arith) in
    let put : put_mid n WIDTH out x ≡ (s ++ x) ++ (y ∷ rest) =
    ap (λ (l : List ℕ). l ++ (x ++ drop WIDTH (drop n out))) front ∙ ap (λ (l : List ℕ). s ++ (x ++ l)) back ∙ sym (append_assoc s x (y ∷ rest)) in
    ap (λ (l : List ℕ). set l (n + WIDTH) 10) put
    ∙ set_at (s ++ x) y rest 10 (n + WIDTH) (omega (arith, length-append s x))
    ∙ append_assoc s x (10 ∷ rest)
    ∙ ap (λ (l : List ℕ). s ++ l) (sym (append_assoc x (10 ∷ []) rest))
    ∙ sym (append_assoc s (x ++ (10 ∷ [])) rest)
    ∙ ap (λ (k : ℕ). (s ++ (x ++ (10 ∷ []))) ++ drop k d) last

-- the line of the slot i after those of the slots before it
pub line-written : (t d out x : List ℕ) (from i n w : ℕ) → w ≡ WIDTH → from ≤ i → n ≡ LINE * (i - from) → length out ≡ length d → LINE ≤ length out - n
    → out ≡ lines_from t from (i - from) ++ drop n d → x ≡ line_of (shown (raw_row t i))
    → (length (set (put_mid n w out x) (n + WIDTH) 10) ≡ length d) × (set (put_mid n w out x) (n + WIDTH) 10 ≡ lines_from t from (i + 1 - from) ++ drop (n + LINE) d)
unfolding lines_from
line-written t d out x from i n w wide low count long room so_far is =
    let k = i - from in
    let slot : from + k ≡ i = omega arith in
    let one : i + 1 - from ≡ suc k = omega arith in
    let line : x ≡ line_of (shown (raw_row t (from + k))) = is ∙ ap (λ (j : ℕ). line_of (shown (raw_row t j))) (sym slot) in
    let more : set (put_mid n w out x) (n + WIDTH) 10 ≡ lines_from t from (i + 1 - from) ++ drop (n + LINE) d =
    ap (λ (m : ℕ). set (put_mid n m out x) (n + WIDTH) 10) wide ∙ line-more (lines_from t from k) d out x n (lines_long t from k ∙ sym count) (ap length line ∙ line-long (shown (raw_row t (from + k)))) (omega arith) so_far
    ∙ ap (λ (l : List ℕ). (lines_from t from k ++ (l ++ (10 ∷ []))) ++ drop (n + LINE) d) line
    ∙ ap (λ (m : ℕ). lines_from t from m ++ drop (n + LINE) d) (sym one) in (
      ap length more ∙ length-append (lines_from t from (i + 1 - from)) (drop (n + LINE) d)
          ∙ omega (arith, lines_long t from (i + 1 - from), length-drop (n + LINE) d),
      more,
    )

-- ---- how many lines have room
-- all rows are written; the bytes are used up
pub fit_all : (rows from room k : ℕ) → k ≤ rows - from → LINE * k ≤ room → rows - from ≤ k → lines_fit rows from room ≡ k
unfolding lines_fit
fit_all rows from room k few fits all = rw (le-leb (rows - from) (room / LINE) (omega arith)) (omega arith)

pub fit-full : (rows from room k : ℕ) → k < rows - from → LINE * k ≤ room → room < LINE * k + LINE → lines_fit rows from room ≡ k
unfolding lines_fit
fit-full rows from room k more fits full = rw (lt-leb (rows - from) (room / LINE) (omega arith)) (omega arith)

-- a line at least where a row is left and a line has room; never more than there are
pub record Fits (rows from room k : ℕ) : Type 0 where
  pub within : LINE * k ≤ room
  pub few : k ≤ rows - from
  pub some : from < rows → LINE ≤ room → 0 < k

pub fits : (rows from room : ℕ) → Fits rows from room (lines_fit rows from room)
unfolding lines_fit
fits rows from room = elim (dec_lt (room / LINE) (rows - from)) [
  | yes h ↦ rw (lt-leb (rows - from) (room / LINE) h) (record { within = omega arith; few = omega arith; some = λ more one. omega arith })
  | no h ↦ rw (le-leb (rows - from) (room / LINE) (omega arith)) (record { within = omega arith; few = omega arith; some = λ more one. omega arith })
]
