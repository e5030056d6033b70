-- A line read back from its columns; it has no line feed, so a page is cut into its lines.
use Prim.Native.Nat.{ℕ, zero, suc, ◌+◌, ◌^◌, ◌<◌, ◌≤◌}
use native.Mathlib.Omega.{arith}
use mathlib.Core.Bool.{Bool, true, false, not, cond}
use mathlib.Core.List.{List, [], ◌∷◌, ◌++◌, map}
use mathlib.Core.Path.{◌≡◌, refl, ap, ◌∙◌}
use lib.Dec.{eqb}
use lib.ListN.{length, take, drop, length-drop}
use lib.Seq.{take_at, drop-append-le, drop-append-add, take-append-le}
use Rattle.rows.specs.Lists.{all, bytes}
use Rattle.rows.proofs.Bools.{and_r}
use Rattle.rows.specs.Codes.{is_operation, is_subdirectory, is_client, is_server, is_node, is_clist, is_system, owner_of}
use Rattle.text.specs.Opening.{lines_of}
use Rattle.text.specs.Answers.{digits_of}
use Rattle.text.proofs.Lines.{plain, plain-append, plain-take, plain-digits, line-ends}
use Rattle.page.specs.declared.Shown.{Shown}
use Rattle.page.specs.Page.{spaces, left_in, right_in, kind_text, place_text, line_of, page_of}
use Rattle.page.specs.ReadBack.{columns, number_in, kind_in, place_in, fields_of, read_back}
use Rattle.page.proofs.ColumnLaws.{left-long, right-long}
use Rattle.page.proofs.PageLaws.{line-long}
use Rattle.page.proofs.FieldsBack.{right-back, ten-digits, below-hundred, is_kind, kind-back, is_place, place-back}

-- ---- columns
-- what is after a field and a space
past-field : (c rest : List ℕ) (w n : ℕ) → length c ≡ w → drop (w + 1 + n) (c ++ (spaces 1 ++ rest)) ≡ drop n rest
unfolding spaces
past-field c rest w n e =
    let k : w + 1 + n ≡ length c + suc n = omega arith in
    ap (λ (m : ℕ). drop m (c ++ (spaces 1 ++ rest))) k ∙ drop-append-add c (spaces 1 ++ rest) (suc n)

-- five fields and the columns in which they stand
module _ (a b c d e r : List ℕ) (la : length a ≡ 10) (lb : length b ≡ 6) (lc : length c ≡ 8) (ld : length d ≡ 2) (le : length e ≡ 2) where
  abbrev line : List ℕ
  line = a ++ (spaces 1 ++ (b ++ (spaces 1 ++ (c ++ (spaces 1 ++ (d ++ (spaces 1 ++ (e ++ r))))))))

  pub first_field : take 10 line ≡ a
  first_field = take_at a _ 10 la

  pub second-field : take 6 (drop 11 line) ≡ b
  second-field = ap (take 6) (past-field a _ 10 0 la) ∙ take_at b _ 6 lb

  pub third-field : take 8 (drop 18 line) ≡ c
  third-field = ap (take 8) (past-field a _ 10 7 la ∙ past-field b _ 6 0 lb) ∙ take_at c _ 8 lc

  pub fourth-field : take 2 (drop 27 line) ≡ d
  fourth-field = ap (take 2) (past-field a _ 10 16 la ∙ past-field b _ 6 9 lb ∙ past-field c _ 8 0 lc) ∙ take_at d _ 2 ld

  pub fifth-field : take 2 (drop 30 line) ≡ e
  fifth-field =
      ap (take 2) (past-field a _ 10 19 la ∙ past-field b _ 6 12 lb ∙ past-field c _ 8 3 lc ∙ past-field d _ 2 0 ld) ∙ take_at e _ 2 le

-- ---- a line
-- what a line shows has room in its columns
pub record HasRoom (s : Shown) : Type 0 where
  pub number : s.number < 10 ^ 10
  pub kind : is_kind s.kind ≡ true
  pub place : is_place s.place ≡ true
  pub rights : s.rights < 100
  pub depth : s.depth < 100

-- the columns up to 64 are those of the line, whatever comes after it
front : (a w : ℕ) (l r : List ℕ) → a + w ≤ length l → take w (drop a (l ++ r)) ≡ take w (drop a l)
front a w l r h = ap (take w) (drop-append-le a l r (omega arith)) ∙ take-append-le w (drop a l) r (omega (arith, length-drop a l))

pub fields_back : (s : Shown) (r : List ℕ) → HasRoom s → fields_of (line_of s ++ r) ≡ s
unfolding fields_of columns line_of
fields_back s r room =
    let number = right_in 10 (digits_of s.number) in
    let kind = left_in 6 (kind_text s.kind) in
    let place = left_in 8 (place_text s.place) in
    let rights = right_in 2 (digits_of s.rights) in
    let depth = right_in 2 (digits_of s.depth) in
    let wide = line-long s in
    let n = right-long 10 (digits_of s.number) in
    let k = left-long 6 (kind_text s.kind) in
    let p = left-long 8 (place_text s.place) in
    let i = right-long 2 (digits_of s.rights) in
    let d = right-long 2 (digits_of s.depth) in
    let one = front 0 10 (line_of s) r (omega (arith, wide)) ∙ first_field number kind place rights depth (spaces 32) n k p i d in
    let two = front 11 6 (line_of s) r (omega (arith, wide)) ∙ second-field number kind place rights depth (spaces 32) n k p i d in
    let three = front 18 8 (line_of s) r (omega (arith, wide)) ∙ third-field number kind place rights depth (spaces 32) n k p i d in
    let four = front 27 2 (line_of s) r (omega (arith, wide)) ∙ fourth-field number kind place rights depth (spaces 32) n k p i d in
    let five = front 30 2 (line_of s) r (omega (arith, wide)) ∙ fifth-field number kind place rights depth (spaces 32) n k p i d in
    λ j.
    record {
      number = (ap number_in one ∙ right-back 10 s.number room.number (ten-digits s.number)) j;
      kind = (ap kind_in two ∙ kind-back s.kind room.kind) j;
      place = (ap place_in three ∙ place-back s.place room.place) j;
      rights = (ap number_in four ∙ right-back 2 s.rights (omega (arith, room.rights)) (below-hundred s.rights room.rights)) j;
      depth = (ap number_in five ∙ right-back 2 s.depth (omega (arith, room.depth)) (below-hundred s.depth room.depth)) j;
    }

-- ---- no line feed
plain-spaces : (n : ℕ) → plain (spaces n) ≡ true
unfolding plain all spaces
plain-spaces zero = refl
plain-spaces (suc n) = plain-spaces n

plain-drop : (n : ℕ) (l : List ℕ) → plain l ≡ true → plain (drop n l) ≡ true
unfolding plain all
plain-drop zero l e = e
plain-drop (suc n) [] e = refl
plain-drop (suc n) (b ∷ l) e = plain-drop n l (and_r (not (eqb b 10)) (plain l) e)

plain-kind : (k : ℕ) → plain (kind_text k) ≡ true
unfolding kind_text bytes plain all
plain-kind k = pick (is_operation k) (is_subdirectory k) (is_client k) (is_server k)
  where
    pick : (a b c d : Bool) → plain (cond a (bytes "op") (cond b (bytes "dir") (cond c (bytes "client") (cond d (bytes "server") [])))) ≡ true
    pick true b c d = refl
    pick false true c d = refl
    pick false false true d = refl
    pick false false false true = refl
    pick false false false false = refl

plain-place : (p : ℕ) → plain (place_text p) ≡ true
unfolding place_text bytes plain all
plain-place p = pick (is_node p) (is_clist p) (is_system p)
  where
    pick : (a b c : Bool) → plain (cond a (bytes "node " ++ digits_of p) (cond b (bytes "proc " ++ digits_of (owner_of p)) (cond c (bytes "system") []))) ≡ true
    pick true b c = plain-digits p
    pick false true c = plain-digits (owner_of p)
    pick false false true = refl
    pick false false false = refl

plain-left : (w : ℕ) (t : List ℕ) → plain t ≡ true → plain (left_in w t) ≡ true
unfolding left_in
plain-left w t e = plain-take w (t ++ spaces w) (plain-append t (spaces w) e (plain-spaces w))

plain-right : (w : ℕ) (t : List ℕ) → plain t ≡ true → plain (right_in w t) ≡ true
unfolding right_in
plain-right w t e = plain-drop (length t) (spaces w ++ t) (plain-append (spaces w) t (plain-spaces w) e)

plain-line : (s : Shown) → plain (line_of s) ≡ true
unfolding line_of
plain-line s =
    let depth = plain-append _ (spaces 32) (plain-right 2 (digits_of s.depth) (plain-digits s.depth)) (plain-spaces 32) in
    let rights = then _ _ (plain-right 2 (digits_of s.rights) (plain-digits s.rights)) depth in
    let place = then _ _ (plain-left 8 (place_text s.place) (plain-place s.place)) rights in
    let kind = then _ _ (plain-left 6 (kind_text s.kind) (plain-kind s.kind)) place in
    then _ _ (plain-right 10 (digits_of s.number) (plain-digits s.number)) kind
  where
    then : (c rest : List ℕ) → plain c ≡ true → plain rest ≡ true → plain (c ++ (spaces 1 ++ rest)) ≡ true
    then c rest e f = plain-append c (spaces 1 ++ rest) e (plain-append (spaces 1) rest (plain-spaces 1) f)

-- ---- a page
-- cut at its line feeds: the line of each, and no other
pub page-lines : (ss : List Shown) → lines_of (page_of ss) ≡ map (λ s. line_of s ++ (10 ∷ [])) ss
unfolding page_of lines_of
page-lines [] = refl
page-lines (s ∷ ss) = line-ends (line_of s) (page_of ss) (plain-line s) ∙ ap (λ ls. (line_of s ++ (10 ∷ [])) ∷ ls) (page-lines ss)

-- each of these has room in its line
unfoldable pub AllRoom : List Shown → Type 0
AllRoom [] = Unit {0}
AllRoom (s ∷ ss) = HasRoom s × AllRoom ss

pub page-back : (ss : List Shown) → AllRoom ss → read_back (page_of ss) ≡ ss
unfolding read_back AllRoom
page-back ss room = ap (map fields_of) (page-lines ss) ∙ each ss room
  where
    each : (ss : List Shown) → AllRoom ss → map fields_of (map (λ s. line_of s ++ (10 ∷ [])) ss) ≡ ss
    each [] room = refl
    each (s ∷ ss) room = λ j. fields_back s (10 ∷ []) room.0 j ∷ each ss room.1 j
