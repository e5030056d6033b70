-- What is promised of the holders' page holds.
use Prim.Native.Nat.{ℕ, zero, suc, ◌+◌, ◌^◌, ◌<◌, ◌≤◌, max}
use native.Mathlib.Nat.{zero-add, add-zero, add-suc}
use native.Mathlib.Omega.{arith}
use mathlib.Core.Bool.{Bool, true, false, cond, ◌&&◌, ◌||◌}
use mathlib.Core.Logic.{inl, inr}
use mathlib.Core.List.{List, [], ◌∷◌, ◌++◌, map, reverse, reverse-cons, reverse-reverse, append_assoc, append-nil}
use mathlib.Core.Path.{◌≡◌, refl, sym, ap, ◌∙◌}
use lib.Dec.{eqb, leb}
use borrow.Author.Tests.{leb-true}
use Rattle.rows.specs.declared.Row.{Row}
use Rattle.rows.specs.declared.Process.{Process}
use Rattle.rows.specs.Lists.{all, each, top_of, rises, between}
use Rattle.rows.specs.Limits.{all_rights, greatest_depth, greatest_number}
use Rattle.rows.specs.Codes.{is_operation, is_subdirectory, is_client, is_server, is_end, is_node, is_clist, is_system, owner_of}
use Rattle.rows.specs.Tables.{State, is_listed}
use Rattle.rows.specs.Setters.{with_sources}
use Rattle.rows.specs.Sound.{sound, source_of, via_of, rows_rise, next_in_range, object_in_range, objects_in_range, right_in_range, rights_in_range, place_in_range, places_in_range, sourced, has_right_depth, depths_right}
use Rattle.rows.specs.Layout.{raw_row, rows_in, rows_to, row_at, state_of}
use Rattle.rows.proofs.Bools.{and_l, and_r, or_l, or_r, or_map, or_cases}
use Rattle.rows.proofs.Keyed.{rises-rest, rises-first}
use Rattle.tables.proofs.Sound.{sound-open}
use Rattle.tables.proofs.SoundFacts.{rows-top}
use Rattle.page.specs.declared.Shown.{Shown}
use Rattle.page.specs.Page.{shown, line_of, page_of, in_table_order, page, lines_from}
use Rattle.page.specs.ReadBack.{read_back}
use Rattle.page.specs.Promises.{PagePromises}
use Rattle.page.proofs.PageLaws.{line-long}
use Rattle.page.proofs.FieldsBack.{is_kind, is_place}
use Rattle.page.proofs.LinesBack.{HasRoom, AllRoom, page-lines, page-back}

-- ---- parts
parts : (t : List ℕ) (i m n : ℕ) → lines_from t i (m + n) ≡ lines_from t i m ++ lines_from t (i + m) n
unfolding lines_from
parts t i m zero = ap (lines_from t i) (add-zero m) ∙ sym (append-nil (lines_from t i m))
parts t i m (suc n) =
    let last : (k : ℕ) → List ℕ = λ k. line_of (shown (raw_row t k)) ++ (10 ∷ []) in
    let at : i + (m + n) ≡ i + m + n = omega arith in
    ap (lines_from t i) (add-suc m n) ∙ ap (λ (k : ℕ). lines_from t i (m + n) ++ last k) at
    ∙ ap (λ (l : List ℕ). l ++ last (i + m + n)) (parts t i m n) ∙ append_assoc (lines_from t i m) (lines_from t (i + m) n) (last (i + m + n))

-- ---- words
page-more : (ss : List Shown) (s : Shown) → page_of (ss ++ (s ∷ [])) ≡ page_of ss ++ (line_of s ++ (10 ∷ []))
unfolding page_of
page-more [] s = refl
page-more (x ∷ ss) s = ap (λ (l : List ℕ). line_of x ++ (10 ∷ l)) (page-more ss s) ∙ sym (append_assoc (line_of x) (10 ∷ page_of ss) (line_of s ++ (10 ∷ [])))

slots : (t : List ℕ) (n i : ℕ) → lines_from t 0 i ≡ page (rows_to t n i)
unfolding lines_from page in_table_order rows_to row_at raw_row with_sources shown page_of
slots t n zero = refl
slots t n (suc i) =
    let s = shown (raw_row t i) in
    ap (λ (k : ℕ). lines_from t 0 i ++ (line_of (shown (raw_row t k)) ++ (10 ∷ []))) (zero-add i)
    ∙ ap (λ (l : List ℕ). l ++ (line_of s ++ (10 ∷ []))) (slots t n i) ∙ sym (page-more (in_table_order (rows_to t n i)) s)

-- ---- sound tables
room-more : (ss : List Shown) (s : Shown) → AllRoom ss → HasRoom s → AllRoom (ss ++ (s ∷ []))
unfolding AllRoom
room-more [] s all one = (one, tt)
room-more (x ∷ ss) s all one = (all.0, room-more ss s all.1 one)

kind-of : (ps : List Process) (r : Row) → object_in_range ps r ≡ true → is_kind r.kind ≡ true
unfolding object_in_range
kind-of ps r e =
    let op = is_operation r.kind in
    let dir = is_subdirectory r.kind in
    let client = is_client r.kind in
    let server = is_server r.kind in
    or-both op (dir || (client || server)) (and_l op _)
    (λ more. or-both dir (client || server) (and_l dir _) (λ ends. or-both client server (and_l client _) (and_l server _) ends) more) e
  where
    or-both : (a b : Bool) {x y : Bool} → (x ≡ true → a ≡ true) → (y ≡ true → b ≡ true) → x || y ≡ true → a || b ≡ true
    or-both a b {x} {y} f g h = elim (or_cases x y h) [ inl p ↦ or_l a b (f p) | inr q ↦ or_r a b (g q) ]

place_of : (ps : List Process) (r : Row) → place_in_range ps r ≡ true → is_place r.place ≡ true
unfolding place_in_range
place_of ps r e =
    or_map (is_node r.place) _ (is_clist r.place || is_system r.place) (λ more. elim (or_cases (is_clist r.place && is_listed ps (owner_of r.place)) (is_system r.place) more) [
      | inl c ↦ or_l (is_clist r.place) (is_system r.place) (and_l (is_clist r.place) _ c)
      | inr y ↦ or_r (is_clist r.place) (is_system r.place) y
    ]) e

few-rights : (r : Row) → right_in_range r ≡ true → r.rights < 100
unfolding right_in_range all_rights
few-rights r e = pick (is_end r.kind) e
  where
    pick : (b : Bool) → leb r.rights (cond b 0 7) ≡ true → r.rights < 100
    pick true h = let l = leb-true r.rights 0 h in omega arith
    pick false h = let l = leb-true r.rights 7 h in omega arith

-- every row of sound tables has room in its line
rows-room : (ps : List Process) (b : ℕ) (rs : List Row) → b ≤ 10 ^ 10 → rises (λ r. r.number) rs ≡ true → top_of (λ r. r.number) rs < b
    → all (object_in_range ps) rs ≡ true → all right_in_range rs ≡ true → all (place_in_range ps) rs ≡ true → sourced has_right_depth rs ≡ true
    → AllRoom (in_table_order rs)
unfolding in_table_order AllRoom shown all sourced each top_of has_right_depth greatest_depth
rows-room ps b [] most rise top kinds rights places depths = tt
rows-room ps b (r ∷ rs) most rise top kinds rights places depths =
    let older = rises-first (λ r. r.number) r rs rise in
    let over = suc (max (source_of rs r).depth (via_of rs r).depth) in
    let deepest = eqb r.depth over && leb r.depth 12 in
    let rest = rows-room ps b rs most (rises-rest (λ r. r.number) r rs rise) (omega (arith, older, top)) (and_r (object_in_range ps r) _ kinds) (and_r (right_in_range r) _ rights) (and_r (place_in_range ps r) _ places) (and_r deepest (sourced has_right_depth rs) depths) in
    let deep = leb-true r.depth 12 (and_r (eqb r.depth over) (leb r.depth 12) (and_l deepest (sourced has_right_depth rs) depths)) in
    room-more (in_table_order rs) (shown r) rest
    (record {
      number = omega (arith, most, top);
      kind = kind-of ps r (and_l (object_in_range ps r) _ kinds);
      place = place_of ps r (and_l (place_in_range ps r) _ places);
      rights = few-rights r (and_l (right_in_range r) _ rights);
      depth = omega (arith, deep);
    })

sound-room : (st : State) → sound st ≡ true → AllRoom (in_table_order st.rows)
unfolding rows_rise objects_in_range rights_in_range places_in_range depths_right next_in_range between greatest_number
sound-room st e =
    let s = sound-open st e in
    let next = leb-true st.next 4294967295 (and_r (leb 1 st.next) (leb st.next 4294967295) s.numbers.next-in-range) in
    rows-room st.processes st.next st.rows (omega (arith, next)) s.numbers.rows-rise (rows-top st s.numbers) s.rows.objects-in-range s.rows.rights-in-range s.rows.places-in-range s.rows.depths-right

back : (st : State) → sound st ≡ true → read_back (page st.rows) ≡ in_table_order st.rows
unfolding page
back st e = page-back (in_table_order st.rows) (sound-room st e)

-- in table order is newest first turned round
turned : (rs : List Row) → in_table_order rs ≡ reverse (map shown rs)
unfolding in_table_order
turned [] = refl
turned (r ∷ rs) = ap (λ (l : List Shown). l ++ (shown r ∷ [])) (turned rs) ∙ sym (reverse-cons (shown r) (map shown rs))

same-fields : (rs rs' : List Row) → in_table_order rs ≡ in_table_order rs' → map shown rs ≡ map shown rs'
same-fields rs rs' e =
    sym (reverse-reverse (map shown rs)) ∙ ap reverse (sym (turned rs) ∙ e ∙ turned rs') ∙ reverse-reverse (map shown rs')

pub page-promises : PagePromises
unfolding page state_of
page-promises =
    record {
      wide = line-long;
      line-a-row = λ rs. page-lines (in_table_order rs);
      in_parts = parts;
      of_words = λ t p. slots t (rows_in t) (rows_in t);
      read-back = back;
      agree = λ st st' s s' e. same-fields st.rows st'.rows (sym (back st s) ∙ ap read_back e ∙ back st' s');
    }
