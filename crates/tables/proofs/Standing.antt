-- Standing rows of sound tables: their shapes, sources and rights, looked up among all rows instead of the older ones; rows in nodes stay.
use Prim.Native.Nat.{ℕ, suc, max, ◌<◌, ◌≤◌}
use mathlib.Core.Bool.{Bool, true, false, not, cond, ◌&&◌, ◌||◌}
use mathlib.Core.List.{List, [], ◌∷◌}
use mathlib.Core.Path.{◌≡◌, refl, sym, ap, ◌∙◌}
use mathlib.Core.Logic.{◌⊎◌, inl, inr, ⊎_elim}
use native.Mathlib.Omega.{arith}
use borrow.Author.Tests.{eqb-true, ne_eqb, leb-true}
use lib.Dec.{leb, eqb}
use Rattle.rows.specs.declared.Row.{Row}
use Rattle.rows.specs.declared.Request.{Request}
use Rattle.rows.specs.Lists.{filter, any, all, each, member, between, some, nonzero}
use Rattle.rows.specs.Limits.{nodes, greatest_depth}
use Rattle.rows.specs.Codes.{is_end, in_clist, is_node, is_clist, within}
use Rattle.rows.specs.Tables.{State, no_row, row_of, numbers, sources, marked}
use Rattle.rows.specs.Sound.{rows_rise, is_opening, is_registered, is_held, is_port_end, is_lent_copy, source_right, sources_right, copy_matches, copies_match, has_right_sources, has_right_depth, depths_right, matches_source, sourced, source_of, via_of}
use Rattle.rows.proofs.Bools.{false_of, clash, not_t, and_l, and_r, and_i, some-pos, member-here, member-there}
use Rattle.rows.proofs.Keyed.{older_of, each_first, older-first, older-key, rises-range}
use Rattle.tables.proofs.Sound.{Numbers, RowsSound}
use Rattle.rows.proofs.RowSources.{Among, Shape, opening, registered, held, port-end, lent-copy, shape, shape-sources}
use Rattle.rows.specs.vocabulary.Represents.{sources_older}
use Rattle.tables.proofs.Marking.{marked-least}

module _ (st : State) (up : Numbers st.next st.rows st.requests) (s : RowsSound st.rows st.requests st.processes) (n : ℕ) (t : member n (numbers st.rows) ≡ true) where
  older : List Row
  older = older_of (λ r. r.number) st.rows n

  abbrev row : Row
  row = row_of st.rows n

  sourced-older : (F : Row → Row → Row → Bool) → sourced F st.rows ≡ true → F row (source_of older row) (via_of older row) ≡ true
  unfolding sourced row_of numbers older
  sourced-older F e = each_first (λ r. r.number) no_row (λ r rs. F r (source_of rs r) (via_of rs r)) st.rows e n t

  among-older : Among older row.source × Among older row.via
  unfolding sources_right
  among-older =
      shape-sources st.requests row older (shape st.requests row (source_of older row) (via_of older row) (sourced-older (has_right_sources st.requests) s.sources-right))

  -- what is among the older rows has a lower number
  lower : (m : ℕ) → Among older m → m < n
  unfolding rows_rise numbers older
  lower m (inl z) = let (lo, hi) = rises-range (λ r. r.number) st.rows up.rows-rise n t in omega arith
  lower m (inr u) = (older-key (λ r. r.number) st.rows up.rows-rise n m t u).0

  look-older : (m : ℕ) → m < n → row_of older m ≡ row_of st.rows m
  unfolding rows_rise row_of numbers older
  look-older m h = older-first (λ r. r.number) no_row st.rows up.rows-rise n t m h

  -- the sources are 0 or older
  pub source-lower : row.source < n
  source-lower = lower row.source among-older.0

  pub via-lower : row.via < n
  via-lower = lower row.via among-older.1

  -- a clause of rows and their sources, of one row: its sources looked up among all rows
  pub sourced-at : (F : Row → Row → Row → Bool) → sourced F st.rows ≡ true → F row (source_of st.rows row) (via_of st.rows row) ≡ true
  sourced-at F e =
      ap (λ x. F row x (via_of st.rows row)) (sym (look-older row.source source-lower))
      ∙ ap (F row (source_of older row)) (sym (look-older row.via via-lower)) ∙ sourced-older F e

  pub standing-shape : Shape st.requests row (source_of st.rows row) (via_of st.rows row)
  unfolding sources_right
  standing-shape = shape st.requests row (source_of st.rows row) (via_of st.rows row) (sourced-at (has_right_sources st.requests) s.sources-right)

  pub standing-copy : copy_matches row st.rows ≡ true
  unfolding copies_match
  standing-copy = sourced-at matches_source s.copies-match

  -- the depths of the sources are less
  pub depth_falls : ((source_of st.rows row).depth < row.depth) × ((via_of st.rows row).depth < row.depth) × (row.depth ≤ 12)
  unfolding depths_right has_right_depth greatest_depth
  depth_falls =
      let over = suc (max (source_of st.rows row).depth (via_of st.rows row).depth) in
      let right : eqb row.depth over && leb row.depth 12 ≡ true = sourced-at has_right_depth s.depths-right in
      let same : row.depth ≡ over = eqb-true row.depth over (and_l (eqb row.depth over) (leb row.depth 12) right) in
      let most : row.depth ≤ 12 = leb-true row.depth 12 (and_r (eqb row.depth over) (leb row.depth 12) right) in
      (omega arith, omega arith, most)

-- ---- sources
-- 0, or what passes
kept-one : (P : ℕ → Bool) (a : ℕ) (ns : List ℕ) → (a ≡ 0) ⊎ (P a ≡ true) → all P (nonzero ns) ≡ true → all P (nonzero (a ∷ ns)) ≡ true
unfolding nonzero filter all some
kept-one P a ns (inl z) e = rw z e
kept-one P a ns (inr u) e = pick (some a)
  where
    pick : (b : Bool) → all P (cond b (a ∷ filter some ns) (filter some ns)) ≡ true
    pick true = and_i (P a) (all P (filter some ns)) u e
    pick false = e

each-mono : {A : Type 0} (F G : A → List A → Bool) → ((x : A) (xs : List A) → F x xs ≡ true → G x xs ≡ true) → (xs : List A) → each F xs ≡ true → each G xs ≡ true
unfolding each
each-mono F G h [] e = refl
each-mono F G h (x ∷ xs) e = and_i (G x xs) (each G xs) (h x xs (and_l (F x xs) (each F xs) e)) (each-mono F G h xs (and_r (F x xs) (each F xs) e))

pub sources-older : (st : State) → Numbers st.next st.rows st.requests → RowsSound st.rows st.requests st.processes → sources_older st.rows ≡ true
unfolding sources_older sources_right sources nonzero filter all each sourced
sources-older st up s =
    each-mono (source_right st.requests) (λ r rs. all (λ s. member s (numbers rs)) (sources r))
    (λ r rs e.
    let (a, b) = shape-sources st.requests r rs (shape st.requests r (source_of rs r) (via_of rs r) e) in
    kept-one (λ s. member s (numbers rs)) r.source (r.via ∷ []) a (kept-one (λ s. member s (numbers rs)) r.via [] b refl))
    st.rows s.sources-right

pub via-listed : (r : Row) → some r.via ≡ true → member r.via (sources r) ≡ true
unfolding sources nonzero filter
via-listed r e = pick (some r.source)
  where
    pick : (b : Bool) → member r.via (cond b (r.source ∷ filter some (r.via ∷ [])) (filter some (r.via ∷ []))) ≡ true
    pick true = rw e (member-there r.via r.source (r.via ∷ []) (member-here r.via []))
    pick false = rw e (member-here r.via [])

-- ---- rights
-- (rule S15) the source of a row that is no end stands, and has all its rights
pub rights-within : (st : State) → Numbers st.next st.rows st.requests → RowsSound st.rows st.requests st.processes → (n : ℕ) → member n (numbers st.rows) ≡ true
    → is_end (row_of st.rows n).kind ≡ false → some (row_of st.rows n).source ≡ true
    → (member (row_of st.rows n).source (numbers st.rows) ≡ true)
    × (within (row_of st.rows n).rights (row_of st.rows (row_of st.rows n).source).rights ≡ true)
unfolding matches_source
rights-within st up s n t no_end some-source =
    let r = row_of st.rows n in
    let o = row_of st.rows r.source in
    let pos = some-pos r.source some-source in
    let none : eqb r.source 0 ≡ false = ne_eqb r.source 0 (λ e. omega arith) in
    let copy : eqb r.kind o.kind && (eqb r.object o.object && (eqb r.operation o.operation && within r.rights o.rights)) ≡ true
    = rw (none, no_end) at (standing-copy st up s n t) in (
      ⊎_elim (λ z. absurd (omega arith)) (λ u. u) (shape-sources st.requests r st.rows (standing-shape st up s n t)).0,
      (search (and_l, and_r)),
    )

-- ---- rows in nodes
none-one : (P : ℕ → Bool) (a : ℕ) (ns : List ℕ) → (a ≡ 0) ⊎ (P a ≡ false) → any P (nonzero ns) ≡ false → any P (nonzero (a ∷ ns)) ≡ false
unfolding nonzero filter any some
none-one P a ns (inl z) e = rw z e
none-one P a ns (inr u) e = pick (some a)
  where
    pick : (b : Bool) → any P (cond b (a ∷ filter some ns) (filter some ns)) ≡ false
    pick true = rw u e
    pick false = e

node-no-clist : (p : ℕ) → is_node p ≡ true → is_clist p ≡ true → ⊥
unfolding is_node is_clist between in_clist nodes
node-no-clist p e d =
    let lo : leb 101 p ≡ true = search and_l in
    let hi : leb p 32 ≡ true = search and_r in
    omega (arith, leb-true 101 p lo, leb-true p 32 hi)

-- the sources of a row in a node are in nodes
node-sources : (vs : List Request) (rs : List Row) (r : Row) → Shape vs r (source_of rs r) (via_of rs r) → is_node r.place ≡ true → any (λ m. not (is_node (row_of rs m).place)) (sources r) ≡ false
unfolding sources any nonzero filter is_opening is_registered is_held is_port_end is_lent_copy
node-sources vs rs r h e = none-one P r.source (r.via ∷ []) (both h).0 (none-one P r.via [] (both h).1 refl)
  where
    P : ℕ → Bool
    P m = not (is_node (row_of rs m).place)

    both : Shape vs r (source_of rs r) (via_of rs r) → ((r.source ≡ 0) ⊎ (P r.source ≡ false)) × ((r.via ≡ 0) ⊎ (P r.via ≡ false))
    both (opening d) =
        let a : eqb r.source 0 ≡ true = search (and_l, and_r) in
        let b : eqb r.via 0 ≡ true = search (and_l, and_r) in
        (inl (eqb-true r.source 0 a), inl (eqb-true r.via 0 b))
    both (registered d) =
        let a : is_node (row_of rs r.source).place ≡ true = search (and_l, and_r) in
        let b : eqb r.via 0 ≡ true = search (and_l, and_r) in
        (inr (rw a refl), inl (eqb-true r.via 0 b))
    both (held d) = let a : is_clist r.place ≡ true = search and_l in absurd (node-no-clist r.place e a)
    both (port-end d) = let a : not (is_node r.place) ≡ true = search (and_l, and_r) in clash e (not_t (is_node r.place) a)
    both (lent-copy d) = let a : not (is_node r.place) ≡ true = search (and_l, and_r) in clash e (not_t (is_node r.place) a)

-- (rule P8) where no row in a node passes the test, none is marked
pub nodes-stay : (st : State) → Numbers st.next st.rows st.requests → RowsSound st.rows st.requests st.processes → (f : Row → Bool)
    → ((n : ℕ) → member n (numbers st.rows) ≡ true → is_node (row_of st.rows n).place ≡ true → f (row_of st.rows n) ≡ false)
    → (n : ℕ) → is_node (row_of st.rows n).place ≡ true → member n (marked f st.rows) ≡ false
unfolding rows_rise
nodes-stay st up s f seed n e =
    false_of _ (λ m. clash e (not_t (is_node (row_of st.rows n).place) (marked-least f (λ n. not (is_node (row_of st.rows n).place)) st.rows up.rows-rise closed n m)))
  where
    closed : (n : ℕ) → member n (numbers st.rows) ≡ true
        → f (row_of st.rows n) || any (λ m. not (is_node (row_of st.rows m).place)) (sources (row_of st.rows n)) ≡ true
        → not (is_node (row_of st.rows n).place) ≡ true
    closed n t h = pick (is_node (row_of st.rows n).place) refl
      where
        pick : (b : Bool) → is_node (row_of st.rows n).place ≡ b → not b ≡ true
        pick true q = clash h (rw (seed n t q, node-sources st.requests st.rows (row_of st.rows n) (standing-shape st up s n t) q) refl)
        pick false q = refl
