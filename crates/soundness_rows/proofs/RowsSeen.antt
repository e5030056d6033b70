-- The row at a slot of the words that represent a state, as the tests of one row see it: its own words and its sources.
use Rattle.std.proofs.Common.{◌≡◌, ℕ, zero, suc, ◌<◌, ◌≤◌, true, eqb, List, [], ◌∷◌, ◌++◌, length, get_or, sym, refl, ap, ◌∙◌, subst, inl, inr, append_assoc, arith, length-append, ne_eqb}
use Rattle.rows.specs.declared.Row.{Row}
use Rattle.rows.specs.Lists.{rises, between}
use Rattle.rows.specs.Limits.{row_slots}
use Rattle.rows.specs.Codes.{is_node}
use Rattle.rows.specs.Tables.{State, no_row, row_of, numbers}
use Rattle.rows.specs.Layout.{source_slot, row_field, row_slot, raw_row}
use Rattle.rows.specs.vocabulary.Represents.{sources_older, Represents}
use Rattle.rows.specs.Setters.{with_sources}
use Rattle.rows.specs.vocabulary.Sizes.{ROWS}
use Rattle.rows.specs.vocabulary.Slots.{slotted}
use Rattle.soundness_rows.specs.vocabulary.Packed.{packed, Packs, PacksRows, Faithful}
use Rattle.soundness_rows.specs.vocabulary.Seen.{Same, Seen, SourcesBefore, slot_row}
use Rattle.rows.proofs.Bools.{clash}
use Rattle.rows.proofs.Keyed.{older_of, first_key, rises-rest, rises-range}
use Rattle.rows.proofs.RowSources.{Among}
use Rattle.rows.proofs.Slots.{represented-well, newer_of, rises-old, slot-zero, source-le, source-rises, source-zero, sources-among, source-kept, row_cut, row-absent, row-none, raw-row-at}
use Rattle.soundness_rows.proofs.PackedRows.{packs-none, packed-same, packs-slot}

-- ---- the same row
same_self : (r : Row) → Same r r
same_self r = record { number = refl; kind = refl; object = refl; operation = refl; rights = refl; place = refl; depth = refl; request = refl }

same-slotted : (r : Row) (old : List Row) → Same (slotted r old) r
unfolding slotted with_sources
same-slotted r old = record { number = refl; kind = refl; object = refl; operation = refl; rights = refl; place = refl; depth = refl; request = refl }

-- ---- a source by its slot
-- source words in range
pub row-sources : (t : List ℕ) (i : ℕ) (x : Row) → x ≡ raw_row t i → i < ROWS → SourcesBefore t i → (x.source ≤ ROWS) × (x.via ≤ ROWS)
unfolding raw_row row_field row_slots
row-sources t i x d h (s, v) = (omega (arith, ap (λ (r : Row). r.source) d), omega (arith, ap (λ (r : Row). r.via) d))

-- ---- a row by the word that packs it
-- the row numbered n of older rows, or none
packs-older : (rs new old : List Row) → Faithful rs → rs ≡ new ++ old → (n : ℕ) → Packs (packed (row_of old n)) (row_of old n)
unfolding packed no_row is_node between
packs-older rs new old f e n = pick (row_slot old n) refl
  where
    none : row_of old n ≡ no_row → Packs (packed (row_of old n)) (row_of old n)
    none z = subst (λ (r : Row). Packs (packed r) r) (sym z) packs-none

    pick : (s : ℕ) → row_slot old n ≡ s → Packs (packed (row_of old n)) (row_of old n)
    pick zero d = none (row-absent old n d)
    pick (suc j) d =
        let (cut, long) = row_cut old n j d in
        let newer = newer_of (λ r. r.number) old n in
        let older = older_of (λ r. r.number) old n in
        f.packs (new ++ newer) (row_of old n) older (e ∙ ap (λ (l : List Row). new ++ l) cut ∙ sym (append_assoc new newer (row_of old n ∷ older)))

module _ {st : State} {t : List ℕ} (rep : Represents t st) where
  slot-row-at : (new old : List Row) → st.rows ≡ new ++ old → (n s : ℕ) → row_slot old n ≡ s → Same (slot_row t s) (row_of old n)
  unfolding slot_row
  slot-row-at new old e n zero d = subst (λ (r : Row). Same no_row r) (sym (row-absent old n d)) (same_self no_row)
  slot-row-at new old e n (suc j) d =
      let (cut, long) = row_cut old n j d in
      let newer = newer_of (λ r. r.number) old n in
      let older = older_of (λ r. r.number) old n in
      let whole : st.rows ≡ (new ++ newer) ++ (row_of old n ∷ older) = e ∙ ap (λ (l : List Row). new ++ l) cut ∙ sym (append_assoc new newer (row_of old n ∷ older)) in
      subst (λ (r : Row). Same r (row_of old n)) (sym (ap (raw_row t) (sym long) ∙ raw-row-at rep (new ++ newer) (row_of old n) older whole)) (same-slotted (row_of old n) older)

  slot-row : (new old : List Row) → st.rows ≡ new ++ old → (n : ℕ) → Same (slot_row t (source_slot old n)) (row_of old n)
  slot-row new old e n =
      let up = ap (rises (λ r. r.number)) (sym e) ∙ (represented-well rep).rows-rise in
      slot-row-at new old e n (source_slot old n) (sym (source-rises old (rises-old (λ r. r.number) new old up) n))

-- the number of a source, and whether there is one, by its slot
among-number : (old : List Row) → rises (λ r. r.number) old ≡ true → (n : ℕ) → Among old n → (row_of old n).number ≡ n
unfolding row_of numbers row_slot no_row
among-number old up n (inl z) = rw z (ap (λ (r : Row). r.number) (row-absent old 0 (slot-zero (λ r. r.number) old up)))
among-number old up n (inr m) = first_key (λ r. r.number) no_row old n m

among_none : (old : List Row) → rises (λ r. r.number) old ≡ true → (n : ℕ) → Among old n → eqb (source_slot old n) 0 ≡ eqb n 0
unfolding numbers
among_none old up n (inl z) = rw z (ap (λ (s : ℕ). eqb s 0) (source-zero old))
among_none old up n (inr m) =
    let (lo, hi) = rises-range (λ r. r.number) old up n m in
    ne_eqb (source_slot old n) 0 (λ e. clash m (row-none old n (sym (source-rises old up n) ∙ e)))
    ∙ sym (ne_eqb n 0 (λ e. omega arith))

-- ---- of the row y of a state that t represents, old the older rows
module _ {st : State} {t : List ℕ} (rep : Represents t st) (new : List Row) (y : Row) (old : List Row) (e : st.rows ≡ new ++ (y ∷ old)) where
  up : rises (λ r. r.number) (new ++ (y ∷ old)) ≡ true
  up = ap (rises (λ r. r.number)) (sym e) ∙ (represented-well rep).rows-rise

  up-old : rises (λ r. r.number) old ≡ true
  up-old = rises-rest (λ r. r.number) y old (rises-old (λ r. r.number) new (y ∷ old) up)

  older : sources_older (new ++ (y ∷ old)) ≡ true
  older = ap sources_older (sym e) ∙ (represented-well rep).sources-old

  among : Among old y.source × Among old y.via
  among = sources-among new y old up older

  slot_seen : (n : ℕ) → Same (slot_row t (source_slot old n)) (row_of old n)
  slot_seen n = slot-row rep (new ++ (y ∷ [])) old (e ∙ sym (append_assoc new (y ∷ []) old)) n

  -- the slot of its source tells the number, and the number the slot
  pub source_told : (slot_row t (source_slot old y.source)).number ≡ y.source
  source_told = (slot_seen y.source).number ∙ among-number old up-old y.source among.0

  pub source-slot-of : source_slot old y.source ≡ row_slot st.rows y.source
  source-slot-of = (source-kept new y old up older).0 ∙ ap (λ (l : List Row). row_slot l y.source) (sym e)

  -- the word of a source tells of it what its parts say
  source-packs : Faithful st.rows → (l : List ℕ) → PacksRows t (length st.rows) l → (m : ℕ) → Packs (get_or l (source_slot old m) 0) (row_of old m)
  source-packs f l p m =
      subst (λ (w : ℕ). Packs w (row_of old m))
      (sym (packs-slot t l (length st.rows) (source_slot old m) p (omega (arith, source-le old m, ap length e, length-append new (y ∷ old)))
      ∙ packed-same (slot_row t (source_slot old m)) (row_of old m) (slot_seen m)))
      (packs-older st.rows (new ++ (y ∷ [])) old f (e ∙ sym (append_assoc new (y ∷ []) old)) m)

  pub seen_at : (x : Row) (s v : ℕ) (l : List ℕ) → Faithful st.rows → PacksRows t (length st.rows) l → x ≡ raw_row t (length old)
      → s ≡ get_or l x.source 0 → v ≡ get_or l x.via 0 → Seen x s v y old
  unfolding slotted with_sources
  seen_at x s v l f p d ds dv =
      rw (ds, dv) (subst (λ (r : Row). Seen r (get_or l r.source 0) (get_or l r.via 0) y old) (sym (d ∙ raw-row-at rep new y old e)) seen)
    where
      seen : Seen (slotted y old) (get_or l (slotted y old).source 0) (get_or l (slotted y old).via 0) y old
      seen =
          record {
            own = same-slotted y old;
            source = source-packs f l p y.source;
            via = source-packs f l p y.via;
            source-none = among_none old up-old y.source among.0;
            via-none = among_none old up-old y.via among.1;
          }

  pub same_at : (x : Row) → x ≡ raw_row t (length old) → Same x y
  same_at x d = subst (λ (r : Row). Same r y) (sym (d ∙ raw-row-at rep new y old e)) (same-slotted y old)
