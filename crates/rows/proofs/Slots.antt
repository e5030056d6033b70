-- The slots of rows and requests: slots of sources, and what the words of a slot are. Passes on the laws over any key and those of the words.
use Rattle.std.proofs.Common.{◌≡◌, ℕ, zero, suc, ◌+◌, ◌*◌, ◌<◌, ◌≤◌, Bool, true, false, ◌&&◌, ◌⊎◌, List, [], ◌∷◌, ◌++◌, map, length, get_or, take, drop, sym, refl, ap, ◌∙◌, subst, inl, inr, suc-le-suc, zero-le, arith, length-append, length-take, ne_eqb}
use Rattle.rows.specs.declared.Row.{Row}
use Rattle.rows.specs.Lists.{filter, rises, laid, member, all, some, nonzero}
use Rattle.rows.specs.Tables.{State, no_row, row_of, numbers, sources}
use Rattle.std.specs.Prelude.{Option}
use Rattle.std.specs.Prelude.{Some}
use Rattle.rows.specs.Limits.{row_slots, request_slots}
use Rattle.rows.specs.Layout.{requests_at, row_slot, source_slot, row_word, row_field, rows_in, requests_in, raw_row}
use Rattle.rows.specs.vocabulary.Represents.{sources_older, Represents}
use Rattle.rows.specs.vocabulary.Slots.{Within, slotted, number_of_slot}
use Rattle.rows.specs.Setters.{with_sources}
use Rattle.rows.proofs.Bools.{and_l, and_r, pos-some, eqb-self, member-there}
use Rattle.rows.proofs.Keyed.{older_of, first-none, rises-rest}
use Rattle.rows.proofs.RowSources.{Among}
use Rattle.rows.proofs.LayoutColumns.{laid-at}
use Rattle.rows.proofs.Searches.{leading_le}
pub use Rattle.rows.proofs.KeySlots.{found_at, found_nothing, at-below, slot-le, slot-there, none-slot, slot-none, slot-member, slot-older, slot-found, cut-first, rises-old, slot_kept, slot-number, older-slot, slot-zero, each-cut, Cut, cut_at}
unfoldable pub use Rattle.rows.proofs.KeySlots.{newer_of}
pub use Rattle.rows.proofs.RepresentedWords.{Well, well-open, represented-well, represented-length, represented-rows, represented-requests, represented-next, represented-row, represented-request}
pub use Rattle.rows.proofs.RequestSlots.{RequestWords, request-of-words, request-words-at, request-words, request-read, raw-request, open-words, raw-open, request-found, request-absent, open-found, open-absent}

-- ---- slots in use, of any words
pub rows-most : (t : List ℕ) → rows_in t ≤ 1024
unfolding rows_in row_slots
rows-most t = omega (arith, leading_le (take 1024 t), length-take 1024 t)

pub requests-most : (t : List ℕ) → requests_in t ≤ 128
unfolding requests_in request_slots
requests-most t = omega (arith, leading_le (take 128 (drop requests_at t)), length-take 128 (drop requests_at t))

-- what a look-up found is a slot of the table
pub row_below : (t : List ℕ) (r : Option ℕ) (i : ℕ) → Within (rows_in t) r → r ≡ Some i → i < 1024
row_below t r i h e = omega (arith, at-below (rows_in t) r i h e, rows-most t)

pub request-below : (t : List ℕ) (r : Option ℕ) (j : ℕ) → Within (requests_in t) r → r ≡ Some j → j < 128
request-below t r j h e = omega (arith, at-below (requests_in t) r j h e, requests-most t)

-- ---- the slot of a source
pub source-slot : (rs : List Row) (s : ℕ) → 0 < s → source_slot rs s ≡ row_slot rs s
unfolding source_slot
source-slot rs s h = rw (pos-some s h) refl

pub source-zero : (rs : List Row) → source_slot rs 0 ≡ 0
unfolding source_slot some
source-zero rs = refl

-- where numbers rise, none is 0
pub source-rises : (rs : List Row) → rises (λ r. r.number) rs ≡ true → (s : ℕ) → source_slot rs s ≡ row_slot rs s
unfolding row_slot
source-rises rs up zero = source-zero rs ∙ sym (slot-zero (λ r. r.number) rs up)
source-rises rs up (suc s) = source-slot rs (suc s) (suc-le-suc zero-le)

pub source-le : (rs : List Row) (s : ℕ) → source_slot rs s ≤ length rs
unfolding row_slot
source-le rs zero = omega (arith, source-zero rs)
source-le rs (suc s) = omega (arith, source-slot rs (suc s) (suc-le-suc zero-le), slot-le (λ r. r.number) rs (suc s))

-- each source is 0 or older
nonzero-pos : (P : ℕ → Bool) (a : ℕ) (ns : List ℕ) → all P (nonzero (suc a ∷ ns)) ≡ true → P (suc a) && all P (nonzero ns) ≡ true
unfolding all nonzero filter
nonzero-pos P a ns e = rw (pos-some (suc a) (suc-le-suc zero-le)) at e

nonzero-head : (P : ℕ → Bool) (a : ℕ) (ns : List ℕ) → all P (nonzero (a ∷ ns)) ≡ true → (a ≡ 0) ⊎ (P a ≡ true)
nonzero-head P zero ns e = inl refl
nonzero-head P (suc a) ns e = inr (and_l (P (suc a)) (all P (nonzero ns)) (nonzero-pos P a ns e))

nonzero-rest : (P : ℕ → Bool) (a : ℕ) (ns : List ℕ) → all P (nonzero (a ∷ ns)) ≡ true → all P (nonzero ns) ≡ true
unfolding nonzero filter some
nonzero-rest P zero ns e = e
nonzero-rest P (suc a) ns e = and_r (P (suc a)) (all P (nonzero ns)) (nonzero-pos P a ns e)

all-sources : (P : ℕ → Bool) (r : Row) → all P (sources r) ≡ true → ((r.source ≡ 0) ⊎ (P r.source ≡ true)) × ((r.via ≡ 0) ⊎ (P r.via ≡ true))
unfolding sources
all-sources P r e = (nonzero-head P r.source (r.via ∷ []) e, nonzero-head P r.via [] (nonzero-rest P r.source (r.via ∷ []) e))

-- of a row in a list of rows whose numbers rise and whose sources are older
module _ (new : List Row) (r : Row) (old : List Row) (up : rises (λ r. r.number) (new ++ (r ∷ old)) ≡ true) (older : sources_older (new ++ (r ∷ old)) ≡ true) where
  pub sources-among : Among old r.source × Among old r.via
  unfolding sources_older
  sources-among = all-sources (λ s. member s (numbers old)) r (each-cut (λ r rs. all (λ s. member s (numbers rs)) (sources r)) new r old older)

  same-slot : (s : ℕ) → Among old s → source_slot old s ≡ row_slot (new ++ (r ∷ old)) s
  unfolding numbers row_slot
  same-slot s (inl z) = rw z (source-zero old ∙ sym (slot-zero (λ r. r.number) (new ++ (r ∷ old)) up))
  same-slot s (inr m) =
      let up' : rises (λ r. r.number) (r ∷ old) ≡ true = rises-old (λ r. r.number) new (r ∷ old) up in
      let there : member s (map (λ r. r.number) (r ∷ old)) ≡ true = member-there s r.number (map (λ r. r.number) old) m in
      source-rises old (rises-rest (λ r. r.number) r old up') s
      ∙ sym (slot_kept (λ r. r.number) new (r ∷ old) up s there ∙ slot_kept (λ r. r.number) (r ∷ []) old up' s m)

  -- the slot of a source names the same row among all rows, and an older one
  pub source-kept : (source_slot old r.source ≡ row_slot (new ++ (r ∷ old)) r.source) × (source_slot old r.source ≤ length old)
  source-kept = (same-slot r.source sources-among.0, source-le old r.source)

  pub via-kept : (source_slot old r.via ≡ row_slot (new ++ (r ∷ old)) r.via) × (source_slot old r.via ≤ length old)
  via-kept = (same-slot r.via sources-among.1, source-le old r.via)

-- ---- the row numbered n of a state that is laid well, at slot i
-- the rows cut there
pub row_cut : (rs : List Row) (n i : ℕ) → row_slot rs n ≡ suc i
    → (rs ≡ newer_of (λ r. r.number) rs n ++ (row_of rs n ∷ older_of (λ r. r.number) rs n)) × (length (older_of (λ r. r.number) rs n) ≡ i)
unfolding row_slot row_of
row_cut rs n i e = (cut-first (λ r. r.number) no_row rs n (slot-member (λ r. r.number) rs n i e), slot-older (λ r. r.number) rs n i e)

pub row-found : (rs : List Row) (n i : ℕ) → row_slot rs n ≡ suc i → (member n (numbers rs) ≡ true) × ((row_of rs n).number ≡ n) × (i < length rs)
unfolding row_slot row_of numbers
row-found rs n i e = slot-found (λ r. r.number) no_row rs n i e

pub row-none : (rs : List Row) (n : ℕ) → row_slot rs n ≡ 0 → member n (numbers rs) ≡ false
unfolding row_slot numbers
row-none rs n e = slot-none (λ r. r.number) rs n e

pub row-absent : (rs : List Row) (n : ℕ) → row_slot rs n ≡ 0 → row_of rs n ≡ no_row
unfolding row_slot row_of
row-absent rs n e = first-none (λ r. r.number) no_row rs n (slot-none (λ r. r.number) rs n e)

-- the number of the row at a slot plus 1, back from the slot
pub number-of-cut : (new : List Row) (r : Row) (old : List Row) → number_of_slot (new ++ (r ∷ old)) (suc (length old)) ≡ r.number
unfolding number_of_slot
number-of-cut [] r old = rw (eqb-self (suc (length old))) refl
number-of-cut (x ∷ new) r old =
    rw (ne_eqb (suc (length (new ++ (r ∷ old)))) (suc (length old)) (λ e. omega (arith, length-append new (r ∷ old)))) (number-of-cut new r old)

pub number-of-row : (rs : List Row) (n i : ℕ) → row_slot rs n ≡ suc i → number_of_slot rs (suc i) ≡ n
number-of-row rs n i e =
    let (cut, long) = row_cut rs n i e in
    let (there, same, below) = row-found rs n i e in
    ap (λ (k : ℕ). number_of_slot rs (suc k)) (sym long)
    ∙ ap (λ (l : List Row). number_of_slot l (suc (length (older_of (λ r. r.number) rs n)))) cut
    ∙ number-of-cut (newer_of (λ r. r.number) rs n) (row_of rs n) (older_of (λ r. r.number) rs n)
    ∙ same

-- the slots of its sources are those among all rows, and at most its own
module _ (st : State) (w : Well st) (n i : ℕ) (e : row_slot st.rows n ≡ suc i) where
  slots_kept : (f : Row → ℕ)
      → ((new : List Row) (r : Row) (old : List Row) → rises (λ r. r.number) (new ++ (r ∷ old)) ≡ true → sources_older (new ++ (r ∷ old)) ≡ true
      → (source_slot old (f r) ≡ row_slot (new ++ (r ∷ old)) (f r)) × (source_slot old (f r) ≤ length old))
      → (source_slot (older_of (λ r. r.number) st.rows n) (f (row_of st.rows n)) ≡ row_slot st.rows (f (row_of st.rows n)))
      × (source_slot (older_of (λ r. r.number) st.rows n) (f (row_of st.rows n)) ≤ i)
  slots_kept f law =
      let row = row_of st.rows n in
      let older = older_of (λ r. r.number) st.rows n in
      let newer = newer_of (λ r. r.number) st.rows n in
      let (cut, long) = row_cut st.rows n i e in
      let (same, le) = law newer row older (rw cut at w.rows-rise) (rw cut at w.sources-old) in
      (same ∙ ap (λ (l : List Row). row_slot l (f row)) (sym cut), omega arith)

  pub source-of : (source_slot (older_of (λ r. r.number) st.rows n) (row_of st.rows n).source ≡ row_slot st.rows (row_of st.rows n).source)
      × (source_slot (older_of (λ r. r.number) st.rows n) (row_of st.rows n).source ≤ i)
  source-of = slots_kept (λ r. r.source) source-kept

  pub via-of : (source_slot (older_of (λ r. r.number) st.rows n) (row_of st.rows n).via ≡ row_slot st.rows (row_of st.rows n).via)
      × (source_slot (older_of (λ r. r.number) st.rows n) (row_of st.rows n).via ≤ i)
  via-of = slots_kept (λ r. r.via) via-kept

-- ---- the words of a slot
-- of the row r at slot i, its sources among the older rows
pub record RowWords (t : List ℕ) (i : ℕ) (r : Row) (old : List Row) : Type 0 where
  pub number : get_or t i 0 ≡ r.number
  pub kind : get_or t (1024 + i) 0 ≡ r.kind
  pub object : get_or t (2048 + i) 0 ≡ r.object
  pub operation : get_or t (3072 + i) 0 ≡ r.operation
  pub rights : get_or t (4096 + i) 0 ≡ r.rights
  pub place : get_or t (5120 + i) 0 ≡ r.place
  pub source : get_or t (6144 + i) 0 ≡ source_slot old r.source
  pub via : get_or t (7168 + i) 0 ≡ source_slot old r.via
  pub depth : get_or t (8192 + i) 0 ≡ r.depth
  pub request : get_or t (9216 + i) 0 ≡ r.request

pub raw-words : (t : List ℕ) (i : ℕ) (r : Row) (old : List Row) → RowWords t i r old → raw_row t i ≡ slotted r old
unfolding raw_row slotted with_sources row_field row_slots
raw-words t i r old w =
    let first : 0 * 1024 + i ≡ i = omega arith in
    λ j.
    record {
      number = (ap (λ (n : ℕ). get_or t n 0) first ∙ w.number) j;
      kind = w.kind j;
      object = w.object j;
      operation = w.operation j;
      rights = w.rights j;
      place = w.place j;
      source = w.source j;
      via = w.via j;
      depth = w.depth j;
      request = w.request j;
    }

module _ {st : State} {t : List ℕ} (rep : Represents t st) where
  row-word : (c : ℕ) (new : List Row) (r : Row) (old : List Row) → st.rows ≡ new ++ (r ∷ old) → c < 10 → get_or t (c * 1024 + length old) 0 ≡ row_word c r old
  row-word c new r old e h =
      represented-row rep c (length old) h (omega (arith, (represented-well rep).rows-fit, ap length e, length-append new (r ∷ old)))
      ∙ ap (λ (l : List Row). get_or (laid (row_word c) l) (length old) 0) e
      ∙ laid-at (row_word c) new r old

  -- by the position in the list, and by the number
  pub row-words-at : (new : List Row) (r : Row) (old : List Row) → st.rows ≡ new ++ (r ∷ old) → RowWords t (length old) r old
  unfolding row_word slotted with_sources
  row-words-at new r old e =
      record {
        number = ap (λ (n : ℕ). get_or t n 0) (omega arith) ∙ row-word 0 new r old e (omega arith);
        kind = row-word 1 new r old e (omega arith);
        object = row-word 2 new r old e (omega arith);
        operation = row-word 3 new r old e (omega arith);
        rights = row-word 4 new r old e (omega arith);
        place = row-word 5 new r old e (omega arith);
        source = row-word 6 new r old e (omega arith);
        via = row-word 7 new r old e (omega arith);
        depth = row-word 8 new r old e (omega arith);
        request = row-word 9 new r old e (omega arith);
      }

  pub row-words : (n i : ℕ) → row_slot st.rows n ≡ suc i → RowWords t i (row_of st.rows n) (older_of (λ r. r.number) st.rows n)
  row-words n i e =
      let (cut, long) = row_cut st.rows n i e in
      subst (λ (k : ℕ). RowWords t k (row_of st.rows n) (older_of (λ r. r.number) st.rows n)) long
      (row-words-at (newer_of (λ r. r.number) st.rows n) (row_of st.rows n) (older_of (λ r. r.number) st.rows n) cut)

  pub raw-row-at : (new : List Row) (r : Row) (old : List Row) → st.rows ≡ new ++ (r ∷ old) → raw_row t (length old) ≡ slotted r old
  raw-row-at new r old e = raw-words t (length old) r old (row-words-at new r old e)

  pub raw-row : (n i : ℕ) → row_slot st.rows n ≡ suc i → raw_row t i ≡ slotted (row_of st.rows n) (older_of (λ r. r.number) st.rows n)
  raw-row n i e = raw-words t i (row_of st.rows n) (older_of (λ r. r.number) st.rows n) (row-words n i e)
