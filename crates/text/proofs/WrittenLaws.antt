-- Laws of the opening written: cleared words, the rows of entries one after the other, a process record.
use Prim.Native.Nat.{ℕ, zero, suc, ◌+◌, ◌*◌, ◌-◌, ◌<◌, ◌≤◌}
use native.Mathlib.Nat.{suc-mul}
use native.Mathlib.Numerals.{add-one}
use native.Mathlib.Omega.{arith}
use mathlib.Core.Bool.{Bool, true, false, ◌&&◌}
use mathlib.Core.List.{List, [], ◌∷◌, ◌++◌}
use mathlib.Core.Path.{◌≡◌, refl, ap, sym, subst, ◌∙◌}
use lib.ListN.{length, get_or, set, replicate, length-replicate, get_or-replicate}
use lib.Seq.{ext_get_or}
use borrow.Author.Tests.{ne_eqb}
use Rattle.rows.specs.declared.Row.{Row}
use Rattle.rows.specs.declared.Process.{Process}
use Rattle.rows.specs.Lists.{pad, laid, top_of, all}
use Rattle.rows.specs.Limits.{processes, row_slots, request_slots}
use Rattle.rows.specs.Tables.{State, no_process, empty}
use Rattle.rows.specs.Setters.{with_rows, with_next, with_sources}
use Rattle.rows.specs.Layout.{row_columns, request_columns, requests_at, next_at, tables_length, row_words, request_words, words_of, records_of}
use Rattle.rows.specs.Computes.{computes}
use Rattle.rows.specs.vocabulary.Represents.{laid_well, sources_older, Represents}
use Rattle.rows.specs.vocabulary.Slots.{number_of_slot, with_source_numbers}
use Rattle.rows.specs.vocabulary.Sizes.{RECORDS, IsTables, sizes-meant}
use Rattle.changes.specs.vocabulary.Changes.{AddsRow}
use Rattle.text.specs.declared.Entry.{Entry}
use Rattle.std.specs.Prelude.{Some, None}
use Rattle.text.specs.declared.Given.{Given}
use Rattle.text.specs.declared.Naming.TheVariants.{Listed, Missing}
use Rattle.text.specs.Opening.{Form, Entries, entries_from, add_entry, entry_listed, entry_row, with_entries}
use Rattle.text.specs.vocabulary.Sizes.{GROUPS}
use Rattle.text.specs.vocabulary.Openings.{Gives, entry_read, entries_here, listed_from, naming_of, NamesEntries}
use Rattle.text.specs.vocabulary.Written.{BothRepresent, WritesEntries}
use Rattle.text.proofs.OpeningLaws.{from_more, from-none}

-- ---- cleared words
abbrev pub zeros : ℕ → List ℕ
zeros n = replicate n 0

-- words that are 0 are as many zeros
pub all-zero : (l : List ℕ) (n : ℕ) → length l ≡ n → ((k : ℕ) → k < n → get_or l k 0 ≡ 0) → l ≡ zeros n
all-zero l n e h =
    ext_get_or 0 l (zeros n) (e ∙ sym (length-replicate n 0)) (λ k lt. h k (omega arith) ∙ sym (get_or-replicate n k 0 0 (omega arith)))

pad-none : (n : ℕ) → pad {A = ℕ} 0 n [] ≡ zeros n
unfolding pad
pad-none zero = refl
pad-none (suc n) = ap (λ (l : List ℕ). 0 ∷ l) (pad-none n)

zeros-then : (m n : ℕ) → zeros m ++ zeros n ≡ zeros (m + n)
zeros-then zero n = let q : 0 + n ≡ n = omega arith in rw q
zeros-then (suc m) n = let q : suc m + n ≡ suc (m + n) = omega arith in rw q (ap (λ (l : List ℕ). 0 ∷ l) (zeros-then m n))

-- one column more
zeros-more : (c k : ℕ) → zeros (c * k) ++ pad 0 k [] ≡ zeros (suc c * k)
zeros-more c k =
    let q : c * k + k ≡ suc c * k = omega (arith, suc-mul c k) in
    rw (pad-none k, zeros-then (c * k) k, q)

no_rows : (c : ℕ) → row_words c [] ≡ zeros (c * row_slots)
unfolding row_words laid
no_rows zero = let q : 0 * row_slots ≡ 0 = omega arith in rw q
no_rows (suc c) = rw (no_rows c) (zeros-more c row_slots)

no-requests : (c : ℕ) → request_words c [] ≡ zeros (c * request_slots)
unfolding request_words laid
no-requests zero = let q : 0 * request_slots ≡ 0 = omega arith in rw q
no-requests (suc c) = rw (no-requests c) (zeros-more c request_slots)

cleared-words : zeros tables_length ≡ words_of (with_next 0 empty)
unfolding words_of empty tables_length next_at requests_at
cleared-words =
    let a : ℕ = row_columns * row_slots in
    let b : ℕ = request_columns * request_slots in
    let q : a + (b + 1) ≡ suc (a + b) = omega arith in
    sym (rw (no_rows row_columns, no-requests request_columns, zeros-then b 1, zeros-then a (b + 1), q))

pub cleared-tables : (t : List ℕ) → IsTables t → Represents (zeros (length t)) (with_next 0 empty)
unfolding computes laid_well sources_older
cleared-tables t e = record { well = refl; words = ap zeros (e ∙ sizes-meant.tables) ∙ cleared-words }

-- the records of no processes
no-records : (n : ℕ) → zeros (3 * n) ≡ records_of (replicate n no_process)
unfolding records_of no_process
no-records zero = refl
no-records (suc n) =
    let q : 3 * suc n ≡ suc (suc (suc (3 * n))) = omega arith in
    rw q (ap (λ (l : List ℕ). 0 ∷ 0 ∷ 0 ∷ l) (no-records n))

-- both runs cleared
pub emptied : {t p : List ℕ} → t ≡ words_of empty → p ≡ zeros RECORDS → BothRepresent t p empty
unfolding computes laid_well sources_older empty processes
emptied e z = record { tables = record { well = refl; words = e }; records = z ∙ no-records 64 }

-- ---- the rows of entries: those written, then those left
-- a row without sources is the same by slot and by number
slot-none : (rs : List Row) → number_of_slot rs 0 ≡ 0
unfolding number_of_slot
slot-none [] = refl
slot-none (r ∷ rs) = rw (ne_eqb (suc (length rs)) 0 (λ e. omega arith)) (slot-none rs)

row-no-source : (rs : List Row) (n node : ℕ) (e : Entry) → with_source_numbers rs (entry_row n node e) ≡ entry_row n node e
unfolding with_source_numbers with_sources entry_row
row-no-source rs n node e = rw (slot-none rs)

pub record Left (goal : State) (t : List ℕ) (node n : ℕ) (es : List Entry) : Type 0 where
  pub now : State
  pub words : Represents t now
  pub many : n ≡ length now.rows
  pub top : top_of (λ r. r.number) now.rows ≡ n
  pub whole : with_rows (with_entries (suc n) node es now.rows) now ≡ goal

module _ (goal : State) (t : List ℕ) (node n : ℕ) where
  pub left-more : (e : Entry) (es : List Entry) → Left goal t node n (e ∷ es) → (u : List ℕ) (w : Row) → w ≡ entry_row (n + 1) node e → AddsRow t u n w → Left goal u node (n + 1) es
  unfolding with_entries top_of entry_row
  left-more e es k u w is adds =
      let st = k.now in
      let m = k.many in
      let h = k.top in
      let number : w.number ≡ n + 1 = ap (λ (r : Row). r.number) is in
      let same : with_source_numbers st.rows w ≡ entry_row (suc n) node e = ap (with_source_numbers st.rows) (is ∙ rw add-one) ∙ row-no-source st.rows (suc n) node e in
      record {
        now = with_rows (entry_row (suc n) node e ∷ st.rows) st;
        words = subst (λ (r : Row). Represents u (with_rows (r ∷ st.rows) st)) same (adds st k.words m (omega arith));
        many = omega arith;
        top = omega arith;
        whole = rw add-one k.whole;
      }

  pub left-none : Left goal t node n [] → Represents t goal
  unfolding with_entries
  left-none k = subst (Represents t) k.whole k.words

-- what the loop over entries keeps: left are those from position i on, of which k are written up to slot n
abbrev left_from : List ℕ → ℕ → ℕ → List Entry
left_from s i k = (entries_from (GROUPS - k) s i).entries

abbrev all_written : List ℕ → ℕ → ℕ → ℕ → State → State
all_written s at node rows st = with_rows (with_entries (suc rows) node (entries_here s at) st.rows) st

pub record Writing (g : Given) (t u s : List ℕ) (at node rows i n k : ℕ) : Type 0 where
  pub many : n + length (left_from s i k) ≡ rows + length (entries_here s at)
  pub listed : (fs : List Form) → Gives g fs → listed_from fs (GROUPS - k) s i ≡ listed_from fs GROUPS s at
  pub words : (st : State) → Represents t st → rows ≡ length st.rows → top_of (λ r. r.number) st.rows ≡ rows
      → Left (all_written s at node rows st) u node n (left_from s i k)

pub writing-starts : (g : Given) (t s : List ℕ) (at node rows : ℕ) → Writing g t t s at node rows at rows 0
writing-starts g t s at node rows =
    record { many = refl; listed = λ fs h. refl; words = λ st rep many top. record { now = st; words = rep; many = many; top = top; whole = refl } }

module _ {g : Given} {t u s : List ℕ} {at node rows i n k : ℕ} (w : Writing g t u s at node rows i n k) where
  -- none are left
  done : left_from s i k ≡ [] → NamesEntries g s at rows (Listed n) × WritesEntries t u s at node rows (Listed n)
  unfolding naming_of listed_from all
  done e =
      let m = w.many in
      let l = ap length e in
      let counted : n ≡ rows + length (entries_here s at) = omega arith in (
        λ fs h. let named : listed_from fs GROUPS s at ≡ true = sym (w.listed fs h) ∙ ap (all (entry_listed fs)) e in rw (named, ← counted),
        λ h st rep many top. left-none (all_written s at node rows st) u node n (subst (Left (all_written s at node rows st) u node n) e (w.words st rep many top)),
      )

  pub writing-ends : GROUPS ≤ k → NamesEntries g s at rows (Listed n) × WritesEntries t u s at node rows (Listed n)
  unfolding entries_from
  writing-ends h = let q : GROUPS - k ≡ 0 = omega arith in done (ap (λ (m : ℕ). (entries_from m s i).entries) q)

  pub writing-stops : entry_read s i ≡ None → NamesEntries g s at rows (Listed n) × WritesEntries t u s at node rows (Listed n)
  writing-stops none = done (ap (λ (x : Entries). x.entries) (from-none (GROUPS - k) s i none))

  module _ (e : Entry) (next : ℕ) (is : entry_read s i ≡ Some (e, next)) (h : k < GROUPS) where
    next-left : left_from s i k ≡ e ∷ left_from s next (k + 1)
    unfolding add_entry
    next-left =
        let q : GROUPS - k ≡ suc (GROUPS - (k + 1)) = omega arith in
        ap (λ (m : ℕ). (entries_from m s i).entries) q ∙ ap (λ (x : Entries). x.entries) (from_more (GROUPS - (k + 1)) s i e next is)

    pub writing-room : n + 1 ≤ rows + length (entries_here s at)
    writing-room = let m = w.many in let l = ap length next-left in omega arith

    -- what the entry names decides
    listed_next : (fs : List Form) → Gives g fs → entry_listed fs e && listed_from fs (GROUPS - (k + 1)) s next ≡ listed_from fs GROUPS s at
    unfolding listed_from all
    listed_next fs k = sym (ap (all (entry_listed fs)) next-left) ∙ w.listed fs k

    pub writing-missing : (b : Bool) → ((fs : List Form) → Gives g fs → b ≡ entry_listed fs e) → b ≡ false → NamesEntries g s at rows Missing
    unfolding naming_of
    writing-missing b told f fs k = let none : listed_from fs GROUPS s at ≡ false = sym (listed_next fs k) ∙ rw (sym (told fs k) ∙ f) in rw none

    pub writing-goes-on : (b : Bool) → ((fs : List Form) → Gives g fs → b ≡ entry_listed fs e) → b ≡ true → (v : List ℕ) (r : Row) → r ≡ entry_row (n + 1) node e → AddsRow u v n r
        → Writing g t v s at node rows next (n + 1) (k + 1)
    writing-goes-on b told f v r row adds =
        let m = w.many in
        let l = ap length next-left in
        record {
          many = omega arith;
          listed = λ fs k. sym (rw (sym (told fs k) ∙ f)) ∙ listed_next fs k;
          words =
              λ st rep many top.
              left-more (all_written s at node rows st) u node n e (left_from s next (k + 1))
              (subst (Left (all_written s at node rows st) u node n) next-left (w.words st rep many top)) v r row adds;
        }

-- ---- one process record, in three stores
pub record-set : (ps : List Process) (i : ℕ) (x : Process) → set (set (set (records_of ps) (3 * i) x.prime) (3 * i + 1) x.active) (3 * i + 2) x.through ≡ records_of (set ps i x)
unfolding records_of
record-set [] i x = refl
record-set (y ∷ ps) zero x = refl
record-set (y ∷ ps) (suc i) x =
    let t : 3 * suc i ≡ suc (suc (suc (3 * i))) = omega arith in
    let u : 3 * suc i + 1 ≡ suc (suc (suc (3 * i + 1))) = omega arith in
    let v : 3 * suc i + 2 ≡ suc (suc (suc (3 * i + 2))) = omega arith in
    rw (u, v, t) (ap (λ (l : List ℕ). y.prime ∷ y.active ∷ y.through ∷ l) (record-set ps i x))
