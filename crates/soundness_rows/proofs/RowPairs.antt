-- Ends in pairs: the row with the next number, or the one before, stands in the neighbouring slot or nowhere; so it is enough to look at neighbours.
use Rattle.std.proofs.Common.{◌≡◌, ℕ, zero, suc, pred, ◌<◌, ◌≤◌, Bool, true, false, cond, not, ◌&&◌, ◌||◌, eqb, ◌⊎◌, List, [], ◌∷◌, ◌++◌, map, length, sym, refl, ap, ◌∙◌, inl, inr, ⊎_elim, append_assoc, arith, eq-eqb, ne_eqb, eqb-true}
use native.Mathlib.Decide.{ℕ_discrete}
use borrow.Author.Tests.{eqb-false}
use Rattle.rows.specs.declared.Row.{Row}
use Rattle.rows.specs.Lists.{all, each, first_with, top_of, rises, member}
use Rattle.rows.specs.Codes.{client_end, server_end, is_client, is_server, is_end}
use Rattle.rows.specs.Tables.{State, no_row, row_of}
use Rattle.rows.specs.Sound.{is_paired_with, other_end, end_paired, ends_paired}
use Rattle.rows.specs.Layout.{source_slot, row_slot, raw_row}
use Rattle.rows.specs.vocabulary.Represents.{Represents}
use Rattle.rows.specs.Setters.{with_sources}
use Rattle.rows.specs.vocabulary.Slots.{slotted}
use Rattle.soundness_rows.specs.vocabulary.Clauses.{beside_older, newest_paired}
use Rattle.soundness_rows.specs.vocabulary.AtSlot.{PortsNamed}
use Rattle.soundness_rows.specs.vocabulary.Seen.{slot_row}
use Rattle.rows.proofs.Bools.{false_of, clash, bool_eq, and_l, and_r, and_i, or-false, or_cases, eqb-self, eqb-sym}
use Rattle.rows.proofs.KeySlots.{each-cut}
use Rattle.rows.proofs.Keyed.{first-none, rises-rest, rises-first, rises-range}
use Rattle.rows.proofs.Slots.{represented-well, rises-old, raw-row-at}
use Rattle.soundness_rows.proofs.RowsSeen.{source_told, source-slot-of}
use Rattle.soundness_rows.proofs.SlotLoops.{passed-all, each_all}

-- ---- neighbours by key
module _ {A : Type 0} (key : A → ℕ) (none : A) where
  top-after : (new rest : List A) → rises key (new ++ rest) ≡ true → top_of key rest ≤ top_of key (new ++ rest)
  unfolding top_of
  top-after [] rest up = omega arith
  top-after (z ∷ new) rest up = omega (arith, rises-first key z (new ++ rest) up, top-after new rest (rises-rest key z (new ++ rest) up))

  -- the newer elements have greater keys
  pub first-skip : (new rest : List A) → rises key (new ++ rest) ≡ true → (n : ℕ) → n ≤ top_of key rest → first_with key none (new ++ rest) n ≡ first_with key none rest n
  unfolding first_with
  first-skip [] rest up n h = refl
  first-skip (z ∷ new) rest up n h =
      let up' = rises-rest key z (new ++ rest) up in
      let lt : n < key z = omega (arith, rises-first key z (new ++ rest) up, top-after new rest up') in
      rw (ne_eqb (key z) n (λ e. omega arith)) (first-skip new rest up' n h)

  -- none has a key above the first
  first_above : (xs : List A) → rises key xs ≡ true → (n : ℕ) → top_of key xs < n → first_with key none xs n ≡ none
  first_above xs up n h = first-none key none xs n (false_of (member n (map key xs)) (λ t. let (lo, hi) = rises-range key xs up n t in omega arith))

  -- the element with the next key
  next-key : (new : List A) (z x : A) (old : List A) → rises key (new ++ (z ∷ (x ∷ old))) ≡ true
      → first_with key none (new ++ (z ∷ (x ∷ old))) (suc (key x)) ≡ cond (eqb (suc (key x)) (key z)) z none
  unfolding top_of first_with
  next-key new z x old up =
      let up' = rises-old key new (z ∷ (x ∷ old)) up in
      let lt : key x < key z = rises-first key z (x ∷ old) up' in
      first-skip new (z ∷ (x ∷ old)) up (suc (key x)) lt
      ∙ rw (eqb-sym (key z) (suc (key x)), first_above (x ∷ old) (rises-rest key z (x ∷ old) up') (suc (key x)) (omega arith)) refl

  -- the element with the key before
  last-key : (new : List A) (x z : A) (old : List A) → rises key (new ++ (x ∷ (z ∷ old))) ≡ true → (n : ℕ) → suc n ≡ key x
      → first_with key none (new ++ (x ∷ (z ∷ old))) n ≡ cond (eqb (suc (key z)) (key x)) z none
  unfolding top_of first_with
  last-key new x z old up n e =
      let up' = rises-old key new (x ∷ (z ∷ old)) up in
      let lt : key z < key x = rises-first key x (z ∷ old) up' in
      first-skip new (x ∷ (z ∷ old)) up n (omega arith) ∙ rw (ne_eqb (key x) n (λ d. omega arith)) (pick lt (rises-rest key x (z ∷ old) up') (eqb (suc (key z)) (key x)) refl)
    where
      pick : key z < key x → rises key (z ∷ old) ≡ true → (b : Bool) → eqb (suc (key z)) (key x) ≡ b → cond (eqb (key z) n) z (first_with key none old n) ≡ cond b z none
      pick lt up'' true q = let d = eqb-true (suc (key z)) (key x) q in rw (eq-eqb (key z) n (omega arith)) refl
      pick lt up'' false q = let d = eqb-false (suc (key z)) (key x) q in first_above (z ∷ old) up'' n (omega arith)

  -- nothing is older than the last
  last_none : (new : List A) (x : A) → rises key (new ++ (x ∷ [])) ≡ true → (n : ℕ) → suc n ≡ key x → first_with key none (new ++ (x ∷ [])) n ≡ none
  unfolding top_of first_with
  last_none new x up n e = first-skip new (x ∷ []) up n (omega arith) ∙ rw (ne_eqb (key x) n (λ d. omega arith)) refl

before : (k : ℕ) → 0 < k → suc (pred k) ≡ k
before zero h = absurd (omega arith)
before (suc k) h = refl

-- ---- a list's last element
record Snoc {A : Type 0} (xs : List A) : Type 0 where
  front : List A
  last : A
  split : xs ≡ front ++ (last ∷ [])

snoc : {A : Type 0} (xs : List A) → 0 < length xs → Snoc xs
snoc [] h = absurd (omega arith)
snoc (x ∷ []) h = record { front = []; last = x; split = refl }
snoc (x ∷ (y ∷ xs)) h =
    let s = snoc (y ∷ xs) (omega arith) in
    record { front = x ∷ s.front; last = s.last; split = ap (λ l. x ∷ l) s.split }

-- ---- two rows by their words
next_row : (new : List Row) (z x : Row) (old : List Row) → rises (λ r. r.number) (new ++ (z ∷ (x ∷ old))) ≡ true
    → row_of (new ++ (z ∷ (x ∷ old))) (suc x.number) ≡ cond (eqb (suc x.number) z.number) z no_row
unfolding row_of
next_row = next-key (λ r. r.number) no_row

last_row : (new : List Row) (x z : Row) (old : List Row) → rises (λ r. r.number) (new ++ (x ∷ (z ∷ old))) ≡ true → (n : ℕ) → suc n ≡ x.number
    → row_of (new ++ (x ∷ (z ∷ old))) n ≡ cond (eqb (suc z.number) x.number) z no_row
unfolding row_of
last_row = last-key (λ r. r.number) no_row

no-pair : (y : Row) → is_paired_with y no_row ≡ false
unfolding is_paired_with no_row is_end is_client is_server client_end server_end
no-pair y = refl

-- ---- two rows that are paired
record Paired (a b : Row) : Type 0 where
  end : is_end b.kind ≡ true
  object : a.object ≡ b.object
  source : a.source ≡ b.source

paired-open : (a b : Row) → is_paired_with a b ≡ true → Paired a b
unfolding is_paired_with
paired-open a b h =
    let o : eqb a.object b.object ≡ true = search (and_l, and_r) in
    let s : eqb a.source b.source ≡ true = search (and_l, and_r) in
    record { end = and_l (is_end b.kind) (eqb a.object b.object && eqb a.source b.source) h; object = eqb-true a.object b.object o; source = eqb-true a.source b.source s }

paired-close : (a b : Row) → Paired a b → is_paired_with a b ≡ true
unfolding is_paired_with
paired-close a b p = rw (p.end, p.object, p.source, eqb-self b.object, eqb-self b.source) refl

-- nothing is paired with no row
paired-row : (b : Bool) (y w : Row) → is_paired_with y (cond b w no_row) ≡ true → (b ≡ true) × (is_paired_with y w ≡ true)
paired-row true y w h = (refl, h)
paired-row false y w h = clash h (no-pair y)

-- ---- kinds of ends
client-end : (r : Row) → r.kind ≡ 3 → is_end r.kind ≡ true
unfolding is_end is_client is_server client_end server_end
client-end r k = rw k refl

server-end : (r : Row) → r.kind ≡ 4 → is_end r.kind ≡ true
unfolding is_end is_client is_server client_end server_end
server-end r k = rw k refl

end-kind : (r : Row) → is_end r.kind ≡ true → (r.kind ≡ 3) ⊎ (r.kind ≡ 4)
unfolding is_end is_client is_server client_end server_end
end-kind r h = ⊎_elim (λ c. inl (eqb-true r.kind 3 c)) (λ s. inr (eqb-true r.kind 4 s)) (or_cases (eqb r.kind 3) (eqb r.kind 4) h)

-- ---- a row beside the next older one
beside-client : (y a : Row) (old : List Row) → a.kind ≡ 3 → beside_older y (a ∷ old) ≡ is_server y.kind && is_paired_with y a
unfolding beside_older is_client client_end
beside-client y a old k = chosen (eqb a.kind 3) (is_server y.kind && is_paired_with y a) (not (is_server y.kind)) (eq-eqb a.kind 3 k)
  where
    chosen : (b p q : Bool) → b ≡ true → (b && p) || (not b && q) ≡ p
    chosen true p q e = or-false p
    chosen false p q e = clash e refl

beside-other : (y a : Row) (old : List Row) → (a.kind ≡ 3 → ⊥) → beside_older y (a ∷ old) ≡ not (is_server y.kind)
unfolding beside_older is_client client_end
beside-other y a old k = rw (ne_eqb a.kind 3 k) refl

module _ (rs : List Row) (up : rises (λ r. r.number) rs ≡ true) (named : PortsNamed rs) where
  rises-cut : (l : List Row) → rs ≡ l → rises (λ r. r.number) l ≡ true
  rises-cut l e = ap (rises (λ r. r.number)) (sym e) ∙ up

  next_of : (new : List Row) (z y : Row) (old : List Row) → rs ≡ new ++ (z ∷ (y ∷ old)) → row_of rs (suc y.number) ≡ cond (eqb (suc y.number) z.number) z no_row
  next_of new z y old e = ap (λ (l : List Row). row_of l (suc y.number)) e ∙ next_row new z y old (rises-cut (new ++ (z ∷ (y ∷ old))) e)

  last_of : (new : List Row) (y z : Row) (old : List Row) → rs ≡ new ++ (y ∷ (z ∷ old)) → row_of rs (pred y.number) ≡ cond (eqb (suc z.number) y.number) z no_row
  unfolding top_of
  last_of new y z old e =
      let up' = rises-cut (new ++ (y ∷ (z ∷ old))) e in
      let lt : top_of (λ r. r.number) (z ∷ old) < y.number = rises-first (λ r. r.number) y (z ∷ old) (rises-old (λ r. r.number) new (y ∷ (z ∷ old)) up') in
      ap (λ (l : List Row). row_of l (pred y.number)) e ∙ last_row new y z old up' (pred y.number) (before y.number (omega arith))

  newest-none : (y : Row) (old : List Row) → rs ≡ y ∷ old → row_of rs (suc y.number) ≡ no_row
  unfolding row_of top_of
  newest-none y old e = ap (λ (l : List Row). row_of l (suc y.number)) e ∙ first_above (λ r. r.number) no_row (y ∷ old) (rises-cut (y ∷ old) e) (suc y.number) (omega arith)

  oldest-none : (new : List Row) (y : Row) → rs ≡ new ++ (y ∷ []) → row_of rs (pred y.number) ≡ no_row
  unfolding row_of top_of
  oldest-none new y e =
      let up' = rises-cut (new ++ (y ∷ [])) e in
      let pos : 0 < y.number = rises-first (λ r. r.number) y [] (rises-old (λ r. r.number) new (y ∷ []) up') in
      ap (λ (l : List Row). row_of l (pred y.number)) e ∙ last_none (λ r. r.number) no_row new y up' (pred y.number) (before y.number pos)

  -- the clause of a client end, of a server end, of another row
  clause-client : (y : Row) → y.kind ≡ 3 → end_paired rs y ≡ is_paired_with y (row_of rs (suc y.number))
  unfolding end_paired other_end is_end is_client is_server client_end server_end is_paired_with
  clause-client y k = rw k refl

  clause-server : (y : Row) → y.kind ≡ 4 → end_paired rs y ≡ is_paired_with y (row_of rs (pred y.number))
  unfolding end_paired other_end is_end is_client is_server client_end server_end is_paired_with
  clause-server y k = rw k refl

  clause-other : (y : Row) → (y.kind ≡ 3 → ⊥) → (y.kind ≡ 4 → ⊥) → end_paired rs y ≡ true
  unfolding end_paired is_end is_client is_server client_end server_end
  clause-other y k l = rw (ne_eqb y.kind 3 k, ne_eqb y.kind 4 l) refl

  -- ---- from neighbours to pairs
  module _ (beside : each beside_older rs ≡ true) (newest : newest_paired rs ≡ true) where
    beside_at : (new : List Row) (y : Row) (old : List Row) → rs ≡ new ++ (y ∷ old) → beside_older y old ≡ true
    beside_at new y old e = each-cut beside_older new y old (ap (each beside_older) (sym e) ∙ beside)

    client-paired : (new : List Row) (y : Row) (old : List Row) → rs ≡ new ++ (y ∷ old) → y.kind ≡ 3 → end_paired rs y ≡ true
    unfolding newest_paired is_server server_end is_client client_end
    client-paired [] y old e k = clash (ap newest_paired (sym e) ∙ newest) (rw k refl)
    client-paired (n ∷ new) y old e k =
        let s = snoc (n ∷ new) (omega arith) in
        let w = s.last in
        let e' : rs ≡ s.front ++ (w ∷ (y ∷ old)) = e ∙ ap (λ (l : List Row). l ++ (y ∷ old)) s.split ∙ append_assoc s.front (w ∷ []) (y ∷ old) in
        let b = sym (beside-client w y old k) ∙ beside_at s.front w (y ∷ old) e' in
        let kw : w.kind ≡ 4 = eqb-true w.kind 4 (and_l (eqb w.kind 4) (is_paired_with w y) b) in
        let p = paired-open w y (and_r (eqb w.kind 4) (is_paired_with w y) b) in
        let o : w.object ≡ y.object = p.object in
        let oy : y.object ≡ y.number = named.client (n ∷ new) y old e k in
        let ow : suc w.object ≡ w.number = named.server s.front w (y ∷ old) e' kw in
        let found : row_of rs (suc y.number) ≡ w = next_of s.front w y old e' ∙ ap (λ (t : Bool). cond t w no_row) (eq-eqb (suc y.number) w.number (omega arith)) in
        clause-client y k ∙ ap (is_paired_with y) found ∙ paired-close y w record { end = server-end w kw; object = sym o; source = sym p.source }

    server-paired : (new : List Row) (y : Row) (old : List Row) → rs ≡ new ++ (y ∷ old) → y.kind ≡ 4 → end_paired rs y ≡ true
    unfolding beside_older is_server server_end
    server-paired new y [] e k = clash (beside_at new y [] e) (rw k refl)
    server-paired new y (a ∷ old) e k = elim (ℕ_discrete a.kind 3) [ yes ka ↦ here ka | no ka ↦ clash (sym (beside-other y a old ka) ∙ beside_at new y (a ∷ old) e) (rw k refl) ]
      where
        here : a.kind ≡ 3 → end_paired rs y ≡ true
        here ka =
            let b = sym (beside-client y a old ka) ∙ beside_at new y (a ∷ old) e in
            let pair : is_paired_with y a ≡ true = and_r (is_server y.kind) (is_paired_with y a) b in
            let o : y.object ≡ a.object = (paired-open y a pair).object in
            let oa : a.object ≡ a.number = named.client (new ++ (y ∷ [])) a old (e ∙ sym (append_assoc new (y ∷ []) (a ∷ old))) ka in
            let oy : suc y.object ≡ y.number = named.server new y (a ∷ old) e k in
            clause-server y k
            ∙ ap (is_paired_with y) (last_of new y a old e ∙ ap (λ (t : Bool). cond t a no_row) (eq-eqb (suc a.number) y.number (omega arith)))
            ∙ pair

    paired_at : (new : List Row) (y : Row) (old : List Row) → rs ≡ new ++ (y ∷ old) → end_paired rs y ≡ true
    paired_at new y old e =
        elim (ℕ_discrete y.kind 3) [
          | yes k ↦ client-paired new y old e k
          | no k ↦ elim (ℕ_discrete y.kind 4) [ yes l ↦ server-paired new y old e l | no l ↦ clause-other y k l ]
        ]

  -- ---- from pairs to neighbours
  module _ (paired : (new : List Row) (y : Row) (old : List Row) → rs ≡ new ++ (y ∷ old) → end_paired rs y ≡ true) where
    no-server : (new : List Row) (y : Row) → rs ≡ new ++ (y ∷ []) → y.kind ≡ 4 → ⊥
    no-server new y e k = clash (sym (clause-server y k) ∙ paired new y [] e) (ap (is_paired_with y) (oldest-none new y e) ∙ no-pair y)

    no-client : (y : Row) (old : List Row) → rs ≡ y ∷ old → y.kind ≡ 3 → ⊥
    no-client y old e k = clash (sym (clause-client y k) ∙ paired [] y old e) (ap (is_paired_with y) (newest-none y old e) ∙ no-pair y)

    module _ (new : List Row) (y a : Row) (old : List Row) (e : rs ≡ new ++ (y ∷ (a ∷ old))) where
      older : rs ≡ (new ++ (y ∷ [])) ++ (a ∷ old)
      older = e ∙ sym (append_assoc new (y ∷ []) (a ∷ old))

      after-client : a.kind ≡ 3 → is_server y.kind && is_paired_with y a ≡ true
      unfolding is_server server_end
      after-client k =
          let pair = paired-row (eqb (suc a.number) y.number) a y (sym (ap (is_paired_with a) (next_of new y a old e)) ∙ sym (clause-client a k) ∙ paired (new ++ (y ∷ [])) a old older) in
          let n : suc a.number ≡ y.number = eqb-true (suc a.number) y.number pair.0 in
          let p = paired-open a y pair.1 in
          let o : a.object ≡ y.object = p.object in
          let oa : a.object ≡ a.number = named.client (new ++ (y ∷ [])) a old older k in
          let ky : y.kind ≡ 4 = ⊎_elim (λ c. absurd (let oy : y.object ≡ y.number = named.client new y (a ∷ old) e c in omega arith)) (λ s. s) (end-kind y p.end) in
          and_i (eqb y.kind 4) (is_paired_with y a) (eq-eqb y.kind 4 ky) (paired-close y a record { end = client-end a k; object = sym o; source = sym p.source })

      after-other : (a.kind ≡ 3 → ⊥) → y.kind ≡ 4 → ⊥
      after-other k ky =
          let pair = paired-row (eqb (suc a.number) y.number) y a (sym (ap (is_paired_with y) (last_of new y a old e)) ∙ sym (clause-server y ky) ∙ paired new y (a ∷ old) e) in
          let n : suc a.number ≡ y.number = eqb-true (suc a.number) y.number pair.0 in
          let p = paired-open y a pair.1 in
          let o : y.object ≡ a.object = p.object in
          let oy : suc y.object ≡ y.number = named.server new y (a ∷ old) e ky in
          ⊎_elim k (λ ka. let oa : suc a.object ≡ a.number = named.server (new ++ (y ∷ [])) a old older ka in omega arith) (end-kind a p.end)

    beside-all : (new : List Row) (y : Row) (old : List Row) → rs ≡ new ++ (y ∷ old) → beside_older y old ≡ true
    unfolding beside_older is_server server_end
    beside-all new y [] e = ap not (ne_eqb y.kind 4 (no-server new y e))
    beside-all new y (a ∷ old) e =
        elim (ℕ_discrete a.kind 3) [
          | yes k ↦ beside-client y a old k ∙ after-client new y a old e k
          | no k ↦ beside-other y a old k ∙ ap not (ne_eqb y.kind 4 (after-other new y a old e k))
        ]

    newest-all : (l : List Row) → rs ≡ l → newest_paired l ≡ true
    unfolding newest_paired is_client client_end
    newest-all [] e = refl
    newest-all (y ∷ old) e = ap not (ne_eqb y.kind 3 (no-client y old e))

  -- ends stand in pairs exactly if each client end stands right before a server end of its port, and nothing else does
  pub neighbours-paired : each beside_older rs && newest_paired rs ≡ ends_paired rs
  unfolding ends_paired
  neighbours-paired =
      bool_eq (each beside_older rs && newest_paired rs) (all (end_paired rs) rs)
      (λ h.
      sym (each_all (end_paired rs) rs)
      ∙ passed-all (λ y old. end_paired rs y) rs
      record { passes = λ new y old e lt. paired_at (and_l (each beside_older rs) (newest_paired rs) h) (and_r (each beside_older rs) (newest_paired rs) h) new y old e })
      (λ h.
      let at : (new : List Row) (y : Row) (old : List Row) → rs ≡ new ++ (y ∷ old) → end_paired rs y ≡ true
      = λ new y old e. each-cut (λ z rest. end_paired rs z) new y old (ap (each (λ z rest. end_paired rs z)) (sym e) ∙ each_all (end_paired rs) rs ∙ h) in
      and_i (each beside_older rs) (newest_paired rs) (passed-all beside_older rs record { passes = λ new y old e lt. beside-all at new y old e }) (newest-all at rs refl))

module _ {st : State} {t : List ℕ} (rep : Represents t st) where
  up : rises (λ r. r.number) st.rows ≡ true
  up = (represented-well rep).rows-rise

  module _ (new₁ : List Row) (a : Row) (old₁ : List Row) (e₁ : st.rows ≡ new₁ ++ (a ∷ old₁)) (new₂ : List Row) (b : Row) (old₂ : List Row)
      (e₂ : st.rows ≡ new₂ ++ (b ∷ old₂)) where
    -- the same source by number, by slot
    same_source : eqb (source_slot old₁ a.source) (source_slot old₂ b.source) ≡ eqb a.source b.source
    same_source =
        bool_eq (eqb (source_slot old₁ a.source) (source_slot old₂ b.source)) (eqb a.source b.source)
        (λ e. eq-eqb a.source b.source
        (sym (source_told rep new₁ a old₁ e₁)
        ∙ ap (λ (s : ℕ). (slot_row t s).number) (eqb-true (source_slot old₁ a.source) (source_slot old₂ b.source) e)
        ∙ source_told rep new₂ b old₂ e₂))
        (λ e. eq-eqb (source_slot old₁ a.source) (source_slot old₂ b.source)
        (source-slot-of rep new₁ a old₁ e₁ ∙ ap (row_slot st.rows) (eqb-true a.source b.source e) ∙ sym (source-slot-of rep new₂ b old₂ e₂)))

    pub paired_words : (x z : Row) → x ≡ raw_row t (length old₁) → z ≡ raw_row t (length old₂) → is_paired_with x z ≡ is_paired_with a b
    unfolding is_paired_with slotted with_sources
    paired_words x z d₁ d₂ = rw (d₁ ∙ raw-row-at rep new₁ a old₁ e₁, d₂ ∙ raw-row-at rep new₂ b old₂ e₂, same_source) refl
