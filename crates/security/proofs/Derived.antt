-- Laws of every row of a session, by its sources: rights are those of the first source, but of a lent copy; what is without a source is the text's;
-- a copy was made of a row that is in no node; a held row is with the row that it was held through; a subdirectory that is held is not lent.
use Prim.Native.Nat.{ℕ}
use native.Mathlib.Omega.{arith}
use mathlib.Core.Bool.{Bool, true, false, ◌||◌}
use mathlib.Core.List.{List}
use mathlib.Core.Path.{◌≡◌, refl, sym, ap, ◌∙◌, subst}
use mathlib.Core.Logic.{⊎_elim}
use Rattle.rows.specs.declared.Row.{Row}
use Rattle.rows.specs.Lists.{any, member, some}
use Rattle.rows.specs.Codes.{operation, subdirectory, client_end, server_end, is_operation, is_subdirectory, is_copied, is_end, is_node, is_clist}
use Rattle.rows.specs.Tables.{State, no_row, row_of, process_at, numbers, sources, is_lent}
use Rattle.rows.specs.Setters.{with_place}
use Rattle.rows.specs.Sound.{is_held}
use Rattle.rows.proofs.Bools.{clash, false_of, and_l, and_r, some-pos, pos-some, none-zero, true-or-false}
use Rattle.rows.proofs.Places.{subdirectory-no-end, clist-not-node, system-no-node}
use Rattle.rows.proofs.RowSources.{row-there, node-there}
use Rattle.tables.proofs.Sound.{Sound}
use Rattle.tables.proofs.SoundFacts.{row_below, unlent-unborne}
use Rattle.tables.proofs.Standing.{via-listed}
use Rattle.calls.specs.declared.Call.{Call}
use Rattle.calls.specs.Rules.{copy_of}
use Rattle.calls.specs.Loans.{copy_lent}
use Rattle.calls.specs.Calls.{port_end}
use Rattle.kept.proofs.Allowed.{RegisterAllowed}
use Rattle.kept.proofs.AskCopy.{lendable-there}
use Rattle.kept.proofs.Hold.{was-held}
use Rattle.text.specs.Opening.{Form, lines_of}
use Rattle.text.proofs.Opening.{opened-sound}
use Rattle.text.specs.Entry.{state_opened}
use Rattle.security.specs.Sessions.{IsRow}
use Rattle.security.specs.Authority.{Arrives, held as a-held, registered as a-registered, client as a-client, server as a-server, copied as a-copied, lent as a-lent, fetched as a-fetched, returned as a-returned}
use Rattle.security.proofs.Rows.{sources-cases, source-listed, Sort, text-row, registered-row, held-row, end_row, copy, sort-of, node-no-end, through-at, clist-no-system}
use Rattle.security.proofs.Numbers.{source_row}
use Rattle.security.proofs.Nodes.{node-unborne}
use Rattle.security.proofs.Effects.{Effect}
use Rattle.security.proofs.NewRows.{Newly, held, registered, client, server, copied}
use Rattle.security.proofs.Moves.{item-held, old-moves, moves_of}
use Rattle.security.proofs.Frames.{same-but-place, same_row, source-kept}
use Rattle.security.proofs.PlacesKept.{operation-row, end-kinds}
use Rattle.security.proofs.Opened.{opened-text}
use Rattle.security.proofs.RowLaws.{RowLaw}
use Rattle.security.proofs.Borne.{borne, borne-law, node-free, lent_is, borne-same}

-- ---- nodes, by effects
-- no row that was there comes into a node
arrives-outside : (st : State) → Sound st → (m : ℕ) → IsRow st m → (r : Row) (c : Call) → Arrives st m r c → is_node r.place ≡ false
arrives-outside st s m t r c (a-held p e k) = ap is_node k.place ∙ clist-not-node p
arrives-outside st s m t r c (a-registered p e k) = let lt = (row_below st s.numbers m t).1 in let z = k.number in absurd (omega arith)
arrives-outside st s m t r c (a-client p e z l k) = ap is_node l ∙ clist-not-node p
arrives-outside st s m t r c (a-server p e z l k) = ap is_node l ∙ clist-not-node (row_of st.rows e).object
arrives-outside st s m t r c (a-copied p d is k) = ap is_node k.place ∙ system-no-node
arrives-outside st s m t r c (a-lent p d is k) = ap is_node k.place ∙ system-no-node
arrives-outside st s m t r c (a-fetched p v k) = ap is_node k.place ∙ clist-not-node p
arrives-outside st s m t r c (a-returned c' k) = ap is_node k.place ∙ clist-not-node _

module _ (st st' : State) (c : Call) (s : Sound st) (x : Effect st c st') (m : ℕ) (t : IsRow st m) (t' : IsRow st' m) where
  -- a row that was in a node is as it was
  pub node-row-same : is_node (row_of st.rows m).place ≡ true → row_of st'.rows m ≡ row_of st.rows m
  node-row-same e =
      ⊎_elim (λ y. y.1)
      (λ y. ⊎_elim (λ k. clash k (node-no-end st s m e)) (λ b. let z = node-unborne st s m e in let l = some-pos (row_of st.rows m).request b.0 in absurd (omega arith))
      (old-moves st s c m (row_of st'.rows m) t y))
      ((moves_of st s c st' x).arrives m t')

  pub node-as-before : is_node (row_of st'.rows m).place ≡ is_node (row_of st.rows m).place
  node-as-before =
      ⊎_elim (λ e. ap (λ r. is_node r.place) (node-row-same e))
      (λ e. ⊎_elim (λ y. ap (λ r. is_node r.place) y.1) (λ y. arrives-outside st s m t (row_of st'.rows m) c y ∙ sym e) ((moves_of st s c st' x).arrives m t'))
      (true-or-false (is_node (row_of st.rows m).place))

copied-row : (rs : List Row) (n : ℕ) → is_copied (row_of rs n).kind ≡ true → member n (numbers rs) ≡ true
unfolding no_row is_copied is_operation is_subdirectory operation subdirectory
copied-row = row-there (λ r. is_copied r.kind) refl

-- a copy has a source
pub copy-sourced : (st : State) → Sound st → (n : ℕ) → IsRow st n → some (row_of st.rows n).request ≡ true → some (row_of st.rows n).source ≡ true
copy-sourced st s n t b = pick (sort-of st s n t)
  where
    r : Row
    r = row_of st.rows n

    borne-none : r.request ≡ 0 → ⊥
    borne-none z = let l = some-pos r.request b in omega arith

    pick : Sort st.requests r (row_of st.rows r.source) (row_of st.rows r.via) → some r.source ≡ true
    pick (text-row x) = absurd (borne-none x.request)
    pick (registered-row x) = absurd (borne-none x.request)
    pick (held-row x) = absurd (borne-none x.request)
    pick (end_row x) = absurd (borne-none x.request)
    pick (copy x) = pos-some r.source (row_below st s.numbers r.source (copied-row st.rows r.source x.source)).0

-- the row registered was held: it bears nothing, and has a source in a node
record WasHeld (st : State) (e : ℕ) : Type 0 where
  request : (row_of st.rows e).request ≡ 0
  node : is_node (row_of st.rows (row_of st.rows e).source).place ≡ true

registered-held : (st : State) → Sound st → (p e : ℕ) → RegisterAllowed st p e → WasHeld st e
unfolding is_held
registered-held st s p e a =
    let h = was-held st s p e a in
    record { request = none-zero _ (unlent-unborne st e a.row.there a.unlent); node = search (and_l, and_r) }

node-some : (st : State) → Sound st → (n : ℕ) → is_node (row_of st.rows n).place ≡ true → some n ≡ true
node-some st s n e = pos-some n (row_below st s.numbers n (node-there st.rows n e)).0

-- ---- rights
abbrev Rights : State → ℕ → Type 0
Rights st n = is_end (row_of st.rows n).kind ≡ false → (row_of st.rows n).request ≡ 0 → some (row_of st.rows n).source ≡ true → (row_of st.rows n).rights ≡ (row_of st.rows (row_of st.rows n).source).rights

new-rights : (st : State) (s : Sound st) → ((n : ℕ) → IsRow st n → Rights st n) → (c : Call) (n : ℕ) (r : Row) → Newly st c n r → is_end r.kind ≡ false → r.request ≡ 0
    → (IsRow st r.source) × (r.rights ≡ (row_of st.rows r.source).rights)
unfolding copy_of port_end copy_lent
new-rights st s all c n r (held p e a) k z = (a.there, refl)
new-rights st s all c n r (registered p e a) k z =
    let w = registered-held st s p e a in
    (node-there st.rows (row_of st.rows e).source w.node, all e a.row.there a.no_end w.request (node-some st s _ w.node))
new-rights st s all c n r (client p e a) k z = clash end-kinds.0 k
new-rights st s all c n r (server p e a) k z = clash end-kinds.1 k
new-rights st s all c n r (copied p d is a n' i m g l) k z = let lo = (row_below st s.numbers d a.port.there).1 in absurd (omega arith)

pub rights-law : (fs : List Form) → RowLaw fs Rights
unfolding with_place
rights-law fs =
    record {
      opened = λ text rest e n t k z h. let y = (opened-text text rest fs e n t).source in let l = some-pos (row_of (state_opened fs).rows n).source h in absurd (omega arith);
      old = λ st st' c s s' x all n t t' k z h.
          let source : (row_of st'.rows n).source ≡ (row_of st.rows n).source = same-but-place st st' c s x n t t' (λ r. r.source) (λ p r. refl) in
          let h₀ : some (row_of st.rows n).source ≡ true = ap some (sym source) ∙ h in
          let (m, m') = source-kept st st' c s s' x n t t' h₀ in
          same-but-place st st' c s x n t t' (λ r. r.rights) (λ p r. refl)
          ∙ all n t (sym (ap is_end (same-but-place st st' c s x n t t' (λ r. r.kind) (λ p r. refl))) ∙ k) (sym (same-but-place st st' c s x n t t' (λ r. r.request) (λ p r. refl)) ∙ z) h₀
          ∙ sym (same-but-place st st' c s x (row_of st.rows n).source m m' (λ r. r.rights) (λ p r. refl))
          ∙ ap (λ y. (row_of st'.rows y).rights) (sym source);
      new = λ st st' c s s' x all n t' w k z h.
          let r = row_of st'.rows n in
          let (m, e) = new-rights st s all c n r w k z in
          let m' = source_row st' s' n r.source t' (source-listed r h) in
          e ∙ sym (same-but-place st st' c s x r.source m m' (λ r. r.rights) (λ p r. refl));
    }

-- ---- without a source: a row of the text
pub record OfText (fs : List Form) (st : State) (n : ℕ) : Type 0 where
  pub opened : IsRow (state_opened fs) n
  pub unchanged : row_of st.rows n ≡ row_of (state_opened fs).rows n

abbrev Roots : List Form → State → ℕ → Type 0
Roots fs st n = (row_of st.rows n).source ≡ 0 → OfText fs st n

new-sourced : (st : State) (s : Sound st) (c : Call) (n : ℕ) (r : Row) → Newly st c n r → some r.source ≡ true
unfolding copy_of port_end copy_lent
new-sourced st s c n r (held p e a) = pos-some e (row_below st s.numbers e a.there).0
new-sourced st s c n r (registered p e a) = node-some st s _ (registered-held st s p e a).node
new-sourced st s c n r (client p e a) = pos-some e (row_below st s.numbers e a.row.there).0
new-sourced st s c n r (server p e a) = pos-some e (row_below st s.numbers e a.row.there).0
new-sourced st s c n r (copied p d is a n' i m g l) = pos-some i.row (row_below st s.numbers i.row (lendable-there st p d i g)).0

-- what is without a source is in a node
root-node : (st : State) → Sound st → (n : ℕ) → IsRow st n → (row_of st.rows n).source ≡ 0 → is_node (row_of st.rows n).place ≡ true
root-node st s n t z = pick (sort-of st s n t)
  where
    r : Row
    r = row_of st.rows n

    none : is_node (row_of st.rows r.source).place ≡ true → ⊥
    none e = let l = some-pos r.source (node-some st s r.source e) in omega arith

    pick : Sort st.requests r (row_of st.rows r.source) (row_of st.rows r.via) → is_node r.place ≡ true
    pick (text-row x) = x.node
    pick (registered-row x) = x.node
    pick (held-row x) = absurd (none x.source)
    pick (end_row x) = let l = (row_below st s.numbers r.source (operation-row st.rows r.source x.source)).0 in absurd (omega arith)
    pick (copy x) = let l = (row_below st s.numbers r.source (copied-row st.rows r.source x.source)).0 in absurd (omega arith)

pub roots-law : (fs : List Form) → RowLaw fs (Roots fs)
unfolding with_place
roots-law fs =
    record {
      opened = λ text rest e n t z. record { opened = t; unchanged = refl };
      old = λ st st' c s s' x all n t t' z.
          let z₀ : (row_of st.rows n).source ≡ 0 = sym (same-but-place st st' c s x n t t' (λ r. r.source) (λ p r. refl)) ∙ z in
          let o = all n t z₀ in
          record { opened = o.opened; unchanged = node-row-same st st' c s x n t t' (root-node st s n t z₀) ∙ o.unchanged };
      new = λ st st' c s s' x all n t' w z. let l = some-pos (row_of st'.rows n).source (new-sourced st s c n _ w) in absurd (omega arith);
    }

-- ---- a copy was made of a row that is in no node
abbrev Outside : State → ℕ → Type 0
Outside st n = some (row_of st.rows n).request ≡ true → is_node (row_of st.rows (row_of st.rows n).source).place ≡ false

new-outside : (st : State) (s : Sound st) (c : Call) (n : ℕ) (r : Row) → Newly st c n r → some r.request ≡ true → (IsRow st r.source) × (is_node (row_of st.rows r.source).place ≡ false)
unfolding copy_of port_end copy_lent some
new-outside st s c n r (held p e a) b = clash b refl
new-outside st s c n r (registered p e a) b = clash b refl
new-outside st s c n r (client p e a) b = clash b refl
new-outside st s c n r (server p e a) b = clash b refl
new-outside st s c n r (copied p d is a n' i m g l) b = (lendable-there st p d i g, ap is_node (item-held st p d i g) ∙ clist-not-node p)

pub outside-law : (fs : List Form) → RowLaw fs Outside
unfolding with_place
outside-law fs =
    record {
      opened = λ text rest e n t b. let y = (opened-text text rest fs e n t).request in let l = some-pos (row_of (state_opened fs).rows n).request b in absurd (omega arith);
      old = λ st st' c s s' x all n t t' b.
          let source : (row_of st'.rows n).source ≡ (row_of st.rows n).source = same-but-place st st' c s x n t t' (λ r. r.source) (λ p r. refl) in
          let b₀ : some (row_of st.rows n).request ≡ true = ap some (sym (same-but-place st st' c s x n t t' (λ r. r.request) (λ p r. refl))) ∙ b in
          let (m, m') = source-kept st st' c s s' x n t t' (copy-sourced st s n t b₀) in
          ap (λ y. is_node (row_of st'.rows y).place) source ∙ node-as-before st st' c s x (row_of st.rows n).source m m' ∙ all n t b₀;
      new = λ st st' c s s' x all n t' w b.
          let r = row_of st'.rows n in
          let (m, e) = new-outside st s c n r w b in
          node-as-before st st' c s x r.source m (source_row st' s' n r.source t' (source-listed r (copy-sourced st' s' n t' b))) ∙ e;
    }

-- ---- a held row is with the row that it was held through
abbrev Together : State → ℕ → Type 0
Together st n =
    is_end (row_of st.rows n).kind ≡ false → (row_of st.rows n).request ≡ 0 → some (row_of st.rows n).via ≡ true → (row_of st.rows (row_of st.rows n).via).place ≡ (row_of st.rows n).place

-- such a row is held: it is in a c-list, and the other is a subdirectory
pub record HeldThrough (st : State) (n : ℕ) : Type 0 where
  pub clist : is_clist (row_of st.rows n).place ≡ true
  pub kind : is_subdirectory (row_of st.rows (row_of st.rows n).via).kind ≡ true

pub held-through : (st : State) → Sound st → (n : ℕ) → IsRow st n → is_end (row_of st.rows n).kind ≡ false → (row_of st.rows n).request ≡ 0 → some (row_of st.rows n).via ≡ true → HeldThrough st n
held-through st s n t k z h = pick (sort-of st s n t)
  where
    r : Row
    r = row_of st.rows n

    none : r.via ≡ 0 → ⊥
    none y = let l = some-pos r.via h in omega arith

    pick : Sort st.requests r (row_of st.rows r.source) (row_of st.rows r.via) → HeldThrough st n
    pick (text-row x) = absurd (none x.via)
    pick (registered-row x) = absurd (none x.via)
    pick (held-row x) = record { clist = x.clist; kind = ⊎_elim (λ y. absurd (none y)) (λ y. y) x.via }
    pick (end_row x) = absurd (none x.via)
    pick (copy x) = let l = some-pos r.request x.bears in absurd (omega arith)

new-together : (st : State) (s : Sound st) (c : Call) (n : ℕ) (r : Row) → Newly st c n r → is_end r.kind ≡ false → r.request ≡ 0 → some r.via ≡ true
    → (IsRow st r.via) × ((row_of st.rows r.via).place ≡ r.place)
unfolding copy_of port_end copy_lent some
new-together st s c n r (held p e a) k z h = let w = through-at st s p (unfold some in h) in (w.there, w.place)
new-together st s c n r (registered p e a) k z h = clash h refl
new-together st s c n r (client p e a) k z h = clash h refl
new-together st s c n r (server p e a) k z h = clash h refl
new-together st s c n r (copied p d is a n' i m g l) k z h = let lo = (row_below st s.numbers d a.port.there).1 in absurd (omega arith)

pub together-law : (fs : List Form) → RowLaw fs Together
unfolding with_place
together-law fs =
    record {
      opened = λ text rest e n t k z h. let y = (opened-text text rest fs e n t).via in let l = some-pos (row_of (state_opened fs).rows n).via h in absurd (omega arith);
      old = λ st st' c s s' x all n t t' k z h.
          let r = row_of st.rows n in
          let via : (row_of st'.rows n).via ≡ r.via = same-but-place st st' c s x n t t' (λ r. r.via) (λ p r. refl) in
          let k₀ : is_end r.kind ≡ false = sym (ap is_end (same-but-place st st' c s x n t t' (λ r. r.kind) (λ p r. refl))) ∙ k in
          let z₀ : r.request ≡ 0 = sym (same-but-place st st' c s x n t t' (λ r. r.request) (λ p r. refl)) ∙ z in
          let h₀ : some r.via ≡ true = ap some (sym via) ∙ h in
          let w = held-through st s n t k₀ z₀ h₀ in
          let place = all n t k₀ z₀ h₀ in
          let v : IsRow st r.via = source_row st s n r.via t (via-listed r h₀) in
          let v' : IsRow st' r.via = subst (IsRow st') via (source_row st' s' n (row_of st'.rows n).via t' (via-listed (row_of st'.rows n) h)) in
          ap (λ y. (row_of st'.rows y).place) via
          ∙ ap (λ r. r.place) (same_row st st' c s x r.via v v' (subdirectory-no-end _ w.kind) (clist-no-system _ (ap is_clist place ∙ w.clist)))
          ∙ place
          ∙ sym (ap (λ r. r.place) (same_row st st' c s x n t t' k₀ (clist-no-system _ w.clist)));
      new = λ st st' c s s' x all n t' w k z h.
          let r = row_of st'.rows n in
          let (m, e) = new-together st s c n r w k z h in
          let q = held-through st' s' n t' k z h in
          let m' = source_row st' s' n r.via t' (via-listed r h) in
          ap (λ r. r.place) (same_row st st' c s x r.via m m' (sym (ap is_end (same-but-place st st' c s x r.via m m' (λ r. r.kind) (λ p r. refl))) ∙ subdirectory-no-end _ q.kind) (clist-no-system _ (ap is_clist e ∙ q.clist)))
          ∙ e;
    }

-- ---- a subdirectory that bears nothing is not lent
abbrev pub Unlent : State → ℕ → Type 0
Unlent st n = is_subdirectory (row_of st.rows n).kind ≡ true → (row_of st.rows n).request ≡ 0 → borne st n ≡ false

-- two sources that hang on no loan
pub free-sources : (P : ℕ → Bool) (r : Row) → (some r.source ≡ true → P r.source ≡ false) → (some r.via ≡ true → P r.via ≡ false) → any P (sources r) ≡ false
free-sources P r a b = false_of _ (λ e. ⊎_elim (λ x. clash x.1 (a x.0)) (λ x. clash x.1 (b x.0)) (sources-cases P r e))

new-free : (st : State) (s : Sound st) (c : Call) (n : ℕ) (r : Row) → Newly st c n r → is_subdirectory r.kind ≡ true → r.request ≡ 0
    → (some r.source ≡ true → (IsRow st r.source) × (borne st r.source ≡ false)) × (some r.via ≡ true → (IsRow st r.via) × (borne st r.via ≡ false))
unfolding copy_of port_end copy_lent some
new-free st s c n r (held p e a) k z = ((λ h. (a.there, node-free st s e a.node)), through)
  where
    v : ℕ
    v = (process_at st.processes p).through

    through : some v ≡ true → (IsRow st v) × (borne st v ≡ false)
    through h =
        let w = through-at st s p h in
        let unlent : is_lent st v ≡ false = rw (k, h) at a.unlent in
        (w.there, sym (lent_is st s v (subdirectory-no-end _ w.kind)) ∙ unlent)
new-free st s c n r (registered p e a) k z =
    let w = registered-held st s p e a in
    ((λ h. (node-there st.rows _ w.node, node-free st s _ w.node)), λ h. clash h refl)
new-free st s c n r (client p e a) k z = clash end-kinds.0 (subdirectory-no-end client_end k)
new-free st s c n r (server p e a) k z = clash end-kinds.1 (subdirectory-no-end server_end k)
new-free st s c n r (copied p d is a n' i m g l) k z = let lo = (row_below st s.numbers d a.port.there).1 in absurd (omega arith)

pub unlent-law : (fs : List Form) → RowLaw fs Unlent
unfolding with_place some
unlent-law fs =
    record {
      opened = λ text rest e n t k z. node-free (state_opened fs) (opened-sound (lines_of text) rest fs e) n (opened-text text rest fs e n t).node;
      old = λ st st' c s s' x all n t t' k z.
          borne-same st st' c s s' x n t t'
          ∙ all n t (sym (ap is_subdirectory (same-but-place st st' c s x n t t' (λ r. r.kind) (λ p r. refl))) ∙ k) (sym (same-but-place st st' c s x n t t' (λ r. r.request) (λ p r. refl)) ∙ z);
      new = λ st st' c s s' x all n t' w k z.
          let r = row_of st'.rows n in
          let (a, b) = new-free st s c n r w k z in
          borne-law st' s' n t'
          ∙ ap (λ q. some q || any (borne st') (sources r)) z
          ∙ (free-sources (borne st') r
          (λ h. let (m, e) = a h in borne-same st st' c s s' x r.source m (source_row st' s' n r.source t' (source-listed r h)) ∙ e)
          (λ h. let (m, e) = b h in borne-same st st' c s s' x r.via m (source_row st' s' n r.via t' (via-listed r h)) ∙ e));
    }
