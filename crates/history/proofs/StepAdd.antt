-- hold, register and port keep the invariant.
use Prim.Native.Nat.{ℕ, suc, ◌<◌}
use mathlib.Core.Bool.{Bool, true, false, not, cond, ◌&&◌}
use mathlib.Core.List.{List, [], ◌∷◌}
use mathlib.Core.Path.{◌≡◌, refl, ap, ◌∙◌}
use lib.Dec.{eqb}
use native.Mathlib.Omega.{arith}
use borrow.Author.Tests.{ne_eqb}
use Rattle.rows.specs.declared.Row.{Row}
use Rattle.rows.specs.Lists.{filter, all, member, some, nonzero, same_list}
use Rattle.rows.specs.Codes.{client_end, server_end, is_end, is_client, is_server, in_clist}
use Rattle.rows.specs.Tables.{State, row_of, numbers, process_at, sources}
use Rattle.rows.proofs.Bools.{and_l, and_r, or_r, pos-some, eqb-self, and-rf}
use Rattle.tables.proofs.Sound.{Sound}
use Rattle.rows.proofs.RowSources.{node-there}
use Rattle.tables.proofs.SoundFacts.{row_below}
use Rattle.rows.specs.Sound.{is_held}
use Rattle.calls.specs.Rules.{with_new_rows, copy_of}
use Rattle.calls.specs.Calls.{port_depth, with_held, with_registered, port_end, with_port}
use Rattle.kept.proofs.Hold.{was-held}
use Rattle.kept.proofs.Allowed.{HoldAllowed, RegisterAllowed}
use Rattle.history.specs.History.{History}
use Rattle.history.specs.Notes.{noted_of, stands, last_go, add_row, held_sources, note_hold, first_only, note_register, note_port}
use Rattle.history.proofs.Fit.{is_empty, bears_well, ends_well}
use Rattle.history.proofs.Inv.{Inv, view, through_now}
use Rattle.history.proofs.Added.{new_noted, FitsNew, not-below, add-row, stands_same}
use Rattle.history.proofs.Sweep.{noted_here, noted_other}
use Rattle.history.proofs.Find.{row-stands, row-noted, stands-low, node-no-end}

-- ---- what is noted of a row that bears no request and is no end
pub view-copy : (r : Row) (n x p s v d q : ℕ) → is_end r.kind ≡ false → view (copy_of r n x p s v d q) ≡ new_noted n (nonzero (s ∷ v ∷ [])) q 0
unfolding view copy_of sources
view-copy r n x p s v d q e = rw e refl

plain_fits : (h : History) (n : ℕ) (ss : List ℕ) → is_empty ss ≡ false → FitsNew h (new_noted n ss 0 0)
unfolding bears_well ends_well some
plain_fits h n ss e = record { sources-there = e; bears = refl; ends = refl }

add-plain : (h : History) (st : State) (r : Row) (ss : List ℕ) → Inv h st → view r ≡ new_noted st.next ss 0 0 → is_empty ss ≡ false → all (λ s. stands h s) ss ≡ true
    → Inv (add_row st.next ss 0 0 h) (with_new_rows (r ∷ st.rows) (suc st.next) st)
add-plain h st r ss i v e older = add-row h st r ss 0 0 i v older (unfold some in refl) (unfold some in refl) (plain_fits h st.next ss e)

one-source : (a : ℕ) → 0 < a → nonzero (a ∷ 0 ∷ []) ≡ a ∷ []
unfolding nonzero filter
one-source a lo = rw (pos-some a lo) (unfold some in refl)

only-first : (r : Row) → 0 < r.source → first_only (view r).sources ≡ r.source ∷ []
unfolding first_only view sources nonzero filter
only-first r lo = rw (pos-some r.source lo) refl

one-stands : (h : History) (a : ℕ) → stands h a ≡ true → all (λ k. stands h k) (a ∷ []) ≡ true
unfolding all
one-stands h a t = rw t refl

-- ---- hold
module _ (h : History) (p s : ℕ) where
  held-sources : 0 < s → nonzero (s ∷ through_now h p ∷ []) ≡ held_sources h p s
  unfolding through_now held_sources nonzero filter
  held-sources lo = rw (pos-some s lo) (pick (some (last_go h.went p) && stands h (last_go h.went p)) refl)
    where
      pick : (b : Bool) → some (last_go h.went p) && stands h (last_go h.went p) ≡ b
          → s ∷ filter some (cond b (last_go h.went p) 0 ∷ []) ≡ cond b (s ∷ last_go h.went p ∷ []) (s ∷ [])
      pick true q = rw (and_l (some (last_go h.went p)) _ q) refl
      pick false q = unfold some in refl

  sources-stand : stands h s ≡ true → all (λ k. stands h k) (held_sources h p s) ≡ true
  unfolding held_sources all
  sources-stand t = pick (some (last_go h.went p) && stands h (last_go h.went p)) refl
    where
      pick : (b : Bool) → some (last_go h.went p) && stands h (last_go h.went p) ≡ b → all (λ k. stands h k) (cond b (s ∷ last_go h.went p ∷ []) (s ∷ [])) ≡ true
      pick true q = rw (t, and_r (some (last_go h.went p)) _ q) refl
      pick false q = rw t refl

  sources-some : is_empty (held_sources h p s) ≡ false
  unfolding held_sources is_empty
  sources-some = pick (some (last_go h.went p) && stands h (last_go h.went p))
    where
      pick : (b : Bool) → is_empty (cond b (s ∷ last_go h.went p ∷ []) (s ∷ [])) ≡ false
      pick true = refl
      pick false = refl

-- ---- port
client-view : (n p e d : ℕ) → 0 < e → view (port_end client_end n n p e d) ≡ new_noted n (e ∷ []) 0 n
unfolding view port_end sources is_end is_client is_server client_end server_end
client-view n p e d lo = rw (one-source e lo) refl

server-view : (n p e d : ℕ) → 0 < e → view (port_end server_end (suc n) n p e d) ≡ new_noted (suc n) (e ∷ []) 0 n
unfolding view port_end sources is_end is_client is_server client_end server_end
server-view n p e d lo = rw (one-source e lo) refl

client-fits : (h : History) (n e : ℕ) → FitsNew h (new_noted n (e ∷ []) 0 n)
unfolding bears_well ends_well some is_empty same_list
client-fits h n e =
    let x = new_noted n (e ∷ []) 0 n in
    record { sources-there = refl; bears = refl; ends = rw (noted_here x h.rows n (eqb-self n), eqb-self n, eqb-self e) (or_r (not (some n)) true refl) }

server-fits : (h : History) (n e : ℕ) → FitsNew (add_row n (e ∷ []) 0 n h) (new_noted (suc n) (e ∷ []) 0 n)
unfolding bears_well ends_well some is_empty same_list add_row
server-fits h n e =
    let x = new_noted n (e ∷ []) 0 n in
    let y = new_noted (suc n) (e ∷ []) 0 n in
    let client : noted_of (y ∷ x ∷ h.rows) n ≡ x = noted_other y (x ∷ h.rows) n (ne_eqb (suc n) n (λ z. omega arith)) ∙ noted_here x h.rows n (eqb-self n) in
    record { sources-there = refl; bears = refl; ends = rw (client, eqb-self (suc n), eqb-self n, eqb-self e, or_r (eqb (suc n) n) true refl) (or_r (not (some n)) true refl) }

module _ (h : History) (st : State) (i : Inv h st) (s : Sound st) where
  pub held-inv : (p e : ℕ) → HoldAllowed st p e → Inv (note_hold p e st.next h) (with_held st p e)
  unfolding note_hold with_held
  held-inv p e a =
      let t = a.there in
      let end : is_end (row_of st.rows e).kind ≡ false = node-no-end st s e t a.node in
      add-plain h st _ (held_sources h p e) i
      (view-copy (row_of st.rows e) st.next _ _ e (process_at st.processes p).through _ 0 end
      ∙ ap (λ k. new_noted st.next k 0 0) (ap (λ k. nonzero (e ∷ k ∷ [])) (i.through p a.caller) ∙ held-sources h p e (row_below st s.numbers e t).0))
      (sources-some h p e) (sources-stand h p e (row-stands h st i e t))

  -- ---- register
  first-source : (e : ℕ) → member e (numbers st.rows) ≡ true → 0 < (row_of st.rows e).source → first_only (noted_of h.rows e).sources ≡ (row_of st.rows e).source ∷ []
  first-source e t lo = ap (λ x. first_only x.sources) (row-noted h st i e (row-stands h st i e t)) ∙ only-first (row_of st.rows e) lo

  held-source : (p e : ℕ) → RegisterAllowed st p e → member (row_of st.rows e).source (numbers st.rows) ≡ true
  unfolding is_held
  held-source p e a = let h = was-held st s p e a in node-there st.rows (row_of st.rows e).source (search (and_l, and_r))

  pub registered-inv : (p e : ℕ) → RegisterAllowed st p e → Inv (note_register e st.next h) (with_registered st p e)
  unfolding note_register with_registered
  registered-inv p e r =
      let a = (row_of st.rows e).source in
      let t = r.row.there in
      let up : member a (numbers st.rows) ≡ true = held-source p e r in
      let lo : 0 < a = (row_below st s.numbers a up).0 in
      let ss : first_only (noted_of h.rows e).sources ≡ a ∷ [] = first-source e t lo in
      rw ss (add-plain h st _ (a ∷ []) i (view-copy (row_of st.rows e) st.next _ _ a 0 _ 0 r.no_end ∙ ap (λ k. new_noted st.next k 0 0) (one-source a lo))
      (unfold is_empty in refl) (one-stands h a (row-stands h st i a up)))

  -- ---- port
  pub port-inv : (p e : ℕ) → member e (numbers st.rows) ≡ true → Inv (note_port e st.next h) (with_port st p e)
  unfolding note_port with_port with_new_rows add_row
  port-inv p e t =
      let n = st.next in
      let d = port_depth st e in
      let lo : 0 < e = (row_below st s.numbers e t).0 in
      let up : stands h e ≡ true = row-stands h st i e t in
      let cn : some n && member n h.closed_ports ≡ false = and-rf (some n) (member n h.closed_ports) (not-below n h.closed_ports i.ports-below) in
      let client = port_end client_end n n (in_clist p) e d in
      let h₁ = add_row n (e ∷ []) 0 n h in
      let i₁ : Inv h₁ (with_new_rows (client ∷ st.rows) (suc n) st) =
      add-row h st client (e ∷ []) 0 n i (client-view n (in_clist p) e d lo) (one-stands h e up) (unfold some in refl) cn (client-fits h n e) in
      let up₁ : stands h₁ e ≡ true = stands_same h n (e ∷ []) 0 n (not-below n h.dropped i.dropped-below) (unfold some in refl) cn (one-stands h e up) e (stands-low h st i e up).1 ∙ up in
      add-row h₁ (with_new_rows (client ∷ st.rows) (suc n) st) (port_end server_end (suc n) n (in_clist (row_of st.rows e).object) e d) (e ∷ []) 0 n i₁
      (server-view n (in_clist (row_of st.rows e).object) e d lo) (one-stands h₁ e up₁) (unfold some in refl) cn (server-fits h n e)
