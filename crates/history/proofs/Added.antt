-- One more row, in the tables and in the history.
use Prim.Native.Nat.{ℕ, suc, ◌<◌, ◌≤◌}
use mathlib.Core.Bool.{Bool, true, false, not, ◌&&◌, ◌||◌}
use mathlib.Core.List.{List, ◌∷◌, map}
use mathlib.Core.Path.{◌≡◌, refl, sym, ap, ◌∙◌}
use lib.Dec.{ltb, eqb}
use native.Mathlib.Omega.{arith}
use borrow.Author.Tests.{ltb-true, lt-ltb, ne_eqb}
use Rattle.rows.specs.declared.Row.{Row}
use Rattle.std.specs.Prelude.{if◌then◌else◌}
use Rattle.rows.specs.Lists.{filter, all, each, top_of, member, some, same_list}
use Rattle.rows.specs.Tables.{State}
use Rattle.rows.proofs.Bools.{false_of, and_l, and_r, and_i, or_r, all-mono, all-and, all-at, some-pos}
use Rattle.rows.proofs.Keyed.{first-there, rises-range, rises-cons}
use Rattle.rows.proofs.Lists.{filter_same}
use Rattle.calls.specs.Rules.{with_new_rows}
use Rattle.history.specs.History.{Noted, Loan, History}
use Rattle.history.specs.Notes.{noted, nothing_noted, noted_of, spoiled, survives, sweep, standing, stands, is_closed, open_loans, last_go, add_row}
use Rattle.history.specs.Chains.{IsNoted}
use Rattle.history.proofs.Fit.{is_empty, rooted, bears_well, ends_well, port_noted, Fit}
use Rattle.history.proofs.Inv.{Inv, view, of_loan, through_now, below}
use Rattle.history.proofs.Sweep.{rising, noted_other}
use Rattle.history.proofs.Gone.{stands-noted}

abbrev pub new_noted : ℕ → List ℕ → ℕ → ℕ → Noted
new_noted n ss q c = record { number = n; sources = ss; request = q; port = c }

-- ---- numbers below n
pub below_up : (n m : ℕ) → n ≤ m → (ks : List ℕ) → below n ks ≡ true → below m ks ≡ true
unfolding below
below_up n m le ks e = all-mono (λ k. ltb k n) (λ k. ltb k m) (λ k t. let lt = ltb-true k n t in lt-ltb k m (omega arith)) ks e

pub below-cons : (n k : ℕ) (ks : List ℕ) → k < n → below n ks ≡ true → below n (k ∷ ks) ≡ true
unfolding below all
below-cons n k ks lt e = and_i (ltb k n) (all (λ k. ltb k n) ks) (lt-ltb k n lt) e

pub not-below : (n : ℕ) (ks : List ℕ) → below n ks ≡ true → member n ks ≡ false
unfolding below
not-below n ks e = false_of _ (λ t. let lt = ltb-true n n (all-at (λ k. ltb k n) ks e n t) in omega arith)

-- ---- what is found among rising rows is at most the first
found-low : (P : Noted → Bool) → P nothing_noted ≡ false → (rs : List Noted) → rising rs ≡ true → (k : ℕ) → P (noted_of rs k) ≡ true → k ≤ top_of (λ r. r.number) rs
unfolding noted_of
found-low P z rs u k t = (rises-range (λ r. r.number) rs u k (first-there (λ r. r.number) nothing_noted P z rs k t)).1

-- a request's port is noted
port-low : (rs : List Noted) → rising rs ≡ true → (v : Loan) → port_noted rs v ≡ true → v.port ≤ top_of (λ r. r.number) rs
unfolding port_noted nothing_noted
port-low rs u v e =
    let lo : 0 < v.port = some-pos v.port (and_l (some v.port) _ e) in
    found-low (λ y. eqb y.port v.port) (ne_eqb 0 v.port (λ z. omega arith)) rs u v.port (and_r (some v.port) _ e)

-- ---- the history by itself
module _ (rs : List Noted) (x : Noted) (u : rising rs ≡ true) (top : top_of (λ r. r.number) rs < x.number) where
  -- an older row is found as before
  older-noted : (k : ℕ) → k < x.number → noted_of (x ∷ rs) k ≡ noted_of rs k
  older-noted k lt = noted_other x rs k (ne_eqb x.number k (λ e. omega arith))

  ends_more : (r : Noted) → ends_well rs r ≡ true → ends_well (x ∷ rs) r ≡ true
  unfolding ends_well nothing_noted
  ends_more r e = pick (some r.port) refl e
    where
      c : Noted
      c = noted_of rs r.port

      test : Noted → Bool
      test y =
          (eqb r.number r.port || eqb r.number (suc r.port)) &&
          (eqb y.number r.port && (eqb y.port r.port && (same_list y.sources r.sources && eqb r.request 0)))

      pick : (b : Bool) → some r.port ≡ b → not b || test c ≡ true → not b || test (noted_of (x ∷ rs) r.port) ≡ true
      pick true q t =
          let lo : 0 < r.port = some-pos r.port q in
          let n : eqb c.number r.port ≡ true = and_l (eqb c.number r.port) _ (and_r (eqb r.number r.port || eqb r.number (suc r.port)) _ t) in
          let le : r.port ≤ top_of (λ r. r.number) rs = found-low (λ y. eqb y.number r.port) (ne_eqb 0 r.port (λ z. omega arith)) rs u r.port n in
          ap test (older-noted r.port (omega arith)) ∙ t
      pick false q t = refl

  port-more : (v : Loan) → port_noted rs v ≡ true → port_noted (x ∷ rs) v ≡ true
  unfolding port_noted
  port-more v e = let le = port-low rs u v e in rw (older-noted v.port (omega arith)) e

  dropped-more : (ks : List ℕ) → below x.number ks ≡ true → all (λ k. eqb (noted_of rs k).port 0) ks ≡ true → all (λ k. eqb (noted_of (x ∷ rs) k).port 0) ks ≡ true
  unfolding below
  dropped-more ks b e =
      all-and (λ k. ltb k x.number) (λ k. eqb (noted_of rs k).port 0) (λ k. eqb (noted_of (x ∷ rs) k).port 0)
      (λ k t d. rw (older-noted k (ltb-true k x.number t)) d) ks b e

-- the new row fits: its sources are noted, and it bears a request and is an end as it should
pub record FitsNew (h : History) (x : Noted) : Type 0 where
  pub sources-there : is_empty x.sources ≡ false
  pub bears : bears_well h.requests x ≡ true
  pub ends : ends_well (x ∷ h.rows) x ≡ true

fit_row : (h : History) (n : ℕ) (ss : List ℕ) (q c : ℕ) → Fit h → top_of (λ r. r.number) h.rows < n → below n h.dropped ≡ true
    → all (λ s. member s (noted h.rows)) ss ≡ true → FitsNew h (new_noted n ss q c) → Fit (add_row n ss q c h)
unfolding add_row
fit_row h n ss q c f top b older w =
    let x = new_noted n ss q c in
    record {
      rows-rise = rises-cons (λ r. r.number) x h.rows top f.rows-rise;
      requests-rise = f.requests-rise;
      sources-older = unfold each in and_i (all (λ s. member s (noted h.rows)) ss) _ older f.sources-older;
      rows-rooted = unfold all in and_i (rooted h.text x) _ (unfold rooted in rw w.sources-there refl) f.rows-rooted;
      rows-bear = unfold all in and_i (bears_well h.requests x) _ w.bears f.rows-bear;
      rows_end =
          unfold all in and_i (ends_well (x ∷ h.rows) x) _ w.ends
          (all-mono (ends_well h.rows) (ends_well (x ∷ h.rows)) (ends_more h.rows x f.rows-rise top) h.rows f.rows_end);
      ports-noted = all-mono (port_noted h.rows) (port_noted (x ∷ h.rows)) (port-more h.rows x f.rows-rise top) h.requests f.ports-noted;
      ends-kept = dropped-more h.rows x f.rows-rise top h.dropped b f.ends-kept;
      text-noted =
          all-mono (λ k. member k (noted h.rows)) (λ k. member k (noted (x ∷ h.rows)))
          (λ k t. unfold noted member in or_r (eqb k n) (member k (noted h.rows)) t) h.text f.text-noted;
    }

-- ---- the new row stands
module _ (h : History) (n : ℕ) (ss : List ℕ) (q c : ℕ)
    (dn : member n h.dropped ≡ false) (qn : some q && member q h.closed_requests ≡ false) (cn : some c && member c h.closed_ports ≡ false)
    (older : all (λ s. stands h s) ss ≡ true) where
  new-survives : survives (spoiled h) (noted (standing h)) (new_noted n ss q c) ≡ true
  unfolding survives spoiled stands
  new-survives = rw (dn, qn, cn) older

  standing-new : standing (add_row n ss q c h) ≡ new_noted n ss q c ∷ standing h
  unfolding standing add_row sweep spoiled
  standing-new = rw new-survives refl

  pub stands_same : (k : ℕ) → k < n → stands (add_row n ss q c h) k ≡ stands h k
  unfolding stands noted member
  stands_same k lt = rw (standing-new, ne_eqb k n (λ e. omega arith)) refl

-- ---- what stands below n stands after as before: then the open requests and the rows gone through are the same
module _ (h h' : History) (n : ℕ) (same : (k : ℕ) → k < n → stands h' k ≡ stands h k) where
  open-same : Fit h → top_of (λ r. r.number) h.rows < n → h'.closed_requests ≡ h.closed_requests → h'.requests ≡ h.requests → open_loans h' ≡ open_loans h
  unfolding open_loans
  open-same f top c r =
      ap (filter (λ v. not (is_closed h' v))) r
      ∙ filter_same (port_noted h.rows) (λ v. not (is_closed h' v)) (λ v. not (is_closed h v)) loan-same h.requests f.ports-noted
    where
      loan-same : (v : Loan) → port_noted h.rows v ≡ true → not (is_closed h' v) ≡ not (is_closed h v)
      loan-same v e = unfold is_closed in rw (same v.port (let le = port-low h.rows f.rows-rise v e in omega arith), c) refl

  through_same : h'.went ≡ h.went → (p : ℕ) → last_go h.went p < n → through_now h' p ≡ through_now h p
  unfolding through_now
  through_same w p b =
      ap (λ ws. let e = last_go ws p in if some e && stands h' e then e else 0) w
      ∙ ap (λ t. if some (last_go h.went p) && t then last_go h.went p else 0) (same (last_go h.went p) b)

-- ---- the invariant
pub add-row : (h : History) (st : State) (r : Row) (ss : List ℕ) (q c : ℕ) → Inv h st → view r ≡ new_noted st.next ss q c
    → all (λ s. stands h s) ss ≡ true → some q && member q h.closed_requests ≡ false → some c && member c h.closed_ports ≡ false → FitsNew h (new_noted st.next ss q c)
    → Inv (add_row st.next ss q c h) (with_new_rows (r ∷ st.rows) (suc st.next) st)
unfolding with_new_rows add_row IsNoted
add-row h st r ss q c i v older qn cn w =
    record {
      fit =
          fit_row h st.next ss q c i.fit i.rows-below i.dropped-below
          (all-mono (λ s. stands h s) (λ s. member s (noted h.rows)) (λ s t. stands-noted h i.fit s t) ss older) w;
      rows = rw (v, i.rows) (sym (standing-new h st.next ss q c dn qn cn older));
      requests = i.requests ∙ ap (map of_loan) (sym opened);
      through = λ p e. i.through p e ∙ sym (through_same h h' st.next same refl p (i.went-below p));
      rows-below = unfold top_of in (omega arith);
      requests-below = let z = i.requests-below in omega arith;
      dropped-below = below_up st.next (suc st.next) le h.dropped i.dropped-below;
      ports-below = below_up st.next (suc st.next) le h.closed_ports i.ports-below;
      closed-below = below_up st.next (suc st.next) le h.closed_requests i.closed-below;
      went-below = λ p. let z = i.went-below p in omega arith;
    }
  where
    h' : History
    h' = add_row st.next ss q c h

    dn : member st.next h.dropped ≡ false
    dn = not-below st.next h.dropped i.dropped-below

    le : st.next ≤ suc st.next
    le = omega arith

    same : (k : ℕ) → k < st.next → stands h' k ≡ stands h k
    same = stands_same h st.next ss q c dn qn cn older

    opened : open_loans h' ≡ open_loans h
    opened = open-same h h' st.next same i.fit i.rows-below refl refl
