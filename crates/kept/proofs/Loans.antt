-- A request that becomes fetched: what then awaits fetch, and what the system holds.
use Prim.Native.Nat.{ℕ, ◌<◌}
use mathlib.Core.Bool.{Bool, true, false, not, cond, ◌||◌}
use mathlib.Core.List.{List, [], ◌∷◌, map}
use mathlib.Core.Path.{◌≡◌, refl, sym, ap, ◌∙◌, subst}
use lib.Dec.{eqb}
use borrow.Author.Tests.{eqb-true, ne_eqb}
use native.Mathlib.Omega.{arith}
use Rattle.rows.specs.declared.Row.{Row}
use Rattle.rows.specs.declared.Request.{Request}
use Rattle.rows.specs.Lists.{all, each, first_with, rises, member, some}
use Rattle.rows.specs.Codes.{is_system, fetched_mark}
use Rattle.rows.specs.Setters.{with_fetched}
use Rattle.rows.specs.Tables.{no_row, no_request, row_of, request_of, numbers, lists}
use Rattle.rows.specs.Sound.{is_fetched, older_fetched_by, awaits_fetch, same, system_holds, rows_rise}
use Rattle.rows.proofs.Bools.{false_of, clash, and_l, and_r, eqb-sym-f, and-rf}
use Rattle.rows.proofs.Keyed.{all_first, first-map, first-none, rises-rest, rises-fresh}
use Rattle.tables.proofs.Picked.{all_found}
use Rattle.tables.proofs.SoundFacts.{row_number}
use Rattle.tables.proofs.Awaits.{older-listers}
use Rattle.calls.specs.Loans.{now_fetched}

pub no-request-lists : (e : ℕ) → lists e no_request ≡ false
unfolding lists no_request member
no-request-lists e = and-rf (some e) false refl

-- ---- a request that becomes fetched
-- a reading that does not look at the mark
pub now-same : {A : Type 0} (q : ℕ) (f : Request → A) → ((k : ℕ) (v : Request) → f (with_fetched k v) ≡ f v) → (v : Request) → f (now_fetched q v) ≡ f v
unfolding now_fetched
now-same {A} q f h v = pick (eqb v.number q)
  where
    pick : (b : Bool) → f (cond b (with_fetched fetched_mark v) v) ≡ f v
    pick true = h fetched_mark v
    pick false = refl

pub now-number : (q : ℕ) (v : Request) → (now_fetched q v).number ≡ v.number
now-number q v = now-same q (λ v. v.number) (λ k v. refl) v

pub now-lists : (q e : ℕ) (v : Request) → lists e (now_fetched q v) ≡ lists e v
now-lists q e v = now-same q (lists e) (λ k v. unfold lists in refl) v

pub still-fetched : (q : ℕ) (v : Request) → is_fetched v ≡ true → is_fetched (now_fetched q v) ≡ true
unfolding now_fetched is_fetched
still-fetched q v e = pick (eqb v.number q)
  where
    pick : (b : Bool) → eqb (cond b (with_fetched fetched_mark v) v).fetched fetched_mark ≡ true
    pick true = refl
    pick false = e

pub now-fetched : (q : ℕ) (v : Request) → eqb v.number q ≡ true → is_fetched (now_fetched q v) ≡ true
unfolding now_fetched is_fetched
now-fetched q v e = rw e refl

pub now-other : (q : ℕ) (v : Request) → eqb v.number q ≡ false → now_fetched q v ≡ v
unfolding now_fetched
now-other q v e = rw e refl

pub request-now : (q : ℕ) (vs : List Request) (n : ℕ) → 0 < q → request_of (map (now_fetched q) vs) n ≡ now_fetched q (request_of vs n)
unfolding request_of
request-now q vs n h = first-map (λ v. v.number) no_request (now_fetched q) (now-number q) (now-other q no_request (unfold no_request in ne_eqb 0 q (λ z. omega arith))) vs n

module _ (q e : ℕ) where
  -- what an unfetched request lists awaits fetch, and no longer when it is fetched
  pub fetched-now : (vs : List Request) → each older_fetched_by vs ≡ true → member q (map (λ v. v.number) vs) ≡ true → is_fetched (request_of vs q) ≡ false → lists e (request_of vs q) ≡ true
      → awaits_fetch (map (now_fetched q) vs) e ≡ false
  unfolding each awaits_fetch request_of first_with member
  fetched-now [] o m f l = clash m refl
  fetched-now (w ∷ ws) o m f l = pick (fetched-now ws (and_r (older_fetched_by w ws) (each older_fetched_by ws) o)) (eqb w.number q) refl m f l
    where
      newer : member q (map (λ v. v.number) ws) ≡ true → is_fetched (first_with (λ v. v.number) no_request ws q) ≡ false → lists e (first_with (λ v. v.number) no_request ws q) ≡ true → lists e w ≡ false
      newer m f l =
          false_of (lists e w) λ h.
          clash (all_first (λ v. v.number) no_request (λ u. is_fetched u || not (lists e u)) ws q (older-listers e w ws h (and_l (older_fetched_by w ws) (each older_fetched_by ws) o)) m)
          (rw (f, l) refl)

      pick : (member q (map (λ v. v.number) ws) ≡ true → is_fetched (first_with (λ v. v.number) no_request ws q) ≡ false
          → lists e (first_with (λ v. v.number) no_request ws q) ≡ true → awaits_fetch (map (now_fetched q) ws) e ≡ false)
          → (b : Bool) → eqb w.number q ≡ b → eqb q w.number || member q (map (λ v. v.number) ws) ≡ true
          → is_fetched (cond b w (first_with (λ v. v.number) no_request ws q)) ≡ false → lists e (cond b w (first_with (λ v. v.number) no_request ws q)) ≡ true
          → cond (lists e (now_fetched q w)) (not (is_fetched (now_fetched q w))) (awaits_fetch (map (now_fetched q) ws) e) ≡ false
      pick ih true z m f l = rw (now-lists q e w, l, now-fetched q w z) refl
      pick ih false z m f l =
          let u : member q (map (λ v. v.number) ws) ≡ true = rw (eqb-sym-f w.number q z) at m in
          rw (now-lists q e w, newer u f l) (ih u f l)

  -- of what it does not list nothing changes
  pub awaits-same : (vs : List Request) → rises (λ v. v.number) vs ≡ true → lists e (request_of vs q) ≡ false → awaits_fetch (map (now_fetched q) vs) e ≡ awaits_fetch vs e
  unfolding awaits_fetch request_of first_with member
  awaits-same [] r l = refl
  awaits-same (w ∷ ws) r l = pick (awaits-same ws (rises-rest (λ v. v.number) w ws r)) (eqb w.number q) refl l
    where
      none_after : eqb w.number q ≡ true → lists e (first_with (λ v. v.number) no_request ws q) ≡ false
      none_after z =
          let f : member q (map (λ v. v.number) ws) ≡ false = ap (λ n. member n (map (λ v. v.number) ws)) (sym (eqb-true w.number q z)) ∙ rises-fresh (λ v. v.number) w ws r in
          rw (first-none (λ v. v.number) no_request ws q f) (no-request-lists e)

      pick : (lists e (first_with (λ v. v.number) no_request ws q) ≡ false → awaits_fetch (map (now_fetched q) ws) e ≡ awaits_fetch ws e)
          → (b : Bool) → eqb w.number q ≡ b → lists e (cond b w (first_with (λ v. v.number) no_request ws q)) ≡ false
          → cond (lists e (now_fetched q w)) (not (is_fetched (now_fetched q w))) (awaits_fetch (map (now_fetched q) ws) e) ≡ cond (lists e w) (not (is_fetched w)) (awaits_fetch ws e)
      pick ih true z l = rw (now-lists q e w, l) (ih (none_after z))
      pick ih false z l = rw (now-other q w z) (rw (ih l) refl)

-- ---- rows of tables
-- what holds of each row that can be looked up holds of all
pub of-rows : (rows : List Row) → rows_rise rows ≡ true → (P : Row → Bool) → ((n : ℕ) → member n (numbers rows) ≡ true → P (row_of rows n) ≡ true) → all P rows ≡ true
of-rows rows up P h = unfold numbers row_of in all_found (λ r. r.number) no_row P rows (unfold rows_rise in up) h

pub held-so : (rows : List Row) (vs : List Request) → system_holds vs rows ≡ true → (n : ℕ) → member n (numbers rows) ≡ true → same (is_system (row_of rows n).place) (awaits_fetch vs n) ≡ true
held-so rows vs h n m =
    subst (λ k. same (is_system (row_of rows n).place) (awaits_fetch vs k) ≡ true) (row_number rows n m)
    (unfold numbers row_of in all_first (λ r. r.number) no_row (λ r. same (is_system r.place) (awaits_fetch vs r.number)) rows n (unfold system_holds in h) m)
