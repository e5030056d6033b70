-- The process records that closing leaves: the same processes are listed, and each is where it may be.
use Prim.Native.Nat.{ℕ, zero, suc}
use mathlib.Core.Bool.{Bool, true, false, cond, ◌&&◌}
use mathlib.Core.List.{List, [], ◌∷◌, map}
use mathlib.Core.Path.{◌≡◌, refl, sym, ap, ◌∙◌}
use mathlib.Core.Logic.{⊎_elim}
use lib.Dec.{eqb}
use lib.ListN.{length-map, get_or-map}
use borrow.Author.Tests.{eqb-true}
use Rattle.rows.specs.declared.Row.{Row}
use Rattle.rows.specs.declared.Request.{Request}
use Rattle.rows.specs.declared.Process.{Process}
use Rattle.rows.specs.Lists.{member, some, between}
use Rattle.rows.specs.Limits.{processes, nodes}
use Rattle.rows.specs.Codes.{is_subdirectory, in_clist}
use Rattle.rows.specs.Tables.{State, no_process, row_of, process_at, is_listed}
use Rattle.rows.specs.Sound.{records_fit, record_unused, record_in_range, records_in_range, process_placed, placed_from}
use Rattle.rows.proofs.Bools.{clash, and_l, and_r, and_i, or_cases, or_l, or_r, eqb-self, all-mono}
use Rattle.rows.proofs.Lists.{all_map}
use Rattle.closing.specs.Closing.{homed, settled}

-- ---- who is listed
module _ (g : List ℕ) where
  pub homed-prime : (x : Process) → (homed g x).prime ≡ x.prime
  unfolding homed
  homed-prime x = pick (some x.through && member x.through g)
    where
      pick : (b : Bool) → (cond b (record { prime = x.prime; active = x.prime; through = 0 }) x).prime ≡ x.prime
      pick true = refl
      pick false = refl

  pub homed-at : (ps : List Process) (p : ℕ) → process_at (map (homed g) ps) p ≡ homed g (process_at ps p)
  unfolding process_at homed no_process some
  homed-at ps zero = refl
  homed-at ps (suc i) = get_or-map (homed g) ps i no_process

  pub listed_kept : (ps : List Process) (p : ℕ) → is_listed (map (homed g) ps) p ≡ is_listed ps p
  unfolding is_listed
  listed_kept ps p = ap (λ x. some x.prime) (homed-at ps p) ∙ ap some (homed-prime (process_at ps p))

-- ---- the records' clauses
module _ (g : List ℕ) (f : Request → Bool) (st : State) where
  pub records-fit-kept : records_fit st.processes ≡ true → records_fit (settled g f st).processes ≡ true
  unfolding records_fit settled
  records-fit-kept e = ap (λ n. eqb n processes) (length-map st.processes (homed g)) ∙ e

  pub records-in-range-kept : records_in_range st.processes ≡ true → records_in_range (settled g f st).processes ≡ true
  unfolding records_in_range settled homed
  records-in-range-kept e =
      all_map record_in_range (homed g) st.processes
      ∙ all-mono record_in_range (λ x. record_in_range (homed g x)) (λ x h. pick x h (some x.through && member x.through g) refl) st.processes e
    where
      used : (x : Process) → some x.through && member x.through g ≡ true → record_unused x ≡ true → ⊥
      used x q u =
          let rest : eqb x.active 0 && eqb x.through 0 ≡ true = unfold record_unused in and_r (eqb x.prime 0) (eqb x.active 0 && eqb x.through 0) u in
          let z : x.through ≡ 0 = eqb-true x.through 0 (and_r (eqb x.active 0) (eqb x.through 0) rest) in
          clash (ap some (sym z) ∙ and_l (some x.through) (member x.through g) q) (unfold some in refl)

      pick : (x : Process) → record_in_range x ≡ true → (b : Bool) → some x.through && member x.through g ≡ b
          → record_in_range (cond b (record { prime = x.prime; active = x.prime; through = 0 }) x) ≡ true
      pick x h true q =
          unfold record_in_range in ⊎_elim (λ u. absurd (used x q u))
          (λ w.
          let m : between 1 nodes x.prime ≡ true = and_l (between 1 nodes x.prime) (between 1 nodes x.active) w in
          or_r (record_unused (record { prime = x.prime; active = x.prime; through = 0 })) _ (and_i _ _ m m))
          (or_cases (record_unused x) (between 1 nodes x.prime && between 1 nodes x.active) h)
      pick x h false q = h

-- ---- where each process is: the subdirectory rows that are left are as they were
module _ (g : List ℕ) (rs ss : List Row)
    (same : (n : ℕ) → member n g ≡ false → is_subdirectory (row_of rs n).kind ≡ true → row_of ss n ≡ row_of rs n) where
  at-process : (p : ℕ) (x : Process) → process_placed rs p x ≡ true → process_placed ss p (homed g x) ≡ true
  unfolding homed process_placed
  at-process p x e = pick (some x.through && member x.through g) refl
    where
      r : Row
      r = row_of rs x.through

      inside : Row → Bool
      inside r = is_subdirectory r.kind && (eqb r.place (in_clist p) && eqb r.object x.active)

      through : some x.through && inside r ≡ true → some x.through && member x.through g ≡ false
          → some x.through && inside (row_of ss x.through) ≡ true
      through w q =
          let sm : some x.through ≡ true = and_l (some x.through) (inside r) w in
          let in-r : inside r ≡ true = and_r (some x.through) (inside r) w in
          let left : member x.through g ≡ false = ap (λ b. b && member x.through g) (sym sm) ∙ q in
          let sub : is_subdirectory r.kind ≡ true
          = and_l (is_subdirectory r.kind) (eqb r.place (in_clist p) && eqb r.object x.active) in-r in
          and_i _ _ sm (ap inside (same x.through left sub) ∙ in-r)

      pick : (b : Bool) → some x.through && member x.through g ≡ b
          → process_placed ss p (cond b (record { prime = x.prime; active = x.prime; through = 0 }) x) ≡ true
      pick true q = or_l (eqb x.prime x.prime) _ (eqb-self x.prime)
      pick false q =
          ⊎_elim (λ u. or_l (eqb x.through 0 && eqb x.active x.prime) (some x.through && inside (row_of ss x.through)) u)
          (λ w. or_r (eqb x.through 0 && eqb x.active x.prime) (some x.through && inside (row_of ss x.through)) (through w q))
          (or_cases (eqb x.through 0 && eqb x.active x.prime) (some x.through && inside r) e)

  pub placed-kept : (p : ℕ) (ps : List Process) → placed_from rs p ps ≡ true → placed_from ss p (map (homed g) ps) ≡ true
  unfolding placed_from
  placed-kept p [] e = refl
  placed-kept p (x ∷ ps) e =
      and_i _ _ (at-process p x (and_l (process_placed rs p x) (placed_from rs (suc p) ps) e))
      (placed-kept (suc p) ps (and_r (process_placed rs p x) (placed_from rs (suc p) ps) e))
