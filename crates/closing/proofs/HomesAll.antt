-- One record goes home or stays; the loop over a run of them: the first are done, the others as they were; all records of sound tables.
use Prim.Native.Nat.{ℕ, zero, suc, ◌+◌, ◌≤◌, ◌<◌}
use mathlib.Core.Bool.{Bool, true, cond, ◌&&◌}
use mathlib.Core.List.{List, [], ◌∷◌, map}
use mathlib.Core.Path.{◌≡◌, refl, sym, ap, subst, ◌∙◌}
use mathlib.Core.Logic.{⊎_elim}
use native.Mathlib.Nat.{not-suc-le-zero}
use native.Mathlib.Omega.{arith}
use borrow.Author.Count.{below_more}
use lib.Dec.{eqb}
use lib.ListN.{length, length-map, length-set, get_or, set}
use lib.Seq.{get_or-set_same, get_or-set_other, ext_get_or}
use Rattle.rows.specs.declared.Row.{Row}
use Rattle.rows.specs.declared.Process.{Process}
use Rattle.rows.specs.Lists.{member, some}
use Rattle.rows.specs.Codes.{is_subdirectory, in_clist}
use Rattle.rows.specs.Tables.{no_process, row_of, process_at, numbers}
use Rattle.rows.specs.Sound.{process_placed, placed_from, processes_placed}
use Rattle.rows.proofs.Bools.{clash, and_l, and_r, or_cases, zero-none}
use Rattle.rows.proofs.RowSources.{subdirectory-there}
use Rattle.tables.proofs.Sound.{sound-open}
use Rattle.closing.specs.Closing.{homed}
use Rattle.closing.specs.vocabulary.Marks.{Stands}
use Rattle.closing.specs.vocabulary.Takes.{HomesEach, HomesAll}
use Rattle.closing.proofs.Processes.{homed-at}

-- ---- one record
module _ (g : List ℕ) (x : Process) where
  pub homed-none : x.through ≡ 0 → x ≡ homed g x
  unfolding homed some
  homed-none z = ap (λ n. cond (some n && member n g) (record { prime = x.prime; active = x.prime; through = 0 }) x) (sym z)

  -- b tells whether the row is removed
  pub homed-told : (b : Bool) → some x.through ≡ true → member x.through g ≡ b
      → cond b (record { prime = x.prime; active = x.prime; through = 0 }) x ≡ homed g x
  unfolding homed
  homed-told b sm e = rw (sm, e) refl

-- ---- sound tables: the row through which a process stands in its node is there
through-there : (rs : List Row) (p : ℕ) (x : Process) → process_placed rs p x ≡ true
    → some x.through ≡ true → member x.through (numbers rs) ≡ true
unfolding process_placed
through-there rs p x e sm =
    ⊎_elim (λ u. clash sm (zero-none x.through (and_l (eqb x.through 0) (eqb x.active x.prime) u)))
    (λ w.
    subdirectory-there rs x.through
    (and_l (is_subdirectory r.kind) (eqb r.place (in_clist p) && eqb r.object x.active) (and_r (some x.through) inside w)))
    (or_cases (eqb x.through 0 && eqb x.active x.prime) (some x.through && inside) e)
  where
    r : Row
    r = row_of rs x.through

    inside : Bool
    inside = is_subdirectory r.kind && (eqb r.place (in_clist p) && eqb r.object x.active)

placed-there : (rs : List Row) (p : ℕ) (ps : List Process) → placed_from rs p ps ≡ true → (k : ℕ)
    → some (get_or ps k no_process).through ≡ true → member (get_or ps k no_process).through (numbers rs) ≡ true
unfolding placed_from no_process some
placed-there rs p [] e k sm = clash sm refl
placed-there rs p (x ∷ ps) e zero sm = through-there rs p x (and_l (process_placed rs p x) (placed_from rs (suc p) ps) e) sm
placed-there rs p (x ∷ ps) e (suc k) sm = placed-there rs (suc p) ps (and_r (process_placed rs p x) (placed_from rs (suc p) ps) e) k sm

-- ---- the loop
-- there are as many records; those below i are as P has it, the others as they were
pub record HomedTo (P : Process → Process → Type 0) (from to : List Process) (i : ℕ) : Type 0 where
  pub long : length to ≡ length from
  pub done : (k : ℕ) → k < i → P (get_or from k no_process) (get_or to k no_process)
  pub left : (k : ℕ) → i ≤ k → get_or to k no_process ≡ get_or from k no_process

module _ {P : Process → Process → Type 0} {from : List Process} where
  pub homed-start : HomedTo P from from 0
  homed-start = record { long = refl; done = λ k lt. absurd (not-suc-le-zero lt); left = λ k le. refl }

  pub homed-turn : (to : List Process) (i : ℕ) (y : Process) → i < length to → P (get_or to i no_process) y
      → HomedTo P from to i → HomedTo P from (set to i y) (i + 1)
  homed-turn to i y h p so =
      record {
        long = length-set to i y ∙ so.long;
        done = below_more (λ k. P (get_or from k no_process) (get_or (set to i y) k no_process)) i
            (λ k lt. subst (P (get_or from k no_process)) (sym (get_or-set_other to i k y no_process (λ q. omega arith))) (so.done k lt))
            (subst (λ (x : Process). P x (get_or (set to i y) i no_process)) (so.left i (omega arith))
            (subst (P (get_or to i no_process)) (sym (get_or-set_same to i y no_process h)) p));
        left = λ k le. get_or-set_other to i k y no_process (λ q. omega arith) ∙ so.left k (omega arith);
      }

  pub homed-end : (to : List Process) (i : ℕ) → i ≡ length from → HomedTo P from to i
      → (length to ≡ length from) × ((k : ℕ) → k < length from → P (get_or from k no_process) (get_or to k no_process))
  homed-end to i e so = (so.long, (λ k lt. so.done k (omega (arith, lt, e))))

-- ---- all records
pub homes-all : (t : List ℕ) (n : ℕ) (ps : List Process) (removed : List Bool) (rs : List Process)
    → HomesEach t n ps removed rs → HomesAll t n ps removed rs
unfolding process_at processes_placed
homes-all t n ps removed rs each st g sd rep count gone same =
    ext_get_or no_process rs (map (homed g) ps) (each.0 ∙ sym (length-map ps (homed g)))
    (λ k lt. each.1 k (omega (arith, lt, each.0)) st g rep count gone (stands k) ∙ sym (homed-at g ps (suc k)))
  where
    stands : (k : ℕ) → some (get_or ps k no_process).through ≡ true → Stands st (get_or ps k no_process).through
    stands k =
        subst (λ (qs : List Process). some (get_or qs k no_process).through ≡ true → Stands st (get_or qs k no_process).through) same
        (placed-there st.rows 1 st.processes (sound-open st sd).placed.processes-placed k)

-- records that have gone through no row stay as they are
pub none-away : (g : List ℕ) (ps : List Process) → ((k : ℕ) → k < length ps → (get_or ps k no_process).through ≡ 0) → ps ≡ map (homed g) ps
unfolding process_at
none-away g ps h =
    ext_get_or no_process ps (map (homed g) ps) (sym (length-map ps (homed g)))
    (λ k lt. homed-none g (get_or ps k no_process) (h k lt) ∙ sym (homed-at g ps (suc k)))
