-- The process records of the state that an opening text opens: 64, each in range and at home, those of the processes given listed.
use Prim.Native.Nat.{ℕ, zero, suc, ◌-◌, ◌≤◌}
use native.Mathlib.Omega.{arith}
use mathlib.Core.Path.{◌≡◌, refl, ◌∙◌, ap}
use mathlib.Core.Bool.{Bool, true, false, ◌&&◌, ◌||◌}
use mathlib.Core.List.{List, [], ◌∷◌}
use lib.ListN.{length, get_or, set, length-set}
use lib.Seq.{get_or-set_same}
use lib.Dec.{eqb}
use borrow.Author.Tests.{eqb-true}
use Rattle.rows.specs.declared.Row.{Row}
use Rattle.rows.specs.declared.Process.{Process}
use Rattle.std.specs.Prelude.{if◌then◌else◌}
use Rattle.rows.specs.Lists.{any, all, each, between, some}
use Rattle.rows.specs.Limits.{processes, nodes}
use Rattle.rows.specs.Tables.{no_process, empty, process_at, is_listed}
use Rattle.rows.specs.Sound.{record_unused, record_in_range, process_placed, placed_from}
use Rattle.rows.proofs.Bools.{clash, and_l, and_r, and_i, or_l, or_r, eqb-self, pos-some, eqb-sym}
use Rattle.rows.proofs.Places.{between-range}
use Rattle.rows.proofs.Lists.{all_set, same-everywhere}
use Rattle.rows.proofs.ProcessRecords.{set_at}
use Rattle.text.specs.Opening.{Form, node_form, process_form, gives_process, with_form, opened_from, prime_of}
use Rattle.text.proofs.OpeningForms.{form_passed, process-passed}

-- ---- in range, and in its prime node through none
unfoldable pub is_home : Process → Bool
is_home x = record_in_range x && (eqb x.through 0 && eqb x.active x.prime)

unfoldable home : ℕ → Process
home n = record { prime = n; active = n; through = 0 }

home-is : (n : ℕ) → between 1 nodes n ≡ true → is_home (home n) ≡ true
unfolding is_home home record_in_range
home-is n h =
    and_i (record_in_range (home n)) (eqb n n) (or_r (record_unused (home n)) (between 1 nodes n && between 1 nodes n) (and_i (between 1 nodes n) (between 1 nodes n) h h)) (eqb-self n)

pub opened-length : (fs : List Form) → length (opened_from empty fs).processes ≡ processes
unfolding opened_from with_form empty processes
opened-length [] = refl
opened-length (node_form n es ∷ fs) = opened-length fs
opened-length (process_form p n ∷ fs) = length-set (opened_from empty fs).processes (p - 1) (record { prime = n; active = n; through = 0 }) ∙ opened-length fs

pub opened-home : (fs : List Form) → each form_passed fs ≡ true → all is_home (opened_from empty fs).processes ≡ true
unfolding opened_from with_form empty each processes all is_home record_in_range record_unused no_process home
opened-home [] e = refl
opened-home (node_form n es ∷ fs) e = opened-home fs (and_r (form_passed (node_form n es) fs) (each form_passed fs) e)
opened-home (process_form p n ∷ fs) e =
    let k = process-passed fs p n (and_l (form_passed (process_form p n) fs) (each form_passed fs) e) in
    all_set is_home (opened_from empty fs).processes (p - 1) (home n) (opened-home fs (and_r (form_passed (process_form p n) fs) (each form_passed fs) e)) (home-is n k.node)

-- ---- the processes given are listed
prime-kept : (ps : List Process) (i j : ℕ) (x : Process) → some x.prime ≡ true → some (get_or ps j no_process).prime ≡ true → some (get_or (set ps i x) j no_process).prime ≡ true
prime-kept [] i j x h e = e
prime-kept (y ∷ ps) zero zero x h e = h
prime-kept (y ∷ ps) zero (suc j) x h e = e
prime-kept (y ∷ ps) (suc i) zero x h e = e
prime-kept (y ∷ ps) (suc i) (suc j) x h e = prime-kept ps i j x h e

listed_kept : (ps : List Process) (i p : ℕ) (x : Process) → some x.prime ≡ true → is_listed ps p ≡ true → is_listed (set ps i x) p ≡ true
unfolding is_listed process_at
listed_kept ps i zero x h e = e
listed_kept ps i (suc j) x h e = prime-kept ps i j x h e

listed_here : (ps : List Process) (p : ℕ) (x : Process) → 1 ≤ p → p ≤ length ps → some x.prime ≡ true → is_listed (set ps (p - 1) x) p ≡ true
unfolding is_listed process_at
listed_here ps zero x lo hi h = absurd (omega arith)
listed_here ps (suc j) x lo hi h = let q : suc j - 1 ≡ j = omega arith in rw (q, get_or-set_same ps j x no_process (omega arith)) h

pub opened-listed : (fs : List Form) → each form_passed fs ≡ true → (p : ℕ) → any (gives_process p) fs ≡ true → is_listed (opened_from empty fs).processes p ≡ true
unfolding opened_from with_form each any gives_process
opened-listed [] e p g = clash g refl
opened-listed (node_form n es ∷ fs) e p g = opened-listed fs (and_r (form_passed (node_form n es) fs) (each form_passed fs) e) p g
opened-listed (process_form r n ∷ fs) e p g =
    let k = process-passed fs r n (and_l (form_passed (process_form r n) fs) (each form_passed fs) e) in
    let (lo, hi) = between-range 1 processes r k.process in
    let (pos, top) = between-range 1 nodes n k.node in
    pick (opened-listed fs (and_r (form_passed (process_form r n) fs) (each form_passed fs) e) p) (pos-some n pos) lo hi (eqb r p) refl g
  where
    pick : (any (gives_process p) fs ≡ true → is_listed (opened_from empty fs).processes p ≡ true) → some n ≡ true → 1 ≤ r → r ≤ processes → (b : Bool)
        → eqb r p ≡ b → b || any (gives_process p) fs ≡ true
        → is_listed (set (opened_from empty fs).processes (r - 1) (record { prime = n; active = n; through = 0 })) p ≡ true
    pick ih s lo hi true q g =
        let l = opened-length fs in
        rw (← eqb-true r p q) (listed_here (opened_from empty fs).processes r (record { prime = n; active = n; through = 0 }) lo (omega arith) s)
    pick ih s lo hi false q g = listed_kept (opened_from empty fs).processes (r - 1) p (record { prime = n; active = n; through = 0 }) s (ih g)

-- ---- each has the prime node that the forms give it
pub prime-opened : (fs : List Form) → each form_passed fs ≡ true → (p : ℕ) → (process_at (opened_from empty fs).processes p).prime ≡ prime_of fs p
unfolding opened_from with_form empty prime_of each process_at no_process
prime-opened [] e zero = refl
prime-opened [] e (suc j) = ap (λ (x : Process). x.prime) (same-everywhere no_process processes j)
prime-opened (node_form n es ∷ fs) e p = prime-opened fs (and_r (form_passed (node_form n es) fs) (each form_passed fs) e) p
prime-opened (process_form r n ∷ fs) e p =
    let k = process-passed fs r n (and_l (form_passed (process_form r n) fs) (each form_passed fs) e) in
    let (lo, hi) = between-range 1 processes r k.process in
    let l = opened-length fs in
    ap (λ (x : Process). x.prime) (set_at (opened_from empty fs).processes r p (record { prime = n; active = n; through = 0 }) (omega arith) (omega arith))
    ∙ rw (eqb-sym p r) (pick (eqb r p) (prime-opened fs (and_r (form_passed (process_form r n) fs) (each form_passed fs) e) p))
  where
    pick : (b : Bool) → (process_at (opened_from empty fs).processes p).prime ≡ prime_of fs p
        → (if b then record { prime = n; active = n; through = 0 } else process_at (opened_from empty fs).processes p).prime ≡ (if b then n else prime_of fs p)
    pick true ih = refl
    pick false ih = ih

-- ---- every process is in its prime node through none
pub home-placed : (rs : List Row) (p : ℕ) (ps : List Process) → all is_home ps ≡ true → placed_from rs p ps ≡ true
unfolding placed_from process_placed all is_home
home-placed rs p [] e = refl
home-placed rs p (x ∷ ps) e =
    let h : is_home x ≡ true = and_l (is_home x) (all is_home ps) e in
    and_i (process_placed rs p x) (placed_from rs (suc p) ps) (or_l (eqb x.through 0 && eqb x.active x.prime) _ (and_r (record_in_range x) (eqb x.through 0 && eqb x.active x.prime) h))
    (home-placed rs (suc p) ps (and_r (is_home x) (all is_home ps) e))

pub home-ranged : (x : Process) → is_home x ≡ true → record_in_range x ≡ true
unfolding is_home
home-ranged x e = and_l (record_in_range x) (eqb x.through 0 && eqb x.active x.prime) e
