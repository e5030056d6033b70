-- Process records in their words, one after the other: what loops over them keep.
use Rattle.std.proofs.Common.{◌≡◌, ℕ, zero, suc, ◌+◌, ◌-◌, ◌*◌, ◌%◌, ◌^◌, ◌<◌, ◌≤◌, Bool, true, false, cond, ◌&&◌, eqb, ltb, List, [], ◌∷◌, length, get_or, set, sym, refl, ap, ◌∙◌, le_of_suc-le-suc, not-suc-le-zero, arith, length-set, get_or-set_other, get_or-set_same, ext_get_or, below_more, le-ltb, lt-ltb, eq-eqb, ne_eqb, eqb-true}
use native.Mathlib.Decide.{dec_lt}
use borrow.Author.Tests.{eqb-false}
use lib.ListN.{get_or-eq_default}
use Rattle.rows.specs.declared.Process.{Process}
use Rattle.std.specs.Prelude.{if◌then◌else◌}
use Rattle.rows.specs.Lists.{some}
use Rattle.rows.specs.Tables.{no_process, process_at, is_listed}
use Rattle.rows.specs.Layout.{records_in}
use Rattle.rows.proofs.Bools.{bool_eq}
use Rattle.rows.proofs.LayoutRequests.{length-records, records-words}

-- the record k of the words
abbrev pub record_at : List ℕ → ℕ → Process
record_at p k = record { prime = get_or p (3 * k) 0; active = get_or p (3 * k + 1) 0; through = get_or p (3 * k + 2) 0 }

pub record-at : (n : ℕ) (p : List ℕ) → length p ≡ 3 * n → (k : ℕ) → k < n → get_or (records_in p) k no_process ≡ record_at p k
unfolding records_in
record-at zero p e k h = absurd (not-suc-le-zero h)
record-at (suc n) [] e k h = absurd (omega arith)
record-at (suc n) (a ∷ []) e k h = absurd (omega arith)
record-at (suc n) (a ∷ b ∷ []) e k h = absurd (omega arith)
record-at (suc n) (a ∷ b ∷ c ∷ p) e zero h = refl
record-at (suc n) (a ∷ b ∷ c ∷ p) e (suc k) h =
    let t : 3 * suc k ≡ suc (suc (suc (3 * k))) = omega arith in
    let u : 3 * suc k + 1 ≡ suc (suc (suc (3 * k + 1))) = omega arith in
    let v : 3 * suc k + 2 ≡ suc (suc (suc (3 * k + 2))) = omega arith in
    let w : List ℕ = a ∷ b ∷ c ∷ p in
    record-at n p (omega arith) k (le_of_suc-le-suc h) ∙ (λ j. record { prime = get_or w (sym t j) 0; active = get_or w (sym u j) 0; through = get_or w (sym v j) 0 })

pub length-in : (n : ℕ) (p : List ℕ) → length p ≡ 3 * n → length (records_in p) ≡ n
length-in n p e = omega (arith, length-records (records_in p), ap length (records-words n p e))

-- the first i records of two lists are the same
abbrev pub SameTo : List Process → List Process → ℕ → Type 0
SameTo xs ys i = (k : ℕ) → k < i → get_or xs k no_process ≡ get_or ys k no_process

pub same_more : (xs ys : List Process) (i : ℕ) → i < length xs → SameTo xs ys i → SameTo (set xs i (get_or ys i no_process)) ys (i + 1)
same_more xs ys i h t =
    let x : Process = get_or ys i no_process in
    below_more (λ k. get_or (set xs i x) k no_process ≡ get_or ys k no_process) i
    (λ k lt. get_or-set_other xs i k x no_process (λ e. omega arith) ∙ t k lt) (get_or-set_same xs i x no_process h)

pub same-all : (n : ℕ) (xs ys : List Process) → length xs ≡ n → length ys ≡ n → SameTo xs ys n → xs ≡ ys
same-all n xs ys l m t = ext_get_or no_process xs ys (l ∙ sym m) (λ k lt. t k (omega arith))

-- a record is written, in three stores
module _ (p : List ℕ) (i : ℕ) (x : Process) where
  abbrev pub written : List ℕ
  written = set (set (set p (3 * i) x.prime) (3 * i + 1) x.active) (3 * i + 2) x.through

  other : (j : ℕ) → (j ≡ 3 * i → ⊥) → (j ≡ 3 * i + 1 → ⊥) → (j ≡ 3 * i + 2 → ⊥) → get_or written j 0 ≡ get_or p j 0
  other j a b c =
      get_or-set_other (set (set p (3 * i) x.prime) (3 * i + 1) x.active) (3 * i + 2) j x.through 0 c
      ∙ get_or-set_other (set p (3 * i) x.prime) (3 * i + 1) j x.active 0 b
      ∙ get_or-set_other p (3 * i) j x.prime 0 a

  elsewhere : (k : ℕ) → (k ≡ i → ⊥) → record_at written k ≡ record_at p k
  elsewhere k ne =
      λ j.
      record {
        prime = other (3 * k) (λ e. omega arith) (λ e. omega arith) (λ e. omega arith) j;
        active = other (3 * k + 1) (λ e. omega arith) (λ e. omega arith) (λ e. omega arith) j;
        through = other (3 * k + 2) (λ e. omega arith) (λ e. omega arith) (λ e. omega arith) j;
      }

  here : 3 * i + 2 < length p → record_at written i ≡ x
  here h =
      λ j.
      record {
        prime = (get_or-set_other (set (set p (3 * i) x.prime) (3 * i + 1) x.active) (3 * i + 2) (3 * i) x.through 0 (λ e. omega arith)
            ∙ get_or-set_other (set p (3 * i) x.prime) (3 * i + 1) (3 * i) x.active 0 (λ e. omega arith)
            ∙ get_or-set_same p (3 * i) x.prime 0 (omega arith)) j;
        active = (get_or-set_other (set (set p (3 * i) x.prime) (3 * i + 1) x.active) (3 * i + 2) (3 * i + 1) x.through 0 (λ e. omega arith)
            ∙ get_or-set_same (set p (3 * i) x.prime) (3 * i + 1) x.active 0 (simp length-set (omega arith))) j;
        through = get_or-set_same (set (set p (3 * i) x.prime) (3 * i + 1) x.active) (3 * i + 2) x.through 0 (simp length-set (omega arith)) j;
      }

-- one record of the words is written
pub records-written : (p : List ℕ) (i : ℕ) (x : Process) → length p ≡ 192 → i < 64 → records_in (written p i x) ≡ set (records_in p) i x
records-written p i x e h =
    same-all 64 (records_in (written p i x)) (set (records_in p) i x) (length-in 64 (written p i x) long) (simp length-set (length-in 64 p e)) each
  where
    long : length (written p i x) ≡ 3 * 64
    long = simp length-set e

    each : SameTo (records_in (written p i x)) (set (records_in p) i x) 64
    each k lt = record-at 64 (written p i x) long k lt ∙ pick (eqb k i) refl
      where
        pick : (b : Bool) → eqb k i ≡ b → record_at (written p i x) k ≡ get_or (set (records_in p) i x) k no_process
        pick true q =
            rw (eqb-true k i q) (here p i x (omega arith) ∙ sym (get_or-set_same (records_in p) i x no_process (omega (arith, length-in 64 p e))))
        pick false q =
            let ne : k ≡ i → ⊥ = eqb-false k i q in
            elsewhere p i x k ne ∙ sym (record-at 64 p e k lt) ∙ sym (get_or-set_other (records_in p) i k x no_process ne)

-- ---- whether a process is listed
listed-none : (ps : List Process) (n : ℕ) → n ≡ 0 → false ≡ is_listed ps n
unfolding is_listed process_at no_process some
listed-none ps n e = rw e refl

listed-far : (m : ℕ) (p : List ℕ) (n : ℕ) → length p ≡ 3 * m → m < n → false ≡ is_listed (records_in p) n
unfolding is_listed process_at no_process some
listed-far m p zero e h = absurd (not-suc-le-zero h)
listed-far m p (suc i) e h = rw (get_or-eq_default (records_in p) no_process {n = i} (omega (arith, length-in m p e))) refl

listed_at : (m : ℕ) (p : List ℕ) (n : ℕ) → length p ≡ 3 * m → (n ≡ 0 → ⊥) → n ≤ m → ltb 0 (get_or p (3 * (n - 1)) 0) ≡ is_listed (records_in p) n
unfolding is_listed process_at some
listed_at m p zero e z h = absurd (z refl)
listed_at m p (suc i) e z h =
    ap (λ (k : ℕ). ltb 0 (get_or p (3 * k) 0)) (omega arith) ∙ sym (ap (λ (x : Process). ltb 0 x.prime) (record-at m p e i h))

-- by the number less 1, which wraps where there is none
pub listed-wraps : (p : List ℕ) (n w : ℕ) → length p ≡ 192 → w < 2 ^ 32 → (w + 1) % 2 ^ 32 ≡ n → ltb w 64 && ltb 0 (get_or p (3 * (w % 64)) 0) ≡ is_listed (records_in p) n
listed-wraps p n w e h z = elim (dec_lt w 64) [ yes lt ↦ near lt | no ge ↦ rw (le-ltb w 64 (omega arith)) (far (omega arith) n z) ]
  where
    near : w < 64 → ltb w 64 && ltb 0 (get_or p (3 * (w % 64)) 0) ≡ is_listed (records_in p) n
    near lt =
        rw (lt-ltb w 64 lt)
        (ap (λ (k : ℕ). ltb 0 (get_or p (3 * k) 0)) (omega arith) ∙ listed_at 64 p n e (λ q. omega arith) (omega arith))

    far : 64 ≤ w → (k : ℕ) → (w + 1) % 2 ^ 32 ≡ k → false ≡ is_listed (records_in p) k
    far ge zero q = listed-none (records_in p) 0 refl
    far ge (suc k) q = listed-far 64 p (suc k) e (omega arith)

-- ---- a record replaced
at_set : (xs : List Process) (i : ℕ) (x : Process) → i < length xs → (j : ℕ) → get_or (set xs i x) j no_process ≡ (if eqb j i then x else get_or xs j no_process)
at_set [] i x h j = absurd (omega arith)
at_set (y ∷ xs) zero x h zero = refl
at_set (y ∷ xs) zero x h (suc j) = rw (ne_eqb (suc j) 0 (λ z. omega arith)) refl
at_set (y ∷ xs) (suc i) x h zero = rw (ne_eqb 0 (suc i) (λ z. omega arith)) refl
at_set (y ∷ xs) (suc i) x h (suc j) = at_set xs i x (omega arith) j ∙ ap (λ b. cond b x (get_or xs j no_process)) (suc-eqb j i)
  where
    suc-eqb : (a b : ℕ) → eqb a b ≡ eqb (suc a) (suc b)
    suc-eqb a b = bool_eq (eqb a b) (eqb (suc a) (suc b)) (λ e. let z = eqb-true a b e in eq-eqb (suc a) (suc b) (omega arith)) (λ e. let z = eqb-true (suc a) (suc b) e in eq-eqb a b (omega arith))

pub set_at : (ps : List Process) (p q : ℕ) (x : Process) → 0 < p → p ≤ length ps → process_at (set ps (p - 1) x) q ≡ (if eqb q p then x else process_at ps q)
unfolding process_at
set_at ps p zero x lo hi = rw (ne_eqb 0 p (λ z. omega arith)) refl
set_at ps p (suc j) x lo hi = at_set ps (p - 1) x (omega arith) j ∙ ap (λ b. cond b x (get_or ps j no_process)) same
  where
    same : eqb j (p - 1) ≡ eqb (suc j) p
    same = bool_eq (eqb j (p - 1)) (eqb (suc j) p) (λ e. let z = eqb-true j (p - 1) e in eq-eqb (suc j) p (omega arith)) (λ e. let z = eqb-true (suc j) p e in eq-eqb j (p - 1) (omega arith))
