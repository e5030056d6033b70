-- What an accepted opening text guarantees of its forms: each in range, of the right shape and given once; all that they name is listed.
use Prim.Native.Nat.{ℕ, zero, suc, ◌≤◌}
use native.Mathlib.Omega.{arith}
use mathlib.Core.Path.{◌≡◌, refl, subst}
use mathlib.Core.Bool.{Bool, true, false, not, cond, ◌&&◌, ◌||◌}
use mathlib.Core.List.{List, [], ◌∷◌}
use lib.ListN.{length}
use lib.Dec.{ltb, eqb}
use borrow.Author.Tests.{ltb-true, ltb-false, eqb-true}
use Rattle.rows.specs.Lists.{any, all, each, between}
use Rattle.rows.specs.Limits.{processes, nodes, most_entries, most_bytes}
use Rattle.rows.specs.Codes.{operation, subdirectory, is_operation, is_subdirectory}
use Rattle.rows.proofs.Bools.{and_l, and_r}
use Rattle.text.specs.declared.Entry.{Entry}
use Rattle.text.specs.Patterns.{form, whole, most_groups}
use Rattle.text.specs.Opening.{Form, node_form, process_form, Line, last_line, form_line, bad_line, FirstPass, read_to, stopped_by, Opening, opens, refused_at, operation_entry, subdirectory_entry, add_entry, entries_from, node_line, process_line, open_line, line_of, entry_ranged, gives_node, gives_process, form_refusal, first_pass, form_listed, missing_at, second_pass, opening_of, entries_in}

-- ---- the shape of an entry: an operation, or a subdirectory with no operation
unfoldable pub entry_shaped : Entry → Bool
entry_shaped e = is_operation e.kind || (is_subdirectory e.kind && eqb e.operation 0)

-- a form that was read has shaped entries
unfoldable pub Shaped : Line → Type 0
Shaped last_line = Unit {0}
Shaped (form_line f) = all entry_shaped (entries_in f) ≡ true
Shaped bad_line = Unit {0}

if-shaped : (b : Bool) (x y : Line) → Shaped x → Shaped y → Shaped (cond b x y)
if-shaped true x y p q = p
if-shaped false x y p q = q

pub entries-shaped : (n : ℕ) (s : List ℕ) (i : ℕ) → all entry_shaped (entries_from n s i).entries ≡ true
unfolding entries_from add_entry all entry_shaped operation_entry subdirectory_entry is_operation is_subdirectory operation subdirectory
entries-shaped zero s i = refl
entries-shaped (suc n) s i =
    let o = form s i " (op # # #)" in
    let d = form s i " (dir # #)" in
    pick o.good d.good (entries-shaped n s o.next) (entries-shaped n s d.next)
  where
    pick : (a b : Bool) → all entry_shaped (entries_from n s (form s i " (op # # #)").next).entries ≡ true → all entry_shaped (entries_from n s (form s i " (dir # #)").next).entries ≡ true
        → all entry_shaped
        (cond (a || b)
        (add_entry (cond a (operation_entry (form s i " (op # # #)")) (subdirectory_entry (form s i " (dir # #)")))
        (entries_from n s (cond a (form s i " (op # # #)").next (form s i " (dir # #)").next))) (record { entries = []; next = i })).entries ≡ true
    pick true b p q = p
    pick false true p q = q
    pick false false p q = refl

pub line-shaped : (s : List ℕ) → Shaped (line_of s)
unfolding line_of node_line process_line open_line Shaped all entries_in
line-shaped s =
    let f = form s 0 "(node #" in
    let g = entries_from most_groups s f.next in
    let h = form s 0 "(process # #)\n" in
    let e = cond (whole s (form s 0 "(open)\n")) last_line bad_line in
    let p = cond (whole s h) (form_line (process_form h.b h.c)) e in
    if-shaped (ltb (suc most_bytes) (length s)) bad_line (cond (f.good && whole s (form s g.next ")\n")) (form_line (node_form f.c g.entries)) p) tt
    (if-shaped (f.good && whole s (form s g.next ")\n")) (form_line (node_form f.c g.entries)) p (entries-shaped most_groups s f.next)
    (if-shaped (whole s h) (form_line (process_form h.b h.c)) e refl (if-shaped (whole s (form s 0 "(open)\n")) last_line bad_line tt tt)))

-- ---- the first pass: each form is not refused after those older, and has shaped entries
unfoldable pub form_passed : Form → List Form → Bool
form_passed f older = eqb (form_refusal older f) 0 && all entry_shaped (entries_in f)

unfoldable ReadAll : FirstPass → Type 0
ReadAll (read_to fs rest) = each form_passed fs ≡ true
ReadAll (stopped_by k n) = Unit {0}

first-pass : (ls : List (List ℕ)) (fs : List Form) (n : ℕ) → each form_passed fs ≡ true → ReadAll (first_pass fs n ls)
unfolding first_pass ReadAll Shaped each form_passed
first-pass [] fs n h = tt
first-pass (l ∷ ls) fs n h = pick (λ f. first-pass ls (f ∷ fs) (suc n)) (line_of l) (line-shaped l)
  where
    refusal : (f : Form) → (each form_passed (f ∷ fs) ≡ true → ReadAll (first_pass (f ∷ fs) (suc n) ls)) → all entry_shaped (entries_in f) ≡ true → (b : Bool) → eqb (form_refusal fs f) 0 ≡ b
        → ReadAll (elim b [ true ↦ first_pass (f ∷ fs) (suc n) ls | false ↦ stopped_by (form_refusal fs f) n ])
    refusal f ih s true e = ih (rw (e, s) h)
    refusal f ih s false e = tt

    pick : ((f : Form) → each form_passed (f ∷ fs) ≡ true → ReadAll (first_pass (f ∷ fs) (suc n) ls)) → (x : Line) → Shaped x
        → ReadAll (elim x [
          | last_line ↦ read_to fs ls
          | form_line f ↦ elim (eqb (form_refusal fs f) 0) [ true ↦ first_pass (f ∷ fs) (suc n) ls | false ↦ stopped_by (form_refusal fs f) n ]
          | bad_line ↦ stopped_by 2 n
        ])
    pick ih last_line s = h
    pick ih (form_line f) s = refusal f (ih f) s (eqb (form_refusal fs f) 0) refl
    pick ih bad_line s = tt

pub read-passed : (ls rest : List (List ℕ)) (fs : List Form) → first_pass [] 1 ls ≡ read_to fs rest → each form_passed fs ≡ true
unfolding ReadAll each
read-passed ls rest fs e = subst ReadAll e (first-pass ls [] 1 refl)

-- ---- the second pass: all that is named is listed
missing-none : (fs gs : List Form) → missing_at fs gs ≡ 0 → all (form_listed fs) gs ≡ true
unfolding missing_at all
missing-none fs [] e = refl
missing-none fs (f ∷ older) e = pick (missing-none fs older) (ltb 0 (missing_at fs older)) refl (form_listed fs f) e
  where
    pick : (missing_at fs older ≡ 0 → all (form_listed fs) older ≡ true) → (b : Bool) → ltb 0 (missing_at fs older) ≡ b → (c : Bool)
        → cond b (missing_at fs older) (cond c 0 (suc (length older))) ≡ 0 → c && all (form_listed fs) older ≡ true
    pick ih true q c e = absurd (let h = ltb-true 0 (missing_at fs older) q in omega arith)
    pick ih false q true e = ih (let h = ltb-false 0 (missing_at fs older) q in omega arith)
    pick ih false q false e = absurd (omega arith)

pub record Good (fs : List Form) : Type 0 where
  pub passed : each form_passed fs ≡ true
  pub listed : all (form_listed fs) fs ≡ true

unfoldable GoodOpening : Opening → Type 0
GoodOpening (opens fs rest) = Good fs
GoodOpening (refused_at k n) = Unit {0}

second-pass : (x : FirstPass) → ReadAll x → GoodOpening (second_pass x)
unfolding second_pass ReadAll GoodOpening
second-pass (stopped_by k n) h = tt
second-pass (read_to fs rest) h = pick (eqb (missing_at fs fs) 0) refl
  where
    pick : (b : Bool) → eqb (missing_at fs fs) 0 ≡ b → GoodOpening (cond b (opens fs rest) (refused_at 5 (missing_at fs fs)))
    pick true e = record { passed = h; listed = missing-none fs fs (eqb-true (missing_at fs fs) 0 e) }
    pick false e = tt

pub opening-good : (ls rest : List (List ℕ)) (fs : List Form) → opening_of ls ≡ opens fs rest → Good fs
unfolding opening_of GoodOpening each
opening-good ls rest fs e = subst GoodOpening e (second-pass (first_pass [] 1 ls) (first-pass ls [] 1 refl))

-- ---- a form that passed
pub record NodePassed (older : List Form) (n : ℕ) (es : List Entry) : Type 0 where
  pub node : between 1 nodes n ≡ true
  pub ranged : all entry_ranged es ≡ true
  pub shaped : all entry_shaped es ≡ true
  pub fresh : any (gives_node n) older ≡ false
  pub few : length es ≤ most_entries

pub record ProcessPassed (older : List Form) (p n : ℕ) : Type 0 where
  pub process : between 1 processes p ≡ true
  pub node : between 1 nodes n ≡ true
  pub fresh : any (gives_process p) older ≡ false

pub node-passed : (older : List Form) (n : ℕ) (es : List Entry) → form_passed (node_form n es) older ≡ true → NodePassed older n es
unfolding form_passed form_refusal entries_in
node-passed older n es h =
    pick (between 1 nodes n && all entry_ranged es) refl (any (gives_node n) older) refl (ltb most_entries (length es)) refl
    (eqb-true (form_refusal older (node_form n es)) 0 (and_l (eqb (form_refusal older (node_form n es)) 0) (all entry_shaped es) h))
  where
    pick : (a : Bool) → between 1 nodes n && all entry_ranged es ≡ a → (b : Bool) → any (gives_node n) older ≡ b → (c : Bool) → ltb most_entries (length es) ≡ c
        → ◌≡◌ {A = ℕ} (cond (not a) 3 (cond b 4 (cond c 6 0))) 0 → NodePassed older n es
    pick false ea b eb c ec z = absurd (omega arith)
    pick true ea true eb c ec z = absurd (omega arith)
    pick true ea false eb true ec z = absurd (omega arith)
    pick true ea false eb false ec z =
        record {
          node = and_l (between 1 nodes n) (all entry_ranged es) ea;
          ranged = and_r (between 1 nodes n) (all entry_ranged es) ea;
          shaped = and_r (eqb (form_refusal older (node_form n es)) 0) (all entry_shaped es) h;
          fresh = eb;
          few = ltb-false most_entries (length es) ec;
        }

pub process-passed : (older : List Form) (p n : ℕ) → form_passed (process_form p n) older ≡ true → ProcessPassed older p n
unfolding form_passed form_refusal entries_in
process-passed older p n h =
    pick (between 1 processes p && between 1 nodes n) refl (any (gives_process p) older) refl
    (eqb-true (form_refusal older (process_form p n)) 0 (and_l (eqb (form_refusal older (process_form p n)) 0) (all entry_shaped []) h))
  where
    pick : (a : Bool) → between 1 processes p && between 1 nodes n ≡ a → (b : Bool) → any (gives_process p) older ≡ b → ◌≡◌ {A = ℕ} (cond (not a) 3 (cond b 4 0)) 0 → ProcessPassed older p n
    pick false ea b eb z = absurd (omega arith)
    pick true ea true eb z = absurd (omega arith)
    pick true ea false eb z = record { process = and_l (between 1 processes p) (between 1 nodes n) ea; node = and_r (between 1 processes p) (between 1 nodes n) ea; fresh = eb }
