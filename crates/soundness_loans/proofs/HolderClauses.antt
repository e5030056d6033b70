-- The listing of rows by requests: codes at slots, and what listing one request changes.
use Prim.Native.Nat.{ℕ, zero, suc, ◌<◌, ◌≤◌}
use mathlib.Core.Bool.{Bool, true, false, cond, ◌&&◌, ◌||◌}
use mathlib.Core.List.{List, [], ◌∷◌, map}
use mathlib.Core.Path.{◌≡◌, refl, ap, sym, ◌∙◌}
use native.Mathlib.Decide.{ℕ_discrete}
use native.Mathlib.Omega.{arith}
use borrow.Author.Tests.{eq-eqb, ne_eqb, le-leb, leb-true}
use lib.Dec.{leb, eqb}
use lib.ListN.{length, get_or, set, take, replicate, length-set}
use lib.Seq.{get_or-set_same, get_or-set_other}
use Rattle.rows.specs.declared.Request.{Request}
use Rattle.rows.specs.Lists.{any, all, member, some, nonzero}
use Rattle.rows.specs.Codes.{client_end, server_end, is_client, is_server, is_end}
use Rattle.rows.specs.Tables.{State, no_row, row_of, lists}
use Rattle.rows.specs.Sound.{is_fetched}
use Rattle.rows.specs.vocabulary.Represents.{Represents}
use Rattle.rows.specs.Layout.{row_slot}
use Rattle.soundness_loans.specs.vocabulary.Clauses.{is_copy_for, may_be_lent, items_listable, code_at, list_at, list_all, item_slots, listed_once, relisted}
use Rattle.rows.proofs.Bools.{false_of, clash, and_l, and_r, and_i, or-false, pos-some, eqb-self, all-at}
use Rattle.rows.proofs.Lists.{same-everywhere}
use Rattle.rows.proofs.Slots.{represented-well, slot-le, row-absent}
use Rattle.soundness_loans.proofs.RequestClauses.{no_slot, slot-test, member-nonzero}

or-true : (b : Bool) → b || true ≡ true
or-true true = refl
or-true false = refl

-- ---- codes of the listing, at a slot plus 1
pub code-none : (n x : ℕ) → code_at (replicate n zero) x ≡ 0
unfolding code_at
code-none n zero = refl
code-none n (suc i) = same-everywhere 0 n i

length-list-at : (code s : ℕ) (l : List ℕ) → length (list_at code s l) ≡ length l
unfolding list_at
length-list-at code zero l = refl
length-list-at code (suc i) l = pick (eqb (get_or l i 0) 0)
  where
    pick : (b : Bool) → length (cond b (set l i code) l) ≡ length l
    pick true = length-set l i code
    pick false = refl

pub length-list-all : (code : ℕ) (ss l : List ℕ) → length (list_all code ss l) ≡ length l
unfolding list_all
length-list-all code [] l = refl
length-list-all code (s ∷ ss) l = length-list-all code ss (list_at code s l) ∙ length-list-at code s l

code-list-at : (code s : ℕ) (l : List ℕ) (i : ℕ) → s ≤ length l → code_at (list_at code s l) (suc i) ≡ cond (eqb (suc i) s && eqb (get_or l i 0) 0) code (get_or l i 0)
unfolding code_at list_at
code-list-at code zero l i h = rw (ne_eqb (suc i) 0 (λ d. omega arith)) refl
code-list-at code (suc k) l i h =
    elim (ℕ_discrete i k) [
      | yes d ↦ rw (d, eqb-self (suc k)) (here (eqb (get_or l k 0) 0))
      | no d ↦ rw (ne_eqb (suc i) (suc k) (λ e. d (omega arith))) (there d (eqb (get_or l k 0) 0))
    ]
  where
    here : (b : Bool) → get_or (cond b (set l k code) l) k 0 ≡ cond b code (get_or l k 0)
    here true = get_or-set_same l k code 0 h
    here false = refl

    there : (i ≡ k → ⊥) → (b : Bool) → get_or (cond b (set l k code) l) i 0 ≡ get_or l i 0
    there d true = get_or-set_other l k i code 0 d
    there d false = refl

pub list-free : (code i : ℕ) (l : List ℕ) → get_or l i 0 ≡ 0 → list_at code (suc i) l ≡ set l i code
unfolding list_at
list-free code i l e = rw (eq-eqb (get_or l i 0) 0 e) refl

pub list-kept : (code i : ℕ) (l : List ℕ) → (get_or l i 0 ≡ 0 → ⊥) → list_at code (suc i) l ≡ l
unfolding list_at
list-kept code i l e = rw (ne_eqb (get_or l i 0) 0 e) refl

-- ---- four slots
-- one slot more of a list
pub list-more : (code k : ℕ) (ss l : List ℕ) → k < length ss → list_all code (take (suc k) ss) l ≡ list_at code (get_or ss k 0) (list_all code (take k ss) l)
unfolding list_all
list-more code k [] l h = absurd (omega arith)
list-more code zero (s ∷ ss) l h = refl
list-more code (suc k) (s ∷ ss) l h = list-more code k ss (list_at code s l) (omega arith)

or-both : (a b c : Bool) → a || (b || c) ≡ (a || b) || c
or-both true b c = refl
or-both false b c = refl

pub any-more : (f : ℕ → Bool) (k : ℕ) (ss : List ℕ) → k < length ss → any f (take (suc k) ss) ≡ any f (take k ss) || f (get_or ss k 0)
unfolding any
any-more f k [] h = absurd (omega arith)
any-more f zero (s ∷ ss) h = or-false (f s)
any-more f (suc k) (s ∷ ss) h = ap (λ (x : Bool). f s || x) (any-more f k ss (omega arith)) ∙ or-both (f s) (any f (take k ss)) (f (get_or ss k 0))

-- ---- after all slots of a list, each in the listing's range
abbrev pub Small : List ℕ → Type 0
Small ss = all (λ s. leb s 1024) ss ≡ true

-- the code of a slot, if it is one of those and not listed before
abbrev pub listed-now : Bool → ℕ → ℕ → ℕ
listed-now b code old = cond (b && eqb old 0) code old

code-list-all : (code : ℕ) → 0 < code → (ss l : List ℕ) → length l ≡ 1024 → Small ss → (i : ℕ)
    → code_at (list_all code ss l) (suc i) ≡ listed-now (member (suc i) ss) code (get_or l i 0)
unfolding list_all member all code_at
code-list-all code pos [] l long h i = refl
code-list-all code pos (s ∷ ss) l long h i =
    let small : s ≤ 1024 = leb-true s 1024 (and_l (leb s 1024) (all (λ s. leb s 1024) ss) h) in
    code-list-all code pos ss (list_at code s l) (length-list-at code s l ∙ long) (and_r (leb s 1024) (all (λ s. leb s 1024) ss) h) i
    ∙ ap (listed-now (member (suc i) ss) code) (code-list-at code s l i (omega arith))
    ∙ twice (eqb (suc i) s) (member (suc i) ss) (eqb (get_or l i 0) 0) refl
  where
    no_code : eqb code 0 ≡ false
    no_code = ne_eqb code 0 (λ e. omega arith)

    twice : (a b d : Bool) → eqb (get_or l i 0) 0 ≡ d → listed-now b code (cond (a && d) code (get_or l i 0)) ≡ cond ((a || b) && d) code (get_or l i 0)
    twice true true true q = rw no_code refl
    twice true false true q = refl
    twice true true false q = rw q refl
    twice true false false q = refl
    twice false true true q = rw q refl
    twice false true false q = rw q refl
    twice false false d q = refl

-- ---- by the numbers of rows
small-slots : {st : State} {t : List ℕ} → Represents t st → (es : List ℕ) → Small (map (row_slot st.rows) es)
unfolding all row_slot
small-slots rep [] = refl
small-slots {st} rep (e ∷ es) =
    and_i (leb (row_slot st.rows e) 1024) (all (λ s. leb s 1024) (map (row_slot st.rows) es))
    (le-leb (row_slot st.rows e) 1024 (omega (arith, slot-le (λ r. r.number) st.rows e, (represented-well rep).rows-fit))) (small-slots rep es)

-- what is asked of the items of a request
abbrev pub Lent : State → Request → Type 0
Lent st v = items_listable st.rows v ≡ true

-- an item that is there is a row
item-there : (st : State) (v : Request) → Lent st v → (e : ℕ) → lists e v ≡ true → row_slot st.rows e ≡ 0 → ⊥
unfolding lists may_be_lent is_copy_for is_end is_client is_server client_end server_end no_row some
item-there st v lent e h z =
    let here : some e ≡ true = and_l (some e) (member e v.items) h in
    let there : member e (nonzero v.items) ≡ true = member-nonzero e v.items here ∙ and_r (some e) (member e v.items) h in
    clash (all-at (λ e. may_be_lent v (row_of st.rows e)) (nonzero v.items) lent e there) (ap (may_be_lent v) (row-absent st.rows e z))

member-slot : {st : State} {t : List ℕ} → Represents t st → (e i : ℕ) → row_slot st.rows e ≡ suc i → (es : List ℕ)
    → member (suc i) (map (row_slot st.rows) es) ≡ member e es
unfolding member
member-slot rep e i d [] = refl
member-slot {st} rep e i d (a ∷ es) = rw (slot-test rep e i d a, member-slot rep e i d es) refl

-- a request that lists nothing changes nothing
slots-none : {st : State} {t : List ℕ} → Represents t st → (v : Request) → v.items ≡ 0 ∷ 0 ∷ 0 ∷ 0 ∷ [] → item_slots st.rows v ≡ 0 ∷ 0 ∷ 0 ∷ 0 ∷ []
slots-none {st} rep v e = ap (map (row_slot st.rows)) e ∙ (λ i. no_slot rep i ∷ no_slot rep i ∷ no_slot rep i ∷ no_slot rep i ∷ [])

pub once-none : {st : State} {t : List ℕ} → Represents t st → (v : Request) → v.items ≡ 0 ∷ 0 ∷ 0 ∷ 0 ∷ [] → (l : List ℕ) → true ≡ listed_once l st.rows v
unfolding any code_at some
once-none rep v e l = rw (slots-none rep v e) (sym (or-true (is_fetched v)))

pub list-none : {st : State} {t : List ℕ} → Represents t st → (v : Request) → v.items ≡ 0 ∷ 0 ∷ 0 ∷ 0 ∷ [] → (l : List ℕ) → l ≡ relisted l st.rows v
unfolding list_all list_at
list-none rep v e l = rw (slots-none rep v e) refl

-- the code of a row after a request was listed
pub code-turn : {st : State} {t : List ℕ} → Represents t st → (v : Request) → Lent st v → (code : ℕ) → 0 < code → (l : List ℕ) → length l ≡ 1024 → (e : ℕ)
    → code_at (list_all code (item_slots st.rows v) l) (row_slot st.rows e) ≡ listed-now (lists e v) code (code_at l (row_slot st.rows e))
unfolding code_at lists
code-turn {st} rep v lent code pos l long e = pick (row_slot st.rows e) refl
  where
    slots : List ℕ
    slots = item_slots st.rows v

    pick : (s : ℕ) → row_slot st.rows e ≡ s → code_at (list_all code slots l) s ≡ listed-now (lists e v) code (code_at l s)
    pick zero d = sym (ap (λ (b : Bool). listed-now b code 0) (false_of (lists e v) (λ h. item-there st v lent e h d)))
    pick (suc i) d =
        code-list-all code pos slots l long (small-slots rep v.items) i
        ∙ ap (λ (b : Bool). listed-now b code (get_or l i 0)) (member-slot rep e i d v.items ∙ sym (listed e d))
      where
        listed : (e : ℕ) → row_slot st.rows e ≡ suc i → lists e v ≡ member e v.items
        listed zero d = absurd (omega (arith, no_slot rep, d))
        listed (suc n) d = rw (pos-some (suc n) (omega arith)) refl
