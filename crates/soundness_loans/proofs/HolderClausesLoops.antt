-- The loop over the requests, the newest first, and the rows once all are listed.
use Prim.Native.Nat.{ℕ, zero, suc, ◌-◌, ◌<◌, ◌≤◌}
use mathlib.Core.Bool.{Bool, true, false, not, cond, ◌&&◌, ◌||◌}
use mathlib.Core.List.{List, [], ◌∷◌, ◌++◌, append_assoc, map}
use mathlib.Core.Path.{◌≡◌, refl, ap, sym, subst, ◌∙◌}
use mathlib.Core.Logic.{⊎_elim}
use native.Mathlib.Nat.{eq-or-lt_of_le, le_of_suc-le-suc}
use native.Mathlib.Omega.{arith}
use borrow.Author.Tests.{eqb-false, ne_eqb}
use lib.Dec.{eqb}
use lib.ListN.{length, get_or, replicate, length-replicate}
use Rattle.rows.specs.declared.Row.{Row}
use Rattle.rows.specs.declared.Request.{Request}
use Rattle.rows.specs.Lists.{any, all, rises, some}
use Rattle.rows.specs.Codes.{is_system}
use Rattle.rows.specs.Tables.{State, lists}
use Rattle.rows.specs.Sound.{is_fetched, older_fetched, awaits_fetch, same, system_holds}
use Rattle.rows.specs.Layout.{request_at, requests_to, row_slot}
use Rattle.rows.specs.vocabulary.Represents.{Represents}
use Rattle.soundness_loans.specs.vocabulary.Clauses.{items_listable, items_right, copies_seen, listing_code, listing_of, code_at, list_all, item_slots, listed_once, relisted, held_to, all_of_holders}
use Rattle.rows.proofs.Bools.{clash, and_l, and_r, or_r, and-true, or-false, pos-some}
use Rattle.rows.proofs.Slots.{RowWords, represented-well, row-words-at, slot-number}
use Rattle.soundness_loans.proofs.RequestClauses.{requests-read, all_both}
use Rattle.soundness_loans.proofs.HolderClausesOlder.{fetched_after, older-after}
use Rattle.soundness_loans.proofs.HolderClauses.{code-none, length-list-all, listed-now, Lent, code-turn}

-- ---- the loop over the requests, the newest first
module _ (rs : List Row) where
  -- vs are the requests to come: what is listed decides, or else they do
  pub record Listing (whole vs : List Request) (l : List ℕ) (older : Bool) : Type 0 where
    pub long : length l ≡ 1024
    pub codes : (e : ℕ) → listing_of whole e ≡ cond (eqb (code_at l (row_slot rs e)) 0) (listing_of vs e) (code_at l (row_slot rs e))
    pub told : older && fetched_after (λ e. some (code_at l (row_slot rs e))) vs ≡ fetched_after (λ e. false) whole

  pub listing_start : (vs : List Request) → Listing vs vs (replicate 1024 0) true
  unfolding some
  listing_start vs =
      record {
        long = length-replicate {A = ℕ} 1024 0;
        codes = λ e. sym (ap (λ (n : ℕ). cond (eqb n 0) (listing_of vs e) n) (code-none 1024 (row_slot rs e)));
        told = ap (λ (L : ℕ → Bool). fetched_after L vs) (λ i e. some (code-none 1024 (row_slot rs e) i));
      }

  pub listing-end : (whole : List Request) (l : List ℕ) (older : Bool) → Listing whole [] l older
      → (older ≡ fetched_after (λ e. false) whole) × ((e : ℕ) → listing_of whole e ≡ code_at l (row_slot rs e))
  unfolding fetched_after listing_of
  listing-end whole l older p = (sym (and-true older) ∙ p.told, (λ e. p.codes e ∙ same_code (code_at l (row_slot rs e))))
    where
      same_code : (n : ℕ) → cond (eqb n 0) 0 n ≡ n
      same_code zero = refl
      same_code (suc n) = rw (ne_eqb (suc n) 0 (λ e. omega arith)) refl

-- a turn
module _ (b : Bool) (code y c : ℕ) (pos : 0 < code) where
  code_is : cond (eqb c 0) (cond b code y) c ≡ cond (eqb (listed-now b code c) 0) y (listed-now b code c)
  code_is = pick b (eqb c 0) refl
    where
      pick : (b d : Bool) → eqb c 0 ≡ d → cond d (cond b code y) c ≡ cond (eqb (cond (b && d) code c) 0) y (cond (b && d) code c)
      pick true true q = rw (ne_eqb code 0 (λ e. omega arith)) refl
      pick true false q = rw q refl
      pick false true q = rw q refl
      pick false false q = rw q refl

  some_is : some (listed-now b code c) ≡ some c || b
  some_is = pick b (eqb c 0) refl
    where
      positive : (n : ℕ) → (n ≡ 0 → ⊥) → 0 < n
      positive n h = omega arith

      pick : (b d : Bool) → eqb c 0 ≡ d → some (cond (b && d) code c) ≡ some c || b
      pick true true q = rw (pos-some code pos) (sym (or_r (some c) true refl))
      pick true false q = rw (pos-some c (positive c (eqb-false c 0 q))) refl
      pick false d q = sym (or-false (some c))

any-map : (f : ℕ → Bool) (g : ℕ → ℕ) (ns : List ℕ) → any f (map g ns) ≡ any (λ n. f (g n)) ns
unfolding any
any-map f g [] = refl
any-map f g (n ∷ ns) = ap (λ (b : Bool). f (g n) || b) (any-map f g ns)

code-pos : (b : Bool) → 0 < listing_code b
unfolding listing_code
code-pos true = omega arith
code-pos false = omega arith

pub listing-turn : {st : State} {t : List ℕ} → Represents t st → (whole vs : List Request) (l l' : List ℕ) (older r : Bool) (v : Request) → Lent st v
    → r ≡ listed_once l st.rows v → l' ≡ relisted l st.rows v
    → Listing st.rows whole (v ∷ vs) l older → Listing st.rows whole vs l' (r && older)
unfolding listing_of fetched_after
listing-turn {st} rep whole vs l l' older r v lent e d p =
    subst (λ (x : List ℕ). Listing st.rows whole vs x (r && older)) (sym d)
    (record {
      long = length-list-all code slots l ∙ p.long;
      codes = λ x. p.codes x ∙ code_is (lists x v) code (listing_of vs x) (old x) pos ∙ sym (ap (λ (n : ℕ). cond (eqb n 0) (listing_of vs x) n) (now x));
      told =
          (λ i. (check i && older) && fetched_after (λ x. more x i) vs)
          ∙ swap (is_fetched v || not (any (λ x. some (old x)) v.items)) older (fetched_after (λ x. some (old x) || lists x v) vs)
          ∙ p.told;
    })
  where
    slots : List ℕ
    slots = item_slots st.rows v

    code : ℕ
    code = listing_code (is_fetched v)

    pos : 0 < code
    pos = code-pos (is_fetched v)

    old : ℕ → ℕ
    old x = code_at l (row_slot st.rows x)

    now : (x : ℕ) → code_at (list_all code slots l) (row_slot st.rows x) ≡ listed-now (lists x v) code (old x)
    now x = code-turn rep v lent code pos l p.long x

    more : (x : ℕ) → some (code_at (list_all code slots l) (row_slot st.rows x)) ≡ some (old x) || lists x v
    more x = ap some (now x) ∙ some_is (lists x v) code 0 (old x) pos

    check : r ≡ is_fetched v || not (any (λ x. some (old x)) v.items)
    check = e ∙ ap (λ (b : Bool). is_fetched v || not b) (any-map (λ s. some (code_at l s)) (row_slot st.rows) v.items)

    swap : (a b c : Bool) → (a && b) && c ≡ b && (a && c)
    swap true true c = refl
    swap true false c = refl
    swap false true c = refl
    swap false false c = refl

-- ---- the rows, once all requests are listed
awaits-is : (vs : List Request) (e : ℕ) → awaits_fetch vs e ≡ eqb (listing_of vs e) 2
unfolding awaits_fetch listing_of listing_code
awaits-is [] e = refl
awaits-is (v ∷ vs) e = pick (awaits-is vs e) (lists e v) (is_fetched v)
  where
    pick : awaits_fetch vs e ≡ eqb (listing_of vs e) 2 → (b f : Bool) → cond b (not f) (awaits_fetch vs e) ≡ eqb (cond b (cond f 1 2) (listing_of vs e)) 2
    pick ih true true = refl
    pick ih true false = refl
    pick ih false f = ih

pub held_rows : {st : State} {t : List ℕ} → Represents t st → (l : List ℕ) → ((e : ℕ) → listing_of st.requests e ≡ code_at l (row_slot st.rows e))
    → system_holds st.requests st.rows && copies_seen st.requests st.rows ≡ held_to t l (length st.rows)
unfolding system_holds copies_seen all held_to code_at row_slot
held_rows {st} {t} rep l codes = sym (all_both held seen st.rows) ∙ along [] st.rows refl
  where
    held : Row → Bool
    held r = same (is_system r.place) (awaits_fetch st.requests r.number)

    seen : Row → Bool
    seen r = eqb r.request 0 || some (listing_of st.requests r.number)

    along : (new old : List Row) → st.rows ≡ new ++ old → all (λ r. held r && seen r) old ≡ held_to t l (length old)
    along new [] e = refl
    along new (r ∷ old) e =
        λ i.
        (same (is_system (sym words.place i)) (waits i) && (eqb (sym words.request i) 0 || some (code i)))
        && along (new ++ (r ∷ [])) old (e ∙ sym (append_assoc new (r ∷ []) old)) i
      where
        words : RowWords t (length old) r old
        words = row-words-at rep new r old e

        slot : row_slot st.rows r.number ≡ suc (length old)
        slot =
            ap (λ (rs : List Row). row_slot rs r.number) e
            ∙ slot-number (λ r. r.number) new r old (ap (rises (λ r. r.number)) (sym e) ∙ (represented-well rep).rows-rise)

        code : listing_of st.requests r.number ≡ get_or l (length old) 0
        code = codes r.number ∙ ap (code_at l) slot

        waits : awaits_fetch st.requests r.number ≡ eqb (get_or l (length old) 0) 2
        waits = awaits-is st.requests r.number ∙ ap (λ (n : ℕ). eqb n 2) code

-- ---- over the slots of the requests
lent_at : (F : Request → Bool) (t : List ℕ) (m : ℕ) → all F (requests_to t m) ≡ true → (j : ℕ) → j < m → F (request_at t j) ≡ true
unfolding all requests_to
lent_at F t zero h j lt = absurd (omega arith)
lent_at F t (suc m) h j lt =
    ⊎_elim (λ e. ap (λ (k : ℕ). F (request_at t k)) e ∙ and_l (F (request_at t m)) (all F (requests_to t m)) h)
    (λ less. lent_at F t m (and_r (F (request_at t m)) (all F (requests_to t m)) h) j less) (eq-or-lt_of_le (le_of_suc-le-suc lt))

pub items-lent : {st : State} {t : List ℕ} → Represents t st → items_right st.rows st.requests ≡ true → (j : ℕ) → j < length st.requests → Lent st (request_at t j)
unfolding items_right
items-lent {st} {t} rep h j lt =
    lent_at (items_listable st.rows) t (length st.requests) (ap (all (items_listable st.rows)) (requests-read rep) ∙ h) j lt

-- the request before j is next
pub listing-next : {st : State} {t : List ℕ} → Represents t st → (whole : List Request) (j : ℕ) (l l' : List ℕ) (older r : Bool) → 0 < j → Lent st (request_at t (j - 1))
    → r ≡ listed_once l st.rows (request_at t (j - 1)) → l' ≡ relisted l st.rows (request_at t (j - 1))
    → Listing st.rows whole (requests_to t j) l older → Listing st.rows whole (requests_to t (j - 1)) l' (r && older)
unfolding requests_to
listing-next {st} {t} rep whole j l l' older r pos lent e d p =
    let before : j ≡ suc (j - 1) = omega arith in
    listing-turn rep whole (requests_to t (j - 1)) l l' older r (request_at t (j - 1)) lent e d (subst (λ (k : ℕ). Listing st.rows whole (requests_to t k) l older) before p)

-- all requests are listed, and the rows looked at
listed-end : {st : State} {t : List ℕ} → Represents t st → (n m : ℕ) → n ≡ length st.rows → m ≡ length st.requests
    → (j : ℕ) → j ≤ 0 → (l : List ℕ) (older held : Bool)
    → Listing st.rows (requests_to t m) (requests_to t j) l older → held ≡ held_to t l n → older && held ≡ older_fetched st.requests && (system_holds st.requests st.rows && copies_seen st.requests st.rows)
unfolding requests_to
listed-end {st} {t} rep n m e d j h l older held p q =
    let none : j ≡ 0 = omega arith in
    let whole : requests_to t m ≡ st.requests = ap (requests_to t) d ∙ requests-read rep in
    let (a, b) = listing-end st.rows (requests_to t m) l older (subst (λ (k : ℕ). Listing st.rows (requests_to t m) (requests_to t k) l older) none p) in
    let first : older ≡ older_fetched st.requests = a ∙ ap (fetched_after (λ x. false)) whole ∙ sym (older-after st) in
    let second : held ≡ system_holds st.requests st.rows && copies_seen st.requests st.rows = q ∙ ap (held_to t l) e ∙ sym (held_rows rep l (λ x. ap (λ (vs : List Request). listing_of vs x) (sym whole) ∙ b x)) in
    λ i. first i && second i

-- ---- the items of all requests
-- what is left decides, if all before may be listed
pub lent-next : (F : Request → Bool) (t : List ℕ) (j : ℕ) (whole : Bool) → 0 < j → F (request_at t (j - 1)) ≡ true → all F (requests_to t j) ≡ whole → all F (requests_to t (j - 1)) ≡ whole
unfolding all requests_to
lent-next F t j whole h e p =
    let before : j ≡ suc (j - 1) = omega arith in
    subst (λ (b : Bool). b && all F (requests_to t (j - 1)) ≡ whole) e (subst (λ (k : ℕ). all F (requests_to t k) ≡ whole) before p)

pub holders-end : {st : State} {t : List ℕ} → Represents t st → (n m : ℕ) → n ≡ length st.rows → m ≡ length st.requests
    → (j : ℕ) → j ≤ 0 → (l : List ℕ) (right held : Bool)
    → (right ≡ true → all (items_listable st.rows) (requests_to t j) ≡ all (items_listable st.rows) (requests_to t m))
    → (items_right st.rows st.requests ≡ true → Listing st.rows (requests_to t m) (requests_to t j) l right) → held ≡ held_to t l n → right && held ≡ all_of_holders st
unfolding requests_to items_right all
holders-end {st} {t} rep n m e d j h l right held lent p q = pick (all (items_listable st.rows) st.requests) refl right refl
  where
    whole : requests_to t m ≡ st.requests
    whole = ap (requests_to t) d ∙ requests-read rep

    none : j ≡ 0
    none = omega arith

    pick : (b : Bool) → all (items_listable st.rows) st.requests ≡ b → (r : Bool) → right ≡ r
        → right && held ≡ all (items_listable st.rows) st.requests && (older_fetched st.requests && (system_holds st.requests st.rows && copies_seen st.requests st.rows))
    pick true y r x = listed-end rep n m e d j h l right held (p y) q ∙ ap (λ (c : Bool). c && (older_fetched st.requests && (system_holds st.requests st.rows && copies_seen st.requests st.rows))) (sym y)
    pick false y false x = rw (x, y) refl
    pick false y true x =
        clash (sym (ap (all (items_listable st.rows)) whole) ∙ sym (lent x) ∙ ap (λ (k : ℕ). all (items_listable st.rows) (requests_to t k)) none) y
