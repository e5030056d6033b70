-- The clauses of one request, over the words of its slot and the slots of the rows that it names.
use Prim.Native.Nat.{ℕ, zero, suc, ◌+◌, ◌<◌, ◌≤◌, zero-le}
use mathlib.Core.Bool.{Bool, true, false, not, cond, ◌&&◌, ◌||◌}
use mathlib.Core.List.{List, [], ◌∷◌}
use mathlib.Core.Path.{◌≡◌, refl, ap, sym, ◌∙◌}
use mathlib.Core.Logic.{◌⊎◌, inl, inr, ⊎_elim}
use native.Mathlib.Nat.{zero-add}
use native.Mathlib.Numerals.{add-one}
use native.Mathlib.Omega.{arith}
use borrow.Author.Tests.{eqb-true, eq-eqb, lt-ltb}
use lib.Dec.{ltb, eqb}
use lib.ListN.{length, get_or, drop}
use Rattle.std.specs.Prelude.{nat_eq}
use Rattle.std.specs.List.{list_any}
use Rattle.std.proofs.Math.Seq.{drop-cons}
use Rattle.std.proofs.lemmas.List.{drop_all}
use Rattle.rows.specs.declared.Row.{Row}
use Rattle.rows.specs.declared.Request.{Request}
use Rattle.rows.specs.Lists.{filter, all, rises, member, distinct, some, nonzero}
use Rattle.rows.specs.Limits.{row_slots, request_slots}
use Rattle.rows.specs.Codes.{client_end, server_end, is_client, is_server, is_end}
use Rattle.rows.specs.Tables.{State, no_row, row_of}
use Rattle.rows.specs.Sound.{items_few, port_stands}
use Rattle.rows.specs.Layout.{row_columns, request_columns, requests_at, request_at, requests_to, row_slot}
use Rattle.rows.specs.vocabulary.Represents.{Represents, sources_older}
use Rattle.soundness_loans.specs.vocabulary.Clauses.{items_listable, is_copy_for, may_be_lent, ViasOlder, word_at, standing_port}
use Rattle.rows.proofs.Bools.{eqb-sym, bool_eq, clash, and-true}
use Rattle.rows.proofs.LayoutRequests.{requests-back}
use Rattle.rows.proofs.Keyed.{older_of, rises-rest}
use Rattle.rows.proofs.Slots.{represented-well, represented-request, row_cut, row-found, row-none, row-absent, row-words, request-read, slot-zero, newer_of, rises-old, source-rises, sources-among, via-of}

-- ---- the words of a request's slot
module _ (t : List ℕ) (j : ℕ) where
  pub number_word : get_or t (10240 + j) 0 ≡ (request_at t j).number
  number_word = ap (λ (v : Request). v.number) (request-read t j)

-- one request more
pub all-next : (F : Request → Bool) (t : List ℕ) (j : ℕ) {a b : Bool} → a ≡ F (request_at t j) → b ≡ all F (requests_to t j) → a && b ≡ all F (requests_to t (j + 1))
unfolding all requests_to
all-next F t j p q = rw (add-one j) (λ i. p i && q i)

-- ---- the slot of a row
module _ {st : State} {t : List ℕ} (rep : Represents t st) where
  -- all requests are read
  pub requests-read : requests_to t (length st.requests) ≡ st.requests
  unfolding items_few row_slots request_slots row_columns request_columns requests_at
  requests-read = requests-back t st.requests (represented-well rep).requests-fit (represented-request rep) (represented-well rep).items-few

  pub no_slot : row_slot st.rows 0 ≡ 0
  unfolding row_slot
  no_slot = slot-zero (λ r. r.number) st.rows (represented-well rep).rows-rise

  pub kind-word : (x : ℕ) → word_at t 1024 (row_slot st.rows x) ≡ (row_of st.rows x).kind
  unfolding word_at no_row
  kind-word x = pick (row_slot st.rows x) refl
    where
      pick : (s : ℕ) → row_slot st.rows x ≡ s → word_at t 1024 s ≡ (row_of st.rows x).kind
      pick zero e = sym (ap (λ (r : Row). r.kind) (row-absent st.rows x e))
      pick (suc i) e = (row-words rep x i e).kind

  pub bears-word : (x : ℕ) → word_at t 9216 (row_slot st.rows x) ≡ (row_of st.rows x).request
  unfolding word_at no_row
  bears-word x = pick (row_slot st.rows x) refl
    where
      pick : (s : ℕ) → row_slot st.rows x ≡ s → word_at t 9216 s ≡ (row_of st.rows x).request
      pick zero e = sym (ap (λ (r : Row). r.request) (row-absent st.rows x e))
      pick (suc i) e = (row-words rep x i e).request

  -- two numbers at one slot are the same
  pub slot_same : (a b i : ℕ) → row_slot st.rows a ≡ suc i → row_slot st.rows b ≡ suc i → a ≡ b
  slot_same a b i p q =
      sym (row-found st.rows a i p).1 ∙ sym (row-words rep a i p).number ∙ (row-words rep b i q).number ∙ (row-found st.rows b i q).1

  pub slot-test : (a i : ℕ) → row_slot st.rows a ≡ suc i → (b : ℕ) → eqb (suc i) (row_slot st.rows b) ≡ eqb a b
  slot-test a i e b =
      bool_eq (eqb (suc i) (row_slot st.rows b)) (eqb a b) (λ d. eq-eqb a b (slot_same a b i e (sym (eqb-true (suc i) (row_slot st.rows b) d))))
      (λ d. eq-eqb (suc i) (row_slot st.rows b) (sym e ∙ ap (row_slot st.rows) (eqb-true a b d)))

  -- a row found by a number has it, or is none
  older-end : (e q : ℕ) → is_end (row_of st.rows e).kind && ltb e q ≡ is_end (row_of st.rows e).kind && ltb (row_of st.rows e).number q
  unfolding is_end is_client is_server client_end server_end no_row
  older-end e q = pick (row_slot st.rows e) refl
    where
      pick : (s : ℕ) → row_slot st.rows e ≡ s → is_end (row_of st.rows e).kind && ltb e q ≡ is_end (row_of st.rows e).kind && ltb (row_of st.rows e).number q
      pick zero d = rw (row-absent st.rows e d) refl
      pick (suc i) d = ap (λ (n : ℕ). is_end (row_of st.rows e).kind && ltb n q) (sym (row-found st.rows e i d).1)

  -- the number at the slot of a row's second source
  number-back : (n : ℕ) → (n ≡ 0) ⊎ (row_slot st.rows n ≡ 0 → ⊥) → word_at t 0 (row_slot st.rows n) ≡ n
  unfolding word_at
  number-back n among = pick (row_slot st.rows n) refl
    where
      pick : (s : ℕ) → row_slot st.rows n ≡ s → word_at t 0 s ≡ n
      pick zero e = ⊎_elim (λ z. sym z) (λ h. absurd (h e)) among
      pick (suc k) e = ap (λ (i : ℕ). get_or t i 0) (zero-add k) ∙ (row-words rep n k e).number ∙ (row-found st.rows n k e).1

  pub via-word : (x : ℕ) → word_at t 0 (word_at t 7168 (row_slot st.rows x)) ≡ (row_of st.rows x).via
  unfolding word_at no_row
  via-word x = pick (row_slot st.rows x) refl
    where
      row : Row
      row = row_of st.rows x

      newer : List Row
      newer = newer_of (λ r. r.number) st.rows x

      older : List Row
      older = older_of (λ r. r.number) st.rows x

      there : (i : ℕ) → row_slot st.rows x ≡ suc i → (row.via ≡ 0) ⊎ (row_slot st.rows row.via ≡ 0 → ⊥)
      there i e =
          let cut = (row_cut st.rows x i e).0 in
          let up = ap (rises (λ r. r.number)) (sym cut) ∙ (represented-well rep).rows-rise in
          let up-old = rises-rest (λ r. r.number) row older (rises-old (λ r. r.number) newer (row ∷ older) up) in
          ⊎_elim inl
          (λ m. inr (λ z. clash m (row-none older row.via (sym (source-rises older up-old row.via) ∙ (via-of st (represented-well rep) x i e).0 ∙ z))))
          (sources-among newer row older up (ap sources_older (sym cut) ∙ (represented-well rep).sources-old)).1

      pick : (s : ℕ) → row_slot st.rows x ≡ s → word_at t 0 (word_at t 7168 s) ≡ row.via
      pick zero e = sym (ap (λ (r : Row). r.via) (row-absent st.rows x e))
      pick (suc i) e = ap (word_at t 0) ((row-words rep x i e).via ∙ (via-of st (represented-well rep) x i e).0) ∙ number-back row.via (there i e)

  pub copy-for : (v : Request) (e q port bears over : ℕ) → q ≡ v.number → port ≡ v.port → bears ≡ (row_of st.rows e).request → over ≡ (row_of st.rows e).via
      → ltb 0 bears && (eqb bears q && (ltb q e && eqb port over)) ≡ is_copy_for v (row_of st.rows e)
  unfolding is_copy_for some no_row
  copy-for v e q port bears over a b c d = rw (a, b, c, d) (pick (row_slot st.rows e) refl)
    where
      own : Row
      own = row_of st.rows e

      pick : (s : ℕ) → row_slot st.rows e ≡ s
          → ltb 0 own.request && (eqb own.request v.number && (ltb v.number e && eqb v.port own.via))
          ≡ ltb 0 own.request && (eqb own.request v.number && (ltb v.number own.number && eqb v.port own.via))
      pick zero z = rw (row-absent st.rows e z) refl
      pick (suc i) z =
          ap (λ (n : ℕ). ltb 0 own.request && (eqb own.request v.number && (ltb v.number n && eqb v.port own.via)))
          (sym (row-found st.rows e i z).1)

  pub may-be-lent : (v : Request) (e q kind : ℕ) (copy : Bool) → (e ≡ 0 → ⊥) → q ≡ v.number → kind ≡ (row_of st.rows e).kind → copy ≡ is_copy_for v (row_of st.rows e)
      → (is_end kind && ltb e q) || copy ≡ not (some e) || may_be_lent v (row_of st.rows e)
  unfolding some may_be_lent
  may-be-lent v e q kind copy z a b c =
      rw (lt-ltb 0 e (omega arith), b, c, a) (ap (λ (x : Bool). x || is_copy_for v (row_of st.rows e)) (older-end e v.number))

-- the second source of a row in use is a slot
pub via-small : (t : List ℕ) (n s : ℕ) → ViasOlder t n → n ≤ 1024 → s ≤ n → word_at t 7168 s ≤ 1024
unfolding word_at
via-small t n zero vias few h = zero-le
via-small t n (suc i) vias few h = let le = vias i h in omega arith

-- ---- tests joined
pub all_both : {A : Type 0} (f g : A → Bool) (xs : List A) → all (λ x. f x && g x) xs ≡ all f xs && all g xs
unfolding all
all_both f g [] = refl
all_both f g (x ∷ xs) = rw (all_both f g xs) (swap (f x) (g x) (all f xs) (all g xs))
  where
    swap : (a b c d : Bool) → (a && b) && (c && d) ≡ (a && c) && (b && d)
    swap true true c d = refl
    swap true false true d = refl
    swap true false false d = refl
    swap false b c d = refl

-- ---- items that are there
-- what is asked of an item that is there
pub all-nonzero : (P : ℕ → Bool) (e : ℕ) (es : List ℕ) → all P (nonzero (e ∷ es)) ≡ (not (some e) || P e) && all P (nonzero es)
unfolding all nonzero filter
all-nonzero P e es = pick (some e)
  where
    pick : (b : Bool) → all P (cond b (e ∷ filter some es) (filter some es)) ≡ (not b || P e) && all P (filter some es)
    pick true = refl
    pick false = refl

and-both : (a b c : Bool) → (a && b) && c ≡ a && (b && c)
and-both true b c = refl
and-both false b c = refl

-- the items passed, and those from position k on: one more passed, all passed
pub all-more : (P : ℕ → Bool) (a : Bool) (k : ℕ) (es : List ℕ) → k < length es
    → (a && (not (some (get_or es k 0)) || P (get_or es k 0))) && all P (nonzero (drop (suc k) es)) ≡ a && all P (nonzero (drop k es))
all-more P a k es h =
    let e = get_or es k 0 in
    let rest = drop (suc k) es in
    and-both a (not (some e) || P e) (all P (nonzero rest))
    ∙ ap (λ (x : Bool). a && x) (sym (all-nonzero P e rest) ∙ ap (λ (l : List ℕ). all P (nonzero l)) (sym (drop-cons es k 0 h)))

pub all-passed : (P : ℕ → Bool) (a : Bool) (k : ℕ) (es : List ℕ) → length es ≤ k → a && all P (nonzero (drop k es)) ≡ a
unfolding all nonzero filter
all-passed P a k es h = rw (drop_all k es h) (and-true a)

pub member-nonzero : (e : ℕ) (es : List ℕ) → some e ≡ true → member e (nonzero es) ≡ member e es
unfolding nonzero filter member
member-nonzero e [] h = refl
member-nonzero e (a ∷ es) h = pick (member-nonzero e es h) (some a) refl (eqb e a) refl
  where
    pick : member e (filter some es) ≡ member e es → (b : Bool) → some a ≡ b → (d : Bool) → eqb e a ≡ d
        → member e (cond b (a ∷ filter some es) (filter some es)) ≡ d || member e es
    pick ih true q true r = rw r refl
    pick ih true q false r = rw r ih
    pick ih false q true r = clash (ap some (sym (eqb-true e a r)) ∙ h) q
    pick ih false q false r = ih

pub any-member : (n : ℕ) (l : List ℕ) → list_any (λ y. nat_eq y n) l ≡ member n l
unfolding member
any-member n [] = refl
any-member n (m ∷ ms) = rw (eqb-sym m n, any-member n ms) refl

abbrev pub apart : ℕ → List ℕ → Bool
apart e es = not (some e) || not (member e es)

distinct-nonzero : (e : ℕ) (es : List ℕ) → distinct (nonzero (e ∷ es)) ≡ apart e es && distinct (nonzero es)
unfolding distinct nonzero filter
distinct-nonzero e es = pick (some e) refl
  where
    pick : (b : Bool) → some e ≡ b → distinct (cond b (e ∷ filter some es) (filter some es)) ≡ (not b || not (member e es)) && distinct (filter some es)
    pick true q = ap (λ (x : Bool). not x && distinct (filter some es)) (member-nonzero e es q)
    pick false q = refl

pub apart-more : (a : Bool) (k : ℕ) (es : List ℕ) → k < length es
    → (a && apart (get_or es k 0) (drop (suc k) es)) && distinct (nonzero (drop (suc k) es)) ≡ a && distinct (nonzero (drop k es))
apart-more a k es h =
    let e = get_or es k 0 in
    let rest = drop (suc k) es in
    and-both a (apart e rest) (distinct (nonzero rest))
    ∙ ap (λ (x : Bool). a && x) (sym (distinct-nonzero e rest) ∙ ap (λ (l : List ℕ). distinct (nonzero l)) (sym (drop-cons es k 0 h)))

pub apart-passed : (a : Bool) (k : ℕ) (es : List ℕ) → length es ≤ k → a && distinct (nonzero (drop k es)) ≡ a
unfolding distinct nonzero filter
apart-passed a k es h = rw (drop_all k es h) (and-true a)

-- ---- a request that lists nothing
pub none-twice : (v : Request) → v.items ≡ 0 ∷ 0 ∷ 0 ∷ 0 ∷ [] → true ≡ distinct (nonzero v.items)
unfolding nonzero filter some distinct
none-twice v e = rw e refl

pub none_lent : (rs : List Row) (v : Request) → v.items ≡ 0 ∷ 0 ∷ 0 ∷ 0 ∷ [] → true ≡ items_listable rs v
unfolding nonzero filter some all
none_lent rs v e = rw e refl

-- ---- the port
pub stands : {st : State} {t : List ℕ} → Represents t st → (v : Request) (port q kind : ℕ) → port ≡ v.port → q ≡ v.number → kind ≡ (row_of st.rows port).kind
    → eqb kind 3 && ltb (suc port) q ≡ port_stands st.rows v
unfolding port_stands is_client client_end
stands rep v port q kind a b c = rw (c, a, b) refl

pub standing-yes : (rs : List Row) (v : Request) (s : ℕ) → port_stands rs v ≡ true → s ≡ row_slot rs v.port → s ≡ standing_port rs v
unfolding standing_port
standing-yes rs v s e d = rw e d

pub standing-no : (rs : List Row) (v : Request) → port_stands rs v ≡ false → 0 ≡ standing_port rs v
unfolding standing_port
standing-no rs v e = rw e refl
