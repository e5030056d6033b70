-- The rows and requests that closing leaves: their keys, look-up among them, and what holds of all.
use Prim.Native.Nat.{ℕ, ◌<◌}
use mathlib.Core.Bool.{Bool, true, false, not, cond, ◌&&◌, ◌||◌}
use mathlib.Core.List.{List, [], ◌∷◌, map}
use mathlib.Core.Path.{◌≡◌, refl, sym, ap, ◌∙◌}
use mathlib.Core.Logic.{◌⊎◌, ⊎_elim}
use lib.Dec.{eqb}
use borrow.Author.Tests.{eqb-false}
use Rattle.rows.specs.declared.Row.{Row}
use Rattle.rows.specs.declared.Request.{Request}
use Rattle.rows.specs.Lists.{any, all, each, filter, member, rises, some}
use Rattle.rows.specs.Codes.{in_clist}
use Rattle.rows.specs.Tables.{State, no_row, no_request, row_of, request_of, lists, numbers}
use Rattle.rows.specs.Setters.{with_place, with_items}
use Rattle.rows.specs.Sound.{rows_rise}
use Rattle.rows.proofs.Bools.{clash, and_l, and_r, and_i, not_t, or-fl, or-fr, any_none, member-cases, and-rf}
use Rattle.rows.proofs.Keyed.{first-map, first-filter, keys-map, keys_filter, all_first, each_first, rises-map, rises-rest, older-first, older_of}
use Rattle.tables.proofs.Picked.{all_found}
use Rattle.rows.proofs.Lists.{picked-sub}
use Rattle.closing.specs.Closing.{oldest_listing, returned, listed_in, leaves, trimmed, remaining, settled}
use Rattle.closing.specs.vocabulary.Marks.{Stands}
use Rattle.closing.proofs.TrimmedLists.{each-of-first, rises-filter, rises-keys, trim, member-trim}

-- ---- an item of a trimmed list
pub trimmed-lists : (f : Request → Bool) (g : List ℕ) (vs : List Request) (v : Request) (e : ℕ)
    → lists e (trimmed f g vs v) ≡ lists e v && not (leaves f g vs e)
unfolding lists trimmed trim
trimmed-lists f g vs v e = pick (some e) refl
  where
    assoc : (a : Bool) → a ≡ true → a && (member e v.items && not (leaves f g vs e)) ≡ a && member e v.items && not (leaves f g vs e)
    assoc true q = refl
    assoc false q = refl

    pick : (b : Bool) → some e ≡ b → some e && member e (trim (leaves f g vs) v.items) ≡ some e && member e v.items && not (leaves f g vs e)
    pick true q = ap (λ x. some e && x) (member-trim (leaves f g vs) v.items e q) ∙ assoc (some e) q
    pick false q = rw q refl

-- ---- the requests that stay open
module _ (f : Request → Bool) (g : List ℕ) where
  pub remaining-keys : {B : Type 0} (key : Request → B) → ((is : List ℕ) (v : Request) → key (with_items is v) ≡ key v) → (vs : List Request)
      → map key (remaining f g vs) ≡ map key (filter (λ v. not (f v)) vs)
  unfolding remaining filter trimmed
  remaining-keys key k [] = refl
  remaining-keys key k (v ∷ vs) = pick (remaining-keys key k vs) (f v)
    where
      pick : map key (remaining f g vs) ≡ map key (filter (λ v. not (f v)) vs) → (b : Bool)
          → map key (cond b (remaining f g vs) (trimmed f g vs v ∷ remaining f g vs))
          ≡ map key (cond (not b) (v ∷ filter (λ v. not (f v)) vs) (filter (λ v. not (f v)) vs))
      pick ih true = ih
      pick ih false = rw (k _ v, ih) refl

  -- what holds of all requests holds, changed by the trimming, of those that stay
  pub all-remaining : (P Q : Request → Bool) → ((vs : List Request) (v : Request) → f v ≡ false → P v ≡ true → Q (trimmed f g vs v) ≡ true)
      → (vs : List Request) → all P vs ≡ true → all Q (remaining f g vs) ≡ true
  unfolding remaining all
  all-remaining P Q h [] e = refl
  all-remaining P Q h (v ∷ vs) e = pick (all-remaining P Q h vs (and_r (P v) (all P vs) e)) (f v) refl
    where
      pick : all Q (remaining f g vs) ≡ true → (b : Bool) → f v ≡ b → all Q (cond b (remaining f g vs) (trimmed f g vs v ∷ remaining f g vs)) ≡ true
      pick ih true q = ih
      pick ih false q = and_i (Q (trimmed f g vs v)) (all Q (remaining f g vs)) (h vs v q (and_l (P v) (all P vs) e)) ih

  pub remaining-rises : (vs : List Request) → rises (λ v. v.number) vs ≡ true → rises (λ v. v.number) (remaining f g vs) ≡ true
  remaining-rises vs e =
      rises-keys (λ v. v.number) (remaining f g vs) (filter (λ v. not (f v)) vs) (remaining-keys (λ v. v.number) (λ is v. refl) vs)
      ∙ (rises-filter (λ v. v.number) (λ v. not (f v)) vs e).0

  pub remaining-known : (vs : List Request) (q : ℕ)
      → member q (map (λ v. v.number) (remaining f g vs)) ≡ true → member q (map (λ v. v.number) vs) ≡ true
  remaining-known vs q t =
      picked-sub (λ v. v.number) (λ v. not (f v)) vs q (ap (member q) (sym (remaining-keys (λ v. v.number) (λ is v. refl) vs)) ∙ t)

  -- a request that does not close is found trimmed
  pub request-after : (vs : List Request) → rises (λ v. v.number) vs ≡ true
      → (q : ℕ) → member q (map (λ v. v.number) vs) ≡ true → f (request_of vs q) ≡ false
      → request_of (remaining f g vs) q ≡ trimmed f g (older_of (λ v. v.number) vs q) (request_of vs q)
  unfolding request_of remaining older_of trimmed Rattle.rows.specs.Lists.first_with
  request-after [] e q t h = clash t (unfold member in refl)
  request-after (v ∷ vs) e q t h =
      pick (request-after vs (rises-rest (λ v. v.number) v vs e) q) (f v) refl (eqb v.number q) refl h
      (member-cases q v.number (map (λ v. v.number) vs) t)
    where
      Here : Bool → Request
      Here c = cond c v (request_of vs q)

      pick : (member q (map (λ v. v.number) vs) ≡ true → f (request_of vs q) ≡ false
          → request_of (remaining f g vs) q ≡ trimmed f g (older_of (λ v. v.number) vs q) (request_of vs q))
          → (b : Bool) → f v ≡ b → (c : Bool) → eqb v.number q ≡ c → f (Here c) ≡ false → (q ≡ v.number) ⊎ (member q (map (λ v. v.number) vs) ≡ true)
          → request_of (cond b (remaining f g vs) (trimmed f g vs v ∷ remaining f g vs)) q ≡ trimmed f g (cond c vs (older_of (λ v. v.number) vs q)) (Here c)
      pick ih true p true n h m = clash p h
      pick ih true p false n h m = ⊎_elim (λ z. absurd (eqb-false v.number q n (sym z))) (λ u. ih u h) m
      pick ih false p true n h m = rw n refl
      pick ih false p false n h m = rw n (⊎_elim (λ z. absurd (eqb-false v.number q n (sym z))) (λ u. ih u h) m)

-- ---- where a returned row goes
pub returned-keeps : {B : Type 0} (F : Row → B) → ((p : ℕ) (r : Row) → F (with_place p r) ≡ F r)
    → (f : Request → Bool) (vs : List Request) (r : Row) → F (returned f vs r) ≡ F r
unfolding returned
returned-keeps F h f vs r = pick (some (oldest_listing f r.number vs).number)
  where
    pick : (b : Bool) → F (cond b (with_place (in_clist (oldest_listing f r.number vs).asker) r) r) ≡ F r
    pick true = h _ r
    pick false = refl

pub oldest-none : (f : Request → Bool) (e : ℕ) (vs : List Request) → listed_in f vs e ≡ false → oldest_listing f e vs ≡ no_request
unfolding oldest_listing listed_in any
oldest-none f e [] h = refl
oldest-none f e (v ∷ vs) h =
    let older = any (λ w. f w && lists e w) vs in
    rw (or-fl (f v && lists e v) older h, oldest-none f e vs (or-fr (f v && lists e v) older h)) (unfold no_request some in refl)

pub returned-same : (f : Request → Bool) (vs : List Request) (r : Row) → listed_in f vs r.number ≡ false → returned f vs r ≡ r
unfolding returned no_request some
returned-same f vs r h = rw (oldest-none f r.number vs h) refl

-- the oldest is one of them
pub oldest-all : (f : Request → Bool) (e : ℕ) (P : Request → Bool) (vs : List Request)
    → all (λ v. some v.number) vs ≡ true → all P vs ≡ true → listed_in f vs e ≡ true → P (oldest_listing f e vs) ≡ true
unfolding oldest_listing listed_in any all
oldest-all f e P [] s a h = clash h refl
oldest-all f e P (v ∷ vs) s a h =
    pick (oldest-all f e P vs numbered (and_r (P v) (all P vs) a)) (oldest-all f e (λ v. some v.number) vs numbered numbered)
    (oldest-none f e vs) (listed_in f vs e) refl (f v && lists e v) h
  where
    numbered : all (λ v. some v.number) vs ≡ true
    numbered = and_r (some v.number) (all (λ v. some v.number) vs) s

    w : Request
    w = oldest_listing f e vs

    pick : (listed_in f vs e ≡ true → P w ≡ true) → (listed_in f vs e ≡ true → some w.number ≡ true)
        → (listed_in f vs e ≡ false → w ≡ no_request)
        → (b : Bool) → listed_in f vs e ≡ b → (c : Bool) → c || b ≡ true → P (cond (some w.number) w (cond c v w)) ≡ true
    pick ih sm nn true q c h = rw (sm q) (ih q)
    pick ih sm nn false q true h = rw (nn q) (unfold no_request some in and_l (P v) (all P vs) a)
    pick ih sm nn false q false h = clash h refl

pub returned-place : (f : Request → Bool) (vs : List Request) (r : Row) → all (λ v. some v.number) vs ≡ true → listed_in f vs r.number ≡ true
    → (returned f vs r).place ≡ in_clist (oldest_listing f r.number vs).asker
unfolding returned with_place
returned-place f vs r s h = rw (oldest-all f r.number (λ v. some v.number) vs s s h) refl

pub nothing-returned : (f : Request → Bool) (vs : List Request) → returned f vs no_row ≡ no_row
unfolding no_row listed_in lists some
nothing-returned f vs = returned-same f vs no_row (any_none (λ w. f w && lists 0 w) (λ w. and-rf (f w) false refl) vs)

-- ---- the rows that are left
module _ (g : List ℕ) (f : Request → Bool) (st : State) where
  number-kept : (r : Row) → (returned f st.requests r).number ≡ r.number
  unfolding with_place
  number-kept r = returned-keeps (λ r. r.number) (λ p r. refl) f st.requests r

  pub left-keys : (n : ℕ) → member n (numbers (settled g f st).rows) ≡ member n (numbers st.rows) && not (member n g)
  unfolding settled numbers
  left-keys n =
      ap (member n) (keys-map (λ r. r.number) (returned f st.requests) number-kept (filter (λ r. not (member r.number g)) st.rows))
      ∙ keys_filter (λ r. r.number) (λ m. not (member m g)) st.rows n

  pub left-stood : (n : ℕ) → Stands (settled g f st) n → Stands st n
  left-stood n t = and_l (member n (numbers st.rows)) (not (member n g)) (sym (left-keys n) ∙ t)

  pub left-not-gone : (n : ℕ) → Stands (settled g f st) n → member n g ≡ false
  left-not-gone n t = not_t (member n g) (and_r (member n (numbers st.rows)) (not (member n g)) (sym (left-keys n) ∙ t))

  pub row-after : (n : ℕ) → member n g ≡ false → row_of (settled g f st).rows n ≡ returned f st.requests (row_of st.rows n)
  unfolding settled row_of
  row-after n h =
      first-map (λ r. r.number) no_row (returned f st.requests) number-kept (nothing-returned f st.requests)
      (filter (λ r. not (member r.number g)) st.rows) n
      ∙ ap (returned f st.requests) (first-filter (λ r. r.number) no_row (λ m. not (member m g)) st.rows n (ap not h))

  pub rows-rise-kept : rows_rise st.rows ≡ true → rows_rise (settled g f st).rows ≡ true
  unfolding rows_rise settled
  rows-rise-kept e =
      rises-map (λ r. r.number) (returned f st.requests) number-kept (filter (λ r. not (member r.number g)) st.rows)
      ∙ (rises-filter (λ r. r.number) (λ r. not (member r.number g)) st.rows e).0

  -- what holds of all rows holds, changed by the return, of those left
  pub all_left : (P Q : Row → Bool) → rows_rise st.rows ≡ true
      → ((n : ℕ) → Stands st n → member n g ≡ false → P (row_of st.rows n) ≡ true → Q (returned f st.requests (row_of st.rows n)) ≡ true)
      → all P st.rows ≡ true → all Q (settled g f st).rows ≡ true
  unfolding rows_rise row_of numbers
  all_left P Q e h a = all_found (λ r. r.number) no_row Q (settled g f st).rows (rows-rise-kept e) at_row
    where
      at_row : (n : ℕ) → Stands (settled g f st) n → Q (row_of (settled g f st).rows n) ≡ true
      at_row n t =
          ap Q (row-after n (left-not-gone n t))
          ∙ h n (left-stood n t) (left-not-gone n t) (all_first (λ r. r.number) no_row P st.rows n a (left-stood n t))

  -- of each row with the older ones
  pub each_left : (F H : Row → List Row → Bool) → rows_rise st.rows ≡ true
      → ((n : ℕ) → Stands st n → member n g ≡ false → F (row_of st.rows n) (older_of (λ r. r.number) st.rows n) ≡ true
      → H (returned f st.requests (row_of st.rows n)) (older_of (λ r. r.number) (settled g f st).rows n) ≡ true)
      → each F st.rows ≡ true → each H (settled g f st).rows ≡ true
  unfolding rows_rise row_of numbers
  each_left F H e h a = each-of-first (λ r. r.number) no_row H (settled g f st).rows (rows-rise-kept e) at_row
    where
      at_row : (n : ℕ) → Stands (settled g f st) n → H (row_of (settled g f st).rows n) (older_of (λ r. r.number) (settled g f st).rows n) ≡ true
      at_row n t =
          ap (λ r. H r (older_of (λ r. r.number) (settled g f st).rows n)) (row-after n (left-not-gone n t))
          ∙ h n (left-stood n t) (left-not-gone n t) (each_first (λ r. r.number) no_row F st.rows a n (left-stood n t))

  -- a row older than n is found among the older ones as in the whole table, before and after
  pub older-before : rows_rise st.rows ≡ true → (n m : ℕ) → Stands st n → m < n → row_of (older_of (λ r. r.number) st.rows n) m ≡ row_of st.rows m
  unfolding rows_rise row_of numbers
  older-before e n m t lt = older-first (λ r. r.number) no_row st.rows e n t m lt

  pub older-after : rows_rise st.rows ≡ true → (n m : ℕ) → Stands st n → member n g ≡ false → m < n → member m g ≡ false
      → row_of (older_of (λ r. r.number) (settled g f st).rows n) m ≡ returned f st.requests (row_of st.rows m)
  unfolding rows_rise row_of numbers
  older-after e n m t h lt k =
      older-first (λ r. r.number) no_row (settled g f st).rows (rows-rise-kept e) n (left-keys n ∙ and_i _ _ t (ap not h)) m lt ∙ row-after m k
