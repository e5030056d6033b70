-- Authority moves only by the rules: each row after an accepted call is as it was, or came to its place in one of eight ways.
use Prim.Native.Nat.{ℕ, ◌≤◌, ◌/◌, ◌%◌}
use native.Mathlib.Omega.{arith}
use mathlib.Core.Bool.{Bool, true, false, not, cond, ◌&&◌, ◌||◌}
use mathlib.Core.List.{List, [], ◌∷◌, map}
use mathlib.Core.Path.{◌≡◌, refl, sym, ap, ◌∙◌, subst}
use mathlib.Core.Logic.{◌⊎◌, inl, inr, ⊎_elim}
use lib.Dec.{eqb}
use borrow.Author.Tests.{eqb-true, le-leb}
use Rattle.rows.specs.declared.Row.{Row}
use Rattle.rows.specs.declared.Request.{Request}
use Rattle.rows.specs.Lists.{any, all, first_with, member, some}
use Rattle.rows.specs.Codes.{is_end, in_clist, with_system, is_system, may_transfer, within}
use Rattle.rows.specs.Tables.{State, no_request, row_of, request_of, numbers, lists}
use Rattle.rows.specs.Setters.{with_place}
use Rattle.rows.specs.Sound.{requests_rise, is_fetched, older_fetched, awaits_fetch}
use Rattle.rows.proofs.Bools.{clash, true_of, and_l, and_r, and_i, or_l, or_r, or_cases, or-fl, or-fr, not_t, not_f, eqb-sym, true-or-false}
use Rattle.rows.proofs.Keyed.{all_first}
use Rattle.tables.proofs.Sound.{Sound}
use Rattle.tables.proofs.SoundFacts.{row_number, row_below, eq-same}
use Rattle.tables.proofs.Awaits.{listers-fetched}
use Rattle.closing.specs.Closing.{oldest_listing, listed_in}
use Rattle.closing.proofs.Lookups.{left-not-gone}
use Rattle.calls.specs.declared.Item.{Item}
use Rattle.calls.specs.declared.Call.{Call}
use Rattle.calls.specs.declared.Call.TheVariants.{Ask, Fetch}
use Rattle.calls.specs.Rules.{not_held, asked_of, copy_of}
use Rattle.calls.specs.Loans.{items_of, item_row, moves, copy_lent}
use Rattle.calls.specs.Calls.{lacks_right, port_end}
use Rattle.kept.proofs.AskCopy.{lendable}
use Rattle.kept.proofs.ClosingPlaces.{listed-end}
use Rattle.kept.proofs.Fetch.{asked-found}
use Rattle.kept.proofs.Loans.{held-so}
use Rattle.history.proofs.Returns.{Oldest, oldest-is, oldest-least}
use Rattle.security.specs.Sessions.{IsRow, IsOpen, Has}
use Rattle.security.specs.Changes.{goes, shuts, place_back, place_after, Touches}
use Rattle.security.specs.Authority.{ByClosing, Arrives, held, registered, client, server, copied, lent, fetched, returned, Moves}
use Rattle.security.proofs.Rows.{item-moves, asked-lists}
use Rattle.security.proofs.Closings.{Closes}
use Rattle.security.proofs.Effects.{Effect, tells, moves-to, adds, asks, fetches, shuts-off, Plain}
use Rattle.security.proofs.Touches.{place-own, any-agree, question-still, adds-still, touches}
use Rattle.security.proofs.NewRows.{Newly, held as newly-held, registered as newly-registered, client as newly-client, server as newly-server, copied as newly-copied, new_row}

pub within-self : (r : ℕ) → within r r ≡ true
unfolding within
within-self r =
    and_i _ _ (le-leb (r % 2) (r % 2) (omega arith)) (and_i _ _ (le-leb (r / 2 % 2) (r / 2 % 2) (omega arith)) (le-leb (r / 4 % 2) (r / 4 % 2) (omega arith)))

-- what is with the caller is in its c-list
pub held_by : (st : State) (p e : ℕ) → not_held st p e ≡ false → Has st p e
unfolding not_held
held_by st p e h = eqb-true (row_of st.rows e).place (in_clist p) (not_f _ h)

-- ---- new rows
module _ (st : State) (p c : ℕ) (i : Item) (g : lendable st p c i ≡ true) where
  pub item-held : Has st p i.row
  unfolding lendable
  item-held = held_by st p i.row (not_t (not_held st p i.row) (search (and_l, and_r)))

  item-rights : lacks_right st i ≡ false
  unfolding lendable
  item-rights = not_t (lacks_right st i) (search (and_l, and_r))

  item-within : within i.rights (row_of st.rows i.row).rights ≡ true
  unfolding lacks_right item_row
  item-within = not_f _ (or-fr (not (moves st i) && not (may_transfer (row_of st.rows i.row).rights)) (not (within i.rights (row_of st.rows i.row).rights)) item-rights)

  item-transfer : may_transfer (row_of st.rows i.row).rights ≡ true
  unfolding lacks_right item_row lendable
  item-transfer =
      let copied : not (moves st i) ≡ true = search and_l in
      let no : not (moves st i) && not (may_transfer (row_of st.rows i.row).rights) ≡ false =
      or-fl (not (moves st i) && not (may_transfer (row_of st.rows i.row).rights)) (not (within i.rights (row_of st.rows i.row).rights)) item-rights in
      not_f _ (rw copied at no)

newly-arrives : (st : State) (c : Call) (n : ℕ) (r : Row) → Newly st c n r → Arrives st n r c
unfolding copy_of port_end copy_lent item_row
newly-arrives st c n r (newly-held p s a) =
    held p s (record {
      number = refl;
      place = refl;
      node = a.active;
      right = a.right;
      source = refl;
      copy = record { kind = refl; object = refl; operation = refl; rights = within-self (row_of st.rows s).rights };
      rights = refl;
    })
newly-arrives st c n r (newly-registered p e a) =
    registered p e (record {
      number = refl;
      place = refl;
      has = eqb-true _ (in_clist p) a.row.place;
      right = a.right;
      unlent = a.unlent;
      source = refl;
      copy = record { kind = refl; object = refl; operation = refl; rights = within-self (row_of st.rows e).rights };
      rights = refl;
    })
newly-arrives st c n r (newly-client p e a) =
    client p e refl refl (record { has = eqb-true _ (in_clist p) a.row.place; operation = a.operation; source = refl; port = refl })
newly-arrives st c n r (newly-server p e a) =
    server p e refl refl (record { has = eqb-true _ (in_clist p) a.row.place; operation = a.operation; source = refl; port = refl })
newly-arrives st c n r (newly-copied p k is a n' i m g l) =
    copied p k is (record {
      item = i;
      named = m;
      has = item-held st p k i g;
      over = eqb-true _ (in_clist p) a.port.place;
      right = item-transfer st p k i g;
      place = refl;
      source = refl;
      port = refl;
      bears = refl;
      copy = record { kind = refl; object = refl; operation = refl; rights = item-within st p k i g };
      rights = refl;
      number = l;
    })

-- ---- rows that were there
-- what is found with a test passes it: one that is there does
pub any_found : {A : Type 0} (key : A → ℕ) (none : A) (P : A → Bool) (xs : List A) (n : ℕ) → member n (map key xs) ≡ true → P (first_with key none xs n) ≡ true → any P xs ≡ true
unfolding first_with member any
any_found key none P [] n t e = t
any_found key none P (x ∷ xs) n t e = pick (any_found key none P xs n) (eqb (key x) n) refl t e
  where
    pick : (member n (map key xs) ≡ true → P (first_with key none xs n) ≡ true → any P xs ≡ true) → (b : Bool) → eqb (key x) n ≡ b → eqb n (key x) || member n (map key xs) ≡ true
        → P (cond b x (first_with key none xs n)) ≡ true → P x || any P xs ≡ true
    pick ih true q t e = or_l (P x) (any P xs) e
    pick ih false q t e = or_r (P x) (any P xs) (ih (rw (eqb-sym n (key x), q) at t) e)

named-held : (st : State) (p : ℕ) (is : List Item) → all (λ i. not (not_held st p i.row)) is ≡ true → (n : ℕ) → any (λ i. eqb i.row n) is ≡ true → Has st p n
unfolding all any
named-held st p [] a n t = clash t refl
named-held st p (i ∷ is) a n t =
    ⊎_elim (λ e. subst (Has st p) (eqb-true i.row n e) (held_by st p i.row (not_t (not_held st p i.row) (and_l (not (not_held st p i.row)) _ a))))
    (named-held st p is (and_r (not (not_held st p i.row)) (all (λ i. not (not_held st p i.row)) is) a) n)
    (or_cases (eqb i.row n) (any (λ i. eqb i.row n) is) t)

module _ (st : State) (s : Sound st) where
  -- what a request lists that is not fetched lies with the system
  pub waits-with-system : (q : ℕ) → IsOpen st q → is_fetched (request_of st.requests q) ≡ false → (n : ℕ) → IsRow st n → lists n (request_of st.requests q) ≡ true
      → (row_of st.rows n).place ≡ with_system
  unfolding older_fetched is_system request_of
  waits-with-system q o u n t l =
      eqb-true (row_of st.rows n).place with_system
      (eq-same (is_system (row_of st.rows n).place) (awaits_fetch st.requests n) (held-so st.rows st.requests s.holders.system-holds n t)
      ∙ true_of (awaits_fetch st.requests n) (λ f. clash
      (all_first (λ v. v.number) no_request (λ w. is_fetched w || not (lists n w)) st.requests q (listers-fetched n st.requests s.holders.older-fetched f) o)
      (rw (u, l) refl)))

  -- a closing
  back-or : (c : Call) (g : List ℕ) (f : Request → Bool) → Closes st c g f → Plain st c → (n : ℕ) → IsRow st n → member n g ≡ false → (r : Row) → r.place ≡ place_after st c (row_of st.rows n)
      → (place_after st c (row_of st.rows n) ≡ (row_of st.rows n).place) ⊎ Arrives st n r c
  unfolding place_back requests_rise request_of listed_in
  back-or c g f x k n t out r z = pick (some w.number) refl
    where
      row : Row
      row = row_of st.rows n

      w : Request
      w = oldest_listing (shuts st c) row.number st.requests

      number : row.number ≡ n
      number = row_number st.rows n t

      back : place_after st c row ≡ cond (some w.number) (in_clist w.asker) row.place
      back = k.placed row

      given : some w.number ≡ true → ByClosing st c n r
      given h =
          let o : Oldest (shuts st c) row.number st.requests w = oldest-is (shuts st c) row.number st.requests s.numbers.requests-rise h in
          let shut : shuts st c w ≡ true = and_l (shuts st c w) _ o.passes in
          let listed : lists n w ≡ true = ap (λ m. lists m w) (sym number) ∙ and_r (shuts st c w) _ o.passes in
          let any-shut : any (λ v. shuts st c v && lists n v) st.requests ≡ true =
          any_found (λ v. v.number) no_request (λ v. shuts st c v && lists n v) st.requests w.number o.there
          (ap (λ v. shuts st c v && lists n v) o.found ∙ and_i (shuts st c w) (lists n w) shut listed) in
          record {
            request = w.number;
            is-end =
                listed-end g f st s x.closed n t out
                (any-agree f (shuts st c) (λ v b. b && lists n v) st.requests x.agrees ∙ any-shut);
            is_open = o.there;
            shut = ap (shuts st c) o.found ∙ shut;
            listed = ap (lists n) o.found ∙ listed;
            oldest = λ q o' sh li. least q o' sh li;
            place = z ∙ back ∙ rw h (ap (λ v. in_clist v.asker) (sym o.found));
          }
        where
          least : (q : ℕ) → IsOpen st q → shuts st c (request_of st.requests q) ≡ true → lists n (request_of st.requests q) ≡ true → w.number ≤ q
          least q o sh li =
              (oldest-least (shuts st c) row.number st.requests s.numbers.requests-rise q o
              (and_i (shuts st c (request_of st.requests q)) _ sh (ap (λ m. lists m (request_of st.requests q)) number ∙ li))).1

      pick : (b : Bool) → some w.number ≡ b → (place_after st c row ≡ row.place) ⊎ Arrives st n r c
      pick true h = inr (returned c (given h))
      pick false h = inl (back ∙ rw h refl)

  -- the way of a row that was there, where its place is another
  stays-or : (c : Call) (st' : State) → Effect st c st' → (n : ℕ) → IsRow st n → IsRow st' n → (r : Row) → r.place ≡ place_after st c (row_of st.rows n)
      → (place_after st c (row_of st.rows n) ≡ (row_of st.rows n).place) ⊎ Arrives st n r c
  unfolding place_after
  stays-or c st' (tells c' x) n t t' r z = inl ((question-still st c x).placed (row_of st.rows n))
  stays-or c st' (moves-to p e a) n t t' r z = inl refl
  stays-or c st' (adds c' rs k a y) n t t' r z = inl ((adds-still st c rs a).placed (row_of st.rows n))
  stays-or c st' (asks p k is a) n t t' r z = pick (is_end x.kind && any (λ i. eqb i.row x.number) (items_of is)) refl z
    where
      x : Row
      x = row_of st.rows n

      pick : (b : Bool) → is_end x.kind && any (λ i. eqb i.row x.number) (items_of is) ≡ b → r.place ≡ cond b with_system x.place
          → (cond b with_system x.place ≡ x.place) ⊎ Arrives st n r (Ask p k is)
      pick true q z =
          let named : any (λ i. eqb i.row n) (items_of is) ≡ true = ap (λ m. any (λ i. eqb i.row m) (items_of is)) (sym (row_number st.rows n t)) ∙ and_r (is_end x.kind) _ q in
          inr (lent p k is (record { is-end = and_l (is_end x.kind) _ q; named = named; has = named-held st p (items_of is) a.held n named; place = z }))
      pick false q z = inl refl
  stays-or c st' (fetches p e a) n t t' r z = pick (lists x.number (asked_of st e)) refl z
    where
      x : Row
      x = row_of st.rows n

      pick : (b : Bool) → lists x.number (asked_of st e) ≡ b → r.place ≡ cond b (in_clist p) x.place → (cond b (in_clist p) x.place ≡ x.place) ⊎ Arrives st n r (Fetch p e)
      pick true q z =
          let v = asked_of st e in
          let listed : lists n v ≡ true = ap (λ m. lists m v) (sym (row_number st.rows n t)) ∙ q in
          let (o, l) = asked-lists st s e n listed in
          let found : request_of st.requests v.number ≡ v = asked-found st (unfold requests_rise in s.numbers.requests-rise) e a.serves.asked in
          inr (fetched p e (record {
            has = eqb-true _ (in_clist p) a.serves.row.place;
            server = a.serves.server;
            listed = listed;
            from = waits-with-system v.number o (ap is_fetched found ∙ a.unfetched) n t l;
            place = z;
          }))
      pick false q z = inl refl
  stays-or c st' (shuts-off c' g f x k) n t t' r z = back-or c g f x k n t (left-not-gone g f st n t') r z

  -- a row that was there and moves is an end, or a copy from the system
  pub old-moves : (c : Call) (n : ℕ) (r : Row) → IsRow st n → Arrives st n r c
      → (is_end (row_of st.rows n).kind ≡ true) ⊎ ((some (row_of st.rows n).request ≡ true) × ((row_of st.rows n).place ≡ with_system))
  old-moves c n r t (held p e k) = let lt = (row_below st s.numbers n t).1 in let z = k.number in absurd (omega arith)
  old-moves c n r t (registered p e k) = let lt = (row_below st s.numbers n t).1 in let z = k.number in absurd (omega arith)
  old-moves c n r t (client p e z l k) = let lt = (row_below st s.numbers n t).1 in absurd (omega arith)
  old-moves c n r t (server p e z l k) = let lt = (row_below st s.numbers n t).1 in absurd (omega arith)
  old-moves c n r t (copied p d is k) = let lt = (row_below st s.numbers n t).1 in let z = k.number in absurd (omega arith)
  old-moves c n r t (lent p d is k) = inl k.is-end
  old-moves c n r t (fetched p v k) =
      let (o, l) = asked-lists st s v n k.listed in
      ⊎_elim inl (λ b. inr (b, k.from)) (item-moves st s (asked_of st v).number o n l)
  old-moves c n r t (returned c' k) = inl k.is-end

  pub moves_of : (c : Call) (st' : State) → Effect st c st' → Moves st c st'
  moves_of c st' x = record { arrives = arrives; only-place = only-place; only-these = only-these }
    where
      k : Touches st c st'
      k = touches st s c st' x

      kept : (n : ℕ) → IsRow st n → IsRow st' n → row_of st'.rows n ≡ with_place (place_after st c (row_of st.rows n)) (row_of st.rows n)
      kept n t t' = k.rows-kept n t (not_t (goes st c n) (sym (k.rows n t) ∙ t'))

      placed : (n : ℕ) → IsRow st n → IsRow st' n → (row_of st'.rows n).place ≡ place_after st c (row_of st.rows n)
      placed n t t' = ap (λ r. r.place) (kept n t t') ∙ (unfold with_place in refl)

      old : (n : ℕ) → IsRow st n → IsRow st' n → (row_of st'.rows n ≡ row_of st.rows n) ⊎ Arrives st n (row_of st'.rows n) c
      old n t t' =
          ⊎_elim (λ e. inl (kept n t t' ∙ ap (λ p. with_place p (row_of st.rows n)) e ∙ place-own (row_of st.rows n))) inr
          (stays-or c st' x n t t' (row_of st'.rows n) (placed n t t'))

      arrives : (n : ℕ) → IsRow st' n → (IsRow st n × (row_of st'.rows n ≡ row_of st.rows n)) ⊎ Arrives st n (row_of st'.rows n) c
      arrives n t' =
          ⊎_elim (λ t. ⊎_elim (λ e. inl (t, e)) inr (old n t t')) (λ u. inr (newly-arrives st c n _ (new_row st s c st' x n t' (λ t. clash t u))))
          (true-or-false (member n (numbers st.rows)))

      only-these : (n : ℕ) → IsRow st n → IsRow st' n → ((row_of st'.rows n).place ≡ (row_of st.rows n).place → ⊥)
          → (is_end (row_of st.rows n).kind ≡ true) ⊎ ((some (row_of st.rows n).request ≡ true) × ((row_of st.rows n).place ≡ with_system))
      only-these n t t' u = ⊎_elim (λ e. absurd (u (ap (λ r. r.place) e))) (old-moves c n (row_of st'.rows n) t) (old n t t')

      only-place : (n : ℕ) → IsRow st n → IsRow st' n → row_of st'.rows n ≡ with_place (row_of st'.rows n).place (row_of st.rows n)
      only-place n t t' = kept n t t' ∙ ap (λ p. with_place p (row_of st.rows n)) (sym (placed n t t'))
