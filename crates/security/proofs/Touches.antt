-- What each kind of effect touches: old rows and requests as they are found afterwards, the records, the numbers.
use Prim.Native.Nat.{ℕ, suc, ◌+◌, ◌<◌, ◌≤◌}
use native.Mathlib.Decide.{dec_lt}
use native.Mathlib.Omega.{arith}
use mathlib.Core.Bool.{Bool, true, false, not, cond, ◌&&◌, ◌||◌}
use mathlib.Core.List.{List, [], ◌∷◌, ◌++◌, map}
use mathlib.Core.Path.{◌≡◌, refl, sym, ap, ◌∙◌}
use lib.Dec.{leb, ltb, eqb}
use lib.ListN.{length}
use borrow.Author.Tests.{eqb-true, ne_eqb, le-leb, lt-ltb, le-ltb}
use Rattle.rows.specs.declared.Row.{Row}
use Rattle.rows.specs.declared.Request.{Request}
use Rattle.rows.specs.declared.Process.{Process}
use Rattle.std.specs.Prelude.{if◌then◌else◌}
use Rattle.rows.specs.Lists.{any, all, first_with, rises, member, some}
use Rattle.rows.specs.Codes.{is_end, in_clist, with_system, fetched_mark}
use Rattle.rows.specs.Tables.{State, no_row, no_request, row_of, request_of, process_at, is_listed, numbers, lists}
use Rattle.rows.specs.Setters.{with_place, with_items, with_fetched, in_prime_node}
use Rattle.rows.specs.Sound.{requests_rise}
use Rattle.rows.proofs.Bools.{clash, and_l, and_r, and-false, and-true, some-pos, any_none, none-zero, eqb-sym, member-here, member-there}
use Rattle.rows.proofs.Agree.{Agree, keys_kept}
use Rattle.rows.proofs.Keyed.{first-map, keys-map, rises-rest, rises-older, rises-range, older_of}
use Rattle.rows.proofs.Lists.{map_same}
use Rattle.rows.proofs.ProcessRecords.{set_at}
use Rattle.tables.proofs.Picked.{all-keys}
use Rattle.tables.proofs.Sound.{Sound}
use Rattle.tables.proofs.SoundFacts.{row_number, row_below, requests-top, listed-has-record}
use Rattle.closing.specs.Closing.{oldest_listing, returned, listed_in, leaves, trimmed, homed, settled}
use Rattle.closing.proofs.Facts.{request-number}
use Rattle.closing.proofs.Lookups.{remaining-keys, request-after, left-keys, row-after}
use Rattle.closing.proofs.Processes.{homed-at}
use Rattle.calls.specs.declared.Item.{Item}
use Rattle.calls.specs.declared.Call.{Call}
use Rattle.calls.specs.declared.Call.TheVariants.{Go, Ask, Fetch}
use Rattle.calls.specs.Rules.{asked_of, with_new_rows, copy_of, with_record}
use Rattle.calls.specs.Loans.{items_of, item_row, moves, new_request, handed_to, now_fetched, handed_over}
use Rattle.calls.specs.Calls.{port_end}
use Rattle.kept.proofs.Allowed.{GoAllowed, AskAllowed, FetchAllowed}
use Rattle.kept.proofs.AddRow.{row_before, number-before}
use Rattle.kept.proofs.AskItems.{is_item}
use Rattle.kept.proofs.AskFacts.{asked_state, old-found, old-number}
use Rattle.kept.proofs.Loans.{now-number, request-now}
use Rattle.kept.proofs.Moved.{moved, moved-number}
use Rattle.kept.proofs.Steps.{oldest-agree}
use Rattle.security.specs.Sessions.{IsRow, IsOpen, Log, logged}
use Rattle.security.specs.Changes.{closed_by, discards, falls, goes, shuts, place_back, place_after, leaves_list, fetched_by, request_after, record_homed, record_after, takes, Touches}
use Rattle.security.proofs.Rows.{through-at, item-row}
use Rattle.security.proofs.Closings.{Closes}
use Rattle.security.proofs.Effects.{Adds, holds, registers, makes, went_to, Question, comes, chain, comes-all, Effect, tells, moves-to, adds, asks, fetches, shuts-off, Plain}

pub place-own : (r : Row) → with_place r.place r ≡ r
unfolding with_place
place-own r = refl

-- ---- calls that close nothing
pub record Quiet (st : State) (c : Call) : Type 0 where
  pub closes-none : closed_by st c ≡ 0
  pub discards-none : (r : Row) → discards c r ≡ false

module _ (st : State) (c : Call) (x : Quiet st c) where
  pub quiet-goes : (n : ℕ) → goes st c n ≡ false
  unfolding goes falls some
  quiet-goes n = rw (x.discards-none (row_of st.rows n), x.closes-none) refl

  pub quiet-shuts : (v : Request) → shuts st c v ≡ false
  unfolding shuts some
  quiet-shuts v = rw x.closes-none refl

  quiet-leaves : (v : Request) (e : ℕ) → leaves_list st c v e ≡ false
  unfolding leaves_list
  quiet-leaves v e = rw (quiet-goes e) (any_none (λ w. ltb w.number v.number && (shuts st c w && lists e w)) none st.requests)
    where
      none : (w : Request) → ltb w.number v.number && (shuts st c w && lists e w) ≡ false
      none w = rw (quiet-shuts w) (and-false (ltb w.number v.number))

  pub quiet-request : (v : Request) → request_after st c v ≡ with_items v.items (fetched_by st c v)
  unfolding request_after
  quiet-request v = ap (λ is. with_items is (fetched_by st c v)) (map_same (λ e. if leaves_list st c v e then 0 else e) (λ e. rw (quiet-leaves v e) refl) v.items)

-- a quiet call that also fetches nothing, and leaves every place and record
pub record Still (st : State) (c : Call) : Type 0 where
  pub quiet : Quiet st c
  pub unfetched : (v : Request) → fetched_by st c v ≡ v
  pub placed : (r : Row) → place_after st c r ≡ r.place
  pub recorded : (p : ℕ) → record_after st c p ≡ process_at st.processes p
  pub unlogged : (log : Log) → logged st c log ≡ log

still-row : (st : State) (c : Call) → Still st c → (n : ℕ) → with_place (place_after st c (row_of st.rows n)) (row_of st.rows n) ≡ row_of st.rows n
still-row st c x n = ap (λ p. with_place p (row_of st.rows n)) (x.placed (row_of st.rows n)) ∙ place-own (row_of st.rows n)

still-request : (st : State) (c : Call) → Quiet st c → ((v : Request) → fetched_by st c v ≡ v) → (v : Request) → request_after st c v ≡ v
still-request st c x h v = quiet-request st c x v ∙ ap (with_items v.items) (h v)

-- ---- nothing
pub question-still : (st : State) (c : Call) → Question c → Still st c
unfolding closed_by discards fetched_by place_after record_after logged
question-still st c (comes e q) = record { quiet = record { closes-none = refl; discards-none = λ r. refl }; unfetched = λ v. refl; placed = λ r. refl; recorded = λ p. refl; unlogged = λ log. refl }
question-still st c (chain e) = record { quiet = record { closes-none = refl; discards-none = λ r. refl }; unfetched = λ v. refl; placed = λ r. refl; recorded = λ p. refl; unlogged = λ log. refl }
question-still st c (comes-all es qs) = record { quiet = record { closes-none = refl; discards-none = λ r. refl }; unfetched = λ v. refl; placed = λ r. refl; recorded = λ p. refl; unlogged = λ log. refl }

pub question-takes : (st : State) (c : Call) → Question c → takes st c ≡ 0
unfolding takes
question-takes st c (comes e q) = refl
question-takes st c (chain e) = refl
question-takes st c (comes-all es qs) = refl

-- ---- new rows
pub adds-still : (st : State) (c : Call) (rs : List Row) → Adds st c rs → Still st c
unfolding closed_by discards fetched_by place_after record_after logged
adds-still st c rs (holds p s a) = record { quiet = record { closes-none = refl; discards-none = λ r. refl }; unfetched = λ v. refl; placed = λ r. refl; recorded = λ p. refl; unlogged = λ log. refl }
adds-still st c rs (registers p e a) = record { quiet = record { closes-none = refl; discards-none = λ r. refl }; unfetched = λ v. refl; placed = λ r. refl; recorded = λ p. refl; unlogged = λ log. refl }
adds-still st c rs (makes p e a) = record { quiet = record { closes-none = refl; discards-none = λ r. refl }; unfetched = λ v. refl; placed = λ r. refl; recorded = λ p. refl; unlogged = λ log. refl }

adds-takes : (st : State) (c : Call) (rs : List Row) → Adds st c rs → length rs ≡ takes st c
unfolding takes
adds-takes st c rs (holds p s a) = refl
adds-takes st c rs (registers p e a) = refl
adds-takes st c rs (makes p e a) = refl

-- their numbers are new
adds-fresh : (st : State) (c : Call) (rs : List Row) → Adds st c rs → all (λ r. leb st.next r.number) rs ≡ true
unfolding all copy_of port_end
adds-fresh st c rs (holds p s a) = rw (le-leb st.next st.next (omega arith)) refl
adds-fresh st c rs (registers p e a) = rw (le-leb st.next st.next (omega arith)) refl
adds-fresh st c rs (makes p e a) = rw (le-leb st.next (suc st.next) (omega arith), le-leb st.next st.next (omega arith)) refl

-- ---- a record replaced
record-set : (st : State) (p q : ℕ) (x : Process) → is_listed st.processes p ≡ true → process_at (with_record p x st).processes q ≡ (if eqb q p then x else process_at st.processes q)
unfolding with_record
record-set st p q x l = let (lo, hi) = listed-has-record st.processes p l in set_at st.processes p q x lo hi

-- ---- what is new, where the old rows and requests are told by their numbers
new-above : (k n : ℕ) (a b : Bool) → (n < k → a ≡ b) → a ≡ true → (b ≡ true → ⊥) → k ≤ n
new-above k n a b h t u = elim (dec_lt n k) [ yes lt ↦ absurd (u (sym (h lt) ∙ t)) | no ge ↦ omega arith ]

placed-if : (b : Bool) (p : ℕ) (r : Row) → cond b (with_place p r) r ≡ with_place (cond b p r.place) r
unfolding with_place
placed-if true p r = refl
placed-if false p r = refl

zero-either : (a b : Bool) (e : ℕ) → e ≡ 0 → cond a 0 e ≡ cond b 0 e
zero-either true true e z = refl
zero-either true false e z = sym z
zero-either false true e z = z
zero-either false false e z = refl

-- ---- lists
map_on : (F G : ℕ → ℕ) (ns : List ℕ) → ((n : ℕ) → member n ns ≡ true → F n ≡ G n) → map F ns ≡ map G ns
map_on F G [] h = refl
map_on F G (n ∷ ns) h = rw (h n (member-here n ns), map_on F G ns (λ m t. h m (member-there m n ns t))) refl

module _ {A : Type 0} where
  pub any-agree : {B : Type 0} (f g : A → B) (P : A → B → Bool) (xs : List A) → Agree f g xs → any (λ x. P x (f x)) xs ≡ any (λ x. P x (g x)) xs
  unfolding any
  any-agree f g P [] a = refl
  any-agree f g P (x ∷ xs) a = λ i. P x (a.0 i) || any-agree f g P xs a.1 i

  module _ (key : A → ℕ) where
    pub agree_at : {B : Type 0} (none : A) (f g : A → B) (xs : List A) → Agree f g xs → (n : ℕ) → member n (map key xs) ≡ true → f (first_with key none xs n) ≡ g (first_with key none xs n)
    unfolding first_with member
    agree_at none f g [] a n t = clash t refl
    agree_at {B} none f g (x ∷ xs) a n t = pick (agree_at none f g xs a.1 n) (eqb (key x) n) refl t
      where
        pick : (member n (map key xs) ≡ true → f (first_with key none xs n) ≡ g (first_with key none xs n)) → (b : Bool) → eqb (key x) n ≡ b → eqb n (key x) || member n (map key xs) ≡ true
            → f (cond b x (first_with key none xs n)) ≡ g (cond b x (first_with key none xs n))
        pick ih true q t = a.0
        pick ih false q t = ih (rw (eqb-sym n (key x), q) at t)

    any-lower : (P : A → Bool) (n : ℕ) (xs : List A) → all (λ x. ltb (key x) n) xs ≡ true → any P xs ≡ any (λ x. ltb (key x) n && P x) xs
    unfolding any all
    any-lower P n [] e = refl
    any-lower P n (x ∷ xs) e = rw (and_l (ltb (key x) n) (all (λ x. ltb (key x) n) xs) e, any-lower P n xs (and_r (ltb (key x) n) (all (λ x. ltb (key x) n) xs) e)) refl

    -- of the older elements: of those with a lower key
    pub any-older-is : (P : A → Bool) (xs : List A) → rises key xs ≡ true → (n : ℕ) → member n (map key xs) ≡ true → any P (older_of key xs n) ≡ any (λ x. ltb (key x) n && P x) xs
    unfolding any older_of member
    any-older-is P [] up n t = refl
    any-older-is P (x ∷ xs) up n t = pick (any-older-is P xs (rises-rest key x xs up) n) (eqb (key x) n) refl t
      where
        lower : key x ≡ n → any P xs ≡ any (λ x. ltb (key x) n && P x) xs
        lower z = any-lower P n xs (all-keys key (λ m. ltb m n) xs (λ m u. lt-ltb m n (let lt = rises-older key x xs up m u in omega arith)))

        pick : (member n (map key xs) ≡ true → any P (older_of key xs n) ≡ any (λ x. ltb (key x) n && P x) xs) → (b : Bool) → eqb (key x) n ≡ b → eqb n (key x) || member n (map key xs) ≡ true
            → any P (cond b xs (older_of key xs n)) ≡ (ltb (key x) n && P x) || any (λ x. ltb (key x) n && P x) xs
        pick ih true q t = let z = eqb-true (key x) n q in rw (le-ltb (key x) n (omega arith)) (lower z)
        pick ih false q t =
            let u : member n (map key xs) ≡ true = rw (eqb-sym n (key x), q) at t in
            let lt = rises-older key x xs up n u in
            rw (le-ltb (key x) n (omega arith)) (ih u)

-- ---- each kind of effect
module _ (st : State) (s : Sound st) where
  still-touches : (c : Call) → Still st c → takes st c ≡ 0 → Touches st c st
  still-touches c x z =
      record {
        rows = λ n t. t ∙ sym (ap not (quiet-goes st c x.quiet n));
        rows-kept = λ n t g. sym (still-row st c x n);
        requests = λ q t. t ∙ sym (ap not (quiet-shuts st c x.quiet (request_of st.requests q)));
        requests-kept = λ q t g. sym (still-request st c x.quiet x.unfetched (request_of st.requests q));
        records = λ q. sym (x.recorded q);
        next = omega arith;
        new-rows = λ n t u. absurd (u t);
        new-requests = λ q t u. absurd (u t);
      }

  go-touches : (p e : ℕ) → GoAllowed st p e → Touches st (Go p e) (with_record p (went_to st p e) st)
  unfolding with_record takes place_after fetched_by record_after closed_by discards
  go-touches p e a =
      let c = Go p e in
      let x : Quiet st (Go p e) = record { closes-none = refl; discards-none = λ r. refl } in
      record {
        rows = λ n t. t ∙ sym (ap not (quiet-goes st c x n));
        rows-kept = λ n t g. sym (place-own (row_of st.rows n));
        requests = λ q t. t ∙ sym (ap not (quiet-shuts st c x (request_of st.requests q)));
        requests-kept = λ q t g. sym (still-request st c x (λ v. refl) (request_of st.requests q));
        records = λ q. record-set st p q (went_to st p e) a.caller ∙ own q;
        next = omega arith;
        new-rows = λ n t u. absurd (u t);
        new-requests = λ q t u. absurd (u t);
      }
    where
      own : (q : ℕ) → (if eqb q p then went_to st p e else process_at st.processes q) ≡ (if eqb q p then went_to st q e else process_at st.processes q)
      own q = pick (eqb q p) refl
        where
          pick : (b : Bool) → eqb q p ≡ b → (if b then went_to st p e else process_at st.processes q) ≡ (if b then went_to st q e else process_at st.processes q)
          pick true z = ap (λ k. went_to st k e) (sym (eqb-true q p z))
          pick false z = refl

  adds-touches : (c : Call) (rs : List Row) (k : ℕ) → Adds st c rs → k ≡ st.next + length rs → Touches st c (with_new_rows (rs ++ st.rows) k st)
  unfolding with_new_rows
  adds-touches c rs k a z =
      let x = adds-still st c rs a in
      let fresh = adds-fresh st c rs a in
      record {
        rows = λ n t. number-before st.next st.rows rs fresh n (row_below st s.numbers n t).1 ∙ t ∙ sym (ap not (quiet-goes st c x.quiet n));
        rows-kept = λ n t g. row_before st.next st.rows rs fresh n (row_below st s.numbers n t).1 ∙ sym (still-row st c x n);
        requests = λ q t. t ∙ sym (ap not (quiet-shuts st c x.quiet (request_of st.requests q)));
        requests-kept = λ q t g. sym (still-request st c x.quiet x.unfetched (request_of st.requests q));
        records = λ q. sym (x.recorded q);
        next = z ∙ ap (λ l. st.next + l) (adds-takes st c rs a);
        new-rows = λ n t u. new-above st.next n _ _ (λ lt. number-before st.next st.rows rs fresh n lt) t u;
        new-requests = λ q t u. absurd (u t);
      }

  -- ---- ask
  -- an end is among the items just if an item names it
  pub item-is : (is : List Item) (n : ℕ) → is_item st is n ≡ is_end (row_of st.rows n).kind && any (λ i. eqb i.row n) is
  unfolding is_item any moves item_row
  item-is [] n = sym (and-false (is_end (row_of st.rows n).kind))
  item-is (i ∷ is) n = pick (item-is is n) (eqb i.row n) refl
    where
      k : Bool
      k = is_end (row_of st.rows n).kind

      both : (a b : Bool) → a || (a && b) ≡ a
      both true b = refl
      both false b = refl

      pick : any (λ i. moves st i && eqb i.row n) is ≡ k && any (λ i. eqb i.row n) is → (b : Bool) → eqb i.row n ≡ b
          → (is_end (row_of st.rows i.row).kind && b) || any (λ i. moves st i && eqb i.row n) is ≡ k && (b || any (λ i. eqb i.row n) is)
      pick ih true q = rw (eqb-true i.row n q, and-true k, ih) (both k (any (λ i. eqb i.row n) is))
      pick ih false q = rw (and-false (is_end (row_of st.rows i.row).kind)) ih

  request-below : (q : ℕ) → IsOpen st q → q < st.next
  unfolding requests_rise
  request-below q t =
      let (lo, hi) = rises-range (λ v. v.number) st.requests s.numbers.requests-rise q t in
      let top = requests-top st s.numbers in omega arith

  module _ (p c : ℕ) (is : List Item) (a : AskAllowed st p c (items_of is)) where
    ask-quiet : Quiet st (Ask p c is)
    unfolding closed_by discards
    ask-quiet = record { closes-none = refl; discards-none = λ r. refl }

    row-asked : (n : ℕ) → IsRow st n → row_of (asked_state st p c (items_of is)).rows n ≡ with_place (place_after st (Ask p c is) (row_of st.rows n)) (row_of st.rows n)
    unfolding place_after moved
    row-asked n t =
        let r = row_of st.rows n in
        let lt = (row_below st s.numbers n t).1 in
        let number : r.number ≡ n = row_number st.rows n t in
        old-found st s p c (items_of is) a n (omega arith)
        ∙ ap (λ b. cond b (with_place with_system r) r)
        (ap (is_item st (items_of is)) number ∙ item-is (items_of is) n ∙ ap (λ m. is_end r.kind && any (λ i. eqb i.row m) (items_of is)) (sym number))
        ∙ placed-if (is_end r.kind && any (λ i. eqb i.row r.number) (items_of is)) with_system r

    request-found : (q : ℕ) → q < st.next → (request_of (asked_state st p c (items_of is)).requests q ≡ request_of st.requests q)
        × (member q (map (λ v. v.number) (asked_state st p c (items_of is)).requests) ≡ member q (map (λ v. v.number) st.requests))
    unfolding request_of first_with new_request member
    request-found q lt = (rw (ne_eqb st.next q (λ z. omega arith)) refl, rw (ne_eqb q st.next (λ z. omega arith)) refl)

    ask-touches : Touches st (Ask p c is) (asked_state st p c (items_of is))
    unfolding record_after takes fetched_by
    ask-touches =
        record {
          rows = λ n t. old-number st s p c (items_of is) a n (let lt = (row_below st s.numbers n t).1 in omega arith) ∙ t ∙ sym (ap not (quiet-goes st (Ask p c is) ask-quiet n));
          rows-kept = λ n t g. row-asked n t;
          requests = λ q t. (request-found q (request-below q t)).1 ∙ t ∙ sym (ap not (quiet-shuts st (Ask p c is) ask-quiet (request_of st.requests q)));
          requests-kept = λ q t g. (request-found q (request-below q t)).0 ∙ sym (still-request st (Ask p c is) ask-quiet (λ v. refl) (request_of st.requests q));
          records = λ q. refl;
          next = omega arith;
          new-rows = λ n t u. new-above st.next n _ _ (λ lt. old-number st s p c (items_of is) a n (omega arith)) t u;
          new-requests = λ q t u. new-above st.next q _ _ (λ lt. (request-found q lt).1) t u;
        }

  -- ---- fetch
  module _ (p e : ℕ) (a : FetchAllowed st p e) where
    abbrev v : Request
    v = asked_of st e

    fetch-quiet : Quiet st (Fetch p e)
    unfolding closed_by discards
    fetch-quiet = record { closes-none = refl; discards-none = λ r. refl }

    handed-number : (r : Row) → (handed_to p v r).number ≡ r.number
    unfolding handed_to moved
    handed-number r = moved-number (λ m. lists m v) (in_clist p) r

    handed-none : handed_to p v no_row ≡ no_row
    unfolding handed_to no_row lists some
    handed-none = refl

    fetched-kept : (w : Request) → request_after st (Fetch p e) w ≡ now_fetched v.number w
    unfolding now_fetched fetched_by
    fetched-kept w = quiet-request st (Fetch p e) fetch-quiet w ∙ pick (eqb w.number v.number)
      where
        pick : (b : Bool) → with_items w.items (if b then with_fetched fetched_mark w else w) ≡ (if b then with_fetched fetched_mark w else w)
        pick true = refl
        pick false = refl

    fetch-touches : Touches st (Fetch p e) (handed_over p v st)
    unfolding handed_over takes record_after place_after row_of numbers
    fetch-touches =
        record {
          rows = λ n t. same n ∙ t ∙ sym (ap not (quiet-goes st (Fetch p e) fetch-quiet n));
          rows-kept = λ n t g.
              first-map (λ r. r.number) no_row (handed_to p v) handed-number handed-none st.rows n
              ∙ (unfold handed_to in placed-if (lists (row_of st.rows n).number v) (in_clist p) (row_of st.rows n));
          requests = λ q t. asked q ∙ t ∙ sym (ap not (quiet-shuts st (Fetch p e) fetch-quiet (request_of st.requests q)));
          requests-kept = λ q t g.
              request-now v.number st.requests q (some-pos v.number a.serves.asked) ∙ sym (fetched-kept (request_of st.requests q));
          records = λ q. refl;
          next = omega arith;
          new-rows = λ n t u. absurd (u (sym (same n) ∙ t));
          new-requests = λ q t u. absurd (u (sym (asked q) ∙ t));
        }
      where
        same : (n : ℕ) → member n (map (λ r. r.number) (map (handed_to p v) st.rows)) ≡ member n (map (λ r. r.number) st.rows)
        same n = ap (member n) (keys-map (λ r. r.number) (handed_to p v) handed-number st.rows)

        asked : (q : ℕ) → member q (map (λ v. v.number) (map (now_fetched v.number) st.requests)) ≡ member q (map (λ v. v.number) st.requests)
        asked q = ap (member q) (keys-map (λ v. v.number) (now_fetched v.number) (now-number v.number) st.requests)

  -- ---- a closing
  module _ (c : Call) (g : List ℕ) (f : Request → Bool) (x : Closes st c g f) (k : Plain st c) where
    -- at each open request
    shut_at : (q : ℕ) → IsOpen st q → f (request_of st.requests q) ≡ shuts st c (request_of st.requests q)
    unfolding request_of
    shut_at q t = agree_at (λ v. v.number) no_request f (shuts st c) st.requests x.agrees q t

    goes_at : (n : ℕ) → IsRow st n → goes st c n ≡ false → member n g ≡ false
    goes_at n t h = x.gone n t ∙ h

    row-closed : (n : ℕ) → IsRow st n → goes st c n ≡ false → row_of (settled g f st).rows n ≡ with_place (place_after st c (row_of st.rows n)) (row_of st.rows n)
    unfolding returned place_back
    row-closed n t h =
        let r = row_of st.rows n in
        row-after g f st n (goes_at n t h)
        ∙ ap (λ w. if some w.number then with_place (in_clist w.asker) r else r) (oldest-agree f (shuts st c) r.number st.requests x.agrees)
        ∙ placed-if (some (oldest_listing (shuts st c) r.number st.requests).number) (in_clist (oldest_listing (shuts st c) r.number st.requests).asker) r
        ∙ ap (λ p. with_place p r) (sym (k.placed r))

    -- ---- the items of a request that stays
    module _ (q : ℕ) (t : IsOpen st q) where
      abbrev w : Request
      w = request_of st.requests q

      older-shut : (e : ℕ) → listed_in f (older_of (λ v. v.number) st.requests q) e ≡ any (λ w'. ltb w'.number w.number && (shuts st c w' && lists e w')) st.requests
      unfolding listed_in requests_rise
      older-shut e =
          any-older-is (λ v. v.number) (λ w'. f w' && lists e w') st.requests s.numbers.requests-rise q t
          ∙ any-agree f (shuts st c) (λ w' b. ltb w'.number q && (b && lists e w')) st.requests x.agrees
          ∙ ap (λ m. any (λ w'. ltb w'.number m && (shuts st c w' && lists e w')) st.requests) (sym (request-number st q t))

      -- an item is 0 or a row
      item-left : (e : ℕ) → member e w.items ≡ true
          → cond (leaves f g (older_of (λ v. v.number) st.requests q) e) 0 e ≡ cond (leaves_list st c w e) 0 e
      unfolding leaves leaves_list
      item-left e m = pick (some e) refl
        where
          pick : (b : Bool) → some e ≡ b → cond (leaves f g (older_of (λ v. v.number) st.requests q) e) 0 e ≡ cond (leaves_list st c w e) 0 e
          pick true h =
              let there : IsRow st e = item-row st s q t e (unfold lists in (rw (h, m) refl)) in
              ap (λ b. cond b 0 e) (λ i. x.gone e there i || older-shut e i)
          pick false h = zero-either (leaves f g (older_of (λ v. v.number) st.requests q) e) (leaves_list st c w e) e (none-zero e h)

      request-closed : shuts st c w ≡ false → request_of (settled g f st).requests q ≡ request_after st c w
      unfolding settled request_after trimmed requests_rise
      request-closed h =
          request-after f g st.requests s.numbers.requests-rise q t (shut_at q t ∙ h)
          ∙ ap (λ is. with_items is w) (map_on (λ e. cond (leaves f g (older_of (λ v. v.number) st.requests q) e) 0 e) (λ e. cond (leaves_list st c w e) 0 e) w.items item-left)
          ∙ ap (with_items (map (λ e. cond (leaves_list st c w e) 0 e) w.items)) (sym (k.unfetched w))

    record-closed : (p : ℕ) → process_at (settled g f st).processes p ≡ record_after st c p
    unfolding settled record_homed homed
    record-closed p = homed-at g st.processes p ∙ pick (some y.through) refl ∙ sym (k.homed p)
      where
        y : Process
        y = process_at st.processes p

        pick : (b : Bool) → some y.through ≡ b → (if b && member y.through g then in_prime_node y else y) ≡ (if b && goes st c y.through then in_prime_node y else y)
        pick true h = ap (λ b. if b then in_prime_node y else y) (x.gone y.through (through-at st s p h).there)
        pick false h = refl

    closing-touches : Touches st c (settled g f st)
    unfolding requests_rise request_of
    closing-touches =
        record {
          rows = λ n t. left-keys g f st n ∙ ap (λ b. b && not (member n g)) t ∙ ap not (x.gone n t);
          rows-kept = row-closed;
          requests = λ q t. left q ∙ ap (λ b. b && not (f (request_of st.requests q))) t ∙ ap not (shut_at q t);
          requests-kept = request-closed;
          records = record-closed;
          next = unfold settled in (rw k.unnumbered (omega arith));
          new-rows = λ n t u. absurd (u (and_l (member n (numbers st.rows)) _ (sym (left-keys g f st n) ∙ t)));
          new-requests = λ q t u. absurd (u (and_l (member q (map (λ v. v.number) st.requests)) _ (sym (left q) ∙ t)));
        }
      where
        left : (q : ℕ) → member q (map (λ v. v.number) (settled g f st).requests) ≡ member q (map (λ v. v.number) st.requests) && not (f (request_of st.requests q))
        left q =
            unfold settled in
            (ap (member q) (remaining-keys f g (λ v. v.number) (λ is v. refl) st.requests) ∙ keys_kept (λ v. v.number) no_request (λ v. not (f v)) st.requests s.numbers.requests-rise q)

  pub touches : (c : Call) (st' : State) → Effect st c st' → Touches st c st'
  touches c st' (tells c' x) = still-touches c (question-still st c x) (question-takes st c x)
  touches c st' (moves-to p e a) = go-touches p e a
  touches c st' (adds c' rs n a z) = adds-touches c rs n a z
  touches c st' (asks p k is a) = ask-touches p k is a
  touches c st' (fetches p e a) = fetch-touches p e a
  touches c st' (shuts-off c' g f x k) = closing-touches c g f x k
