-- ask: the clauses of requests and numbers.
use Prim.Native.Nat.{ℕ, suc, ◌+◌, ◌<◌, ◌≤◌}
use mathlib.Core.Bool.{Bool, true, false, not, ◌&&◌, ◌||◌}
use mathlib.Core.List.{List, [], ◌∷◌, map}
use mathlib.Core.Path.{◌≡◌, refl, sym, ap, ◌∙◌}
use mathlib.Core.Logic.{◌⊎◌, inl, inr}
use lib.Dec.{leb, ltb, eqb}
use lib.ListN.{length}
use borrow.Author.Tests.{eqb-true, eq-eqb, ltb-true, le-leb, lt-ltb}
use native.Mathlib.Omega.{arith}
use Rattle.rows.specs.declared.Request.{Request}
use Rattle.rows.specs.Lists.{any, all, each, top_of, member, distinct, between, some, nonzero}
use Rattle.rows.specs.Limits.{greatest_number, request_slots, most_items}
use Rattle.rows.specs.Codes.{client_end, is_client, is_end, in_clist, is_system}
use Rattle.rows.specs.Tables.{State, no_row, no_request, row_of, request_of, open_on, is_listed, numbers, lists}
use Rattle.rows.specs.Sound.{mark_in_range, requests_rise, numbers_apart, below_next, next_in_range, requests_fit, fetched_in_range, is_paired_with, port_stands, ports_stand, requesters_listed, items_few, items_apart, may_be_listed, items_lent, one_per_port, is_fetched, older_fetched_by, older_fetched, awaits_fetch}
use Rattle.rows.proofs.Bools.{false_of, clash, and_l, and_r, and_i, or_l, or_r, not_t, not_f, eqb-self, pos-some, all-mono, all-and, member-here, member-there}
use Rattle.rows.proofs.Keyed.{all_first, first_key, rises-cons, rises-range}
use Rattle.tables.proofs.Sound.{Numbers, LoansSound, HoldersSound, Sound}
use Rattle.rows.proofs.RowSources.{end-there}
use Rattle.tables.proofs.SoundFacts.{row_below, requests-top, requests-below, next-some, clist-not-system, row_number, client-paired, eq-same}
use Rattle.tables.proofs.Picked.{all_found}
use Rattle.rows.proofs.LayoutColumns.{length-pad}
use Rattle.rows.proofs.Lists.{all-of-member}
use Rattle.rows.proofs.Places.{no-row-listed}
use Rattle.tables.proofs.Awaits.{listers-fetched}
use Rattle.rows.specs.Setters.{with_place}
use Rattle.calls.specs.declared.Item.{Item}
use Rattle.calls.specs.Rules.{not_held, has_open}
use Rattle.calls.specs.Loans.{copies, new_request}
use Rattle.kept.proofs.AddRow.{none-lists}
use Rattle.kept.proofs.Loans.{held-so}
use Rattle.kept.proofs.AskItems.{is_item, listed}
use Rattle.kept.proofs.AskList.{nonzero-pad, nonzero-all, named_end, listed-length, listed-some, listed-apart, listed-cases}
use Rattle.kept.proofs.AskStack.{bears-stacked}
use Rattle.kept.proofs.Allowed.{AskAllowed}
use Rattle.kept.proofs.AskFacts.{lent_rows, asked_rows, asked, asked_state, named-held, named-old, lists-cases, old-number, old-passes}
use Rattle.kept.proofs.AskRows.{rows-top', rows-rise, rows-fit, copies-listed, system-holds}
use Rattle.kept.proofs.Stand.{held-there}

any-members : (f : ℕ → Bool) (ns : List ℕ) → ((n : ℕ) → member n ns ≡ true → f n ≡ false) → any f ns ≡ false
unfolding any
any-members f [] h = refl
any-members f (n ∷ ns) h = rw (h n (member-here n ns)) (any-members f ns (λ m t. h m (member-there m n ns t)))

module _ (st : State) (s : Sound st) (p c : ℕ) (is : List Item) (a : AskAllowed st p c is) where
  -- what holds of the old requests and of the new one
  requests-all : (P : Request → Bool) → P (asked st p c is) ≡ true → all P st.requests ≡ true → all P (asked st p c is ∷ st.requests) ≡ true
  unfolding all
  requests-all P h e = and_i (P (asked st p c is)) (all P st.requests) h e

  of-requests : (P : Request → Bool) → ((n : ℕ) → member n (map (λ v. v.number) st.requests) ≡ true → P (request_of st.requests n) ≡ true) → all P st.requests ≡ true
  of-requests P h = unfold request_of in all_found (λ v. v.number) no_request P st.requests (unfold requests_rise in s.numbers.requests-rise) h

  numbers-apart : numbers_apart (asked_state st p c is).rows (asked_state st p c is).requests ≡ true
  unfolding numbers_apart
  numbers-apart =
      requests-all (λ v. not (member v.number (numbers (asked_rows st c is)))) (unfold new_request in ap not fresh)
      (all-and (λ v. ltb v.number st.next) (λ v. not (member v.number (numbers st.rows))) (λ v. not (member v.number (numbers (asked_rows st c is)))) older
      st.requests (requests-below st s.numbers) s.numbers.numbers-apart)
    where
      fresh : member st.next (numbers (asked_rows st c is)) ≡ false
      fresh = old-number st s p c is a st.next (omega arith) ∙ false_of (member st.next (numbers st.rows)) (λ t. let (lo, hi) = row_below st s.numbers st.next t in omega arith)

      older : (v : Request) → ltb v.number st.next ≡ true → not (member v.number (numbers st.rows)) ≡ true → not (member v.number (numbers (asked_rows st c is))) ≡ true
      older v t e = let lt = ltb-true v.number st.next t in ap not (old-number st s p c is a v.number (omega arith)) ∙ e

  -- ---- the port and the requester
  -- the other end of port c has number c + 1
  server-older : suc c < st.next
  unfolding is_paired_with
  server-older = (row_below st s.numbers (suc c) (end-there st.rows (suc c) (and_l (is_end (row_of st.rows (suc c)).kind) _ (client-paired st s.rows c a.client)))).1

  ports-stand : ports_stand (asked_state st p c is).rows (asked_state st p c is).requests ≡ true
  unfolding ports_stand
  ports-stand =
      requests-all (port_stands (asked_rows st c is))
      (unfold port_stands new_request in and_i (is_client (row_of (asked_rows st c is) c).kind) (ltb (suc c) st.next) (client c a.client) (lt-ltb (suc c) st.next server-older))
      (all-mono (port_stands st.rows) (port_stands (asked_rows st c is)) older st.requests s.loans.ports-stand)
    where
      client : (e : ℕ) → is_client (row_of st.rows e).kind ≡ true → is_client (row_of (asked_rows st c is) e).kind ≡ true
      client e t = old-passes st s p c is a (λ r. is_client r.kind) (unfold no_row is_client client_end in refl) (λ r. unfold with_place in refl) e t

      older : (v : Request) → port_stands st.rows v ≡ true → port_stands (asked_rows st c is) v ≡ true
      older v e =
          unfold port_stands in
          and_i (is_client (row_of (asked_rows st c is) v.port).kind) (ltb (suc v.port) v.number)
          (client v.port (and_l (is_client (row_of st.rows v.port).kind) (ltb (suc v.port) v.number) e))
          (and_r (is_client (row_of st.rows v.port).kind) (ltb (suc v.port) v.number) e)

  one-per-port : one_per_port (asked_state st p c is).requests ≡ true
  unfolding one_per_port distinct new_request
  one-per-port = and_i (not (member c (map (λ v. v.port) st.requests))) (distinct (map (λ v. v.port) st.requests)) (ap not unused) s.loans.one-per-port
    where
      positive : all (λ v. some v.number) st.requests ≡ true
      positive =
          of-requests (λ v. some v.number)
          (λ n t. rw (number n t) (pos-some n (rises-range (λ v. v.number) st.requests (unfold requests_rise in s.numbers.requests-rise) n t).0))
        where
          number : (n : ℕ) → member n (map (λ v. v.number) st.requests) ≡ true → (request_of st.requests n).number ≡ n
          number n t = unfold request_of in first_key (λ v. v.number) no_request st.requests n t

      unused : member c (map (λ v. v.port) st.requests) ≡ false
      unused =
          false_of (member c (map (λ v. v.port) st.requests)) λ t.
          let o : some (open_on st.requests c).number ≡ true = unfold open_on in all_first (λ v. v.port) no_request (λ v. some v.number) st.requests c positive t in
          clash o (unfold has_open in a.free)

  -- ---- the items
  its-listed : nonzero (asked st p c is).items ≡ listed st is (suc st.next)
  unfolding new_request
  its-listed = nonzero-pad most_items (listed st is (suc st.next)) ∙ nonzero-all (listed st is (suc st.next)) (listed-some st is a.rows-some (suc st.next) (omega arith))

  items-apart : items_apart (asked_state st p c is).requests ≡ true
  unfolding items_apart
  items-apart = requests-all (λ v. distinct (nonzero v.items)) (ap distinct its-listed ∙ listed-apart st is a.rows_apart (suc st.next) older) s.loans.items-apart
    where
      older : all (λ i. ltb i.row (suc st.next)) is ≡ true
      older =
          all-mono (λ i. not (not_held st p i.row)) (λ i. ltb i.row (suc st.next))
          (λ i h. let (lo, hi) = row_below st s.numbers i.row (held-there st p i.row (not_t (not_held st p i.row) h)) in lt-ltb i.row (suc st.next) (omega arith)) is a.held

  items-lent : items_lent (asked_state st p c is).rows (asked_state st p c is).requests ≡ true
  unfolding items_lent
  items-lent =
      requests-all (λ v. all (λ e. may_be_listed v (row_of (asked_rows st c is) e)) (nonzero v.items))
      (ap (all (λ e. may_be_listed (asked st p c is) (row_of (asked_rows st c is) e))) its-listed
      ∙ all-of-member (λ e. may_be_listed (asked st p c is) (row_of (asked_rows st c is) e)) (listed st is (suc st.next)) (λ e t. lent e (listed-cases st is (suc st.next) e t)))
      (all-mono (λ v. all (λ e. may_be_listed v (row_of st.rows e)) (nonzero v.items)) (λ v. all (λ e. may_be_listed v (row_of (asked_rows st c is) e)) (nonzero v.items))
      (λ v. all-mono (λ e. may_be_listed v (row_of st.rows e)) (λ e. may_be_listed v (row_of (asked_rows st c is) e)) (older v) (nonzero v.items)) st.requests s.loans.items-lent)
    where
      older : (v : Request) (e : ℕ) → may_be_listed v (row_of st.rows e) ≡ true → may_be_listed v (row_of (asked_rows st c is) e) ≡ true
      older v e t = old-passes st s p c is a (may_be_listed v) (no-row-listed v) (λ r. unfold may_be_listed with_place in refl) e t

      lent : (e : ℕ) → (is_item st is e ≡ true) ⊎ ((suc st.next ≤ e) × (e < suc st.next + length (copies st is))) → may_be_listed (asked st p c is) (row_of (asked_rows st c is) e) ≡ true
      lent e (inl g) =
          older (asked st p c is) e
          (unfold may_be_listed new_request in
          rw (named_end st is e g, row_number st.rows e (held-there st p e (named-held st s p c is a e g)), lt-ltb e st.next (named-old st s p c is a e g).1) refl)
      lent e (inr (lo, hi)) =
          unfold may_be_listed new_request in
          or_r (is_end (row_of (asked_rows st c is) e).kind && ltb (row_of (asked_rows st c is) e).number st.next)
          (some (row_of (asked_rows st c is) e).request && eqb (row_of (asked_rows st c is) e).request st.next)
          (rw (bears-stacked st c st.next (copies st is) (suc st.next) (lent_rows st is) e lo hi, pos-some st.next (next-some st s.numbers)) (eqb-self st.next))

  -- ---- the older requests that list an end is_item are fetched
  older-fetched : older_fetched (asked_state st p c is).requests ≡ true
  unfolding older_fetched each
  older-fetched =
      and_i (older_fetched_by (asked st p c is) st.requests) (each older_fetched_by st.requests)
      (unfold older_fetched_by in of-requests fetched-or (λ n t. pick n t (is_fetched (request_of st.requests n)) refl)) s.holders.older-fetched
    where
      fetched-or : Request → Bool
      fetched-or w = is_fetched w || not (any (λ e. lists e w) (asked st p c is).items)

      at : (n : ℕ) → member n (map (λ v. v.number) st.requests) ≡ true → (P : Request → Bool) → all P st.requests ≡ true → P (request_of st.requests n) ≡ true
      at n t P e = unfold request_of in all_first (λ v. v.number) no_request P st.requests n e t

      in-clist : (e : ℕ) → is_item st is e ≡ true → is_system (row_of st.rows e).place ≡ false
      in-clist e g =
          let held : (row_of st.rows e).place ≡ in_clist p =
          unfold not_held in eqb-true (row_of st.rows e).place (in_clist p)
          (not_f (eqb (row_of st.rows e).place (in_clist p)) (named-held st s p c is a e g)) in
          ap is_system held ∙ clist-not-system st s.placed p a.caller

      -- what the new request lists no unfetched one lists
      unshared : (w : ℕ) → member w (map (λ v. v.number) st.requests) ≡ true → is_fetched (request_of st.requests w) ≡ false
          → (e : ℕ) → (is_item st is e ≡ true) ⊎ ((suc st.next ≤ e) × (e < suc st.next + length (copies st is))) → lists e (request_of st.requests w) ≡ false
      unshared w t f e (inl g) =
          let all-fetched =
          let held = held-so st.rows st.requests s.holders.system-holds e (held-there st p e (named-held st s p c is a e g)) in
          listers-fetched e st.requests s.holders.older-fetched
          (sym (eq-same (is_system (row_of st.rows e).place) (awaits_fetch st.requests e) held) ∙ in-clist e g) in
          not_t (lists e (request_of st.requests w)) (rw f at (at w t (λ w. is_fetched w || not (lists e w)) all-fetched))
      unshared w t f e (inr (lo, hi)) =
          let new : member e (numbers st.rows) ≡ false = false_of (member e (numbers st.rows)) (λ m. let (l, h) = row_below st s.numbers e m in omega arith) in
          not_t (lists e (request_of st.requests w)) (at w t (λ v. not (lists e v)) (none-lists st.rows st.requests s.loans.items-lent e new))

      pick : (n : ℕ) → member n (map (λ v. v.number) st.requests) ≡ true → (b : Bool) → is_fetched (request_of st.requests n) ≡ b → fetched-or (request_of st.requests n) ≡ true
      pick n t true f = or_l (is_fetched (request_of st.requests n)) (not (any (λ e. lists e (request_of st.requests n)) (asked st p c is).items)) f
      pick n t false f =
          or_r (is_fetched (request_of st.requests n)) (not (any (λ e. lists e (request_of st.requests n)) (asked st p c is).items))
          (ap not (any-members (λ e. lists e (request_of st.requests n)) (asked st p c is).items
          (λ e m. false_of (lists e (request_of st.requests n)) (λ l. clash l (unshared n t f e (lists-cases st s p c is a e (too e m (request_of st.requests n) l)))))))
        where
          too : (e : ℕ) → member e (asked st p c is).items ≡ true → (w : Request) → lists e w ≡ true → lists e (asked st p c is) ≡ true
          too e m w l = unfold lists in and_i (some e) (member e (asked st p c is).items) (and_l (some e) (member e w.items) l) m

  -- ---- the parts
  pub numbers-asked : Numbers (asked_state st p c is).next (asked_rows st c is) (asked st p c is ∷ st.requests)
  unfolding requests_rise new_request below_next top_of next_in_range between requests_fit
  numbers-asked =
      record {
        rows-rise = rows-rise st s p c is a;
        requests-rise = rises-cons (λ v. v.number) (asked st p c is) st.requests (requests-top st s.numbers) s.numbers.requests-rise;
        numbers-apart = numbers-apart;
        below-next =
            and_i (ltb (top_of (λ r. r.number) (asked_rows st c is)) (suc st.next + length (copies st is))) (ltb st.next (suc st.next + length (copies st is)))
            (lt-ltb (top_of (λ r. r.number) (asked_rows st c is)) (suc st.next + length (copies st is)) (rows-top' st s p c is a))
            (lt-ltb st.next (suc st.next + length (copies st is)) (omega arith));
        next-in-range =
            let room = a.numbers-room in
            and_i (leb 1 (suc st.next + length (copies st is))) (leb (suc st.next + length (copies st is)) (suc greatest_number))
            (le-leb 1 (suc st.next + length (copies st is)) (omega arith)) (le-leb (suc st.next + length (copies st is)) (suc greatest_number) (omega arith));
        rows-fit = rows-fit st s p c is a;
        requests-fit = let room = a.requests-room in le-leb (suc (length st.requests)) request_slots (omega arith);
      }

  pub loans-asked : LoansSound (asked_rows st c is) (asked st p c is ∷ st.requests) st.processes
  unfolding fetched_in_range requesters_listed items_few new_request
  loans-asked =
      record {
        fetched-in-range = requests-all mark_in_range (unfold new_request in refl) s.loans.fetched-in-range;
        ports-stand = ports-stand;
        requesters-listed = requests-all (λ v. is_listed st.processes v.asker) (unfold new_request in a.caller) s.loans.requesters-listed;
        items-few =
            let few = a.few in
            let l = listed-length st is (suc st.next) in
            requests-all (λ v. eqb (length v.items) most_items)
            (eq-eqb (length (asked st p c is).items) most_items (length-pad 0 most_items (listed st is (suc st.next)) (omega arith))) s.loans.items-few;
        items-apart = items-apart;
        items-lent = items-lent;
        one-per-port = one-per-port;
        copies-listed = copies-listed st s p c is a;
      }

  pub holders-asked : HoldersSound (asked_rows st c is) (asked st p c is ∷ st.requests)
  holders-asked =
      record {
        older-fetched = older-fetched;
        system-holds = system-holds st s p c is a;
      }
