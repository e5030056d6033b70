-- The clauses of soundness on requests hold of those that stay open.
use Prim.Native.Nat.{ℕ, suc, ◌<◌, ◌≤◌}
use mathlib.Core.Bool.{Bool, true, false, not, cond, ◌&&◌, ◌||◌}
use mathlib.Core.List.{List, [], ◌∷◌, map}
use mathlib.Core.Path.{◌≡◌, refl, sym, ap, ◌∙◌}
use lib.Dec.{leb, ltb, eqb}
use lib.ListN.{length, length-map}
use mathlib.Core.Logic.{◌⊎◌, inl, inr}
use borrow.Author.Tests.{leb-true, le-leb, ltb-true, lt-ltb}
use native.Mathlib.Omega.{arith}
use Rattle.rows.specs.declared.Row.{Row}
use Rattle.rows.specs.declared.Request.{Request}
use Rattle.rows.specs.Lists.{any, all, each, filter, member, top_of, distinct, some, nonzero}
use Rattle.rows.specs.Limits.{row_slots, request_slots, most_items}
use Rattle.rows.specs.Codes.{is_client}
use Rattle.rows.specs.Tables.{State, row_of, numbers, is_listed, lists}
use Rattle.rows.specs.Sound.{rows_rise, requests_rise, numbers_apart, below_next, rows_fit, requests_fit, fetched_in_range, port_stands, ports_stand, requesters_listed, items_few, items_apart, may_be_listed, items_lent, one_per_port, is_fetched, older_fetched_by, copies_listed}
use Rattle.rows.proofs.Bools.{clash, and_l, and_r, and_i, not_t, or-fl, or_map, any-mono, all-at}
use Rattle.rows.proofs.Keyed.{rises-range}
use Rattle.tables.proofs.Sound.{Numbers, LoansSound}
use Rattle.rows.proofs.Lists.{distinct_filter, all-of-member, member-nonzero}
use Rattle.rows.specs.Setters.{with_place}
use Rattle.closing.specs.Closing.{returned, listed_in, leaves, homed, trimmed, remaining, settled}
use Rattle.closing.proofs.TrimmedLists.{top-member, length-filter, trim, member-trim, any-trim, distinct-trim}
use Rattle.closing.specs.vocabulary.Marks.{Stands}
use Rattle.closing.proofs.RemovedRows.{Closed}
use Rattle.closing.proofs.Lookups.{rows-rise-kept, trimmed-lists, remaining-known, remaining-keys, all-remaining, remaining-rises, left-stood, left-keys, row-after, returned-keeps}
use Rattle.closing.proofs.Processes.{listed_kept}

-- ---- the older ones that list an item are fetched
module _ (f : Request → Bool) (g : List ℕ) where
  -- items that are among those of v, or 0
  fetched-by : (is js : List ℕ) → ((w : Request) → any (λ e. lists e w) js ≡ true → any (λ e. lists e w) is ≡ true) → (vs : List Request)
      → all (λ w. is_fetched w || not (any (λ e. lists e w) is)) vs ≡ true → all (λ w. is_fetched w || not (any (λ e. lists e w) js)) (remaining f g vs) ≡ true
  fetched-by is js h vs a = all-remaining f g (λ w. is_fetched w || not (any (λ e. lists e w) is)) (λ w. is_fetched w || not (any (λ e. lists e w) js)) at-request vs a
    where
      fewer : (ws : List Request) (w : Request) → any (λ e. lists e (trimmed f g ws w)) js ≡ true → any (λ e. lists e w) js ≡ true
      fewer ws w t =
          any-mono (λ e. lists e (trimmed f g ws w)) (λ e. lists e w) (λ e u. and_l (lists e w) (not (leaves f g ws e)) (sym (trimmed-lists f g ws w e) ∙ u)) js t

      contra : (a b : Bool) → (b ≡ true → a ≡ true) → not a ≡ true → not b ≡ true
      contra a true k e = clash (k refl) (not_t a e)
      contra a false k e = refl

      at-request : (ws : List Request) (w : Request) → f w ≡ false → is_fetched w || not (any (λ e. lists e w) is) ≡ true
          → is_fetched (trimmed f g ws w) || not (any (λ e. lists e (trimmed f g ws w)) js) ≡ true
      at-request ws w q e =
          let same : is_fetched (trimmed f g ws w) ≡ is_fetched w = unfold is_fetched trimmed in refl in
          rw same (or_map (is_fetched w) (not (any (λ e. lists e w) is)) (not (any (λ e. lists e (trimmed f g ws w)) js)) (contra _ _ (λ t. h w (fewer ws w t))) e)

  pub older-fetched-remain : (vs : List Request) → each older_fetched_by vs ≡ true → each older_fetched_by (remaining f g vs) ≡ true
  unfolding remaining each older_fetched_by trimmed trim
  older-fetched-remain [] e = refl
  older-fetched-remain (v ∷ vs) e = pick (older-fetched-remain vs (and_r (older_fetched_by v vs) (each older_fetched_by vs) e)) (f v)
    where
      some-listed : (w : Request) → any (λ e. lists e w) (trim (leaves f g vs) v.items) ≡ true → any (λ e. lists e w) v.items ≡ true
      some-listed w t = any-trim (leaves f g vs) (λ e. lists e w) (unfold lists some in refl) v.items t

      pick : each older_fetched_by (remaining f g vs) ≡ true → (b : Bool) → each older_fetched_by (cond b (remaining f g vs) (trimmed f g vs v ∷ remaining f g vs)) ≡ true
      pick ih true = ih
      pick ih false = and_i _ _ (fetched-by v.items (trim (leaves f g vs) v.items) some-listed vs (and_l (older_fetched_by v vs) (each older_fetched_by vs) e)) ih

  length-remaining : (vs : List Request) → length (remaining f g vs) ≤ length vs
  length-remaining vs =
      let a : length (map (λ v. v.number) (remaining f g vs)) ≡ length (map (λ v. v.number) (filter (λ v. not (f v)) vs)) = ap length (remaining-keys f g (λ v. v.number) (λ is v. refl) vs) in
      let b : length (map (λ v. v.number) (remaining f g vs)) ≡ length (remaining f g vs) = length-map (remaining f g vs) (λ v. v.number) in
      let c : length (map (λ v. v.number) (filter (λ v. not (f v)) vs)) ≡ length (filter (λ v. not (f v)) vs) = length-map (filter (λ v. not (f v)) vs) (λ v. v.number) in
      let d : length (filter (λ v. not (f v)) vs) ≤ length vs = length-filter (λ v. not (f v)) vs in
      omega arith

-- ---- the clauses
module _ (g : List ℕ) (f : Request → Bool) (st : State) where
  numbers-apart-kept : numbers_apart st.rows st.requests ≡ true → numbers_apart (settled g f st).rows (settled g f st).requests ≡ true
  unfolding numbers_apart
  numbers-apart-kept w =
      unfold settled in all-remaining f g (λ v. not (member v.number (numbers st.rows))) (λ v. not (member v.number (numbers (settled g f st).rows))) at-request st.requests w
    where
      apart : (n : ℕ) → not (member n (numbers st.rows)) ≡ true → not (member n (numbers (settled g f st).rows)) ≡ true
      apart n e = ap not (left-keys g f st n ∙ ap (λ b. b && not (member n g)) (not_t (member n (numbers st.rows)) e))

      at-request : (vs : List Request) (v : Request) → f v ≡ false → not (member v.number (numbers st.rows)) ≡ true
          → not (member (trimmed f g vs v).number (numbers (settled g f st).rows)) ≡ true
      at-request vs v q e = unfold trimmed in apart v.number e

  ports-stand-kept : Closed g f st → ports_stand st.rows st.requests ≡ true → ports_stand (settled g f st).rows (settled g f st).requests ≡ true
  unfolding ports_stand port_stands settled trimmed with_place
  ports-stand-kept c w = all-remaining f g (port_stands st.rows) (port_stands (settled g f st).rows) at-request st.requests w
    where
      at-request : (vs : List Request) (v : Request) → f v ≡ false → port_stands st.rows v ≡ true → port_stands (settled g f st).rows (trimmed f g vs v) ≡ true
      at-request vs v q e =
          let k : is_client (row_of (settled g f st).rows v.port).kind ≡ is_client (row_of st.rows v.port).kind =
          ap (λ r. is_client r.kind) (row-after g f st v.port (c.port-stays v q)) ∙ returned-keeps (λ r. is_client r.kind) (λ p r. refl) f st.requests (row_of st.rows v.port) in
          ap (λ b. b && ltb (suc v.port) v.number) k ∙ e

  items-lent-kept : items_lent st.rows st.requests ≡ true → items_lent (settled g f st).rows (settled g f st).requests ≡ true
  unfolding items_lent may_be_listed settled trimmed trim with_place leaves
  items-lent-kept w =
      all-remaining f g (λ v. all (λ e. may_be_listed v (row_of st.rows e)) (nonzero v.items))
      (λ v. all (λ e. may_be_listed v (row_of (settled g f st).rows e)) (nonzero v.items)) at-request st.requests w
    where
      at_item : (vs : List Request) (v : Request) → all (λ e. may_be_listed v (row_of st.rows e)) (nonzero v.items) ≡ true → (e : ℕ) → member e (nonzero (trim (leaves f g vs) v.items)) ≡ true
          → may_be_listed v (row_of (settled g f st).rows e) ≡ true
      at_item vs v a e t =
          let u : some e && member e (trim (leaves f g vs) v.items) ≡ true = sym (member-nonzero (trim (leaves f g vs) v.items) e) ∙ t in
          let sm : some e ≡ true = and_l (some e) (member e (trim (leaves f g vs) v.items)) u in
          let w : member e v.items && not (leaves f g vs e) ≡ true = sym (member-trim (leaves f g vs) v.items e sm) ∙ and_r (some e) (member e (trim (leaves f g vs) v.items)) u in
          let stays : leaves f g vs e ≡ false = not_t (leaves f g vs e) (and_r (member e v.items) (not (leaves f g vs e)) w) in
          let left : member e g ≡ false = or-fl (member e g) (listed_in f vs e) stays in
          let before : may_be_listed v (row_of st.rows e) ≡ true =
          all-at (λ e. may_be_listed v (row_of st.rows e)) (nonzero v.items) a e (member-nonzero v.items e ∙ and_i _ _ sm (and_l (member e v.items) (not (leaves f g vs e)) w)) in
          ap (may_be_listed v) (row-after g f st e left) ∙ returned-keeps (may_be_listed v) (λ p r. refl) f st.requests (row_of st.rows e) ∙ before

      at-request : (vs : List Request) (v : Request) → f v ≡ false → all (λ e. may_be_listed v (row_of st.rows e)) (nonzero v.items) ≡ true
          → all (λ e. may_be_listed (trimmed f g vs v) (row_of (settled g f st).rows e)) (nonzero (trimmed f g vs v).items) ≡ true
      at-request vs v q a = all-of-member (λ e. may_be_listed v (row_of (settled g f st).rows e)) (nonzero (trim (leaves f g vs) v.items)) (at_item vs v a)

  rows-fit-kept : rows_fit st.rows ≡ true → rows_fit (settled g f st).rows ≡ true
  unfolding rows_fit settled
  rows-fit-kept w =
      let left : List Row = filter (λ r. not (member r.number g)) st.rows in
      let a : length st.rows ≤ row_slots = leb-true (length st.rows) row_slots w in
      let b : length left ≤ length st.rows = length-filter (λ r. not (member r.number g)) st.rows in
      let d : length (map (returned f st.requests) left) ≡ length left = length-map left (returned f st.requests) in
      le-leb (length (map (returned f st.requests) left)) row_slots (omega arith)

  below-next-kept : Numbers st.next st.rows st.requests → below_next (settled g f st).next (settled g f st).rows (settled g f st).requests ≡ true
  unfolding below_next rows_rise requests_rise numbers
  below-next-kept s =
      unfold settled in and_i _ _ (lt-ltb (top_of (λ r. r.number) (settled g f st).rows) st.next (rows (top-member (λ r. r.number) (settled g f st).rows)))
      (lt-ltb (top_of (λ v. v.number) (remaining f g st.requests)) st.next (requests (top-member (λ v. v.number) (remaining f g st.requests))))
    where
      rows-below : top_of (λ r. r.number) st.rows < st.next
      rows-below = ltb-true _ _ (and_l (ltb (top_of (λ r. r.number) st.rows) st.next) (ltb (top_of (λ v. v.number) st.requests) st.next) s.below-next)

      requests-below : top_of (λ v. v.number) st.requests < st.next
      requests-below = ltb-true _ _ (and_r (ltb (top_of (λ r. r.number) st.rows) st.next) (ltb (top_of (λ v. v.number) st.requests) st.next) s.below-next)

      below : (m n k : ℕ) → n < k → (m ≡ 0) ⊎ (m ≤ n) → m < k
      below m n k h (inl z) = omega arith
      below m n k h (inr l) = omega arith

      rows : (top_of (λ r. r.number) (settled g f st).rows ≡ 0) ⊎ Stands (settled g f st) (top_of (λ r. r.number) (settled g f st).rows) → top_of (λ r. r.number) (settled g f st).rows < st.next
      rows (inl z) = below _ _ _ rows-below (inl z)
      rows (inr t) = below _ _ _ rows-below (inr (rises-range (λ r. r.number) st.rows s.rows-rise _ (left-stood g f st _ t)).1)

      left : List Request
      left = remaining f g st.requests

      requests : (top_of (λ v. v.number) left ≡ 0) ⊎ (member (top_of (λ v. v.number) left) (map (λ v. v.number) left) ≡ true) → top_of (λ v. v.number) left < st.next
      requests (inl z) = below _ _ _ requests-below (inl z)
      requests (inr t) = below _ _ _ requests-below (inr (rises-range (λ v. v.number) st.requests s.requests-rise _ (remaining-known f g st.requests _ t)).1)

  -- ---- the parts
  pub numbers-kept : Numbers st.next st.rows st.requests → Numbers (settled g f st).next (settled g f st).rows (settled g f st).requests
  unfolding requests_rise settled requests_fit
  numbers-kept s =
      record {
        rows-rise = rows-rise-kept g f st s.rows-rise;
        requests-rise = remaining-rises f g st.requests s.requests-rise;
        numbers-apart = numbers-apart-kept s.numbers-apart;
        below-next = below-next-kept s;
        next-in-range = s.next-in-range;
        rows-fit = rows-fit-kept s.rows-fit;
        requests-fit =
            let a : length st.requests ≤ request_slots = leb-true (length st.requests) request_slots s.requests-fit in
            let b : length (remaining f g st.requests) ≤ length st.requests = length-remaining f g st.requests in
            le-leb (length (remaining f g st.requests)) request_slots (omega arith);
      }

  -- that copies are listed is told with the rows
  pub loans-kept : Closed g f st → copies_listed (settled g f st).requests (settled g f st).rows ≡ true → LoansSound st.rows st.requests st.processes
      → LoansSound (settled g f st).rows (settled g f st).requests (settled g f st).processes
  unfolding fetched_in_range settled trimmed requesters_listed items_few items_apart trim one_per_port
  loans-kept c listed s =
      record {
        fetched-in-range = all-remaining f g (λ v. leb v.fetched 1) (λ v. leb v.fetched 1) (λ vs v q e. e) st.requests s.fetched-in-range;
        ports-stand = ports-stand-kept c s.ports-stand;
        requesters-listed =
            all-remaining f g (λ v. is_listed st.processes v.asker) (λ v. is_listed (map (homed g) st.processes) v.asker)
            (λ vs v q e. listed_kept g st.processes v.asker ∙ e) st.requests s.requesters-listed;
        items-few =
            all-remaining f g (λ v. eqb (length v.items) most_items) (λ v. eqb (length v.items) most_items)
            (λ vs v q e. ap (λ n. eqb n most_items) (length-map v.items (λ e. cond (leaves f g vs e) 0 e)) ∙ e) st.requests s.items-few;
        items-apart =
            all-remaining f g (λ v. distinct (nonzero v.items)) (λ v. distinct (nonzero v.items)) (λ vs v q e. distinct-trim (leaves f g vs) v.items e) st.requests s.items-apart;
        items-lent = items-lent-kept s.items-lent;
        one-per-port = ap distinct (remaining-keys f g (λ v. v.port) (λ is v. refl) st.requests) ∙ distinct_filter (λ v. v.port) (λ v. not (f v)) st.requests s.one-per-port;
        copies-listed = listed;
      }
