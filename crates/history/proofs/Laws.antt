-- Laws of sessions that callers want: rows of nodes never vanish; the rights of a copy are within those of the row it was copied from.
use Prim.Native.Nat.{ℕ}
use native.Mathlib.Omega.{arith}
use mathlib.Core.Bool.{Bool, true, false, not, cond, ◌&&◌}
use mathlib.Core.List.{List, [], ◌∷◌, map}
use mathlib.Core.Path.{◌≡◌, sym, ap, ◌∙◌}
use lib.Dec.{eqb}
use borrow.Author.Tests.{eqb-true, ne_eqb}
use Rattle.rows.specs.declared.Row.{Row}
use Rattle.rows.specs.declared.Request.{Request}
use Rattle.std.specs.Prelude.{if◌then◌else◌}
use Rattle.rows.specs.Lists.{member, some}
use Rattle.rows.specs.Codes.{is_end, is_node, in_clist, with_system, within}
use Rattle.rows.specs.Tables.{State, row_of, numbers, marked, bears, lists}
use Rattle.rows.specs.Sound.{is_opening, is_registered, is_held, is_port_end, is_lent_copy, source_of, via_of}
use Rattle.rows.proofs.Bools.{clash, false_of, and_l, and_r, not_t, some-pos, member-there}
use Rattle.rows.proofs.Keyed.{keys-map}
use Rattle.tables.proofs.Sound.{Sound}
use Rattle.rows.proofs.RowSources.{Shape, opening, registered, held, port-end, lent-copy, node-there}
use Rattle.tables.proofs.Standing.{standing-shape, nodes-stay, rights-within}
use Rattle.tables.proofs.SoundFacts.{row_number}
use Rattle.rows.proofs.Places.{clist-not-node}
use Rattle.rows.specs.Setters.{with_place}
use Rattle.closing.specs.Closing.{closing, close_request, close_port, drop_row, is_end_of, is_row, closes}
use Rattle.closing.proofs.Lookups.{left-keys}
use Rattle.calls.specs.declared.Item.{Item}
use Rattle.calls.specs.declared.Call.{Call}
use Rattle.calls.specs.declared.Call.TheVariants.{Go, Hold, Register, Drop, Port, Close, Ask, Fetch, Revoke, Comes, Chain, ComesAll}
use Rattle.calls.specs.Rules.{Out, refused, asked_of, with_new_rows, with_record}
use Rattle.calls.specs.Loans.{Lending, items_of, moves, to_system, lend_end, lend_copy, lend_item, lend_items, lent, with_request, handed_to, handed_over}
use Rattle.calls.specs.Calls.{done, made, go_home, go_through, with_held, with_registered, with_port, effect}
use Rattle.kept.proofs.Allowed.{InHand}
use Rattle.kept.proofs.Moved.{moved, moved-number}
use Rattle.text.specs.Entry.{open_entry, call_on}
use Rattle.history.specs.Reading.{accepts}
use Rattle.history.specs.Demand3.{lent_after, state_in}
use Rattle.history.proofs.Allowed.{Allowed, line-has}
use Rattle.history.proofs.Find.{node-no-end}
use Rattle.history.proofs.Kept.{words-sound, kept}

-- ---- rows of nodes never vanish
-- row n is in the tables after a call
abbrev Stays : ℕ → Out → Type 0
Stays n o = member n (numbers o.after.rows) ≡ true

numbers-moved : (g : Row → Row) → ((r : Row) → (g r).number ≡ r.number) → (rs : List Row) → numbers (map g rs) ≡ numbers rs
unfolding numbers
numbers-moved g h rs = keys-map (λ r. r.number) g h rs

one_more : (n : ℕ) (r : Row) (rs : List Row) → member n (numbers rs) ≡ true → member n (numbers (r ∷ rs)) ≡ true
unfolding numbers
one_more n r rs t = member-there n r.number (map (λ r. r.number) rs) t

-- what an ask lends is added to the rows
item-stays : (st : State) (c v n : ℕ) (i : Item) (l : Lending) → member n (numbers l.rows) ≡ true → member n (numbers (lend_item st c v i l).rows) ≡ true
unfolding lend_item lend_end lend_copy to_system
item-stays st c v n i l t = pick (moves st i)
  where
    ends-lent : numbers (map (λ r. cond (eqb r.number i.row) (with_place with_system r) r) l.rows) ≡ numbers l.rows
    ends-lent = numbers-moved (λ r. cond (eqb r.number i.row) (with_place with_system r) r) (unfold moved in moved-number (λ m. eqb m i.row) with_system) l.rows

    pick : (b : Bool) → member n (numbers (cond b (lend_end i l) (lend_copy st c v i l)).rows) ≡ true
    pick true = ap (member n) ends-lent ∙ t
    pick false = one_more n _ l.rows t

lending-stays : (st : State) (c v n : ℕ) (is : List Item) (l : Lending) → member n (numbers l.rows) ≡ true → member n (numbers (lend_items st c v is l).rows) ≡ true
unfolding lend_items
lending-stays st c v n [] l t = t
lending-stays st c v n (i ∷ is) l t = lending-stays st c v n is (lend_item st c v i l) (item-stays st c v n i l t)

-- a row in a node bears no request
node-bears-none : (vs : List Request) (rs : List Row) (r : Row) → Shape vs r (source_of rs r) (via_of rs r) → is_node r.place ≡ true → r.request ≡ 0
unfolding is_opening is_registered is_held is_port_end is_lent_copy
node-bears-none vs rs r (opening h) e = eqb-true r.request 0 (search (and_l, and_r))
node-bears-none vs rs r (registered h) e = eqb-true r.request 0 (search (and_l, and_r))
node-bears-none vs rs r (held h) e = eqb-true r.request 0 (search (and_l, and_r))
node-bears-none vs rs r (port-end h) e = clash e (not_t (is_node r.place) (search (and_l, and_r)))
node-bears-none vs rs r (lent-copy h) e = clash e (not_t (is_node r.place) (search (and_l, and_r)))

module _ (st : State) (s : Sound st) (n : ℕ) (e : is_node (row_of st.rows n).place ≡ true) (t : member n (numbers st.rows) ≡ true) where
  -- no closing removes it, if no row in a node is a seed
  closing-stays : (seed : Row → Bool) (qs : List ℕ)
      → ((k : ℕ) → member k (numbers st.rows) ≡ true → is_node (row_of st.rows k).place ≡ true → seed (row_of st.rows k) ≡ false)
      → member n (numbers (closing seed qs st).rows) ≡ true
  unfolding closing
  closing-stays seed qs h =
      left-keys (marked seed st.rows) (closes qs (marked seed st.rows)) st n ∙ ap (λ b. b && not (member n (marked seed st.rows))) t
      ∙ ap not (nodes-stay st s.numbers s.rows seed h n e)

  request-stays : (q : ℕ) → some q ≡ true → member n (numbers (close_request q st).rows) ≡ true
  unfolding close_request bears
  request-stays q z =
      closing-stays (bears q) (q ∷ [])
      (λ k u f.
      let b = node-bears-none st.requests st.rows (row_of st.rows k) (standing-shape st s.numbers s.rows k u) f in
      ne_eqb (row_of st.rows k).request q (λ w. let l = some-pos q z in omega arith))

  port-stays : (c : ℕ) → member n (numbers (close_port c st).rows) ≡ true
  unfolding close_port is_end_of
  port-stays c = closing-stays (is_end_of c) [] (λ k u f. ap (λ b. b && eqb (row_of st.rows k).object c) (node-no-end st s k u f))

  drop-stays : (p d : ℕ) → InHand st p d → member n (numbers (drop_row d st).rows) ≡ true
  unfolding drop_row is_row
  drop-stays p d h =
      closing-stays (is_row d) [] λ k u f.
      false_of (eqb (row_of st.rows k).number d) λ w.
      let same : k ≡ d = sym (row_number st.rows k u) ∙ eqb-true (row_of st.rows k).number d w in
      let place : (row_of st.rows k).place ≡ in_clist p = ap (λ x. (row_of st.rows x).place) same ∙ eqb-true (row_of st.rows d).place (in_clist p) h.place in
      clash f (ap is_node place ∙ clist-not-node p)

  fetch-stays : (p : ℕ) (v : Request) → member n (numbers (handed_over p v st).rows) ≡ true
  unfolding handed_over handed_to
  fetch-stays p v =
      ap (member n) (numbers-moved (λ r. cond (lists r.number v) (with_place (in_clist p) r) r) (unfold moved in moved-number (λ m. lists m v) (in_clist p)) st.rows) ∙ t

  go-stays : (p d : ℕ) → member n (numbers (if eqb d 0 then go_home st p else go_through st p d).rows) ≡ true
  unfolding go_home go_through with_record
  go-stays p d = pick (eqb d 0)
    where
      pick : (b : Bool) → member n (numbers (if b then go_home st p else go_through st p d).rows) ≡ true
      pick true = t
      pick false = t

  effect-stays : (c : Call) → Allowed st c → Stays n (effect st c)
  unfolding Allowed effect done made with_held with_registered with_port with_new_rows with_request lent
  effect-stays (Go p d) a = go-stays p d
  effect-stays (Hold p d) a = one_more n _ st.rows t
  effect-stays (Register p d) a = one_more n _ st.rows t
  effect-stays (Drop p d) a = drop-stays p d a.row
  effect-stays (Port p d) a = one_more n _ _ (one_more n _ st.rows t)
  effect-stays (Close p d) a = port-stays d
  effect-stays (Ask p d is) a = lending-stays st d st.next n (items_of is) _ t
  effect-stays (Fetch p d) a = fetch-stays p (asked_of st d)
  effect-stays (Call.Answer p d served) a = request-stays (asked_of st d).number a.asked
  effect-stays (Revoke p q) a = request-stays q a.number
  effect-stays (Comes d q) a = t
  effect-stays (Chain d) a = t
  effect-stays (ComesAll es qs) a = t

-- (rule P8) a row in a node of sound tables is there after every call line
pub nodes-never-vanish : (st : State) → Sound st → (n : ℕ) → is_node (row_of st.rows n).place ≡ true → (line : List ℕ) → member n (numbers (call_on st line).after.rows) ≡ true
unfolding refused
nodes-never-vanish st s n e line = let t = node-there st.rows n e in line-has (Stays n) st s (λ k r. t) line (effect-stays st s n e t)

-- ---- (rule P9) the row that a copy was made from stands, and has every right of the copy, for every row of a session
pub rights-never-grow : (t p text : List ℕ) → accepts (open_entry t p text).reply ≡ true → (lines : List (List ℕ)) (n : ℕ) →
    let rows = (state_in (lent_after (open_entry t p text) lines)).rows in
    member n (numbers rows) ≡ true → is_end (row_of rows n).kind ≡ false → some (row_of rows n).source ≡ true
    → (member (row_of rows n).source (numbers rows) ≡ true) × (within (row_of rows n).rights (row_of rows (row_of rows n).source).rights ≡ true)
unfolding state_in
rights-never-grow t p text a lines n =
    let w = lent_after (open_entry t p text) lines in
    let s : Sound (state_in w) = words-sound _ _ (kept.session-sound t p text a lines) in
    rights-within (state_in w) s.numbers s.rows n
