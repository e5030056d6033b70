-- The homes noted are right: of every row of the tables what it names, and its home.
use Prim.Native.Nat.{ℕ, suc, ◌<◌}
use native.Mathlib.Omega.{arith}
use mathlib.Core.Bool.{Bool, true, false, not, cond, ◌&&◌}
use mathlib.Core.List.{List, [], ◌∷◌, map}
use mathlib.Core.Path.{◌≡◌, refl, sym, ap, ◌∙◌, subst}
use mathlib.Core.Logic.{⊎_elim}
use borrow.Author.Tests.{eqb-true, ne_eqb}
use Rattle.rows.specs.declared.Row.{Row}
use Rattle.std.specs.Prelude.{if◌then◌else◌}
use Rattle.rows.specs.Lists.{all, first_with, member, some}
use Rattle.rows.specs.Codes.{is_end, in_node, in_clist, with_system, is_node, is_system}
use Rattle.rows.specs.Tables.{State, no_row, row_of, process_at, is_listed, numbers, empty}
use Rattle.rows.specs.Setters.{with_place}
use Rattle.rows.proofs.Bools.{clash, false_of, all_filter, all-mono, and_l, and_r, not_t, pos-some, member-cases, true-or-false}
use Rattle.rows.proofs.Places.{copied-no-end, system-no-node}
use Rattle.rows.proofs.Lists.{filter_same}
use Rattle.tables.proofs.Picked.{first-here, first-other}
use Rattle.tables.proofs.Sound.{Sound}
use Rattle.tables.proofs.SoundFacts.{row_below, next-some}
use Rattle.calls.specs.declared.Item.{Item}
use Rattle.calls.specs.declared.Call.{Call}
use Rattle.calls.specs.declared.Call.TheVariants.{Go, Hold, Register, Drop, Port, Close, Ask, Fetch, Revoke, Comes, Chain, ComesAll}
use Rattle.calls.specs.Answers.{values_of}
use Rattle.calls.specs.Rules.{not_held, with_new_rows, with_record, copy_of}
use Rattle.calls.specs.Loans.{items_of, item_row, moves, copies, copy_lent}
use Rattle.calls.specs.Calls.{port_end, made, effect}
use Rattle.kept.proofs.Allowed.{AskAllowed}
use Rattle.kept.proofs.Stand.{held-there}
use Rattle.kept.proofs.AskItems.{is_item, stacked}
use Rattle.kept.proofs.AskFacts.{lent_rows, asked_rows, none_named}
use Rattle.kept.proofs.Moved.{row_same}
use Rattle.text.specs.declared.Entry.{Entry}
use Rattle.text.specs.Opening.{Form, node_form, process_form, opens, lines_of, opening_of, prime_of, entry_row, with_entries, with_form, opened_from}
use Rattle.text.specs.Entry.{state_opened}
use Rattle.text.proofs.OpeningForms.{opening-good}
use Rattle.text.proofs.OpeningRecords.{prime-opened}
use Rattle.history.specs.History.{History}
use Rattle.history.specs.Notes.{is_end_noted, stands, last_go, copied}
use Rattle.history.specs.Reading.{entry_count, items_named}
use Rattle.history.proofs.Inv.{Inv, through_now, first_value}
use Rattle.history.proofs.Find.{end-noted}
use Rattle.history.proofs.Begun.{opened-next}
use Rattle.history.proofs.View.{first-through}
use Rattle.security.specs.Sessions.{IsRow, Log, logged, Session}
use Rattle.security.specs.Changes.{takes}
use Rattle.security.specs.Places.{home_of, whereabouts}
use Rattle.security.specs.Holders.{Homed, Homes, nowhere, homed_of, with_home, entry_homes, form_homes, node_now, copy_homes, note_homes}
use Rattle.security.proofs.Rows.{Sort, text-row, registered-row, held-row, end_row, copy, sort-of, through-at, clist-no-system, in-prime-node}
use Rattle.security.proofs.Opened.{opened-text}
use Rattle.security.proofs.Sessions.{session-has}
use Rattle.security.proofs.Effects.{Adds, holds, registers, makes, Effect, tells, moves-to, adds, asks, fetches, shuts-off, effect_of}
use Rattle.security.proofs.Touches.{question-takes}
use Rattle.security.proofs.NewRows.{Newly, held, registered, client, server, copied as lent-copied, first-row, adds-new, asks-new, fetched-rows, lent-number}
use Rattle.security.proofs.Frames.{same-but-place, same_row}
use Rattle.security.proofs.PlacesKept.{Held, held_kept, new-unlisted, home-kept}
use Rattle.security.proofs.Reach.{prime-kept}
use Rattle.history.proofs.KeptCalls.{effect-kept}
use Rattle.closing.proofs.Lookups.{left-stood}

-- ---- look-up
home-first : (n object home : ℕ) (hs : Homes) → homed_of (with_home n object home hs) n ≡ record { number = n; object = object; home = home }
unfolding homed_of
home-first n object home hs = first-here (λ x. x.number) nowhere (record { number = n; object = object; home = home }) hs

home-other : (n object home : ℕ) (hs : Homes) (m : ℕ) → m < n → homed_of (with_home n object home hs) m ≡ homed_of hs m
unfolding homed_of
home-other n object home hs m lt = first-other (λ x. x.number) nowhere (record { number = n; object = object; home = home }) hs m (ne_eqb n m (λ z. omega arith))

copies-other : (is : List Item) (n : ℕ) (hs : Homes) (m : ℕ) → m < n → homed_of (copy_homes n is hs) m ≡ homed_of hs m
unfolding copy_homes
copies-other [] n hs m lt = refl
copies-other (i ∷ is) n hs m lt = copies-other is (suc n) _ m (omega arith) ∙ home-other n _ with_system hs m lt

-- ---- the home of a row that bears no request
unfoldable pub home_now : State → Row → ℕ
home_now st r = if is_end r.kind then home_of st r else r.place

pub record Right (hs : Homes) (st : State) : Type 0 where
  pub objects : (n : ℕ) → IsRow st n → (homed_of hs n).object ≡ (row_of st.rows n).object
  pub homes : (n : ℕ) → IsRow st n → some (row_of st.rows n).request ≡ false → (homed_of hs n).home ≡ home_now st (row_of st.rows n)

-- ---- the opening
homed : Row → Homed
homed r = record { number = r.number; object = r.object; home = r.place }

entries-homed : (n node : ℕ) (es : List Entry) (rs : List Row) → map homed (with_entries n node es rs) ≡ entry_homes n node es (map homed rs)
unfolding with_entries entry_homes entry_row homed
entries-homed n node [] rs = refl
entries-homed n node (e ∷ es) rs = entries-homed (suc n) node es (entry_row n node e ∷ rs)

rows-homed : (fs : List Form) → map homed (state_opened fs).rows ≡ form_homes fs
unfolding state_opened opened_from with_form form_homes empty
rows-homed [] = refl
rows-homed (node_form n es ∷ fs) =
    entries-homed (opened_from empty fs).next n es (opened_from empty fs).rows
    ∙ ap (λ k. entry_homes k n es (map homed (opened_from empty fs).rows)) (opened-next fs)
    ∙ ap (entry_homes (suc (entry_count fs)) n es) (rows-homed fs)
rows-homed (process_form p n ∷ fs) = rows-homed fs

opened-at : (fs : List Form) (n : ℕ) → homed_of (form_homes fs) n ≡ homed (row_of (state_opened fs).rows n)
unfolding homed_of row_of no_row nowhere homed
opened-at fs n =
    ap (λ hs. first_with (λ x. x.number) nowhere hs n) (sym (rows-homed fs))
    ∙ first-through homed (λ r. r.number) (λ x. x.number) (λ r. refl) no_row nowhere refl (state_opened fs).rows n

pub opened-right : (text : List ℕ) (rest : List (List ℕ)) (fs : List Form) → opening_of (lines_of text) ≡ opens fs rest → Right (form_homes fs) (state_opened fs)
unfolding homed home_now
opened-right text rest fs e =
    record {
      objects = λ n t. ap (λ x. x.object) (opened-at fs n);
      homes = λ n t u. ap (λ x. x.home) (opened-at fs n) ∙ (rw (copied-no-end (row_of (state_opened fs).rows n).kind (opened-text text rest fs e n t).copied) refl);
    }

-- ---- prime nodes
abbrev pub PrimesAre : List Form → State → Type 0
PrimesAre fs st = (p : ℕ) → (process_at st.processes p).prime ≡ prime_of fs p

pub session-primes : (fs : List Form) (log : Log) (st : State) → Session fs log st → PrimesAre fs st
session-primes fs =
    session-has (λ log st. PrimesAre fs st) fs (λ text rest e p. unfold state_opened in prime-opened fs (opening-good (lines_of text) rest fs e).passed p)
    (λ log st c s a h p. prime-kept st (effect st c).after c s (effect-kept st s c a) (effect_of st s c a) p ∙ h p)

-- the node that a process is in
module _ (fs : List Form) (h : History) (st : State) (i : Inv h st) (s : Sound st) (hs : Homes) (r : Right hs st) (primes : PrimesAre fs st) where
  node-now : (p : ℕ) → is_listed st.processes p ≡ true → node_now fs h hs p ≡ (process_at st.processes p).active
  unfolding node_now through_now
  node-now p l = pick (some e && stands h e) refl (i.through p l)
    where
      e : ℕ
      e = last_go h.went p

      pick : (b : Bool) → some e && stands h e ≡ b → (process_at st.processes p).through ≡ cond b e 0 → cond b (homed_of hs e).object (prime_of fs p) ≡ (process_at st.processes p).active
      pick true q z =
          let w = through-at st s p (ap some z ∙ and_l (some e) (stands h e) q) in
          r.objects e (subst (IsRow st) z w.there) ∙ ap (λ k. (row_of st.rows k).object) (sym z) ∙ w.object
      pick false q z = sym (primes p) ∙ sym (in-prime-node st s p l z)

-- ---- a row that is no end and bears no request is in a node or a c-list
placed-for-good : (st : State) → Sound st → (n : ℕ) → IsRow st n → is_end (row_of st.rows n).kind ≡ false → some (row_of st.rows n).request ≡ false → is_system (row_of st.rows n).place ≡ false
placed-for-good st s n t k u = pick (sort-of st s n t)
  where
    row : Row
    row = row_of st.rows n

    place : ℕ
    place = row.place

    in-node : is_node place ≡ true → is_system place ≡ false
    in-node y = false_of (is_system place) (λ z. clash y (ap is_node (eqb-true place with_system (unfold is_system in z)) ∙ system-no-node))

    pick : Sort st.requests row (row_of st.rows row.source) (row_of st.rows row.via) → is_system place ≡ false
    pick (text-row y) = in-node y.node
    pick (registered-row y) = in-node y.node
    pick (held-row y) = clist-no-system place y.clist
    pick (end_row y) = clash y.is-end k
    pick (copy y) = clash y.bears u

-- what is noted of a new row
record Notes (st st' : State) (hs : Homes) (n : ℕ) : Type 0 where
  object : (homed_of hs n).object ≡ (row_of st'.rows n).object
  home : some (row_of st'.rows n).request ≡ false → (homed_of hs n).home ≡ (row_of st'.rows n).place

-- ---- a call: rows that were there keep what is noted of them, new ones are noted
module _ (st st' : State) (c : Call) (s : Sound st) (s' : Sound st') (x : Effect st c st') (log : Log) (h : Held log st) (h' : Held (logged st c log) st') (hs hs' : Homes) (r : Right hs st) where
  kind-same : (n : ℕ) → IsRow st n → IsRow st' n → (row_of st'.rows n).kind ≡ (row_of st.rows n).kind
  unfolding with_place
  kind-same n t t' = same-but-place st st' c s x n t t' (λ r. r.kind) (λ p r. refl)

  home_same : (n : ℕ) → IsRow st n → IsRow st' n → some (row_of st.rows n).request ≡ false → home_now st' (row_of st'.rows n) ≡ home_now st (row_of st.rows n)
  unfolding home_now
  home_same n t t' u = ap (λ k. if is_end k then home_of st' (row_of st'.rows n) else (row_of st'.rows n).place) (kind-same n t t') ∙ pick (is_end (row_of st.rows n).kind) refl
    where
      pick : (b : Bool) → is_end (row_of st.rows n).kind ≡ b
          → (if b then home_of st' (row_of st'.rows n) else (row_of st'.rows n).place) ≡ (if b then home_of st (row_of st.rows n) else (row_of st.rows n).place)
      pick true k = home-kept st st' c s s' x log h n t t' k
      pick false k = ap (λ r. r.place) (same_row st st' c s x n t t' k (placed-for-good st s n t k u))

  new_home : (n : ℕ) → IsRow st' n → (IsRow st n → ⊥) → (row_of st'.rows n).place ≡ home_now st' (row_of st'.rows n)
  unfolding home_now
  new_home n t' u = pick (is_end (row_of st'.rows n).kind) refl
    where
      home : ℕ
      home = home_of st' (row_of st'.rows n)

      pick : (b : Bool) → is_end (row_of st'.rows n).kind ≡ b → (row_of st'.rows n).place ≡ (if b then home else (row_of st'.rows n).place)
      pick true k = (h'.ends n t' k).line.at ∙ ap (whereabouts (logged st c log) home) (new-unlisted st s c st' x n t' u k) ∙ (unfold whereabouts in refl)
      pick false k = refl

  right-with : ((n : ℕ) → n < st.next → homed_of hs' n ≡ homed_of hs n) → ((n : ℕ) → IsRow st' n → (IsRow st n → ⊥) → Notes st st' hs' n) → Right hs' st'
  unfolding with_place
  right-with old new =
      record {
        objects = λ n t'.
            ⊎_elim (λ t. ap (λ y. y.object) (same n t) ∙ r.objects n t ∙ sym (same-but-place st st' c s x n t t' (λ r. r.object) (λ p r. refl)))
            (λ u. (new n t' (λ t. clash t u)).object) (true-or-false (member n (numbers st.rows)));
        homes = λ n t' b.
            ⊎_elim
            (λ t. let u : some (row_of st.rows n).request ≡ false = sym (ap some (same-but-place st st' c s x n t t' (λ r. r.request) (λ p r. refl))) ∙ b in
            ap (λ y. y.home) (same n t) ∙ r.homes n t u ∙ sym (home_same n t t' u))
            (λ u. (new n t' (λ t. clash t u)).home b ∙ new_home n t' (λ t. clash t u)) (true-or-false (member n (numbers st.rows)));
      }
    where
      same : (n : ℕ) → IsRow st n → homed_of hs' n ≡ homed_of hs n
      same n t = old n (row_below st s.numbers n t).1

-- ---- calls that make no row
unnoted : (fs : List Form) (h : History) (st : State) (c : Call) (n : ℕ) (hs : Homes) → takes st c ≡ 0 → note_homes fs h c n hs ≡ hs
unfolding note_homes takes
unnoted fs h st (Go p e) n hs z = refl
unnoted fs h st (Hold p e) n hs z = absurd (omega arith)
unnoted fs h st (Register p e) n hs z = absurd (omega arith)
unnoted fs h st (Drop p e) n hs z = refl
unnoted fs h st (Port p e) n hs z = absurd (omega arith)
unnoted fs h st (Close p e) n hs z = refl
unnoted fs h st (Ask p c is) n hs z = absurd (omega arith)
unnoted fs h st (Fetch p e) n hs z = refl
unnoted fs h st (Call.Answer p e served) n hs z = refl
unnoted fs h st (Revoke p e) n hs z = refl
unnoted fs h st (Comes e q) n hs z = refl
unnoted fs h st (Chain e) n hs z = refl
unnoted fs h st (ComesAll es qs) n hs z = refl

-- ---- ask: the copies
-- what is noted of the rows rs, all of numbers below n
abbrev Told : ℕ → List Row → Homes → Type 0
Told n rs hs = (m : ℕ) → member m (numbers rs) ≡ true → (m < n) × ((homed_of hs m).object ≡ (row_of rs m).object)

module _ (st : State) (c v : ℕ) where
  one_told : (i : Item) (n : ℕ) (rs : List Row) (hs : Homes) → (homed_of hs i.row).object ≡ (item_row st i).object → Told n rs hs
      → Told (suc n) (copy_lent st c v n i ∷ rs) (with_home n (homed_of hs i.row).object with_system hs)
  unfolding numbers copy_lent copy_of
  one_told i n rs hs e f m t = ⊎_elim first older (member-cases m n (map (λ r. r.number) rs) t)
    where
      new : Row
      new = copy_lent st c v n i

      hs' : Homes
      hs' = with_home n (homed_of hs i.row).object with_system hs

      first : m ≡ n → (m < suc n) × ((homed_of hs' m).object ≡ (row_of (new ∷ rs) m).object)
      first z = (omega arith, rw z (ap (λ x. x.object) (home-first n _ with_system hs) ∙ e ∙ sym (ap (λ r. r.object) (first-row new rs))))

      older : member m (map (λ r. r.number) rs) ≡ true → (m < suc n) × ((homed_of hs' m).object ≡ (row_of (new ∷ rs) m).object)
      older u =
          let (lt, is) = f m u in (
            omega arith,
            ap (λ x. x.object) (home-other n _ with_system hs m lt) ∙ is ∙ sym (unfold row_of in ap (λ r. r.object) (first-other (λ r. r.number) no_row new rs m (ne_eqb n m (λ z. omega arith)))),
          )

  -- items are rows of the tables, whose numbers are below n
  copies-told : (is : List Item) → all (λ i. member i.row (numbers st.rows)) is ≡ true → (n : ℕ) (rs : List Row) (hs : Homes)
      → ((m : ℕ) → IsRow st m → (m < n) × ((homed_of hs m).object ≡ (row_of st.rows m).object)) → Told n rs hs
      → (m : ℕ) → member m (numbers (stacked st c v is n rs)) ≡ true → (homed_of (copy_homes n is hs) m).object ≡ (row_of (stacked st c v is n rs) m).object
  unfolding stacked copy_homes all item_row
  copies-told [] a n rs hs old f m t = (f m t).1
  copies-told (i ∷ is) a n rs hs old f m t =
      let e = (old i.row (and_l (member i.row (numbers st.rows)) _ a)).1 in
      copies-told is (and_r (member i.row (numbers st.rows)) _ a) (suc n) _ _
      (λ m u. let (lt, is) = old m u in (omega arith, ap (λ x. x.object) (home-other n _ with_system hs m lt) ∙ is)) (one_told i n rs hs e f) m t

-- the items that the history takes to be copied are those that are
copied-same : (h : History) (st : State) → Inv h st → Sound st → (p : ℕ) (is : List Item) → all (λ i. not (not_held st p i.row)) is ≡ true → copied h.rows is ≡ copies st is
unfolding copied copies
copied-same h st i s p is a =
    filter_same (λ x. not (not_held st p x.row)) (λ x. not (is_end_noted h.rows x)) (λ x. not (moves st x))
    (λ x t. ap not (end-noted h st i s x (held-there st p x.row (not_t (not_held st p x.row) t)))) is a

-- ---- all calls
abbrev pub value : State → Call → ℕ
value st c = first_value (values_of (effect st c).answer)

-- what is noted of the new row y, of number n
abbrev Tells : Homes → ℕ → Row → Type 0
Tells hs n y = ((homed_of hs n).object ≡ y.object) × ((homed_of hs n).home ≡ y.place)

module _ (fs : List Form) (h : History) (st : State) (i : Inv h st) (s : Sound st) (primes : PrimesAre fs st) (hs : Homes) (r : Right hs st) where
  abbrev hs' : Call → Homes
  hs' c = note_homes fs h c (value st c) hs

  adds-old : (c : Call) (rs : List Row) → Adds st c rs → (n : ℕ) → n < st.next → homed_of (hs' c) n ≡ homed_of hs n
  unfolding note_homes effect made values_of first_value
  adds-old c rs (holds p e a) n lt = home-other st.next _ _ hs n lt
  adds-old c rs (registers p e a) n lt = home-other st.next _ _ hs n lt
  adds-old c rs (makes p e a) n lt = home-other (suc st.next) _ _ _ n (omega arith) ∙ home-other st.next _ _ hs n lt

  adds-noted : (c : Call) (rs : List Row) → Adds st c rs → (n : ℕ) (y : Row) → Newly st c n y → Tells (hs' c) n y
  unfolding note_homes effect made values_of first_value copy_of port_end
  adds-noted c rs (holds p e a) n y (held p' e' a') =
      let at = home-first st.next (homed_of hs e).object (in_clist p) hs in
      (ap (λ x. x.object) at ∙ r.objects e a.there, ap (λ x. x.home) at)
  adds-noted c rs (registers p e a) n y (registered p' e' a') =
      let at = home-first st.next (homed_of hs e).object (in_node (node_now fs h hs p)) hs in
      (ap (λ x. x.object) at ∙ r.objects e a.row.there, ap (λ x. x.home) at ∙ ap in_node (node-now fs h st i s hs r primes p a.caller))
  adds-noted c rs (makes p e a) n y (client p' e' a') =
      let at =
      home-other (suc st.next) st.next (in_clist (homed_of hs e).object) (with_home st.next st.next (in_clist p) hs) st.next (omega arith)
      ∙ home-first st.next st.next (in_clist p) hs in
      (ap (λ x. x.object) at, ap (λ x. x.home) at)
  adds-noted c rs (makes p e a) n y (server p' e' a') =
      let at = home-first (suc st.next) st.next (in_clist (homed_of hs e).object) (with_home st.next st.next (in_clist p) hs) in
      (ap (λ x. x.object) at, ap (λ x. x.home) at ∙ ap in_clist (r.objects e a.row.there))

  module _ (p c : ℕ) (is : List Item) (a : AskAllowed st p c (items_of is)) where
    ask-homes : hs' (Ask p c is) ≡ copy_homes (suc st.next) (copies st (items_of is)) hs
    unfolding note_homes effect made values_of first_value items_of items_named
    ask-homes = ap (λ ks. copy_homes (suc st.next) ks hs) (copied-same h st i s p (items_of is) a.held)

    ask-old : (n : ℕ) → n < st.next → homed_of (hs' (Ask p c is)) n ≡ homed_of hs n
    ask-old n lt = ap (λ k. homed_of k n) ask-homes ∙ copies-other (copies st (items_of is)) (suc st.next) hs n (omega arith)

    lent-told : Told (suc st.next) (lent_rows st (items_of is)) hs
    unfolding with_place
    lent-told m t =
        let u : IsRow st m = sym (lent-number st (items_of is) m) ∙ t in
        let lt = (row_below st s.numbers m u).1 in (
          omega arith,
          r.objects m u ∙ sym (row_same (is_item st (items_of is)) with_system (none_named st s p c (items_of is) a) (λ y. y.object) (λ y. refl) st.rows m),
        )

    ask-objects : (n : ℕ) → member n (numbers (asked_rows st c (items_of is))) ≡ true → (homed_of (hs' (Ask p c is)) n).object ≡ (row_of (asked_rows st c (items_of is)) n).object
    unfolding copies
    ask-objects n t =
        ap (λ k. (homed_of k n).object) ask-homes
        ∙ copies-told st c st.next (copies st (items_of is))
        (all_filter (λ x. not (moves st x)) (λ x. member x.row (numbers st.rows)) (items_of is)
        (all-mono (λ x. not (not_held st p x.row)) (λ x. member x.row (numbers st.rows)) (λ x u. held-there st p x.row (not_t (not_held st p x.row) u)) (items_of is) a.held))
        (suc st.next) (lent_rows st (items_of is)) hs (λ m u. let lt = (row_below st s.numbers m u).1 in (omega arith, r.objects m u)) lent-told n t

    -- a copy bears the request
    ask-bears : (n : ℕ) (y : Row) → Newly st (Ask p c is) n y → some y.request ≡ true
    unfolding copy_lent copy_of
    ask-bears n y (lent-copied p' c' is' a' n' x m g l) = pos-some st.next (next-some st s.numbers)

  -- ==== what is noted stays right
  module _ (log : Log) (k : Held log st) where
    with-notes : (st' : State) → Sound st' → (c : Call) (x : Effect st c st') → ((n : ℕ) → n < st.next → homed_of (hs' c) n ≡ homed_of hs n)
        → ((n : ℕ) → IsRow st' n → (IsRow st n → ⊥) → Notes st st' (hs' c) n) → Right (hs' c) st'
    with-notes st' s' c x = right-with st st' c s s' x log k (held_kept st st' c s s' x log k) hs (hs' c) r

    pub right_kept : (st' : State) → Sound st' → (c : Call) → Effect st c st' → Right (hs' c) st'
    unfolding note_homes with_record with_new_rows
    right_kept st' s' c (tells c' x) = with-notes st' s' c (tells c x) (λ n lt. ap (λ k. homed_of k n) (unnoted fs h st c _ hs (question-takes st c x))) (λ n t u. absurd (u t))
    right_kept st' s' c (moves-to p e a) = with-notes st' s' c (moves-to p e a) (λ n lt. refl) (λ n t u. absurd (u t))
    right_kept st' s' c (adds c' rs m a z) =
        with-notes st' s' c (adds c rs m a z) (adds-old c rs a)
        (λ n t u. let (o, w) = adds-noted c rs a n _ (adds-new st c rs a n t u) in record { object = o; home = λ _. w })
    right_kept st' s' c (asks p d is a) =
        with-notes st' s' c (asks p d is a) (ask-old p d is a)
        (λ n t u. record { object = ask-objects p d is a n t; home = λ b. clash (ask-bears p d is a n _ (asks-new st s p d is a n t u)) b })
    right_kept st' s' c (fetches p e a) = with-notes st' s' c (fetches p e a) (λ n lt. refl) (λ n t u. absurd (u (fetched-rows st p e n t)))
    right_kept st' s' c (shuts-off c' g f y m) =
        with-notes st' s' c (shuts-off c g f y m) (λ n lt. ap (λ q. homed_of q n) (unnoted fs h st c (value st c) hs m.unnumbered)) (λ n t u. absurd (u (left-stood g f st n t)))
