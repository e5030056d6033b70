-- The pass over the requests, from the oldest on: one request more is done.
use Prim.Native.Nat.{ℕ, zero, suc, ◌+◌, ◌≤◌}
use mathlib.Core.Bool.{Bool, true, false, cond, not, ◌&&◌, ◌||◌, or_assoc}
use mathlib.Core.List.{List, [], ◌∷◌, ◌++◌, map, map-id, map-map}
use mathlib.Core.Path.{◌≡◌, refl, ap, sym, subst, ◌∙◌}
use native.Mathlib.Decide.{dec_lt}
use native.Mathlib.Omega.{arith}
use borrow.Author.Tests.{eqb-true}
use lib.ListN.{length, get_or, length-map, get_or-eq_default}
use lib.Seq.{append_snoc}
use Rattle.rows.specs.declared.Row.{Row}
use Rattle.rows.specs.declared.Request.{Request}
use Rattle.rows.specs.declared.Process.{Process}
use Rattle.rows.specs.Lists.{any, all, rises, member, pad, some, nonzero}
use Rattle.rows.specs.Limits.{processes}
use Rattle.rows.specs.Codes.{in_clist, is_end, is_client, is_server, client_end, server_end}
use Rattle.rows.specs.Tables.{State, no_row, no_request, no_process, row_of, numbers, process_at, is_listed, lists}
use Rattle.rows.specs.Sound.{sound, records_fit, requesters_listed, may_be_listed, items_lent, requests_rise}
use Rattle.rows.specs.Layout.{request_at}
use Rattle.rows.specs.vocabulary.Sizes.{ROWS, REQUESTS, PROCESSES}
use Rattle.rows.specs.vocabulary.Represents.{Represents}
use Rattle.rows.specs.Setters.{with_requests, with_place, with_items}
use Rattle.rows.proofs.Bools.{clash, and_l, and_r, or-false, or_swap, pos-some, all-mono}
use Rattle.rows.proofs.Keyed.{first-there, keys-map, rises-rest, rises-first}
use Rattle.tables.proofs.Sound.{Sound, sound-open}
use Rattle.rows.proofs.Slots.{rises-old, request-of-words, request-words-at}
use Rattle.changes.specs.vocabulary.Marks.{tested, marks_of}
use Rattle.closing.specs.Closing.{oldest_listing, returned, listed_in, leaves, trimmed}
use Rattle.closing.specs.vocabulary.Marks.{RowCount, RowsMarked, RequestsMarked}
use Rattle.closing.specs.vocabulary.Lists.{slot_marks, among, back_row, items_back, WentBack, items_out, trimmed_all, returned_unless, partly_settled, SettledTo, lists_settled, SlotsMarked, InSlot, ItemsStand, SendsBack, ItemsLeave}
use Rattle.closing.proofs.Lookups.{returned-keeps, returned-same}
use Rattle.closing.proofs.ListsMarks.{tested_at}
use Rattle.rows.proofs.LayoutColumns.{get_d-pad}
use Rattle.closing.proofs.ListsBack.{marks-map}

-- ---- what sound tables tell of a request
all-cut : {A : Type 0} (P : A → Bool) (new : List A) (x : A) (old : List A) → all P (new ++ (x ∷ old)) ≡ true → P x ≡ true
unfolding all
all-cut P [] x old e = and_l (P x) (all P old) e
all-cut P (y ∷ new) x old e = all-cut P new x old (and_r (P y) (all P (new ++ (x ∷ old))) e)

listed-low : (m : ℕ) (ps : List Process) (p : ℕ) → length ps ≡ m → is_listed ps p ≡ true → p ≤ m
unfolding is_listed process_at
listed-low m ps zero e h = omega arith
listed-low m ps (suc i) e h =
    elim (dec_lt i m) [
      | yes lt ↦ lt
      | no ge ↦ clash h (ap (λ (x : Process). some x.prime) (get_or-eq_default ps no_process {n = i} (omega arith)) ∙ (unfold no_process some in refl))
    ]

no-row-listed : (v : Request) → may_be_listed v no_row ≡ false
unfolding may_be_listed no_row is_end is_client is_server client_end server_end some
no-row-listed v = refl

module _ (st : State) (s : Sound st) (new : List Request) (v : Request) (old : List Request) (cut : st.requests ≡ new ++ (v ∷ old)) where
  pub asker-low : v.asker ≤ PROCESSES
  unfolding requesters_listed records_fit processes
  asker-low =
      listed-low PROCESSES st.processes v.asker (eqb-true (length st.processes) PROCESSES s.placed.records-fit)
      (all-cut listed new v old (subst (λ (l : List Request). all listed l ≡ true) cut s.loans.requesters-listed))
    where
      listed : Request → Bool
      listed w = is_listed st.processes w.asker

  pub items-stand : ItemsStand st v.items
  unfolding items_lent numbers row_of
  items-stand =
      all-mono (λ e. may_be_listed v (row_of st.rows e)) (λ e. member e (numbers st.rows))
      (λ e h. first-there (λ r. r.number) no_row (may_be_listed v) (no-row-listed v) st.rows e h) (nonzero v.items)
      (all-cut lent new v old (subst (λ (l : List Request). all lent l ≡ true) cut s.loans.items-lent))
    where
      lent : Request → Bool
      lent w = all (λ e. may_be_listed w (row_of st.rows e)) (nonzero w.items)

  pub requests-rise : rises (λ v. v.number) (v ∷ old) ≡ true
  unfolding requests_rise
  requests-rise = rises-old (λ v. v.number) new (v ∷ old) (subst (λ (l : List Request). rises (λ v. v.number) l ≡ true) cut s.numbers.requests-rise)

-- ---- one request, over the older ones
pub returned-number : (f : Request → Bool) (vs : List Request) (r : Row) → (returned f vs r).number ≡ r.number
returned-number = returned-keeps (λ r. r.number) (λ p r. unfold with_place in refl)

-- an oldest one is there if one is
oldest-some : (f : Request → Bool) (n : ℕ) (vs : List Request) → rises (λ v. v.number) vs ≡ true
    → some (oldest_listing f n vs).number ≡ listed_in f vs n
unfolding oldest_listing listed_in any
oldest-some f n [] up = unfold no_request some in refl
oldest-some f n (v ∷ vs) up = pick (oldest-some f n vs (rises-rest (λ v. v.number) v vs up)) (some w.number) refl (f v && lists n v)
  where
    w : Request
    w = oldest_listing f n vs

    or-true : (a b : Bool) → b ≡ true → a || b ≡ true
    or-true true b e = refl
    or-true false b e = e

    pick : some w.number ≡ listed_in f vs n → (a : Bool) → some w.number ≡ a → (c : Bool)
        → some (cond a w (cond c v w)).number ≡ c || any (λ u. f u && lists n u) vs
    pick ih true q c = q ∙ sym (or-true c (any (λ u. f u && lists n u) vs) (sym ih ∙ q))
    pick ih false q true = let h = rises-first (λ v. v.number) v vs up in pos-some v.number (omega arith)
    pick ih false q false = ih

module _ (f : Request → Bool) (v : Request) (old : List Request) where
  -- it stays open
  open-listed : f v ≡ false → (n : ℕ) → listed_in f (v ∷ old) n ≡ listed_in f old n
  unfolding listed_in any
  open-listed h n = rw h refl

  open-oldest : f v ≡ false → (n : ℕ) → oldest_listing f n (v ∷ old) ≡ oldest_listing f n old
  unfolding oldest_listing
  open-oldest h n = rw h (pick (some (oldest_listing f n old).number) (oldest_listing f n old))
    where
      pick : (b : Bool) (w : Request) → cond b w w ≡ w
      pick true w = refl
      pick false w = refl

  open-returned : f v ≡ false → (r : Row) → returned f (v ∷ old) r ≡ returned f old r
  unfolding returned
  open-returned h r = ap (λ (w : Request). cond (some w.number) (with_place (in_clist w.asker) r) r) (open-oldest h r.number)

  -- it closes
  closed-listed : f v ≡ true → (n : ℕ) → listed_in f (v ∷ old) n ≡ listed_in f old n || among v.items n
  unfolding listed_in any lists among
  closed-listed h n = rw h (or_swap (some n && member n v.items) (any (λ w. f w && (some n && member n w.items)) old))

  closed-returned : f v ≡ true → rises (λ v. v.number) (v ∷ old) ≡ true → (r : Row)
      → back_row (listed_in f old) v.asker v.items (returned f old r) ≡ returned f (v ∷ old) r
  unfolding back_row returned oldest_listing
  closed-returned h up r =
      ap (λ (m : ℕ). back (not (listed_in f old m) && among v.items m)) (returned-number f old r)
      ∙ ap (λ (b : Bool). back (not b && among v.items n)) (sym (oldest-some f n old (rises-rest (λ v. v.number) v old up)))
      ∙ pick (some w.number) refl (among v.items n)
      ∙ ap (λ (b : Bool). cond (some (latest b).number) (with_place (in_clist (latest b).asker) r) r) (sym (lists-it h))
    where
      n : ℕ
      n = r.number

      w : Request
      w = oldest_listing f n old

      back : Bool → Row
      back b = cond b (with_place (in_clist v.asker) (returned f old r)) (returned f old r)

      latest : Bool → Request
      latest b = cond (some w.number) w (cond b v w)

      lists-it : f v ≡ true → f v && lists n v ≡ among v.items n
      lists-it h = unfold lists among in rw h refl

      pick : (a : Bool) → some w.number ≡ a → (c : Bool)
          → cond (not a && c) (with_place (in_clist v.asker) (cond a (with_place (in_clist w.asker) r) r)) (cond a (with_place (in_clist w.asker) r) r)
          ≡ cond (some (cond a w (cond c v w)).number) (with_place (in_clist (cond a w (cond c v w)).asker) r) r
      pick true q c = rw q refl
      pick false q true = let lt = rises-first (λ v. v.number) v old up in rw (pos-some v.number (omega arith)) refl
      pick false q false = rw q refl

  -- a row that is removed is out, and stays where it is
  pub unless-number : (g : List ℕ) (vs : List Request) (r : Row) → (returned_unless g f vs r).number ≡ r.number
  unfolding returned_unless
  unless-number g vs r = pick (member r.number g)
    where
      pick : (b : Bool) → (cond b r (returned f vs r)).number ≡ r.number
      pick true = refl
      pick false = returned-number f vs r

  open-unless : (g : List ℕ) → f v ≡ false → (r : Row) → returned_unless g f (v ∷ old) r ≡ returned_unless g f old r
  unfolding returned_unless
  open-unless g h r = ap (λ (x : Row). cond (member r.number g) r x) (open-returned h r)

  closed-unless : (g : List ℕ) → f v ≡ true → rises (λ v. v.number) (v ∷ old) ≡ true → (r : Row)
      → back_row (leaves f g old) v.asker v.items (returned_unless g f old r) ≡ returned_unless g f (v ∷ old) r
  unfolding returned_unless back_row leaves
  closed-unless g h up r = pick (member r.number g) refl
    where
      back : (m : Bool) (x : Row) → Row
      back m x = cond (not (m || listed_in f old x.number) && among v.items x.number) (with_place (in_clist v.asker) x) x

      pick : (m : Bool) → member r.number g ≡ m
          → back (member (cond m r (returned f old r)).number g) (cond m r (returned f old r)) ≡ cond m r (returned f (v ∷ old) r)
      pick true e = ap (λ (m : Bool). back m r) e
      pick false e = ap (λ (m : Bool). back m (returned f old r)) (ap (λ (n : ℕ). member n g) (returned-number f old r) ∙ e) ∙ closed-returned h up r

  open-leaves : (g : List ℕ) → f v ≡ false → (n : ℕ) → leaves f g (v ∷ old) n ≡ leaves f g old n
  unfolding leaves
  open-leaves g h n = ap (λ (b : Bool). member n g || b) (open-listed h n)

  closed-leaves : (g : List ℕ) → f v ≡ true → (n : ℕ) → leaves f g (v ∷ old) n ≡ leaves f g old n || among v.items n
  unfolding leaves
  closed-leaves g h n = ap (λ (b : Bool). member n g || b) (closed-listed h n) ∙ sym (or_assoc (member n g) (listed_in f old n) (among v.items n))

pub length-trimmed : (f : Request → Bool) (g : List ℕ) (vs : List Request) → length (trimmed_all f g vs) ≡ length vs
unfolding trimmed_all
length-trimmed f g [] = refl
length-trimmed f g (v ∷ vs) = ap suc (length-trimmed f g vs)

-- ---- the state once the older requests are done
module _ (g : List ℕ) (f : Request → Bool) (new : List Request) (v : Request) (old : List Request) (st : State) where
  abbrev pub before : State
  before = partly_settled g f (new ++ (v ∷ [])) old st

  abbrev pub after : State
  after = partly_settled g f new (v ∷ old) st

  pub before-cut : before.requests ≡ new ++ (v ∷ trimmed_all f g old)
  unfolding partly_settled
  before-cut = append_snoc new v (trimmed_all f g old)

  pub before-slot : (j : ℕ) → length old ≡ j → length (trimmed_all f g old) ≡ j
  before-slot j e = length-trimmed f g old ∙ e

  pub before-count : (n : ℕ) → RowCount n st → RowCount n before
  unfolding partly_settled
  before-count n e = e ∙ sym (length-map st.rows (returned_unless g f old))

  -- marks of the rows as they were
  pub before-marks : (b : ℕ → Bool) → slot_marks b before.rows ≡ slot_marks b st.rows
  unfolding partly_settled
  before-marks b = marks-map b (returned_unless g f old) (unless-number f v old g old) st.rows

  -- the request in its slot
  pub before-read : (t : List ℕ) → Represents t before → (j : ℕ) → length old ≡ j → request_at t j ≡ v
  before-read t rep j e =
      ap (λ (i : ℕ). request_at t i) (sym (before-slot j e))
      ∙ request-of-words t (length (trimmed_all f g old)) v (request-words-at rep new v (trimmed_all f g old) before-cut)

  pub before-stand : ItemsStand st v.items → ItemsStand before v.items
  unfolding partly_settled numbers
  before-stand h =
      subst (λ (l : List ℕ). all (λ e. member e l) (nonzero v.items) ≡ true)
      (sym (keys-map (λ r. r.number) (returned_unless g f old) (unless-number f v old g old) st.rows)) h

  -- it stays open: its list is trimmed
  open_after : f v ≡ false → with_requests (new ++ (items_out (leaves f g old) v ∷ trimmed_all f g old)) before ≡ after
  unfolding partly_settled trimmed_all trimmed items_out
  open_after h =
      λ i.
      record {
        rows = map (λ r. sym (open-unless f v old g h r) i) st.rows;
        requests = new ++ (cond (sym h i) v (with_items (map (λ e. cond (leaves f g old e) 0 e) v.items) v) ∷ trimmed_all f g old);
        processes = st.processes;
        next = st.next;
      }

  pub open-settled : f v ≡ false → (t t' : List ℕ) (out : List Bool) → SettledTo g f (new ++ (v ∷ [])) old st t out
      → Represents t' (with_requests (new ++ (items_out (leaves f g old) v ∷ trimmed_all f g old)) before)
      → SettledTo g f new (v ∷ old) st t' out
  open-settled h t t' out s rep =
      record {
        represents = subst (λ (x : State). Represents t' x) (open_after h) rep;
        marks = s.marks ∙ (λ i. slot_marks (λ n. sym (open-leaves f v old g h n) i) st.rows);
      }

  -- it closes: its ends go back
  closed_after : f v ≡ true → rises (λ v. v.number) (v ∷ old) ≡ true → items_back (leaves f g old) v.asker v.items before ≡ after
  unfolding partly_settled items_back trimmed_all
  closed_after h up =
      let rows = map-map (back_row (leaves f g old) v.asker v.items) (returned_unless g f old) st.rows
      ∙ (λ i. map (λ r. closed-unless f v old g h up r i) st.rows) in
      let requests = append_snoc new v (trimmed_all f g old) ∙ (λ i. new ++ (cond (sym h i) v (trimmed f g old v) ∷ trimmed_all f g old)) in
      λ i. record { rows = rows i; requests = requests i; processes = st.processes; next = st.next }

  pub closed-settled : f v ≡ true → rises (λ v. v.number) (v ∷ old) ≡ true → (t : List ℕ) (out : List Bool)
      → WentBack (leaves f g old) v.asker v.items before t out → SettledTo g f new (v ∷ old) st t out
  closed-settled h up t out w =
      record {
        represents = subst (λ (x : State). Represents t x) (closed_after h up) w.represents;
        marks = w.marks
            ∙ before-marks (λ n. leaves f g old n || among v.items n)
            ∙ (λ i. slot_marks (λ n. sym (closed-leaves f v old g h n) i) st.rows);
      }

-- ---- one request done, by what the two functions over its items ensure
module _ (st : State) (sd : sound st ≡ true) (g : List ℕ) (f : Request → Bool) (new : List Request) (v : Request) (old : List Request)
    (n j : ℕ) (count : RowCount n st) (here : InSlot j new v old st)
    (t : List ℕ) (out : List Bool) (done : SettledTo g f (new ++ (v ∷ [])) old st t out)
    (x : Request) (is : x ≡ request_at t j) where
  was : State
  was = partly_settled g f (new ++ (v ∷ [])) old st

  read : x ≡ v
  unfolding was
  read = is ∙ before-read g f new v old st t done.represents j here.1

  marked-out : SlotsMarked out (leaves f g old) was
  unfolding was
  marked-out = done.marks ∙ sym (before-marks g f new v old st (leaves f g old))

  pub closed-done : f v ≡ true → (t' : List ℕ) (out' : List Bool)
      → SendsBack n x.asker x.items t out t' out' → SettledTo g f new (v ∷ old) st t' out'
  unfolding was
  closed-done h t' out' called =
      let low : x.asker ≤ PROCESSES
      = subst (λ (y : Request). y.asker ≤ PROCESSES) (sym read) (asker-low st (sound-open st sd) new v old here.0) in
      let went : WentBack (leaves f g old) x.asker x.items was t' out'
      = called was (leaves f g old) done.represents (before-count g f new v old st n count) low marked-out in
      closed-settled g f new v old st h (requests-rise st (sound-open st sd) new v old here.0) t' out'
      (subst (λ (y : Request). WentBack (leaves f g old) y.asker y.items was t' out') read went)

  pub open_done : f v ≡ false → (t' : List ℕ) → ItemsLeave n j x out t t' → SettledTo g f new (v ∷ old) st t' out
  unfolding was
  open_done h t' called =
      let stand : ItemsStand was x.items
      = subst (λ (y : Request). ItemsStand was y.items) (sym read)
      (before-stand g f new v old st (items-stand st (sound-open st sd) new v old here.0)) in
      let cut : was.requests ≡ new ++ (x ∷ trimmed_all f g old)
      = before-cut g f new v old st ∙ ap (λ (y : Request). new ++ (y ∷ trimmed_all f g old)) (sym read) in
      let represents : Represents t' (out_here x)
      = called was (leaves f g old) new (trimmed_all f g old) done.represents (before-count g f new v old st n count)
      (cut, before-slot g f new v old st j here.1) stand marked-out in
      open-settled g f new v old st h t t' out done (subst (λ (y : Request). Represents t' (out_here y)) read represents)
    where
      -- the state with the items of y that leave out of its list
      out_here : Request → State
      out_here y = with_requests (new ++ (items_out (leaves f g old) y ∷ trimmed_all f g old)) was

-- ---- the loop
module _ (g : List ℕ) (f : Request → Bool) (st : State) where
  abbrev pub Done : ℕ → List ℕ → List Bool → Type 0
  Done j t out = (new old : List Request) → st.requests ≡ new ++ old → length old ≡ j → SettledTo g f new old st t out

  unless-none : (r : Row) → returned_unless g f [] r ≡ r
  unfolding returned_unless listed_in any
  unless-none r = pick (member r.number g)
    where
      pick : (b : Bool) → cond b r (returned f [] r) ≡ r
      pick true = refl
      pick false = returned-same f [] r refl

  none_done : (new : List Request) → st.requests ≡ new ++ [] → partly_settled g f new [] st ≡ st
  unfolding partly_settled trimmed_all
  none_done new cut =
      let rows : map (returned_unless g f []) st.rows ≡ st.rows = (λ i. map (λ r. unless-none r i) st.rows) ∙ map-id st.rows in
      λ i. record { rows = rows i; requests = sym cut i; processes = st.processes; next = st.next }

  -- at first the removed rows are out
  removed-out : (out : List Bool) → RowsMarked out g st → SlotsMarked out (leaves f g []) st
  unfolding slot_marks marks_of leaves listed_in any
  removed-out out gone = gone ∙ (λ i. pad false ROWS (tested (λ r. sym (or-false (member r.number g)) i) st.rows))

  pub done-start : (t : List ℕ) (out : List Bool) → Represents t st → RowsMarked out g st → Done 0 t out
  done-start t out rep gone new [] cut long =
      record { represents = subst (λ (x : State). Represents t x) (sym (none_done new cut)) rep; marks = removed-out out gone }
  done-start t out rep gone new (v ∷ old) cut long = absurd (omega arith)

  -- one more, by what the function over it ensures
  pub done-turn : (j : ℕ) (t t' : List ℕ) (out out' : List Bool) → Done j t out
      → ((new : List Request) (v : Request) (old : List Request) → InSlot j new v old st
      → SettledTo g f (new ++ (v ∷ [])) old st t out → SettledTo g f new (v ∷ old) st t' out')
      → Done (j + 1) t' out'
  done-turn j t t' out out' ih called new [] cut long = absurd (omega arith)
  done-turn j t t' out out' ih called new (v ∷ old) cut long =
      called new v old (cut, omega arith) (ih (new ++ (v ∷ [])) old (cut ∙ sym (append_snoc new v old)) (omega arith))

  pub done_end : (j : ℕ) (t : List ℕ) (out : List Bool) → length st.requests ≡ j → Done j t out → Represents t (lists_settled g f st)
  unfolding lists_settled
  done_end j t out e d = (d [] st.requests refl e).represents

  -- the mark of the request in a slot
  pub closes_at : (closed : List Bool) → RequestsMarked closed f st
      → (new : List Request) (v : Request) (old : List Request) (j : ℕ) → InSlot j new v old st → get_or closed j false ≡ f v
  closes_at closed e new v old j here =
      ap (λ (l : List Bool). get_or l j false) e
      ∙ get_d-pad false REQUESTS (tested f st.requests) j
      ∙ ap (λ (l : List Request). get_or (tested f l) j false) here.0
      ∙ ap (λ (i : ℕ). get_or (tested f (new ++ (v ∷ old))) i false) (sym here.1)
      ∙ tested_at f new v old
