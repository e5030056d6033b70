-- ask keeps the invariant: first the request, then the items one after the other.
use Prim.Native.Nat.{ℕ, suc, ◌<◌, ◌≤◌}
use mathlib.Core.Bool.{Bool, true, false, not, cond, ◌&&◌, ◌||◌}
use mathlib.Core.List.{List, [], ◌∷◌, ◌++◌, map}
use mathlib.Core.Path.{◌≡◌, refl, sym, ap, ◌∙◌}
use lib.Dec.{eqb}
use native.Mathlib.Omega.{arith}
use borrow.Author.Tests.{eq-eqb, ne_eqb}
use Rattle.rows.specs.declared.Row.{Row}
use Rattle.rows.specs.Lists.{filter, all, first_with, top_of, rises, member, some, nonzero}
use Rattle.rows.specs.Codes.{is_client, is_end, with_system}
use Rattle.rows.specs.Tables.{State, row_of, numbers, sources}
use Rattle.rows.proofs.Bools.{and_l, and_r, and_i, not_t, or_r, all-mono, pos-some, some-pos, eqb-self, member-here, member-there, and-rf}
use Rattle.rows.proofs.Keyed.{first-there, rises-range, rises-cons}
use Rattle.tables.proofs.Sound.{Sound}
use Rattle.tables.proofs.SoundFacts.{row_below}
use Rattle.rows.specs.Setters.{with_place}
use Rattle.calls.specs.declared.Item.{Item}
use Rattle.calls.specs.Rules.{not_held, with_new_rows}
use Rattle.calls.specs.Loans.{item_row, moves, copy_depth, copy_lent, Lending, to_system, lend_end, lend_copy, lend_item, lend_items, lent, new_request, with_request}
use Rattle.kept.proofs.Allowed.{AskAllowed}
use Rattle.kept.proofs.Stand.{held-there}
use Rattle.kept.proofs.Moved.{moved, moved_same}
use Rattle.history.specs.History.{with_noted_rows, with_noted_requests, with_loans, Noted, Loan, OnLoan, History}
use Rattle.history.specs.Notes.{noted, noted_of, no_loan, loan_of, spoiled, standing, stands, is_closed, open_loans, add_row, ends_named, copies_noted, copied, note_ask}
use Rattle.history.proofs.Fit.{is_empty, bears_well, ends_well, port_noted, Fit}
use Rattle.history.proofs.Inv.{Inv, view, of_request, of_loan, through_now}
use Rattle.history.proofs.Keeps.{seen-inv}
use Rattle.history.proofs.View.{map-through}
use Rattle.history.proofs.Added.{new_noted, FitsNew, below_up, not-below, add-row, stands_same}
use Rattle.history.proofs.Find.{row-stands, row-noted, stands-low, client-port, end-noted}
use Rattle.history.proofs.StepAdd.{view-copy}

-- ---- one more request, in the history by itself
-- h with the rows rs and the request v
abbrev noting : List Noted → Loan → List OnLoan → History → History
noting rs v os h =
    with_noted_rows rs (with_noted_requests (v ∷ h.requests) (with_loans os h))

loan-there : (vs : List Loan) (q : ℕ) → 0 < q → eqb (loan_of vs q).number q ≡ true → member q (map (λ v. v.number) vs) ≡ true
unfolding loan_of no_loan
loan-there vs q lo e = first-there (λ v. v.number) no_loan (λ v. eqb v.number q) (ne_eqb 0 q (λ z. omega arith)) vs q e

bears-more : (vs : List Loan) (v : Loan) → rises (λ v. v.number) vs ≡ true → top_of (λ v. v.number) vs < v.number → (r : Noted) → bears_well vs r ≡ true → bears_well (v ∷ vs) r ≡ true
unfolding bears_well
bears-more vs v u top r e = pick (some r.request) refl e
  where
    test : Loan → Bool
    test w = eqb w.number r.request && (member w.port r.sources && eqb r.port 0)

    older : r.request < v.number → loan_of (v ∷ vs) r.request ≡ loan_of vs r.request
    older lt = unfold loan_of first_with in rw (ne_eqb v.number r.request (λ z. omega arith)) refl

    pick : (b : Bool) → some r.request ≡ b → not b || test (loan_of vs r.request) ≡ true → not b || test (loan_of (v ∷ vs) r.request) ≡ true
    pick true q t =
        let lo : 0 < r.request = some-pos r.request q in
        let n : eqb (loan_of vs r.request).number r.request ≡ true = and_l (eqb (loan_of vs r.request).number r.request) _ t in
        let (low, le) = rises-range (λ v. v.number) vs u r.request (loan-there vs r.request lo n) in
        ap test (older (omega arith)) ∙ t
    pick false q t = refl

request-fit : (h : History) (v : Loan) (os : List OnLoan) → Fit h → top_of (λ v. v.number) h.requests < v.number → port_noted h.rows v ≡ true → Fit (noting h.rows v os h)
request-fit h v os f top p =
    record {
      rows-rise = f.rows-rise;
      requests-rise = rises-cons (λ v. v.number) v h.requests top f.requests-rise;
      sources-older = f.sources-older;
      rows-rooted = f.rows-rooted;
      rows-bear = all-mono (bears_well h.requests) (bears_well (v ∷ h.requests)) (bears-more h.requests v f.requests-rise top) h.rows f.rows-bear;
      rows_end = f.rows_end;
      ports-noted = unfold all in and_i (port_noted h.rows v) _ p f.ports-noted;
      ends-kept = f.ends-kept;
      text-noted = f.text-noted;
    }

-- ---- the request, in the tables and in the history
abbrev loan_by : State → ℕ → ℕ → List ℕ → Loan
loan_by st p c es = record { number = st.next; lender = p; port = c; ends = es }

-- the state while items are lent
abbrev lending : State → ℕ → ℕ → Lending → State
lending st p c l = record { rows = l.rows; requests = new_request st.next c p l.items ∷ st.requests; processes = st.processes; next = l.next }

filter-first : {A : Type 0} (f : A → Bool) (x : A) (xs : List A) → f x ≡ true → filter f (x ∷ xs) ≡ x ∷ filter f xs
unfolding filter
filter-first f x xs e = rw e refl

-- what is noted so far stands as in h; the tables and the notes agree
record Joint (h : History) (st : State) (p c : ℕ) (es : List ℕ) (os : List OnLoan) (l : Lending) (rs : List Noted) : Type 0 where
  inv : Inv (noting rs (loan_by st p c es) os h) (lending st p c l)
  still : (k : ℕ) → stands h k ≡ true → stands (noting rs (loan_by st p c es) os h) k ≡ true

module _ (h : History) (st : State) (i : Inv h st) (p c : ℕ) (es : List ℕ) (os : List OnLoan) (up : stands h c ≡ true) where
  abbrev asking : History
  asking = noting h.rows (loan_by st p c es) os h

  asking-standing : standing asking ≡ standing h
  unfolding standing spoiled
  asking-standing = refl

  asking-open : (vs : List Loan) → filter (λ v. not (is_closed asking v)) vs ≡ filter (λ v. not (is_closed h v)) vs
  unfolding is_closed stands standing spoiled
  asking-open vs = refl

  asking-through : (k : ℕ) → through_now asking k ≡ through_now h k
  unfolding through_now stands standing spoiled
  asking-through k = refl

  new-open : not (is_closed h (loan_by st p c es)) ≡ true
  unfolding is_closed
  new-open = rw (not-below st.next h.closed_requests i.closed-below, up) refl

  asking-requests : map of_request (new_request st.next c p [] ∷ st.requests) ≡ map of_loan (open_loans asking)
  unfolding open_loans new_request of_request of_loan
  asking-requests =
      ap (λ k. of_loan (loan_by st p c es) ∷ k) i.requests
      ∙ ap (map of_loan) (sym (asking-open (loan_by st p c es ∷ h.requests) ∙ filter-first (λ v. not (is_closed h v)) (loan_by st p c es) h.requests new-open))

  begun : port_noted h.rows (loan_by st p c es) ≡ true → Joint h st p c es os (record { rows = st.rows; items = []; next = suc st.next }) h.rows
  begun port =
      let le : st.next ≤ suc st.next = omega arith in
      record {
        inv =
            record {
              fit = request-fit h (loan_by st p c es) os i.fit i.requests-below port;
              rows = i.rows ∙ sym asking-standing;
              requests = asking-requests;
              through = λ k l. i.through k l ∙ sym (asking-through k);
              rows-below = let z = i.rows-below in omega arith;
              requests-below = unfold top_of in omega arith;
              dropped-below = below_up st.next (suc st.next) le h.dropped i.dropped-below;
              ports-below = below_up st.next (suc st.next) le h.closed_ports i.ports-below;
              closed-below = below_up st.next (suc st.next) le h.closed_requests i.closed-below;
              went-below = λ k. let z = i.went-below k in omega arith;
            };
        still = λ k t. unfold stands in ap (λ r. member k (noted r)) asking-standing ∙ t;
      }

-- ---- one item
system-view : (e : ℕ) (r : Row) → view (to_system e r) ≡ view r
unfolding to_system moved
system-view e r = moved_same (λ n. eqb n e) with_system view (λ r. unfold view with_place sources in refl) r

two-sources : (a b : ℕ) → 0 < a → 0 < b → nonzero (a ∷ b ∷ []) ≡ a ∷ b ∷ []
unfolding nonzero filter
two-sources a b p q = rw (pos-some a p, pos-some b q) refl

two-stand : (h : History) (a b : ℕ) → stands h a ≡ true → stands h b ≡ true → all (λ k. stands h k) (a ∷ b ∷ []) ≡ true
unfolding all
two-stand h a b p q = rw (p, q) refl

copy-fits : (h : History) (v n a : ℕ) (w : Loan) (vs : List Loan) → h.requests ≡ w ∷ vs → w.number ≡ v → FitsNew h (new_noted n (a ∷ w.port ∷ []) v 0)
unfolding bears_well ends_well is_empty loan_of first_with
copy-fits h v n a w vs e z =
    record {
      sources-there = refl;
      bears = rw (e, z, eqb-self v, member-there w.port a (w.port ∷ []) (member-here w.port []), eqb-self v) (or_r (not (some v)) true refl);
      ends = unfold some in refl;
    }

module _ (h : History) (st : State) (i : Inv h st) (s : Sound st) (p c : ℕ) (es : List ℕ) (os : List OnLoan) (there : member c (numbers st.rows) ≡ true) where
  lent-end : (x : Item) (l : Lending) (rs : List Noted) → Joint h st p c es os l rs → Joint h st p c es os (lend_end x l) rs
  unfolding lend_end
  lent-end x l rs j =
      record {
        inv =
            seen-inv (noting rs (loan_by st p c es) os h) (lending st p c l) (lending st p c (lend_end x l))
            (map-through view (to_system x.row) (system-view x.row) l.rows) (unfold new_request of_request in refl) refl refl j.inv;
        still = j.still;
      }

  lent-copy : (x : Item) (l : Lending) (rs : List Noted) → member x.row (numbers st.rows) ≡ true → moves st x ≡ false → Joint h st p c es os l rs
      → Joint h st p c es os (lend_copy st c st.next x l) (new_noted l.next (x.row ∷ c ∷ []) st.next 0 ∷ rs)
  unfolding lend_copy copy_lent moves add_row with_new_rows
  lent-copy x l rs t end j =
      let hl = noting rs (loan_by st p c es) os h in
      let a = x.row in
      let older : all (λ k. stands hl k) (a ∷ c ∷ []) ≡ true = two-stand hl a c (j.still a (row-stands h st i a t)) (j.still c (row-stands h st i c there)) in
      let qn : some st.next && member st.next h.closed_requests ≡ false =
      and-rf (some st.next) (member st.next h.closed_requests) (not-below st.next h.closed_requests i.closed-below) in
      let v : view (copy_lent st c st.next l.next x) ≡ new_noted l.next (a ∷ c ∷ []) st.next 0 =
      view-copy (item_row st x) l.next x.rights with_system a c (copy_depth st c x) st.next end
      ∙ ap (λ ss. new_noted l.next ss st.next 0) (two-sources a c (row_below st s.numbers a t).0 (row_below st s.numbers c there).0) in
      record {
        inv =
            seen-inv (noting (new_noted l.next (a ∷ c ∷ []) st.next 0 ∷ rs) (loan_by st p c es) os h)
            (with_new_rows (copy_lent st c st.next l.next x ∷ l.rows) (suc l.next) (lending st p c l))
            (lending st p c (lend_copy st c st.next x l)) refl (unfold new_request of_request in refl) refl refl
            (add-row hl (lending st p c l) (copy_lent st c st.next l.next x) (a ∷ c ∷ []) st.next 0 j.inv v older qn (unfold some in refl)
            (copy-fits hl st.next l.next a (loan_by st p c es) h.requests refl refl));
        still = λ k e.
            let up : stands hl k ≡ true = j.still k e in
            stands_same hl l.next (a ∷ c ∷ []) st.next 0 (not-below l.next h.dropped j.inv.dropped-below) qn (unfold some in refl) older k
            (stands-low hl (lending st p c l) j.inv k up).1 ∙ up;
      }

  -- ---- all items
  lent-all : (xs : List Item) → all (λ x. not (not_held st p x.row)) xs ≡ true → (l : Lending) (rs : List Noted) → Joint h st p c es os l rs
      → Joint h st p c es os (lend_items st c st.next xs l) (copies_noted st.next c l.next (copied h.rows xs) rs)
  unfolding all lend_items lend_item copied filter copies_noted lend_copy lend_end
  lent-all [] e l rs j = j
  lent-all (x ∷ xs) e l rs j =
      let t : member x.row (numbers st.rows) ≡ true = held-there st p x.row (not_t _ (and_l (not (not_held st p x.row)) _ e)) in
      rw (end-noted h st i s x t) (pick t (lent-all xs (and_r (not (not_held st p x.row)) _ e)) (moves st x) refl)
    where
      pick : member x.row (numbers st.rows) ≡ true
          → ((l : Lending) (rs : List Noted) → Joint h st p c es os l rs → Joint h st p c es os (lend_items st c st.next xs l) (copies_noted st.next c l.next (copied h.rows xs) rs))
          → (b : Bool) → moves st x ≡ b
          → Joint h st p c es os (lend_items st c st.next xs (cond b (lend_end x l) (lend_copy st c st.next x l)))
          (copies_noted st.next c l.next (cond (not b) (x ∷ copied h.rows xs) (copied h.rows xs)) rs)
      pick t ih true q = ih (lend_end x l) rs (lent-end x l rs j)
      pick t ih false q = ih (lend_copy st c st.next x l) (new_noted l.next (x.row ∷ c ∷ []) st.next 0 ∷ rs) (lent-copy x l rs t q j)

-- ---- the call
module _ (h : History) (st : State) (i : Inv h st) (s : Sound st) where
  port-there : (p c : ℕ) (es : List ℕ) → member c (numbers st.rows) ≡ true → is_client (row_of st.rows c).kind ≡ true → port_noted h.rows (loan_by st p c es) ≡ true
  unfolding port_noted
  port-there p c es t k =
      let n : (noted_of h.rows c).port ≡ c = ap (λ r. r.port) (row-noted h st i c (row-stands h st i c t)) ∙ client-view (row_of st.rows c) k ∙ client-port st s c t k in
      and_i (some c) (eqb (noted_of h.rows c).port c) (pos-some c (row_below st s.numbers c t).0) (eq-eqb (noted_of h.rows c).port c n)
    where
      client-view : (r : Row) → is_client r.kind ≡ true → (view r).port ≡ r.object
      client-view r k = unfold view is_end in rw k refl

  pub ask-inv : (p c : ℕ) (xs : List Item) → AskAllowed st p c xs → Inv (note_ask p c xs st.next h) (with_request st p c xs)
  unfolding note_ask with_request lent
  ask-inv p c xs a =
      let t = a.port.there in
      let es = ends_named h.rows xs in
      let os = map (λ e. record { request = st.next; lent = e }) es ++ h.loans in
      (lent-all h st i s p c es os t xs a.held (record { rows = st.rows; items = []; next = suc st.next }) h.rows
      (begun h st i p c es os (row-stands h st i c t) (port-there p c es t a.client))).inv
