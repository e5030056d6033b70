-- ask: the ends that it names are the ends that the new request lists, and the older requests list what they did.
use Prim.Native.Nat.{ℕ, suc, ◌<◌}
use mathlib.Core.Bool.{Bool, true, false, not, cond}
use mathlib.Core.List.{List, [], ◌∷◌, ◌++◌, append_assoc, append-nil, map}
use mathlib.Core.Path.{◌≡◌, refl, sym, ap, ◌∙◌, fun_ext}
use lib.Dec.{ltb, eqb}
use native.Mathlib.Omega.{arith}
use borrow.Author.Tests.{ne_eqb, ltb-true, lt-ltb}
use Rattle.rows.specs.declared.Row.{Row}
use Rattle.rows.specs.Lists.{filter, all, member, some, nonzero}
use Rattle.rows.specs.Limits.{most_items}
use Rattle.rows.specs.Codes.{is_end, with_system}
use Rattle.rows.specs.Tables.{State, no_row, row_of, numbers}
use Rattle.rows.proofs.Bools.{and_l, and_r, not_t, all-mono, all_filter, pos-some}
use Rattle.tables.proofs.Picked.{first-here, first-other}
use Rattle.tables.proofs.Sound.{Sound}
use Rattle.rows.proofs.Lists.{all_append, filter-append, filter_same}
use Rattle.tables.proofs.SoundFacts.{row_below}
use Rattle.calls.specs.declared.Item.{Item}
use Rattle.calls.specs.Rules.{not_held, copy_of}
use Rattle.calls.specs.Loans.{item_row, moves, copy_lent, Lending, to_system, lend_end, lend_copy, lend_item, lend_items, lent, new_request, with_request}
use Rattle.kept.proofs.Stand.{held-there}
use Rattle.kept.proofs.AskList.{nonzero-pad}
use Rattle.kept.proofs.Moved.{moved, kind-same}
use Rattle.history.specs.History.{History}
use Rattle.history.specs.Notes.{is_end_noted, ends_named, note_ask}
use Rattle.history.proofs.Inv.{Inv, Lends, ends_listed, loans_in}
use Rattle.history.proofs.Find.{end-noted}
use Rattle.history.proofs.LoansAdd.{kinds-same}

-- ---- lists
filter-one : {A : Type 0} (f : A → Bool) (x : A) → f x ≡ true → filter f (x ∷ []) ≡ x ∷ []
unfolding filter
filter-one f x e = rw e refl

filter_none : {A : Type 0} (f : A → Bool) (x : A) → f x ≡ false → filter f (x ∷ []) ≡ []
unfolding filter
filter_none f x e = rw e refl

-- ---- rows while items are lent
system-kind : (e : ℕ) → 0 < e → (rs : List Row) (k : ℕ) → (row_of (map (to_system e) rs) k).kind ≡ (row_of rs k).kind
unfolding to_system moved
system-kind e lo rs k = kind-same (λ n. eqb n e) with_system (ne_eqb 0 e (λ z. omega arith)) rs k

row_here : (r : Row) (rs : List Row) (n : ℕ) → r.number ≡ n → row_of (r ∷ rs) n ≡ r
unfolding row_of
row_here r rs n e = ap (row_of (r ∷ rs)) (sym e) ∙ first-here (λ r. r.number) no_row r rs

row_other : (r : Row) (rs : List Row) (n k : ℕ) → r.number ≡ n → k < n → row_of (r ∷ rs) k ≡ row_of rs k
unfolding row_of
row_other r rs n k e lt = first-other (λ r. r.number) no_row r rs k (ne_eqb r.number k (λ z. omega arith))

abbrev ends_in : List Row → List ℕ → List ℕ
ends_in rs es = filter (λ e. is_end (row_of rs e).kind) (nonzero es)

-- so far: the old rows are of their kinds, and the ends among the items are es
record Lent (st : State) (l : Lending) (es : List ℕ) : Type 0 where
  more : st.next < l.next
  old : (k : ℕ) → k < st.next → (row_of l.rows k).kind ≡ (row_of st.rows k).kind
  low : all (λ e. ltb e l.next) l.items ≡ true
  ends : ends_in l.rows l.items ≡ es

module _ (st : State) (s : Sound st) (c v : ℕ) (x : Item) (l : Lending) (es : List ℕ) (t : member x.row (numbers st.rows) ≡ true) (j : Lent st l es) where
  lent-end : moves st x ≡ true → Lent st (lend_end x l) (es ++ (x.row ∷ []))
  unfolding lend_end moves item_row nonzero
  lent-end m =
      let (lo, hi) = row_below st s.numbers x.row t in
      let same = system-kind x.row lo l.rows in
      let more = j.more in
      let end : is_end (row_of l.rows x.row).kind ≡ true = ap is_end (j.old x.row hi) ∙ m in
      record {
        more = j.more;
        old = λ k lt. same k ∙ j.old k lt;
        low = all_append (λ e. ltb e l.next) l.items (x.row ∷ []) j.low (unfold all in rw (lt-ltb x.row l.next (omega arith)) refl);
        ends =
            ap (λ f. filter f (filter some (l.items ++ (x.row ∷ [])))) (fun_ext (λ e. ap is_end (same e)))
            ∙ ap (filter (λ e. is_end (row_of l.rows e).kind))
            (filter-append some l.items (x.row ∷ []) ∙ ap (λ ns. filter some l.items ++ ns) (filter-one some x.row (pos-some x.row lo)))
            ∙ filter-append (λ e. is_end (row_of l.rows e).kind) (filter some l.items) (x.row ∷ [])
            ∙ rw (j.ends, filter-one (λ e. is_end (row_of l.rows e).kind) x.row end) refl;
      }

  lent-copy : moves st x ≡ false → Lent st (lend_copy st c v x l) es
  unfolding lend_copy moves nonzero
  lent-copy m =
      let r = copy_lent st c v l.next x in
      let more = j.more in
      let number : r.number ≡ l.next = unfold copy_lent copy_of in refl in
      let kind : r.kind ≡ (item_row st x).kind = unfold copy_lent copy_of in refl in
      let old : (k : ℕ) → k < l.next → row_of (r ∷ l.rows) k ≡ row_of l.rows k = (λ k lt. row_other r l.rows l.next k number lt) in
      let new : is_end (row_of (r ∷ l.rows) l.next).kind ≡ false = ap (λ y. is_end y.kind) (row_here r l.rows l.next number) ∙ ap is_end kind ∙ m in
      let items : all (λ e. ltb e l.next) (filter some l.items) ≡ true = all_filter some (λ e. ltb e l.next) l.items j.low in
      record {
        more = omega arith;
        old = λ k lt. ap (λ y. y.kind) (old k (omega arith)) ∙ j.old k lt;
        low =
            all_append (λ e. ltb e (suc l.next)) l.items (l.next ∷ [])
            (all-mono (λ e. ltb e l.next) (λ e. ltb e (suc l.next)) (λ e w. let lt = ltb-true e l.next w in lt-ltb e (suc l.next) (omega arith)) l.items j.low)
            (unfold all in rw (lt-ltb l.next (suc l.next) (omega arith)) refl);
        ends =
            ap (filter (λ e. is_end (row_of (r ∷ l.rows) e).kind))
            (filter-append some l.items (l.next ∷ []) ∙ ap (λ ns. filter some l.items ++ ns) (filter-one some l.next (pos-some l.next (omega arith))))
            ∙ filter-append (λ e. is_end (row_of (r ∷ l.rows) e).kind) (filter some l.items) (l.next ∷ [])
            ∙ rw (filter_none (λ e. is_end (row_of (r ∷ l.rows) e).kind) l.next new) (append-nil (filter (λ e. is_end (row_of (r ∷ l.rows) e).kind) (filter some l.items)))
            ∙ filter_same (λ e. ltb e l.next) (λ e. is_end (row_of (r ∷ l.rows) e).kind) (λ e. is_end (row_of l.rows e).kind)
            (λ e w. ap (λ y. is_end y.kind) (old e (ltb-true e l.next w))) (filter some l.items) items
            ∙ j.ends;
      }

-- all items: the ends among them come in order
lent-all : (st : State) → Sound st → (p c v : ℕ) (xs : List Item) → all (λ x. not (not_held st p x.row)) xs ≡ true → (l : Lending) (es : List ℕ) → Lent st l es
    → Lent st (lend_items st c v xs l) (es ++ map (λ x. x.row) (filter (moves st) xs))
unfolding all lend_items lend_item filter
lent-all st s p c v [] e l es j = rw (append-nil es) j
lent-all st s p c v (x ∷ xs) e l es j =
    pick (held-there st p x.row (not_t _ (and_l (not (not_held st p x.row)) _ e))) (lent-all st s p c v xs (and_r (not (not_held st p x.row)) _ e)) (moves st x) refl
  where
    rest : List ℕ
    rest = map (λ x. x.row) (filter (moves st) xs)

    pick : member x.row (numbers st.rows) ≡ true → ((l : Lending) (es : List ℕ) → Lent st l es → Lent st (lend_items st c v xs l) (es ++ rest)) → (b : Bool) → moves st x ≡ b
        → Lent st (lend_items st c v xs (cond b (lend_end x l) (lend_copy st c v x l))) (es ++ map (λ x. x.row) (cond b (x ∷ filter (moves st) xs) (filter (moves st) xs)))
    pick t ih true m = rw (← append_assoc es (x.row ∷ []) rest) (ih (lend_end x l) (es ++ (x.row ∷ [])) (lent-end st s c v x l es t j m))
    pick t ih false m = ih (lend_copy st c v x l) es (lent-copy st s c v x l es t j m)

-- ---- the call
module _ (h : History) (st : State) (i : Inv h st) (l : Lends h st) (s : Sound st) where
  named-ends : (p : ℕ) (xs : List Item) → all (λ x. not (not_held st p x.row)) xs ≡ true → map (λ x. x.row) (filter (moves st) xs) ≡ ends_named h.rows xs
  unfolding ends_named
  named-ends p xs e =
      ap (map (λ x. x.row))
      (filter_same (λ x. not (not_held st p x.row)) (moves st) (is_end_noted h.rows) (λ x t. sym (end-noted h st i s x (held-there st p x.row (not_t (not_held st p x.row) t)))) xs e)

  pub asked-loans : (p c : ℕ) (xs : List Item) → all (λ x. not (not_held st p x.row)) xs ≡ true
      → loans_in (with_request st p c xs).rows (with_request st p c xs).requests ≡ (note_ask p c xs st.next h).loans
  unfolding with_request new_request loans_in ends_listed lent note_ask
  asked-loans p c xs e =
      let m = lend_items st c st.next xs (record { rows = st.rows; items = []; next = suc st.next }) in
      let j : Lent st m (map (λ x. x.row) (filter (moves st) xs)) = lent-all st s p c st.next xs e (record { rows = st.rows; items = []; next = suc st.next }) [] (begun) in
      let kinds = kinds-same st.rows m.rows (λ k t. j.old k (row_below st s.numbers k t).1) st.requests s.loans.items-lent in
      rw (nonzero-pad most_items m.items, j.ends, named-ends p xs e, kinds, l.lends) refl
    where
      begun : Lent st (record { rows = st.rows; items = []; next = suc st.next }) []
      begun = record { more = omega arith; old = λ k lt. refl; low = unfold all in refl; ends = unfold nonzero filter in refl }
