-- Copies told by the listing of items: where rows have their sources, items are right and each row that bears a request is
-- listed, each is listed by the request that it bears, over its port.
use Prim.Native.Nat.{ℕ, zero, suc}
use mathlib.Core.Bool.{Bool, true, false, cond, ◌&&◌, ◌||◌}
use mathlib.Core.List.{List, [], ◌∷◌, ◌++◌}
use mathlib.Core.Path.{◌≡◌, refl, ap, sym, subst, ◌∙◌}
use mathlib.Core.Logic.{⊎_elim}
use native.Mathlib.Nat.{le_refl}
use native.Mathlib.Omega.{arith}
use borrow.Author.Tests.{eqb-true, eq-eqb, ne_eqb}
use lib.Dec.{eqb, ltb}
use Rattle.rows.specs.declared.Row.{Row}
use Rattle.rows.specs.declared.Request.{Request}
use Rattle.rows.specs.Lists.{all, each, rises, top_of, member, some, nonzero}
use Rattle.rows.specs.Codes.{is_end}
use Rattle.rows.specs.Tables.{State, no_row, row_of, no_request, request_of, lists, goes_back}
use Rattle.rows.specs.Sound.{is_opening, is_registered, is_held, is_port_end, may_be_listed, items_lent, is_fetched, source_of, via_of}
use Rattle.rows.specs.Layout.{row_slot}
use Rattle.rows.specs.vocabulary.Slots.{request_slot}
use Rattle.rows.specs.vocabulary.Represents.{Represents}
use Rattle.soundness_rows.specs.vocabulary.Clauses.{is_copy_over, shape_right, by_sources, loan_right, loans_right}
use Rattle.soundness_loans.specs.vocabulary.Clauses.{is_copy_for, may_be_lent, items_listable, items_right, listing_code, listing_of, copies_seen}
use Rattle.rows.proofs.Bools.{clash, and_l, and_r, and_i, or_l, or_r, or_cases, and-false, some-pos, all-mono, all-at}
use Rattle.rows.proofs.KeySlots.{each-cut}
use Rattle.rows.proofs.Agree.{first-here}
use Rattle.rows.proofs.Places.{copied-no-end}
use Rattle.rows.proofs.Slots.{represented-well, row_cut, row-absent, request-absent, cut-first, slot-member, newer_of}
use Rattle.rows.proofs.Keyed.{older_of}
use Rattle.soundness_rows.proofs.RowPairs.{first-skip}
use Rattle.soundness_loans.proofs.RequestClauses.{member-nonzero}

-- ---- tests of all elements of a list, by its cuts
module _ {A : Type 0} (f : A → Bool) where
  all-cut : (new : List A) (x : A) (old : List A) → all f (new ++ (x ∷ old)) ≡ true → f x ≡ true
  unfolding all
  all-cut [] x old h = and_l (f x) (all f old) h
  all-cut (y ∷ new) x old h = all-cut new x old (and_r (f y) (all f (new ++ (x ∷ old))) h)

  all-cuts : (xs : List A) → ((new : List A) (x : A) (old : List A) → xs ≡ new ++ (x ∷ old) → f x ≡ true) → all f xs ≡ true
  unfolding all
  all-cuts [] h = refl
  all-cuts (x ∷ xs) h = and_i (f x) (all f xs) (h [] x xs refl) (all-cuts xs (λ new y old e. h (x ∷ new) y old (ap (λ (l : List A). x ∷ l) e)))

-- ---- the requests that list a row
-- a request that lists e
record Lister (vs : List Request) (e : ℕ) : Type 0 where
  pub new : List Request
  pub here : Request
  pub old : List Request
  pub split : vs ≡ new ++ (here ∷ old)
  pub listed : lists e here ≡ true

lister : (vs : List Request) (e : ℕ) → some (listing_of vs e) ≡ true → Lister vs e
unfolding listing_of some
lister [] e h = clash h refl
lister (v ∷ vs) e h = pick (lister vs e) (lists e v) refl h
  where
    older : Lister vs e → Lister (v ∷ vs) e
    older l = record { new = v ∷ l.new; here = l.here; old = l.old; split = ap (λ (ws : List Request). v ∷ ws) l.split; listed = l.listed }

    pick : (some (listing_of vs e) ≡ true → Lister vs e) → (b : Bool) → lists e v ≡ b → some (cond b (listing_code (is_fetched v)) (listing_of vs e)) ≡ true → Lister (v ∷ vs) e
    pick ih true q h = record { new = []; here = v; old = vs; split = refl; listed = q }
    pick ih false q h = older (ih h)

listed-some : (new : List Request) (v : Request) (old : List Request) (e : ℕ) → lists e v ≡ true → some (listing_of (new ++ (v ∷ old)) e) ≡ true
unfolding listing_of listing_code some
listed-some [] v old e h = rw h (coded (is_fetched v))
  where
    coded : (f : Bool) → ltb 0 (cond f 1 2) ≡ true
    coded true = refl
    coded false = refl
listed-some (w ∷ new) v old e h = pick (lists e w) (is_fetched w) (listed-some new v old e h)
  where
    pick : (b f : Bool) → ltb 0 (listing_of (new ++ (v ∷ old)) e) ≡ true → ltb 0 (cond b (cond f 1 2) (listing_of (new ++ (v ∷ old)) e)) ≡ true
    pick true true ih = refl
    pick true false ih = refl
    pick false f ih = ih

-- the request that a row bears, if it lists the row
listed_found : (vs : List Request) (q e s : ℕ) → request_slot vs q ≡ s → lists e (request_of vs q) ≡ true → some (listing_of vs e) ≡ true
unfolding no_request lists member request_of request_slot
listed_found vs q e zero d l = clash l (ap (lists e) (request-absent vs q d) ∙ and-false (some e))
listed_found vs q e (suc j) d l =
    ap (λ (ws : List Request). some (listing_of ws e)) (cut-first (λ v. v.number) no_request vs q (slot-member (λ v. v.number) vs q j d))
    ∙ listed-some (newer_of (λ v. v.number) vs q) (request_of vs q) (older_of (λ v. v.number) vs q) e l

-- ---- one row, one request
one-of-five : {X : Type 0} (a b c d e : Bool) → a || (b || (c || (d || e))) ≡ true → (a ≡ true → X) → (b ≡ true → X) → (c ≡ true → X) → (d ≡ true → X) → (e ≡ true → X) → X
one-of-five true b c d e h p q r s u = p refl
one-of-five false true c d e h p q r s u = q refl
one-of-five false false true d e h p q r s u = r refl
one-of-five false false false true e h p q r s u = s refl
one-of-five false false false false e h p q r s u = u h

-- a row that bears a request is no end
bears-no-end : (y : Row) (old : List Row) → shape_right y old ≡ true → eqb y.request 0 ≡ false → is_end y.kind ≡ false
unfolding shape_right is_opening is_registered is_held is_port_end is_copy_over
bears-no-end y old h z =
    one-of-five (is_opening y) (is_registered y (source_of old y)) (is_held y (source_of old y) (via_of old y)) (is_port_end y (source_of old y)) (is_copy_over y (source_of old y) (via_of old y)) h
    (λ a. bare (search (and_l, and_r))) (λ a. bare (search (and_l, and_r))) (λ a. bare (search (and_l, and_r))) (λ a. bare (search (and_l, and_r)))
    (λ a. copied-no-end y.kind (search (and_l, and_r)))
  where
    bare : eqb y.request 0 ≡ true → is_end y.kind ≡ false
    bare e = clash e z

-- what a copy for a request is
record CopyFor (v : Request) (r : Row) : Type 0 where
  pub bears : r.request ≡ v.number
  pub newer : ltb r.request r.number ≡ true
  pub port : v.port ≡ r.via

copy-open : (v : Request) (r : Row) → is_copy_for v r ≡ true → CopyFor v r
unfolding is_copy_for
copy-open v r h =
    let same : eqb r.request v.number ≡ true = search (and_l, and_r) in
    let later : ltb v.number r.number ≡ true = search (and_l, and_r) in
    let over : eqb v.port r.via ≡ true = search (and_l, and_r) in
    let bears = eqb-true r.request v.number same in
    record { bears = bears; newer = ap (λ (n : ℕ). ltb n r.number) bears ∙ later; port = eqb-true v.port r.via over }

copy-close : (v : Request) (r : Row) → some r.request ≡ true → CopyFor v r → is_copy_for v r ≡ true
unfolding is_copy_for
copy-close v r h c =
    rw (h, eq-eqb r.request v.number c.bears, ap (λ (n : ℕ). ltb n r.number) (sym c.bears) ∙ c.newer, eq-eqb v.port r.via c.port) refl

lent-listed : (v : Request) (r : Row) → may_be_lent v r ≡ true → may_be_listed v r ≡ true
unfolding may_be_lent may_be_listed is_copy_for
lent-listed v r h =
    ⊎_elim (λ a. or_l (goes_back r && ltb r.number v.number) (some r.request && eqb r.request v.number) a)
    (λ b.
    or_r (goes_back r && ltb r.number v.number) (some r.request && eqb r.request v.number)
    (and_i (some r.request) (eqb r.request v.number) (search and_l) (search (and_l, and_r))))
    (or_cases _ _ h)

-- ---- of a state that t represents
module _ {st : State} {t : List ℕ} (rep : Represents t st) where
  -- the row, the request with the number of one
  row-itself : (new : List Row) (y : Row) (old : List Row) → st.rows ≡ new ++ (y ∷ old) → row_of st.rows y.number ≡ y
  unfolding row_of top_of
  row-itself new y old e =
      ap (λ (rs : List Row). row_of rs y.number) e
      ∙ first-skip (λ r. r.number) no_row new (y ∷ old) (ap (rises (λ r. r.number)) (sym e) ∙ (represented-well rep).rows-rise) y.number (le_refl y.number)
      ∙ first-here (λ r. r.number) no_row y old

  request-itself : (new : List Request) (v : Request) (old : List Request) → st.requests ≡ new ++ (v ∷ old) → request_of st.requests v.number ≡ v
  unfolding request_of top_of
  request-itself new v old e =
      ap (λ (vs : List Request). request_of vs v.number) e
      ∙ first-skip (λ v. v.number) no_request new (v ∷ old) (ap (rises (λ v. v.number)) (sym e) ∙ (represented-well rep).requests-rise) v.number (le_refl v.number)
      ∙ first-here (λ v. v.number) no_request v old

  -- ---- from the listing to the clauses
  module _ (right : items_right st.rows st.requests ≡ true) where
    pub items-listed : items_lent st.rows st.requests ≡ true
    unfolding items_lent items_right
    items-listed =
        all-mono (items_listable st.rows) (λ v. all (λ e. may_be_listed v (row_of st.rows e)) (nonzero v.items))
        (λ v. all-mono (λ e. may_be_lent v (row_of st.rows e)) (λ e. may_be_listed v (row_of st.rows e)) (λ e. lent-listed v (row_of st.rows e)) (nonzero v.items)) st.requests right

    -- a row that a request lists, and that is no end, is a copy for it
    copy_of : (new : List Row) (y : Row) (old : List Row) → st.rows ≡ new ++ (y ∷ old) → is_end y.kind ≡ false → (l : Lister st.requests y.number) → CopyFor l.here y
    unfolding items_right lists may_be_lent
    copy_of new y old e k l =
        let v = l.here in
        let n = y.number in
        let items : items_listable st.rows v ≡ true = all-cut (items_listable st.rows) l.new v l.old (subst (λ (vs : List Request). all (items_listable st.rows) vs ≡ true) l.split right) in
        let here : some n ≡ true = and_l (some n) (member n v.items) l.listed in
        let there : member n (nonzero v.items) ≡ true = member-nonzero n v.items here ∙ and_r (some n) (member n v.items) l.listed in
        let lent : may_be_lent v y ≡ true = ap (may_be_lent v) (sym (row-itself new y old e)) ∙ all-at (λ x. may_be_lent v (row_of st.rows x)) (nonzero v.items) items n there in
        ⊎_elim (λ a. clash (and_l (is_end y.kind) (ltb n v.number) a) k) (copy-open v y) (or_cases (is_end y.kind && ltb n v.number) (is_copy_for v y) lent)

    pub copies-lent : each by_sources st.rows ≡ true → copies_seen st.requests st.rows ≡ true → loans_right st ≡ true
    unfolding copies_seen loan_right by_sources
    copies-lent sources seen = all-cuts (loan_right st.requests) st.rows (λ new y old e. pick new y old e (eqb y.request 0) refl)
      where
        test : Row → Bool
        test r = eqb r.request 0 || some (listing_of st.requests r.number)

        pick : (new : List Row) (y : Row) (old : List Row) → st.rows ≡ new ++ (y ∷ old) → (b : Bool) → eqb y.request 0 ≡ b → loan_right st.requests y ≡ true
        pick new y old e true z = or_l (eqb y.request 0) _ z
        pick new y old e false z =
            let by : by_sources y old ≡ true = each-cut by_sources new y old (subst (λ (rs : List Row). each by_sources rs ≡ true) e sources) in
            let shape : shape_right y old ≡ true = search and_l in
            let told : test y ≡ true = all-cut test new y old (subst (λ (rs : List Row). all test rs ≡ true) e seen) in
            let l = lister st.requests y.number (⊎_elim (λ a. clash a z) (λ b. b) (or_cases (eqb y.request 0) (some (listing_of st.requests y.number)) told)) in
            let c = copy_of new y old e (bears-no-end y old shape z) l in
            let own : request_of st.requests y.request ≡ l.here = ap (request_of st.requests) c.bears ∙ request-itself l.new l.here l.old l.split in
            rw (z, own, c.newer, l.listed, eq-eqb l.here.port y.via c.port) refl

  -- ---- from the clauses to the listing
  module _ (loans : loans_right st ≡ true) where
    -- what the request says that a row bears
    borne : (new : List Row) (y : Row) (old : List Row) → st.rows ≡ new ++ (y ∷ old) → eqb y.request 0 ≡ false
        → ltb y.request y.number && (lists y.number (request_of st.requests y.request) && eqb (request_of st.requests y.request).port y.via) ≡ true
    unfolding loan_right
    borne new y old e z =
        ⊎_elim (λ a. clash a z) (λ b. b) (or_cases (eqb y.request 0) _ (all-cut (loan_right st.requests) new y old (subst (λ (rs : List Row). all (loan_right st.requests) rs ≡ true) e loans)))

    pub copies-seen : copies_seen st.requests st.rows ≡ true
    unfolding copies_seen
    copies-seen = all-cuts (λ r. eqb r.request 0 || some (listing_of st.requests r.number)) st.rows (λ new y old e. pick new y old e (eqb y.request 0) refl)
      where
        pick : (new : List Row) (y : Row) (old : List Row) → st.rows ≡ new ++ (y ∷ old) → (b : Bool) → eqb y.request 0 ≡ b
            → eqb y.request 0 || some (listing_of st.requests y.number) ≡ true
        pick new y old e true z = or_l (eqb y.request 0) (some (listing_of st.requests y.number)) z
        pick new y old e false z =
            let b = borne new y old e z in
            or_r (eqb y.request 0) (some (listing_of st.requests y.number)) (listed_found st.requests y.request y.number (request_slot st.requests y.request) refl (search (and_l, and_r)))

    -- what a request may list is an end, or a copy for it
    lent-item : (new : List Request) (v : Request) (old : List Request) → st.requests ≡ new ++ (v ∷ old) → (x : ℕ)
        → may_be_listed v (row_of st.rows x) ≡ true → may_be_lent v (row_of st.rows x) ≡ true
    unfolding may_be_listed may_be_lent no_row some
    lent-item new v old e x h =
        ⊎_elim (or_l (goes_back row && ltb row.number v.number) (is_copy_for v row))
        (λ b. or_r (goes_back row && ltb row.number v.number) (is_copy_for v row) (copy b (row_slot st.rows x) refl))
        (or_cases (goes_back row && ltb row.number v.number) (some row.request && eqb row.request v.number) h)
      where
        row : Row
        row = row_of st.rows x

        copy : some row.request && eqb row.request v.number ≡ true → (s : ℕ) → row_slot st.rows x ≡ s → is_copy_for v row ≡ true
        copy b zero d = clash (and_l (some row.request) (eqb row.request v.number) b) (ap (λ (r : Row). some r.request) (row-absent st.rows x d))
        copy b (suc i) d =
            let there : some row.request ≡ true = and_l (some row.request) (eqb row.request v.number) b in
            let bears = eqb-true row.request v.number (and_r (some row.request) (eqb row.request v.number) b) in
            let pos = some-pos row.request there in
            let told = borne (newer_of (λ r. r.number) st.rows x) row (older_of (λ r. r.number) st.rows x) (row_cut st.rows x i d).0 (ne_eqb row.request 0 (λ z. omega arith)) in
            let own : request_of st.requests row.request ≡ v = ap (request_of st.requests) bears ∙ request-itself new v old e in
            let later : ltb row.request row.number ≡ true = search (and_l, and_r) in
            let over : eqb (request_of st.requests row.request).port row.via ≡ true = search (and_l, and_r) in
            copy-close v row there record { bears = bears; newer = later; port = ap (λ (w : Request). w.port) (sym own) ∙ eqb-true (request_of st.requests row.request).port row.via over }

    pub items-lent : items_lent st.rows st.requests ≡ true → items_right st.rows st.requests ≡ true
    unfolding items_lent items_right
    items-lent listed =
        all-cuts (items_listable st.rows) st.requests
        (λ new v old e.
        all-mono (λ x. may_be_listed v (row_of st.rows x)) (λ x. may_be_lent v (row_of st.rows x)) (lent-item new v old e) (nonzero v.items)
        (all-cut (λ v. all (λ x. may_be_listed v (row_of st.rows x)) (nonzero v.items)) new v old
        (subst (λ (vs : List Request). all (λ v. all (λ x. may_be_listed v (row_of st.rows x)) (nonzero v.items)) vs ≡ true) e listed)))
