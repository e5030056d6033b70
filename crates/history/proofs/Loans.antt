-- The ends that the requests of the tables list, against those that the history has on loan: what a settling leaves, request by request.
use Prim.Native.Nat.{ℕ}
use mathlib.Core.Bool.{Bool, true, false, not, cond, ◌&&◌, ◌||◌}
use mathlib.Core.List.{List, [], ◌∷◌, ◌++◌, map, map-map}
use mathlib.Core.Path.{◌≡◌, refl, sym, ap, ◌∙◌}
use lib.Dec.{eqb}
use Rattle.rows.specs.declared.Row.{Row}
use Rattle.rows.specs.declared.Request.{Request}
use Rattle.rows.specs.Lists.{filter, any, all, first_with, member, nonzero}
use Rattle.rows.specs.Codes.{is_end}
use Rattle.rows.specs.Tables.{State, no_request, row_of, request_of, lists}
use Rattle.rows.proofs.Bools.{and_l, and_r, not_t, eqb-sym, and-rf, and-true}
use Rattle.tables.proofs.Picked.{all-keys, first-picked}
use Rattle.rows.proofs.RowSources.{end-there}
use Rattle.rows.proofs.Lists.{filter-filter, member_filter, member-nonzero}
use Rattle.rows.proofs.Agree.{keys_kept}
use Rattle.history.specs.History.{OnLoan, History}
use Rattle.history.specs.Notes.{no_loan, loan_of, stands, is_closed, open_loans, is_closed_now, stays_on_loan, loans_left}
use Rattle.history.proofs.Inv.{Inv, of_request, of_loan, ends_listed, loans_in, no_open}
use Rattle.history.proofs.View.{first-through}
use Rattle.history.proofs.Find.{row-stands}

-- request q is closed, by its number
unfoldable pub closed_number : History → ℕ → Bool
closed_number h q = is_closed h (loan_of h.requests q)

-- the ends es on loan by request q
abbrev pub block : ℕ → List ℕ → List OnLoan
block q es = map (λ e. record { request = q; lent = e }) es

-- a request of these that has e on loan is closed
unfoldable pub shut : History → List OnLoan → ℕ → Bool
shut h os e = any (λ x. eqb x.lent e && is_closed_now h x) os

-- the end stands and no older loan of it is shut
unfoldable pub stays_lent : History → List OnLoan → ℕ → Bool
stays_lent h older e = stands h e && not (shut h older e)

-- ---- one block
shut-block : (h : History) (q : ℕ) (es : List ℕ) (older : List OnLoan) (e : ℕ) → closed_number h q ≡ false → shut h (block q es ++ older) e ≡ shut h older e
unfolding shut any is_closed_now closed_number
shut-block h q [] older e c = refl
shut-block h q (x ∷ es) older e c = rw (c, and-rf (eqb x e) false refl) (shut-block h q es older e c)

stays_closed : (h : History) (q e : ℕ) (older : List OnLoan) → closed_number h q ≡ true → stays_on_loan h older (record { request = q; lent = e }) ≡ false
unfolding stays_on_loan is_closed_now closed_number
stays_closed h q e older c = rw c (and-rf (stands h e) false refl)

stays_open : (h : History) (q e : ℕ) (older : List OnLoan) → closed_number h q ≡ false → stays_on_loan h older (record { request = q; lent = e }) ≡ stays_lent h older e
unfolding stays_on_loan is_closed_now closed_number stays_lent shut
stays_open h q e older c = rw c refl

pub left-closed : (h : History) (q : ℕ) (es : List ℕ) (older : List OnLoan) → closed_number h q ≡ true → loans_left h (block q es ++ older) ≡ loans_left h older
unfolding loans_left
left-closed h q [] older c = refl
left-closed h q (e ∷ es) older c = rw (stays_closed h q e (map (λ e. record { request = q; lent = e }) es ++ older) c) (left-closed h q es older c)

pub left_open : (h : History) (q : ℕ) (es : List ℕ) (older : List OnLoan) → closed_number h q ≡ false
    → loans_left h (block q es ++ older) ≡ block q (filter (stays_lent h older) es) ++ loans_left h older
unfolding loans_left filter stays_lent
left_open h q [] older c = refl
left_open h q (e ∷ es) older c = rw (same-stays) (pick (left_open h q es older c) (stays_lent h older e))
  where
    same-stays : stays_on_loan h (block q es ++ older) (record { request = q; lent = e }) ≡ stays_lent h older e
    same-stays = stays_open h q e (block q es ++ older) c ∙ ap (λ b. stands h e && not b) (shut-block h q es older e c)

    pick : loans_left h (block q es ++ older) ≡ block q (filter (stays_lent h older) es) ++ loans_left h older → (b : Bool)
        → cond b (record { request = q; lent = e } ∷ loans_left h (block q es ++ older)) (loans_left h (block q es ++ older))
        ≡ block q (cond b (e ∷ filter (stays_lent h older) es) (filter (stays_lent h older) es)) ++ loans_left h older
    pick ih true = ap (λ l. record { request = q; lent = e } ∷ l) ih
    pick ih false = ih

-- ---- a request that has e on loan is closed: of one block, or of the older ones
pub shut-first : (h : History) (q : ℕ) (es : List ℕ) (older : List OnLoan) (e : ℕ) → shut h (block q es ++ older) e ≡ (closed_number h q && member e es) || shut h older e
unfolding shut any is_closed_now closed_number member
shut-first h q [] older e = rw (and-rf (is_closed h (loan_of h.requests q)) false refl) refl
shut-first h q (x ∷ es) older e =
    rw (eqb-sym x e, shut-first h q es older e) (pick (eqb e x) (is_closed h (loan_of h.requests q)) (member e es) (shut h older e))
  where
    pick : (a c m o : Bool) → (a && c) || ((c && m) || o) ≡ (c && (a || m)) || o
    pick true true m o = refl
    pick true false m o = refl
    pick false true m o = refl
    pick false false m o = refl

-- an end of the tables is on the list of a request's ends just if it is among its items
pub end-listed : (rs : List Row) (e : ℕ) → is_end (row_of rs e).kind ≡ true → (v : Request) → member e (ends_listed rs v) ≡ lists e v
unfolding ends_listed lists
end-listed rs e end v =
    member_filter (λ e. is_end (row_of rs e).kind) (nonzero v.items) e ∙ ap (λ t. member e (nonzero v.items) && t) end
    ∙ and-true (member e (nonzero v.items)) ∙ member-nonzero v.items e

-- ---- the open requests, in the tables and in the history
module _ (h : History) (st : State) (i : Inv h st) where
  same_numbers : map (λ v. v.number) st.requests ≡ map (λ v. v.number) (open_loans h)
  unfolding of_request of_loan
  same_numbers = sym (map-map (λ o. o.number) of_request st.requests) ∙ ap (map (λ o. o.number)) i.requests ∙ map-map (λ o. o.number) of_loan (open_loans h)

  -- those of the tables are those that were asked and are not closed
  pub open-numbers : (n : ℕ) → member n (map (λ v. v.number) st.requests) ≡ member n (map (λ v. v.number) h.requests) && not (closed_number h n)
  unfolding open_loans closed_number loan_of
  open-numbers n = ap (member n) same_numbers ∙ keys_kept (λ v. v.number) no_loan (λ v. not (is_closed h v)) h.requests i.fit.requests-rise n

  -- and they have the asker and the port noted
  pub request-loan : (n : ℕ) → member n (map (λ v. v.number) st.requests) ≡ true → of_request (request_of st.requests n) ≡ of_loan (loan_of h.requests n)
  unfolding request_of loan_of open_loans
  request-loan n t =
      sym (first-through of_request (λ v. v.number) (λ o. o.number) (λ v. unfold of_request in refl) no_request no_open (unfold of_request no_request no_open in refl) st.requests n)
      ∙ ap (λ os. first_with (λ o. o.number) no_open os n) i.requests
      ∙ first-through of_loan (λ v. v.number) (λ o. o.number) (λ v. unfold of_loan in refl) no_loan no_open (unfold of_loan no_loan no_open in refl) (open_loans h) n
      ∙ ap of_loan (first-picked (λ v. v.number) no_loan (λ v. not (is_closed h v)) h.requests i.fit.requests-rise n (ap (member n) (sym same_numbers) ∙ t))

  end-stands : (e : ℕ) → is_end (row_of st.rows e).kind ≡ true → stands h e ≡ true
  end-stands e end = row-stands h st i e (end-there st.rows e end)

  -- ---- of the ends that the tables list, all stay on loan
  none-shut : (vs : List Request) → all (λ v. not (closed_number h v.number)) vs ≡ true → (e : ℕ) → shut h (loans_in st.rows vs) e ≡ false
  unfolding all loans_in
  none-shut [] c e = unfold shut any in refl
  none-shut (v ∷ vs) c e =
      shut-first h v.number (ends_listed st.rows v) (loans_in st.rows vs) e
      ∙ rw (not_t (closed_number h v.number) (and_l (not (closed_number h v.number)) _ c)) (none-shut vs (and_r (not (closed_number h v.number)) _ c) e)

  all_left : (vs : List Request) → all (λ v. not (closed_number h v.number)) vs ≡ true → loans_left h (loans_in st.rows vs) ≡ loans_in st.rows vs
  unfolding all loans_in
  all_left [] c = unfold loans_left in refl
  all_left (v ∷ vs) c =
      let older = loans_in st.rows vs in
      let rest = and_r (not (closed_number h v.number)) (all (λ v. not (closed_number h v.number)) vs) c in
      left_open h v.number (ends_listed st.rows v) older (not_t (closed_number h v.number) (and_l (not (closed_number h v.number)) _ c))
      ∙ rw (stay vs rest v, all_left vs rest) refl
    where
      stay : (vs : List Request) → all (λ v. not (closed_number h v.number)) vs ≡ true → (v : Request)
          → filter (stays_lent h (loans_in st.rows vs)) (ends_listed st.rows v) ≡ ends_listed st.rows v
      stay vs rest v =
          unfold ends_listed stays_lent in filter-filter (λ e. stands h e && not (shut h (loans_in st.rows vs) e)) (λ e. is_end (row_of st.rows e).kind)
          (λ e. is_end (row_of st.rows e).kind) (λ e. stays (is_end (row_of st.rows e).kind) e refl) (nonzero v.items)
        where
          stays : (b : Bool) (e : ℕ) → is_end (row_of st.rows e).kind ≡ b → b ≡ b && (stands h e && not (shut h (loans_in st.rows vs) e))
          stays true e t = rw (end-stands e t, none-shut vs rest e) refl
          stays false e t = refl

  pub nothing-settles : loans_left h (loans_in st.rows st.requests) ≡ loans_in st.rows st.requests
  nothing-settles =
      all_left st.requests
      (all-keys (λ v. v.number) (λ n. not (closed_number h n)) st.requests (λ n t. and_r (member n (map (λ v. v.number) h.requests)) _ (sym (open-numbers n) ∙ t)))
