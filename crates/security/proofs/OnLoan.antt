-- What the history has on loan is what its words say: by the tables, which list an end on loan just so.
use Prim.Native.Nat.{ℕ, ◌<◌, ◌≤◌}
use native.Mathlib.Omega.{arith}
use mathlib.Core.Bool.{true, false, not, ◌&&◌, ◌||◌, true≢false}
use mathlib.Core.List.{List, [], ◌∷◌, ◌++◌, map}
use mathlib.Core.Path.{◌≡◌, refl, sym, ap, ◌∙◌, subst}
use mathlib.Core.Logic.{◌⊎◌, inl, inr, ⊎_elim, ◌↔◌}
use lib.Dec.{ltb, eqb}
use borrow.Author.Tests.{eqb-true, eq-eqb, ltb-true, lt-ltb}
use Rattle.rows.specs.Lists.{any, first_with, member, some}
use Rattle.rows.specs.Codes.{is_end}
use Rattle.rows.specs.Tables.{State, no_request, row_of, request_of, lists}
use Rattle.rows.specs.Setters.{with_place}
use Rattle.rows.specs.Sound.{requests_rise}
use Rattle.rows.proofs.Bools.{false_of, true_of, and_l, and_r, and_i, and-false, or_r, or_cases, or-false, not_t, any_append, member-there, true-or-false}
use Rattle.rows.proofs.Keyed.{first_key, first-none, rises-range}
use Rattle.rows.proofs.RowSources.{end-there}
use Rattle.tables.proofs.Picked.{first-here, first-other}
use Rattle.tables.proofs.Sound.{Sound}
use Rattle.tables.proofs.SoundFacts.{next-some}
use Rattle.closing.proofs.TrimmedLists.{trim, member-trim, any-first}
use Rattle.closing.proofs.Facts.{request-number}
use Rattle.calls.specs.declared.Item.{Item}
use Rattle.calls.specs.declared.Call.{Call}
use Rattle.calls.specs.declared.Call.TheVariants.{Go, Hold, Register, Drop, Port, Close, Ask, Fetch, Revoke, Comes, Chain, ComesAll}
use Rattle.calls.specs.Answers.{values_of}
use Rattle.calls.specs.Rules.{Out}
use Rattle.calls.specs.Loans.{items_of}
use Rattle.calls.specs.Calls.{made, effect}
use Rattle.text.specs.Answers.{printed}
use Rattle.text.specs.Opening.{Opening, opens, refused_at, lines_of, opening_of}
use Rattle.text.specs.Entry.{Replied, call_on, reply_with, call_entry, open_entry}
use Rattle.history.specs.History.{Loan, History}
use Rattle.history.specs.Notes.{no_loan, loan_of, loans_settled, add_row, note_go, note_hold, note_register, note_port, note_ask, note_drop, note_close, note_revoke, note_end, ends_named}
use Rattle.history.specs.Reading.{begun, begun_by, begun_with, accepts, items_named, note_call, note_reading, note_line, history_after}
use Rattle.history.specs.Chains.{a_request, AskedOver, Gone, Stands, HasOnLoan}
use Rattle.history.specs.Demand3.{replies_to}
use Rattle.history.proofs.Inv.{Inv, Lends, ends_listed, loans_in, first_value}
use Rattle.history.proofs.Find.{in-tables}
use Rattle.history.proofs.Standing.{stands-chains, request-closed}
use Rattle.history.proofs.Allowed.{Allowed}
use Rattle.history.proofs.KeptCalls.{call_kept}
use Rattle.history.proofs.Kept.{call-on-words}
use Rattle.history.proofs.Loans.{closed_number, block, end-listed, open-numbers}
use Rattle.history.proofs.LoansAsk.{asked-loans}
use Rattle.history.proofs.Returns.{any-block, on-loan, listed-end}
use Rattle.history.proofs.Demand3.{Along, step, along-call, along-opening}
use Rattle.security.specs.Sessions.{IsRow, IsOpen}
use Rattle.security.specs.Changes.{goes, shuts, leaves_list, request_after, Touches}
use Rattle.security.specs.OnLoan.{Loans, none_said, AskedNow, StillOnLoan, said_now, said_after, OnLoanAsSaid}
use Rattle.security.proofs.Lines.{Heard, refuses, allows, heard}
use Rattle.security.proofs.Rows.{request-low, item-row}
use Rattle.security.proofs.Effects.{comes, tells, effect_of}
use Rattle.security.proofs.Touches.{touches}
use Rattle.security.proofs.Moves.{any_found}

-- ---- on loan, in the tables
pub record InList (st : State) (q e : ℕ) : Type 0 where
  pub is_open : IsOpen st q
  pub is-end : is_end (row_of st.rows e).kind ≡ true
  pub listed : lists e (request_of st.requests q) ≡ true

module _ (h : History) (st : State) (i : Inv h st) (l : Lends h st) (s : Sound st) where
  both : (q e : ℕ) → any (λ o. eqb o.request q && eqb o.lent e) h.loans ≡ member q (map (λ v. v.number) st.requests) && member e (ends_listed st.rows (request_of st.requests q))
  unfolding requests_rise
  both q e = ap (any (λ o. eqb o.request q && eqb o.lent e)) (sym l.lends) ∙ on-loan st.rows q e st.requests s.numbers.requests-rise

  pub in_list : (q e : ℕ) → HasOnLoan h q e → InList st q e
  unfolding HasOnLoan
  in_list q e t =
      let b = sym (both q e) ∙ t in
      let m = and_r (member q (map (λ v. v.number) st.requests)) _ b in
      let k = listed-end st.rows e (request_of st.requests q) m in
      record { is_open = and_l (member q (map (λ v. v.number) st.requests)) _ b; is-end = k; listed = sym (end-listed st.rows e k (request_of st.requests q)) ∙ m }

  pub has-loan : (q e : ℕ) → InList st q e → HasOnLoan h q e
  unfolding HasOnLoan
  has-loan q e x = both q e ∙ and_i _ _ x.is_open (end-listed st.rows e x.is-end (request_of st.requests q) ∙ x.listed)

  -- ---- stands and closed, by the tables
  row-stands : (e : ℕ) → IsRow st e → Stands h e
  row-stands e t = (stands-chains h i.fit e).0 (sym (in-tables h st i e) ∙ t)

  stands-row : (e : ℕ) → Stands h e → IsRow st e
  stands-row e x = in-tables h st i e ∙ (stands-chains h i.fit e).1 x

  -- of a request that is noted
  module _ (q : ℕ) (noted : member q (map (λ v. v.number) h.requests) ≡ true) (lo : 0 < q) where
    asked-over : AskedOver h q (loan_of h.requests q).port
    unfolding loan_of
    asked-over = record { is_number = lo; request = first_key (λ v. v.number) no_loan h.requests q noted; port = refl }

    open_is : member q (map (λ v. v.number) st.requests) ≡ not (closed_number h q)
    open_is = open-numbers h st i q ∙ ap (λ b. b && not (closed_number h q)) noted

    gone-closed : Gone h (a_request q) → IsOpen st q → ⊥
    unfolding closed_number
    gone-closed g t = absurd (true≢false (sym t ∙ open_is ∙ ap not ((request-closed h i.fit q (loan_of h.requests q).port asked-over).1 g)))

    closed-gone : (IsOpen st q → ⊥) → Gone h (a_request q)
    unfolding closed_number
    closed-gone u =
        (request-closed h i.fit q (loan_of h.requests q).port asked-over).0
        (true_of (closed_number h q) (λ z. u (open_is ∙ ap not z)))

-- ---- the requests noted after a line: those before it, and maybe the one that it asked
pub data Requests (h h' : History) (n : ℕ) : Type 0 where
  as_before : h'.requests ≡ h.requests → Requests h h' n
  one_more : (v : Loan) → v.number ≡ n → h'.requests ≡ v ∷ h.requests → h'.loans ≡ block n v.ends ++ h.loans → Requests h h' n

-- ---- a line: h and st before it, h' and st' after it; c is the call that it asked for, or one that changes nothing
module _ (h h' : History) (st st' : State) (c : Call) (i : Inv h st) (l : Lends h st) (s : Sound st) (i' : Inv h' st') (l' : Lends h' st') (s' : Sound st') (k : Touches st c st')
    (j : Requests h h' st.next) where
  grows : (q : ℕ) → member q (map (λ v. v.number) h.requests) ≡ true → member q (map (λ v. v.number) h'.requests) ≡ true
  grows q t = pick j
    where
      pick : Requests h h' st.next → member q (map (λ v. v.number) h'.requests) ≡ true
      pick (as_before e) = ap (λ vs. member q (map (λ v. v.number) vs)) e ∙ t
      pick (one_more v n e o) = ap (λ vs. member q (map (λ v. v.number) vs)) e ∙ member-there q v.number _ t

  noted-before : (q : ℕ) → IsOpen st q → member q (map (λ v. v.number) h.requests) ≡ true
  noted-before q t = and_l (member q (map (λ v. v.number) h.requests)) _ (sym (open-numbers h st i q) ∙ t)

  gone-now : (q : ℕ) → IsOpen st q → Gone h' (a_request q) → IsOpen st' q → ⊥
  gone-now q t = gone-closed h' st' i' l' s' q (grows q (noted-before q t)) (request-low st s q t)

  now-gone : (q : ℕ) → IsOpen st q → (IsOpen st' q → ⊥) → Gone h' (a_request q)
  now-gone q t = closed-gone h' st' i' l' s' q (grows q (noted-before q t)) (request-low st s q t)

  stays_open : (q : ℕ) → IsOpen st q → IsOpen st' q → shuts st c (request_of st.requests q) ≡ false
  stays_open q t t' = not_t (shuts st c (request_of st.requests q)) (sym (k.requests q t) ∙ t')

  closes-now : (q : ℕ) → IsOpen st q → shuts st c (request_of st.requests q) ≡ true → IsOpen st' q → ⊥
  closes-now q t z t' = absurd (true≢false (sym z ∙ stays_open q t t'))

  -- the list of a request that stays open
  lists-after : (q : ℕ) → IsOpen st q → IsOpen st' q → (e : ℕ) → some e ≡ true
      → lists e (request_of st'.requests q) ≡ lists e (request_of st.requests q) && not (leaves_list st c (request_of st.requests q) e)
  unfolding request_after lists trim
  lists-after q t t' e h =
      let v = request_of st.requests q in
      ap (lists e) (k.requests-kept q t (stays_open q t t'))
      ∙ ap (λ b. some e && b) (member-trim (leaves_list st c v) v.items e h)
      ∙ rw h refl

  kind-after : (e : ℕ) → IsRow st e → IsRow st' e → (row_of st'.rows e).kind ≡ (row_of st.rows e).kind
  unfolding with_place
  kind-after e t t' = ap (λ r. r.kind) (k.rows-kept e t (not_t (goes st c e) (sym (k.rows e t) ∙ t')))

  -- ---- what was on loan
  -- it leaves the list where an older request closes that lists it
  older-shut : (q e w : ℕ) → IsOpen st q → IsOpen st w → w < q → lists e (request_of st.requests w) ≡ true → shuts st c (request_of st.requests w) ≡ true → leaves_list st c (request_of st.requests q) e ≡ true
  unfolding leaves_list request_of
  older-shut q e w t u lt y z =
      or_r (goes st c e) _
      (any_found (λ v. v.number) no_request (λ x. ltb x.number (request_of st.requests q).number && (shuts st c x && lists e x)) st.requests w u
      (and_i _ _ (ap (λ n. ltb n (request_of st.requests q).number) (request-number st w u) ∙ ap (ltb w) (request-number st q t) ∙ lt-ltb w q lt) (and_i _ _ z y)))

  still : (q e : ℕ) → InList st q e → InList st' q e → StillOnLoan h' (HasOnLoan h) q e
  still q e x x' =
      record {
        had = has-loan h st i l s q e x;
        stands = row-stands h' st' i' l' s' e (end-there st'.rows e x'.is-end);
        is_open = λ g. gone-now q x.is_open g x'.is_open;
        no-older = λ w lt y g.
            let z = in_list h st i l s w e y in
            let shut : shuts st c (request_of st.requests w) ≡ true = true_of _ (λ o. gone-now w z.is_open g (k.requests w z.is_open ∙ ap not o)) in
            absurd (true≢false (sym x'.listed ∙ lists-after q x.is_open x'.is_open e (unfold lists in and_l (some e) _ x.listed)
            ∙ ap (λ b. lists e (request_of st.requests q) && not b) (older-shut q e w x.is_open z.is_open lt z.listed shut) ∙ and-false (lists e (request_of st.requests q))));
      }

  back : (q e : ℕ) → StillOnLoan h' (HasOnLoan h) q e → InList st' q e
  back q e y = record { is_open = t'; is-end = ap is_end (kind-after e (end-there st.rows e x.is-end) row') ∙ x.is-end; listed = lists-after q x.is_open t' e nonzero ∙ and_i _ _ x.listed (ap not stays) }
    where
      x : InList st q e
      x = in_list h st i l s q e y.had

      nonzero : some e ≡ true
      nonzero = unfold lists in and_l (some e) _ x.listed

      row' : IsRow st' e
      row' = stands-row h' st' i' l' s' e y.stands

      t' : IsOpen st' q
      t' = true_of _ (λ z. y.is_open (now-gone q x.is_open (λ t. absurd (true≢false (sym t ∙ z)))))

      none-older : any (λ w. ltb w.number (request_of st.requests q).number && (shuts st c w && lists e w)) st.requests ≡ false
      none-older =
          false_of _ (λ u.
          let (w, o, z) = any-first (λ v. v.number) no_request (λ w. ltb w.number (request_of st.requests q).number && (shuts st c w && lists e w)) st.requests (unfold requests_rise in s.numbers.requests-rise) u in
          older w o (unfold request_of in z))
        where
          older : (w : ℕ) → IsOpen st w → ltb (request_of st.requests w).number (request_of st.requests q).number && (shuts st c (request_of st.requests w) && lists e (request_of st.requests w)) ≡ true → ⊥
          older w o z =
              let v = request_of st.requests w in
              let rest = and_r (ltb v.number (request_of st.requests q).number) _ z in
              let a = request-number st w o in
              let b = request-number st q x.is_open in
              let lt = ltb-true v.number _ (and_l (ltb v.number (request_of st.requests q).number) _ z) in
              y.no-older w (omega arith) (has-loan h st i l s w e (record { is_open = o; is-end = x.is-end; listed = and_r (shuts st c v) _ rest })) (now-gone w o (closes-now w o (and_l (shuts st c v) _ rest)))

      stays : leaves_list st c (request_of st.requests q) e ≡ false
      stays =
          unfold leaves_list in
          (ap (λ b. b || any (λ w. ltb w.number (request_of st.requests q).number && (shuts st c w && lists e w)) st.requests) (not_t (goes st c e) (sym (k.rows e (end-there st.rows e x.is-end)) ∙ row')) ∙ none-older)

  -- what is listed after it by a request that was open was listed before it
  was-listed : (q e : ℕ) → IsOpen st q → InList st' q e → InList st q e
  was-listed q e t x =
      let nz : some e ≡ true = unfold lists in and_l (some e) _ x.listed in
      let li : lists e (request_of st.requests q) ≡ true = and_l (lists e (request_of st.requests q)) _ (sym (lists-after q t x.is_open e nz) ∙ x.listed) in
      let row : IsRow st e = item-row st s q t e li in
      record { is_open = t; is-end = sym (ap is_end (kind-after e row (end-there st'.rows e x.is-end))) ∙ x.is-end; listed = li }

  -- ---- and what is new
  noted-below : (q : ℕ) → member q (map (λ v. v.number) h.requests) ≡ true → q < st.next
  noted-below q t =
      let (lo, hi) = rises-range (λ v. v.number) h.requests i.fit.requests-rise q t in
      let top = i.requests-below in omega arith

  not_noted : (q : ℕ) → st.next ≤ q → (loan_of h.requests q).number ≡ q → ⊥
  unfolding loan_of no_loan
  not_noted q le e =
      let out : member q (map (λ v. v.number) h.requests) ≡ false = false_of _ (λ t. let lt = noted-below q t in omega arith) in
      let z : 0 ≡ q = sym (ap (λ v. v.number) (first-none (λ v. v.number) no_loan h.requests q out)) ∙ e in
      let lo = next-some st s.numbers in omega arith

  fresh : (q e : ℕ) → AskedNow h h' q e → IsOpen st q → ⊥
  unfolding loan_of
  fresh q e a t = a.fresh (first_key (λ v. v.number) no_loan h.requests q (noted-before q t))

  module _ (q e : ℕ) (u : IsOpen st q → ⊥) where
    -- of a request that was not open: it has a new number, and is noted
    new-number : HasOnLoan h' q e → st.next ≤ q
    new-number y = k.new-requests q (in_list h' st' i' l' s' q e y).is_open u

    now-noted : HasOnLoan h' q e → member q (map (λ v. v.number) h'.requests) ≡ true
    now-noted y = and_l (member q (map (λ v. v.number) h'.requests)) _ (sym (open-numbers h' st' i' q) ∙ (in_list h' st' i' l' s' q e y).is_open)

    had-none : any (λ o. eqb o.request q && eqb o.lent e) h.loans ≡ false
    unfolding HasOnLoan
    had-none = false_of _ (λ t. u (in_list h st i l s q e t).is_open)

    module _ (v : Loan) (n : v.number ≡ st.next) (r : h'.requests ≡ v ∷ h.requests) (o : h'.loans ≡ block st.next v.ends ++ h.loans) where
      has_named : q ≡ st.next → any (λ o. eqb o.request q && eqb o.lent e) h'.loans ≡ member e v.ends
      has_named z =
          ap (any (λ o. eqb o.request q && eqb o.lent e)) o
          ∙ any_append (λ o. eqb o.request q && eqb o.lent e) (block st.next v.ends) h.loans
          ∙ rw (any-block st.next q e v.ends, had-none, eq-eqb st.next q (sym z)) (or-false (member e v.ends))

      found_here : q ≡ st.next → loan_of h'.requests q ≡ v
      unfolding loan_of
      found_here z = ap (λ vs. first_with (λ v. v.number) no_loan vs q) r ∙ ap (first_with (λ v. v.number) no_loan (v ∷ h.requests)) (z ∙ sym n) ∙ first-here (λ v. v.number) no_loan v h.requests

      is-new : member q (map (λ v. v.number) h'.requests) ≡ true → st.next ≤ q → q ≡ st.next
      unfolding member
      is-new t le =
          ⊎_elim (λ a. eqb-true q v.number a ∙ n) (λ b. let lt = noted-below q b in absurd (omega arith))
          (or_cases (eqb q v.number) (member q (map (λ v. v.number) h.requests)) (sym (ap (λ vs. member q (map (λ v. v.number) vs)) r) ∙ t))

      asked-now : HasOnLoan h' q e → AskedNow h h' q e
      unfolding HasOnLoan
      asked-now y =
          let z = is-new (now-noted y) (new-number y) in
          let at = found_here z in
          record { fresh = not_noted q (new-number y); noted = ap (λ v. v.number) at ∙ n ∙ sym z; named = ap (λ v. member e v.ends) at ∙ sym (has_named z) ∙ y }

      now-asked : AskedNow h h' q e → HasOnLoan h' q e
      unfolding HasOnLoan loan_of
      now-asked a = has_named z ∙ ap (λ v. member e v.ends) (sym (found_here z)) ∙ a.named
        where
          other : eqb v.number q ≡ false → loan_of h'.requests q ≡ loan_of h.requests q
          other x = ap (λ vs. first_with (λ v. v.number) no_loan vs q) r ∙ first-other (λ v. v.number) no_loan v h.requests q x

          z : q ≡ st.next
          z = sym (eqb-true v.number q (true_of _ (λ x. a.fresh (sym (ap (λ v. v.number) (other x)) ∙ a.noted)))) ∙ n

    new : HasOnLoan h' q e ↔ AskedNow h h' q e
    new = pick j
      where
        pick : Requests h h' st.next → HasOnLoan h' q e ↔ AskedNow h h' q e
        pick (as_before r) = (
          λ y. let lt = noted-below q (sym (ap (λ vs. member q (map (λ v. v.number) vs)) r) ∙ now-noted y) in let le = new-number y in absurd (omega arith),
          λ a. absurd (a.fresh (sym (ap (λ vs. (loan_of vs q).number) r) ∙ a.noted)),
        )
        pick (one_more v n r o) = (asked-now v n r o, now-asked v n r o)

  pub said-so : (q e : ℕ) → HasOnLoan h' q e ↔ said_now h h' (HasOnLoan h) q e
  unfolding said_now
  said-so q e = (there, here)
    where
      there : HasOnLoan h' q e → AskedNow h h' q e ⊎ StillOnLoan h' (HasOnLoan h) q e
      there y =
          let x = in_list h' st' i' l' s' q e y in
          ⊎_elim (λ t. inr (still q e (was-listed q e t x) x)) (λ u. inl ((new q e (λ t. absurd (true≢false (sym t ∙ u)))).0 y)) (true-or-false (member q (map (λ v. v.number) st.requests)))

      here : AskedNow h h' q e ⊎ StillOnLoan h' (HasOnLoan h) q e → HasOnLoan h' q e
      here (inl a) = (new q e (fresh q e a)).1 a
      here (inr y) = has-loan h' st' i' l' s' q e (back q e y)

-- ---- a line
data NotesRequest (h : History) (n : ℕ) : Call → Type 0 where
  no-request : (c : Call) → (note_call c n h).requests ≡ h.requests → NotesRequest h n c
  new-request : (p c : ℕ) (is : List Item) → NotesRequest h n (Ask p c is)

notes-request : (h : History) (n : ℕ) (c : Call) → NotesRequest h n c
unfolding note_call note_go note_hold note_register note_port add_row note_drop note_close note_end note_revoke
notes-request h n (Go p e) = no-request (Go p e) refl
notes-request h n (Hold p s) = no-request (Hold p s) refl
notes-request h n (Register p e) = no-request (Register p e) refl
notes-request h n (Drop p e) = no-request (Drop p e) refl
notes-request h n (Port p e) = no-request (Port p e) refl
notes-request h n (Close p c) = no-request (Close p c) refl
notes-request h n (Ask p c is) = new-request p c is
notes-request h n (Fetch p v) = no-request (Fetch p v) refl
notes-request h n (Call.Answer p v served) = no-request (Call.Answer p v served) refl
notes-request h n (Revoke p q) = no-request (Revoke p q) refl
notes-request h n (Comes e q) = no-request (Comes e q) refl
notes-request h n (Chain e) = no-request (Chain e) refl
notes-request h n (ComesAll es qs) = no-request (ComesAll es qs) refl

module _ (h : History) (st : State) (i : Inv h st) (l : Lends h st) (s : Sound st) (line : List ℕ) where
  abbrev o : Out
  o = call_on st line

  abbrev h' : History
  h' = note_line h line (printed o.answer)

  told : (c : Call) → Touches st c o.after → Requests h h' st.next → (q e : ℕ) → HasOnLoan h' q e ↔ said_now h h' (HasOnLoan h) q e
  told c k j =
      let x = step h st s i l line in
      said-so h h' st o.after c i l s x.inv x.lends (call_kept st s line) k j

  -- the loans after an ask: those that it makes come first
  ask-loans : (p c : ℕ) (is : List Item) → Allowed st (Ask p c is) → o ≡ effect st (Ask p c is)
      → h'.loans ≡ block st.next (ends_named h.rows (items_named is)) ++ h.loans
  unfolding Allowed effect made note_ask items_of items_named
  ask-loans p c is a z =
      sym (step h st s i l line).lends.lends
      ∙ ap (λ x. loans_in x.after.rows x.after.requests) z
      ∙ asked-loans h st i l s p c (items_of is) a.held

  pub line-said : (q e : ℕ) → HasOnLoan h' q e ↔ said_now h h' (HasOnLoan h) q e
  unfolding note_line note_reading accepts
  line-said = pick (heard st s line)
    where
      asks : (c : Call) → Allowed st c → o ≡ effect st c → h' ≡ loans_settled (note_call c (first_value (values_of (effect st c).answer)) h)
          → NotesRequest h (first_value (values_of (effect st c).answer)) c → Requests h h' st.next
      asks c a z n (no-request d r) = as_before (ap (λ x. x.requests) n ∙ (unfold loans_settled in r))
      asks c a z n (new-request p d is) =
          one_more (record { number = st.next; lender = p; port = d; ends = ends_named h.rows (items_named is) }) refl
          (ap (λ x. x.requests) n ∙ (unfold loans_settled note_call note_ask effect made values_of first_value in refl))
          (ask-loans p d is a z)

      pick : Heard st line → (q e : ℕ) → HasOnLoan h' q e ↔ said_now h h' (HasOnLoan h) q e
      pick (refuses r u) = told (Comes 0 0) (subst (Touches st (Comes 0 0)) (sym u) (touches st s (Comes 0 0) st (tells (Comes 0 0) (comes 0 0)))) (as_before (rw r refl))
      pick (allows c e z a x g) =
          let n : h' ≡ loans_settled (note_call c (first_value (values_of (effect st c).answer)) h) = rw (g.good, g.value, e) refl in
          told c (subst (λ y. Touches st c y.after) (sym x) (touches st s c (effect st c).after (effect_of st s c a))) (asks c a x n (notes-request h _ c))

-- ---- all lines
same-said : (h h' : History) (L M : Loans) → ((q e : ℕ) → L q e ↔ M q e) → (q e : ℕ) → said_now h h' L q e → said_now h h' M q e
unfolding said_now
same-said h h' L M f q e (inl a) = inl a
same-said h h' L M f q e (inr x) = inr (record { had = (f q e).0 x.had; stands = x.stands; is_open = x.is_open; no-older = λ w lt y. x.no-older w lt ((f w e).1 y) })

back-said : (L M : Loans) → ((q e : ℕ) → L q e ↔ M q e) → (q e : ℕ) → M q e ↔ L q e
back-said L M f q e = ((f q e).1, (f q e).0)

lines-said : (h : History) (w : Replied) (L : Loans) → Along h w → ((q e : ℕ) → HasOnLoan h q e ↔ L q e) → (ls : List (List ℕ))
    → (q e : ℕ) → HasOnLoan (history_after h ls (replies_to w ls)) q e ↔ said_after h L ls (replies_to w ls) q e
unfolding history_after replies_to said_after reply_with
lines-said h w L a f [] = f
lines-said h w L a f (l ∷ ls) = lines-said (note_line h l reply) (call_entry w.tables w.processes l) (said_now h (note_line h l reply) L) (along-call h w a l) now ls
  where
    reply : List ℕ
    reply = (call_entry w.tables w.processes l).reply

    replied : reply ≡ printed (call_on a.st l).answer
    replied = ap (λ x. (call_entry x.tables x.processes l).reply) a.is ∙ ap (λ x. x.reply) (call-on-words a.reply a.st a.sound l)

    now : (q e : ℕ) → HasOnLoan (note_line h l reply) q e ↔ said_now h (note_line h l reply) L q e
    now q e =
        let x : HasOnLoan (note_line h l reply) q e ↔ said_now h (note_line h l reply) (HasOnLoan h) q e =
        subst (λ r. HasOnLoan (note_line h l r) q e ↔ said_now h (note_line h l r) (HasOnLoan h) q e) (sym replied) (line-said h a.st a.inv a.lends a.sound l q e) in
        (λ y. same-said h _ (HasOnLoan h) L f q e (x.0 y), λ y. x.1 (same-said h _ L (HasOnLoan h) (back-said (HasOnLoan h) L f) q e y))

-- ==== what the history has on loan is what its words say
begun-none : (text : List ℕ) (q e : ℕ) → HasOnLoan (begun text) q e ↔ none_said q e
unfolding begun begun_by begun_with HasOnLoan none_said any
begun-none text q e = pick (opening_of (lines_of text))
  where
    pick : (x : Opening) → HasOnLoan (begun_by x) q e ↔ ⊥
    pick (opens fs rest) = (λ t. absurd (true≢false (sym t)), λ z. absurd z)
    pick (refused_at k n) = (λ t. absurd (true≢false (sym t)), λ z. absurd z)

pub on-loan-as-said : OnLoanAsSaid
unfolding OnLoanAsSaid
on-loan-as-said t p text a lines = lines-said (begun text) (open_entry t p text) none_said (along-opening t p text a) (begun-none text) lines
