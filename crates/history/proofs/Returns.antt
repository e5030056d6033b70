-- After a closing, a surviving end that a closed request had on loan is with the lender of the oldest such request.
use Prim.Native.Nat.{ℕ, ◌≤◌}
use mathlib.Core.Bool.{Bool, true, false, not, cond, ◌&&◌, ◌||◌}
use mathlib.Core.List.{List, [], ◌∷◌, map}
use mathlib.Core.Path.{◌≡◌, refl, sym, ap, ◌∙◌}
use mathlib.Core.Logic.{◌↔◌}
use lib.Dec.{eqb}
use native.Mathlib.Omega.{arith}
use borrow.Author.Tests.{eqb-true}
use Rattle.rows.specs.declared.Row.{Row}
use Rattle.rows.specs.declared.Request.{Request}
use Rattle.std.specs.Prelude.{if◌then◌else◌}
use Rattle.rows.specs.Lists.{any, first_with, rises, member, some, nonzero}
use Rattle.rows.specs.Codes.{is_end, in_clist}
use Rattle.rows.specs.Tables.{State, no_request, row_of, request_of, numbers, marked, bears, lists}
use Rattle.rows.specs.Sound.{requests_rise}
use Rattle.rows.proofs.Bools.{clash, and_l, and_r, and_i, not_t, any_append, pos-some, eqb-sym, eqb-sym-f, member-here, member-there, and-rf, or-false}
use Rattle.rows.proofs.Keyed.{first_key, rises-rest, rises-first, rises-older, rises-fresh, rises-range}
use Rattle.tables.proofs.Picked.{first-here, first-other, older-other}
use Rattle.tables.proofs.Sound.{Sound}
use Rattle.tables.proofs.SoundFacts.{row_number}
use Rattle.rows.proofs.Lists.{member_filter}
use Rattle.closing.specs.Closing.{closes, oldest_listing, returned, settled, closing, close_request}
use Rattle.rows.specs.Setters.{with_place}
use Rattle.closing.proofs.Lookups.{row-after}
use Rattle.calls.specs.declared.Answer.TheVariants.{Done}
use Rattle.calls.specs.declared.Call.TheVariants.{Revoke}
use Rattle.calls.specs.Answers.{refusal_of}
use Rattle.kept.proofs.Allowed.{RevokeAllowed}
use Rattle.history.specs.History.{OnLoan, History}
use Rattle.history.specs.Notes.{no_loan, loan_of, stands, loans_settled as settling, note_revoke}
use Rattle.history.specs.Reading.{note_call}
use Rattle.history.specs.Chains.{a_request, Gone, HasOnLoan}
use Rattle.history.specs.Demand3.{ClosedWith, Returned}
use Rattle.history.proofs.Inv.{Inv, Lends, ends_listed, loans_in, of_request, of_loan, note_answer}
use Rattle.history.proofs.Keeps.{settled-inv}
use Rattle.history.proofs.Standing.{stands-chains, request-closed}
use Rattle.history.proofs.Loans.{closed_number, end-listed, open-numbers, request-loan}
use Rattle.history.proofs.LoansClose.{stands-left, closed-now}
use Rattle.history.proofs.StepClose.{revoke-inv}

-- ---- the oldest of the requests that pass a test and list e
module _ (f : Request → Bool) (e : ℕ) where
  abbrev pub takes : Request → Bool
  takes v = f v && lists e v

  pub record Oldest (vs : List Request) (w : Request) : Type 0 where
    pub there : member w.number (map (λ v. v.number) vs) ≡ true
    pub found : request_of vs w.number ≡ w
    pub passes : takes w ≡ true

  pub oldest-is : (vs : List Request) → rises (λ v. v.number) vs ≡ true → some (oldest_listing f e vs).number ≡ true → Oldest vs (oldest_listing f e vs)
  unfolding oldest_listing
  oldest-is [] u z = clash z (unfold some no_request in refl)
  oldest-is (v ∷ vs) u z = pick (some (oldest_listing f e vs).number) refl (oldest-is vs (rises-rest (λ v. v.number) v vs u)) (takes v) refl z
    where
      w : Request
      w = oldest_listing f e vs

      pick : (b : Bool) → some w.number ≡ b → (some w.number ≡ true → Oldest vs w) → (c : Bool) → takes v ≡ c
          → some (cond b w (cond c v w)).number ≡ true → Oldest (v ∷ vs) (cond b w (cond c v w))
      pick true p ih c q z =
          let o = ih p in
          record {
            there = member-there w.number v.number (map (λ v. v.number) vs) o.there;
            found = unfold request_of in first-other (λ v. v.number) no_request v vs w.number (older-other (λ v. v.number) v vs u w.number o.there) ∙ (unfold request_of in o.found);
            passes = o.passes;
          }
      pick false p ih true q z =
          record {
            there = member-here v.number (map (λ v. v.number) vs);
            found = unfold request_of in first-here (λ v. v.number) no_request v vs;
            passes = q;
          }
      pick false p ih false q z = clash z p

  pub oldest-least : (vs : List Request) → rises (λ v. v.number) vs ≡ true → (n : ℕ) → member n (map (λ v. v.number) vs) ≡ true → takes (request_of vs n) ≡ true
      → (some (oldest_listing f e vs).number ≡ true) × ((oldest_listing f e vs).number ≤ n)
  unfolding oldest_listing request_of first_with member
  oldest-least [] u n t z = clash t refl
  oldest-least (v ∷ vs) u n t z =
      pick (some (oldest_listing f e vs).number) refl (oldest-least vs (rises-rest (λ v. v.number) v vs u) n) (oldest-is vs (rises-rest (λ v. v.number) v vs u)) (eqb v.number n) refl z
    where
      w : Request
      w = oldest_listing f e vs

      pick : (b : Bool) → some w.number ≡ b
          → (member n (map (λ v. v.number) vs) ≡ true → takes (request_of vs n) ≡ true → (some w.number ≡ true) × (w.number ≤ n)) → (some w.number ≡ true → Oldest vs w)
          → (c : Bool) → eqb v.number n ≡ c → takes (cond c v (request_of vs n)) ≡ true → (some (cond b w (cond (takes v) v w)).number ≡ true) × ((cond b w (cond (takes v) v w)).number ≤ n)
      pick true p ih is true q z =
          let lt = rises-older (λ v. v.number) v vs u w.number (is p).there in
          let same : v.number ≡ n = eqb-true v.number n q in (p, omega arith)
      pick false p ih is true q z =
          let lo = rises-first (λ v. v.number) v vs u in
          let same : v.number ≡ n = eqb-true v.number n q in rw z (pos-some v.number (omega arith), omega arith)
      pick true p ih is false q z = ih (rw (eqb-sym-f v.number n q) at t) z
      pick false p ih is false q z = clash (ih (rw (eqb-sym-f v.number n q) at t) z).0 p

-- ---- a request of the tables has on loan the ends that it lists
pub any-block : (q n e : ℕ) (es : List ℕ) → any (λ (o : OnLoan). eqb o.request n && eqb o.lent e) (map (λ e. record { request = q; lent = e }) es) ≡ eqb q n && member e es
unfolding any member
any-block q n e [] = sym (and-rf (eqb q n) false refl)
any-block q n e (x ∷ es) = rw (any-block q n e es, eqb-sym x e) (pick (eqb q n) (eqb e x) (member e es))
  where
    pick : (a b c : Bool) → (a && b) || (a && c) ≡ a && (b || c)
    pick true b c = refl
    pick false b c = refl

pub on-loan : (rs : List Row) (n e : ℕ) (vs : List Request) → rises (λ v. v.number) vs ≡ true
    → any (λ o. eqb o.request n && eqb o.lent e) (loans_in rs vs) ≡ member n (map (λ v. v.number) vs) && member e (ends_listed rs (request_of vs n))
unfolding loans_in member request_of first_with
on-loan rs n e [] u = unfold any in refl
on-loan rs n e (v ∷ vs) u =
    any_append (λ o. eqb o.request n && eqb o.lent e) (map (λ e. record { request = v.number; lent = e }) (ends_listed rs v)) (loans_in rs vs)
    ∙ rw (any-block v.number n e (ends_listed rs v), on-loan rs n e vs (rises-rest (λ v. v.number) v vs u), eqb-sym n v.number) (pick (eqb v.number n) refl)
  where
    m : Bool
    m = member n (map (λ v. v.number) vs)

    fresh : v.number ≡ n → m ≡ false
    fresh z = ap (λ k. member k (map (λ v. v.number) vs)) (sym z) ∙ rises-fresh (λ v. v.number) v vs u

    pick : (b : Bool) → eqb v.number n ≡ b
        → (b && member e (ends_listed rs v)) || (m && member e (ends_listed rs (request_of vs n))) ≡ (b || m) && member e (ends_listed rs (cond b v (request_of vs n)))
    pick true q = rw (fresh (eqb-true v.number n q)) (or-false (member e (ends_listed rs v)))
    pick false q = refl

pub listed-end : (rs : List Row) (e : ℕ) (v : Request) → member e (ends_listed rs v) ≡ true → is_end (row_of rs e).kind ≡ true
unfolding ends_listed
listed-end rs e v t = and_r (member e (nonzero v.items)) (is_end (row_of rs e).kind) (sym (member_filter (λ e. is_end (row_of rs e).kind) (nonzero v.items) e) ∙ t)

-- ---- the requests that had e on loan and close, in the history and in the tables
module _ (h h' : History) (st : State) (g : List ℕ) (f : Request → Bool) (i : Inv h st) (l : Lends h st) (up : requests_rise st.requests ≡ true)
    (i' : Inv h' (settled g f st)) (asked : h'.requests ≡ h.requests) (e : ℕ) where
  rise : rises (λ v. v.number) st.requests ≡ true
  rise = unfold requests_rise in up

  had : (n : ℕ) → any (λ o. eqb o.request n && eqb o.lent e) h.loans ≡ member n (map (λ v. v.number) st.requests) && member e (ends_listed st.rows (request_of st.requests n))
  had n = ap (any (λ o. eqb o.request n && eqb o.lent e)) (sym l.lends) ∙ on-loan st.rows n e st.requests rise

  -- a request of the tables is closed just if the history has it closed
  closed_is : (n : ℕ) → member n (map (λ v. v.number) st.requests) ≡ true → (closed_number h' n ≡ true) ↔ Gone h' (a_request n)
  unfolding closed_number
  closed_is n t = request-closed h' i'.fit n (loan_of h'.requests n).port (record { is_number = (rises-range (λ v. v.number) st.requests rise n t).0; request = number; port = refl })
    where
      number : (loan_of h'.requests n).number ≡ n
      number =
          unfold loan_of in
          first_key (λ v. v.number) no_loan h'.requests n
          (ap (λ vs. member n (map (λ v. v.number) vs)) asked ∙ and_l _ (not (closed_number h n)) (sym (open-numbers h st i n) ∙ t))

  record Closes (n : ℕ) : Type 0 where
    there : member n (map (λ v. v.number) st.requests) ≡ true
    is_end' : is_end (row_of st.rows e).kind ≡ true
    passes : takes f e (request_of st.requests n) ≡ true

  closed_in : (n : ℕ) → ClosedWith h h' e n → Closes n
  unfolding HasOnLoan
  closed_in n c =
      let both = sym (had n) ∙ c.had_on_loan in
      let t : member n (map (λ v. v.number) st.requests) ≡ true = and_l _ (member e (ends_listed st.rows (request_of st.requests n))) both in
      let m : member e (ends_listed st.rows (request_of st.requests n)) ≡ true = and_r (member n (map (λ v. v.number) st.requests)) _ both in
      let end : is_end (row_of st.rows e).kind ≡ true = listed-end st.rows e (request_of st.requests n) m in
      record {
        there = t;
        is_end' = end;
        passes =
            and_i (f (request_of st.requests n)) (lists e (request_of st.requests n))
            (sym (closed-now h h' st g f i up i' asked n t) ∙ (closed_is n t).1 c.is_closed) (sym (end-listed st.rows e end (request_of st.requests n)) ∙ m);
      }

  closed-out : (n : ℕ) → Closes n → ClosedWith h h' e n
  unfolding HasOnLoan
  closed-out n c =
      let v = request_of st.requests n in
      record {
        had_on_loan = had n ∙ and_i (member n (map (λ v. v.number) st.requests)) _ c.there (end-listed st.rows e c.is_end' v ∙ and_r (f v) (lists e v) c.passes);
        is_closed = (closed_is n c.there).0 (closed-now h h' st g f i up i' asked n c.there ∙ and_l (f v) (lists e v) c.passes);
      }

  returned-place : (r : Row) → r.number ≡ e → some (oldest_listing f e st.requests).number ≡ true → (returned f st.requests r).place ≡ in_clist (oldest_listing f e st.requests).asker
  unfolding returned with_place
  returned-place r n z = ap (λ k. (let w = oldest_listing f k st.requests in if some w.number then with_place (in_clist w.asker) r else r).place) n ∙ rw z refl

  -- the oldest of them in the tables is the oldest in the history
  oldest : (q : ℕ) → ClosedWith h h' e q → ((v : ℕ) → ClosedWith h h' e v → q ≤ v)
      → (some (oldest_listing f e st.requests).number ≡ true) × (oldest_listing f e st.requests ≡ request_of st.requests q)
  oldest q c least =
      let k = closed_in q c in
      let (is, le) = oldest-least f e st.requests rise q k.there k.passes in
      let o : Oldest f e st.requests (oldest_listing f e st.requests) = oldest-is f e st.requests rise is in
      let ge : q ≤ (oldest_listing f e st.requests).number = least _ (closed-out _ (record { there = o.there; is_end' = k.is_end'; passes = ap (takes f e) o.found ∙ o.passes })) in
      (is, sym o.found ∙ ap (request_of st.requests) (omega arith))

  lender-is : (q : ℕ) → member q (map (λ v. v.number) st.requests) ≡ true → (request_of st.requests q).asker ≡ (loan_of h.requests q).lender
  unfolding of_request of_loan
  lender-is q t = ap (λ o. o.asker) (request-loan h st i q t)

  placed : (q : ℕ) → stands h' e ≡ true → ClosedWith h h' e q → ((v : ℕ) → ClosedWith h h' e v → q ≤ v) → (row_of (settled g f st).rows e).place ≡ in_clist (loan_of h.requests q).lender
  placed q stood c least =
      let both : member e (numbers st.rows) && not (member e g) ≡ true = sym (stands-left h h' st g f i up i' asked e) ∙ stood in
      let t : member e (numbers st.rows) ≡ true = and_l (member e (numbers st.rows)) (not (member e g)) both in
      let out : member e g ≡ false = not_t (member e g) (and_r (member e (numbers st.rows)) (not (member e g)) both) in
      let (is, same) = oldest q c least in
      ap (λ r. r.place) (row-after g f st e out)
      ∙ returned-place (row_of st.rows e) (row_number st.rows e t) is
      ∙ ap in_clist (ap (λ v. v.asker) same ∙ lender-is q (closed_in q c).there)

-- ---- the theorem: of every closing, where h' is the history after it
pub closing-returned : (h h' : History) (st : State) (g : List ℕ) (f : Request → Bool) → Inv h st → Lends h st → requests_rise st.requests ≡ true
    → Inv h' (settled g f st) → h'.requests ≡ h.requests
    → Returned h h' (settled g f st)
unfolding Returned
closing-returned h h' st g f i l up i' asked e q stood c least = placed h h' st g f i l up i' asked e q ((stands-chains h' i'.fit e).1 stood) c least

-- of revoke
pub revoke-returned : (h : History) (st : State) → Inv h st → Lends h st → Sound st → (p q : ℕ) → RevokeAllowed st p q → Returned h (note_answer h (Revoke p q) Done) (close_request q st)
unfolding note_answer note_call refusal_of close_request closing note_revoke settling
revoke-returned h st i l s p q a =
    let g : List ℕ = marked (bears q) st.rows in
    closing-returned h (settling (note_revoke q h)) st g (closes (q ∷ []) g) i l s.numbers.requests-rise (settled-inv (note_revoke q h) (close_request q st) (revoke-inv h st i s p q a)) refl
