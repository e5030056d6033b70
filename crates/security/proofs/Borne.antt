-- What hangs on a loan: a row that bears a request's number, or a source of which does. Of what is no end this is to be lent, and it never changes.
use Prim.Native.Nat.{ℕ, zero, suc, ◌<◌}
use native.Mathlib.Omega.{arith}
use mathlib.Core.Bool.{Bool, true, false, ◌&&◌, ◌||◌}
use mathlib.Core.List.{List, [], ◌∷◌}
use mathlib.Core.Path.{◌≡◌, refl, sym, ap, ◌∙◌}
use mathlib.Core.Logic.{◌⊎◌, inl, inr, ⊎_elim}
use lib.Dec.{eqb}
use borrow.Author.Tests.{eqb-true}
use Rattle.rows.specs.declared.Row.{Row}
use Rattle.rows.specs.Lists.{any, member, some}
use Rattle.rows.specs.Codes.{is_end, is_node}
use Rattle.rows.specs.Tables.{State, row_of, sources, reaches, marked, on_loan, lent_itself, is_lent}
use Rattle.rows.specs.Setters.{with_place}
use Rattle.rows.specs.Sound.{rows_rise}
use Rattle.rows.proofs.Bools.{clash, bool_eq, and_l, or_l, or_r, or_cases, any-eq, member-here, member-there}
use Rattle.rows.proofs.Lists.{any_at}
use Rattle.tables.proofs.Sound.{Sound}
use Rattle.tables.proofs.Standing.{source-lower, via-lower, sources-older, via-listed, nodes-stay}
use Rattle.tables.proofs.Marking.{marked-reaches, marked-closed, marked-least, marked-seed}
use Rattle.calls.specs.declared.Call.{Call}
use Rattle.security.specs.Sessions.{IsRow}
use Rattle.security.proofs.Rows.{sources-cases, source-listed, source-no-end, via-end}
use Rattle.security.proofs.Numbers.{member-any, source_row}
use Rattle.security.proofs.Nodes.{node-unborne}
use Rattle.security.proofs.Effects.{Effect}
use Rattle.security.proofs.Frames.{same-but-place}

abbrev pub bears_any : Row → Bool
bears_any r = some r.request

unfoldable pub borne : State → ℕ → Bool
borne st n = reaches bears_any st.rows n

any-on : (P Q : ℕ → Bool) (ns : List ℕ) → ((n : ℕ) → member n ns ≡ true → P n ≡ Q n) → any P ns ≡ any Q ns
unfolding any
any-on P Q [] h = refl
any-on P Q (n ∷ ns) h = rw (h n (member-here n ns), any-on P Q ns (λ m t. h m (member-there m n ns t))) refl

module _ (st : State) (s : Sound st) where
  abbrev R : ℕ → Row
  R n = row_of st.rows n

  -- the sources of a row are lower
  source-below : (n m : ℕ) → IsRow st n → member m (sources (R n)) ≡ true → m < n
  source-below n m t e =
      ⊎_elim (λ x. let z = eqb-true m (R n).source x.1 in let l = source-lower st s.numbers s.rows n t in omega arith)
      (λ x. let z = eqb-true m (R n).via x.1 in let l = via-lower st s.numbers s.rows n t in omega arith)
      (sources-cases (λ k. eqb m k) (R n) (sym (member-any m (sources (R n))) ∙ e))

  marked-is : (n : ℕ) → member n (marked bears_any st.rows) ≡ borne st n
  unfolding borne rows_rise
  marked-is n = marked-reaches bears_any st.rows s.numbers.rows-rise n

  pub borne-law : (n : ℕ) → IsRow st n → borne st n ≡ some (R n).request || any (borne st) (sources (R n))
  unfolding rows_rise
  borne-law n t =
      sym (marked-is n) ∙ marked-closed bears_any st.rows s.numbers.rows-rise (sources-older st s.numbers s.rows) n t
      ∙ ap (λ b. some (R n).request || b) (any-eq (λ m. member m (marked bears_any st.rows)) (borne st) marked-is (sources (R n)))

  -- a row in a node hangs on no loan
  pub node-free : (n : ℕ) → is_node (R n).place ≡ true → borne st n ≡ false
  node-free n e =
      sym (marked-is n) ∙ nodes-stay st s.numbers s.rows bears_any (λ m t f. ap some (node-unborne st s m f) ∙ (unfold some in refl)) n e

  -- ---- to be lent
  lent-if : (n : ℕ) → borne st n ≡ true → is_lent st n ≡ true
  unfolding is_lent lent_itself rows_rise
  lent-if n b =
      sym (marked-reaches (lent_itself st.requests) st.rows s.numbers.rows-rise n)
      ∙ marked-least bears_any (λ m. member m (marked (lent_itself st.requests) st.rows)) st.rows s.numbers.rows-rise
      (λ m t h. ⊎_elim
      (λ y. marked-seed (lent_itself st.requests) st.rows s.numbers.rows-rise (sources-older st s.numbers s.rows) m t (or_r (is_end (R m).kind && on_loan st.requests (R m).number) (some (R m).request) y))
      (λ y. marked-closed (lent_itself st.requests) st.rows s.numbers.rows-rise (sources-older st s.numbers s.rows) m t ∙ or_r (lent_itself st.requests (R m)) _ y)
      (or_cases (some (R m).request) _ h)) n (marked-is n ∙ b)

  -- what reaches a lent row is an end, or hangs on a loan
  lent-or-end : (n : ℕ) → is_lent st n ≡ true → is_end (R n).kind || borne st n ≡ true
  unfolding is_lent lent_itself rows_rise
  lent-or-end n h =
      marked-least (lent_itself st.requests) (λ m. is_end (R m).kind || borne st m) st.rows s.numbers.rows-rise closed n
      (marked-reaches (lent_itself st.requests) st.rows s.numbers.rows-rise n ∙ h)
    where
      by-source : (m : ℕ) → IsRow st m → (k : ℕ) → member k (sources (R m)) ≡ true → borne st k ≡ true → borne st m ≡ true
      by-source m t k u b = borne-law m t ∙ or_r (some (R m).request) _ (any_at (borne st) (sources (R m)) k u b)

      over : (m : ℕ) → IsRow st m
          → ((some (R m).source ≡ true) × (is_end (R (R m).source).kind || borne st (R m).source ≡ true)) ⊎ ((some (R m).via ≡ true) × (is_end (R (R m).via).kind || borne st (R m).via ≡ true))
          → borne st m ≡ true
      over m t (inl (z, y)) =
          ⊎_elim (λ e. clash e (source-no-end st s m t z)) (by-source m t (R m).source (source-listed (R m) z)) (or_cases (is_end (R (R m).source).kind) (borne st (R m).source) y)
      over m t (inr (z, y)) =
          ⊎_elim (λ e. borne-law m t ∙ or_l (some (R m).request) _ (via-end st s m t z e).bears) (by-source m t (R m).via (via-listed (R m) z)) (or_cases (is_end (R (R m).via).kind) (borne st (R m).via) y)

      closed : (m : ℕ) → IsRow st m → lent_itself st.requests (R m) || any (λ k. is_end (R k).kind || borne st k) (sources (R m)) ≡ true → is_end (R m).kind || borne st m ≡ true
      closed m t y =
          ⊎_elim
          (λ l. ⊎_elim (λ e. or_l (is_end (R m).kind) _ (and_l (is_end (R m).kind) _ e)) (λ b. or_r (is_end (R m).kind) _ (borne-law m t ∙ or_l (some (R m).request) _ b))
          (or_cases (is_end (R m).kind && on_loan st.requests (R m).number) (some (R m).request) l))
          (λ l. or_r (is_end (R m).kind) _ (over m t (sources-cases (λ k. is_end (R k).kind || borne st k) (R m) l)))
          (or_cases (lent_itself st.requests (R m)) _ y)

  -- of what is no end: lent is to hang on a loan
  pub lent_is : (n : ℕ) → is_end (R n).kind ≡ false → is_lent st n ≡ borne st n
  lent_is n e = bool_eq (is_lent st n) (borne st n) (λ h. ⊎_elim (λ k. clash k e) (λ b. b) (or_cases (is_end (R n).kind) (borne st n) (lent-or-end n h))) (lent-if n)

-- ---- it never changes
module _ (st st' : State) (c : Call) (s : Sound st) (s' : Sound st') (x : Effect st c st') where
  same-to : (k n : ℕ) → n < k → IsRow st n → IsRow st' n → borne st' n ≡ borne st n
  unfolding with_place sources
  same-to zero n h t t' = absurd (omega arith)
  same-to (suc k) n h t t' =
      let request : (row_of st'.rows n).request ≡ (row_of st.rows n).request = same-but-place st st' c s x n t t' (λ r. r.request) (λ p r. refl) in
      let both : sources (row_of st'.rows n) ≡ sources (row_of st.rows n) = same-but-place st st' c s x n t t' sources (λ p r. refl) in
      borne-law st' s' n t'
      ∙ (λ i. some (request i) || any (borne st') (both i))
      ∙ ap (λ b. some (row_of st.rows n).request || b)
      (any-on (borne st') (borne st) (sources (row_of st.rows n))
      (λ m u. same-to k m (let l = source-below st s n m t u in omega arith) (source_row st s n m t u) (source_row st' s' n m t' (ap (member m) both ∙ u))))
      ∙ sym (borne-law st s n t)

  pub borne-same : (n : ℕ) → IsRow st n → IsRow st' n → borne st' n ≡ borne st n
  borne-same n t t' = same-to (suc n) n (omega arith) t t'
