-- The changes that neither close nor lend: the requests list the same ends after as before.
use Prim.Native.Nat.{ℕ, suc}
use mathlib.Core.Bool.{Bool, true, false}
use mathlib.Core.List.{List, [], ◌∷◌, ◌++◌, map}
use mathlib.Core.Path.{◌≡◌, refl, ap, ◌∙◌}
use lib.Dec.{leb, eqb}
use native.Mathlib.Omega.{arith}
use borrow.Author.Tests.{le-leb}
use Rattle.rows.specs.declared.Row.{Row}
use Rattle.rows.specs.declared.Request.{Request}
use Rattle.std.specs.Prelude.{if◌then◌else◌}
use Rattle.rows.specs.Lists.{all, member, some, nonzero}
use Rattle.rows.specs.Codes.{is_end, in_clist}
use Rattle.rows.specs.Tables.{State, row_of, numbers, lists, goes_back}
use Rattle.rows.specs.Sound.{may_be_listed, items_lent}
use Rattle.rows.proofs.Bools.{and_l, and_r, and_i, all-mono}
use Rattle.tables.proofs.Sound.{Sound}
use Rattle.rows.proofs.RowSources.{row-there}
use Rattle.tables.proofs.SoundFacts.{row_below}
use Rattle.rows.proofs.Places.{no-row-listed}
use Rattle.rows.proofs.Lists.{filter_same}
use Rattle.calls.specs.Rules.{with_new_rows, copy_of, with_record}
use Rattle.calls.specs.Loans.{handed_to, now_fetched, handed_over}
use Rattle.calls.specs.Calls.{go_home, go_through, with_held, with_registered, port_end, with_port}
use Rattle.kept.proofs.AddRow.{row_before}
use Rattle.kept.proofs.Loans.{now-same, now-number}
use Rattle.kept.proofs.Moved.{moved, kind-same}
use Rattle.history.specs.History.{OnLoan}
use Rattle.history.proofs.Inv.{ends_listed, loans_in}

-- ---- what the requests list are rows of the tables: they list the same ends among rows of the same kinds
abbrev lists_rows : List Row → Request → Bool
lists_rows rs v = all (λ e. member e (numbers rs)) (nonzero v.items)

listed-there : (rs : List Row) (vs : List Request) → items_lent rs vs ≡ true → all (lists_rows rs) vs ≡ true
unfolding items_lent
listed-there rs vs a =
    all-mono (λ v. all (λ e. may_be_listed v (row_of rs e)) (nonzero v.items)) (lists_rows rs)
    (λ v t. all-mono (λ e. may_be_listed v (row_of rs e)) (λ e. member e (numbers rs)) (λ e u. row-there (may_be_listed v) (no-row-listed v) rs e u) (nonzero v.items) t)
    vs a

module _ (rs rs' : List Row) (same : (e : ℕ) → member e (numbers rs) ≡ true → (row_of rs' e).kind ≡ (row_of rs e).kind) where
  ends_same : (v : Request) → lists_rows rs v ≡ true → ends_listed rs' v ≡ ends_listed rs v
  unfolding ends_listed
  ends_same v t =
      filter_same (λ e. member e (numbers rs)) (λ e. goes_back (row_of rs' e)) (λ e. goes_back (row_of rs e)) (λ e t. ap is_end (same e t)) (nonzero v.items) t

  loans-same : (vs : List Request) → all (lists_rows rs) vs ≡ true → loans_in rs' vs ≡ loans_in rs vs
  unfolding loans_in all
  loans-same [] t = refl
  loans-same (v ∷ vs) t = rw (ends_same v (and_l (lists_rows rs v) (all (lists_rows rs) vs) t), loans-same vs (and_r (lists_rows rs v) (all (lists_rows rs) vs) t)) refl

  pub kinds-same : (vs : List Request) → items_lent rs vs ≡ true → loans_in rs' vs ≡ loans_in rs vs
  kinds-same vs a = loans-same vs (listed-there rs vs a)

-- new rows before the old ones
rows_more : (st : State) → Sound st → (new : List Row) → all (λ r. leb st.next r.number) new ≡ true → loans_in (new ++ st.rows) st.requests ≡ loans_in st.rows st.requests
rows_more st s new a =
    kinds-same st.rows (new ++ st.rows) (λ e t. ap (λ r. r.kind) (row_before st.next st.rows new a e (row_below st s.numbers e t).1)) st.requests s.loans.items-lent

one-new : (st : State) (r : Row) → r.number ≡ st.next → all (λ r. leb st.next r.number) (r ∷ []) ≡ true
unfolding all
one-new st r n = and_i (leb st.next r.number) true (le-leb st.next r.number (omega arith)) refl

two-new : (st : State) (r q : Row) → r.number ≡ suc st.next → q.number ≡ st.next → all (λ r. leb st.next r.number) (r ∷ q ∷ []) ≡ true
unfolding all
two-new st r q n m = and_i (leb st.next r.number) _ (le-leb st.next r.number (omega arith)) (one-new st q m)

-- ---- fetch
handed-kind : (p : ℕ) (v : Request) (rs : List Row) (e : ℕ) → (row_of (map (handed_to p v) rs) e).kind ≡ (row_of rs e).kind
unfolding handed_to moved
handed-kind p v rs e = kind-same (λ n. lists n v) (in_clist p) (unfold lists some in refl) rs e

ends_now : (rs : List Row) (q : ℕ) (v : Request) → ends_listed rs (now_fetched q v) ≡ ends_listed rs v
unfolding ends_listed
ends_now rs q v = now-same q (ends_listed rs) (λ k v. refl) v

fetched-loans : (rs : List Row) (q : ℕ) (vs : List Request) → loans_in rs (map (now_fetched q) vs) ≡ loans_in rs vs
unfolding loans_in
fetched-loans rs q [] = refl
fetched-loans rs q (v ∷ vs) = rw (fetched-loans rs q vs, ends_now rs q v, now-number q v) refl

-- ---- each change of the state
module _ (st : State) (s : Sound st) where
  abbrev listed : State → List OnLoan
  listed x = loans_in x.rows x.requests

  pub held_same : (p e : ℕ) → listed (with_held st p e) ≡ listed st
  unfolding with_held with_new_rows copy_of
  held_same p e = rows_more st s (_ ∷ []) (one-new st _ refl)

  pub registered-same : (p e : ℕ) → listed (with_registered st p e) ≡ listed st
  unfolding with_registered with_new_rows copy_of
  registered-same p e = rows_more st s (_ ∷ []) (one-new st _ refl)

  pub port-same : (p e : ℕ) → listed (with_port st p e) ≡ listed st
  unfolding with_port with_new_rows port_end
  port-same p e = rows_more st s (_ ∷ _ ∷ []) (two-new st _ _ refl refl)

  pub handed-same : (p : ℕ) (v : Request) → listed (handed_over p v st) ≡ listed st
  unfolding handed_over
  handed-same p v = fetched-loans _ _ st.requests ∙ kinds-same st.rows _ (λ x t. handed-kind _ _ st.rows x) st.requests s.loans.items-lent

  pub go_same : (p e : ℕ) → listed (if eqb e 0 then go_home st p else go_through st p e) ≡ listed st
  unfolding go_home go_through with_record
  go_same p e = pick (eqb e 0)
    where
      pick : (b : Bool) → listed (if b then go_home st p else go_through st p e) ≡ listed st
      pick true = refl
      pick false = refl
