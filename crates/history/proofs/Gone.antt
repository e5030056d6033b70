-- What is dropped or closed takes with it every row whose chain uses it: none of those stands.
use Prim.Native.Nat.{ℕ, suc, ◌<◌}
use mathlib.Core.Bool.{Bool, true, false, not, ◌&&◌, ◌||◌}
use mathlib.Core.List.{List, map}
use mathlib.Core.Path.{◌≡◌, refl, sym, ap, ◌∙◌, subst}
use mathlib.Core.Logic.{inl, inr, ⊎_elim}
use lib.Dec.{eqb}
use borrow.Author.Tests.{eqb-true, ne_eqb}
use native.Mathlib.Omega.{arith}
use Rattle.rows.specs.Lists.{all, member, some, same_list}
use Rattle.rows.proofs.Bools.{false_of, clash, and_l, and_r, and_i, not_t, or_l, or_r, or-fl, or-fr, or_cases, pos-some, some-pos, all-at, eqb-self}
use Rattle.rows.proofs.Keyed.{first_key, first-there, all_first}
use Rattle.rows.proofs.LayoutColumns.{same-list}
use Rattle.history.specs.History.{Noted, Loan, History}
use Rattle.history.specs.Notes.{noted, nothing_noted, noted_of, no_loan, loan_of, spoiled, standing, stands, is_closed}
use Rattle.history.specs.Chains.{Thing, a_row, a_request, a_port, IsNoted, IsSource, Chain, ends, leads, RowUses, Uses, IsPort, AskedOver, Gone, row_dropped, request_closed, port_closed, operation_fell, port_fell}
use Rattle.history.proofs.Fit.{Fit, bears_well, ends_well, port_noted}
use Rattle.history.proofs.Sweep.{sweep-sub, sweep-eq}

-- what the notes compute of a thing that is dropped or closed
unfoldable pub GoneTest : History → Thing → Type 0
GoneTest h (a_row n) = member n h.dropped ≡ true
GoneTest h (a_request q) = (c : ℕ) → AskedOver h q c → is_closed h (loan_of h.requests q) ≡ true
GoneTest h (a_port c) = IsPort h c → stands h c ≡ false

-- ---- what the clauses of `Fit` say of one row
-- a test that comes after "is none"
unless-none : (n : ℕ) (b : Bool) → 0 < n → not (some n) || b ≡ true → b ≡ true
unless-none n b h e = rw (pos-some n h) at e

bears-open : (vs : List Loan) (r : Noted) (q : ℕ) → 0 < q → r.request ≡ q → bears_well vs r ≡ true → ((loan_of vs q).number ≡ q) × (member (loan_of vs q).port r.sources ≡ true)
unfolding bears_well
bears-open vs r q h e t =
    subst (λ q. ((loan_of vs q).number ≡ q) × (member (loan_of vs q).port r.sources ≡ true)) e
    (
    let w = unless-none r.request _ (rw e h) t in
    (eqb-true _ _ (and_l _ (member (loan_of vs r.request).port r.sources && eqb r.port 0) w), and_l _ (eqb r.port 0) (and_r (eqb (loan_of vs r.request).number r.request) _ w))
    )

-- the client end of row r, an end of port c
record ClientOf (rs : List Noted) (r : Noted) (c : ℕ) : Type 0 where
  number : (noted_of rs c).number ≡ c
  port : (noted_of rs c).port ≡ c
  sources : (noted_of rs c).sources ≡ r.sources
  bears_none : r.request ≡ 0

ends_open : (rs : List Noted) (r : Noted) (c : ℕ) → 0 < c → r.port ≡ c → ends_well rs r ≡ true → ClientOf rs r c
unfolding ends_well
ends_open rs r c h e t =
    subst (ClientOf rs r) e
    (
    let k = noted_of rs r.port in
    let w0 = and_r (eqb r.number r.port || eqb r.number (suc r.port)) _ (unless-none r.port _ (rw e h) t) in
    let w1 = and_r (eqb k.number r.port) _ w0 in
    let w2 = and_r (eqb k.port r.port) _ w1 in
    record {
      number = eqb-true k.number r.port (and_l _ _ w0);
      port = eqb-true k.port r.port (and_l _ _ w1);
      sources = same-list k.sources r.sources (and_l _ (eqb r.request 0) w2);
      bears_none = eqb-true r.request 0 (and_r (same_list k.sources r.sources) _ w2);
    }
    )

-- ---- a row that is not spoiled
none-closed : (n : ℕ) (b : Bool) → 0 < n → some n && b ≡ false → b ≡ false
none-closed n b h e = rw (pos-some n h) at e

closed_none : (n : ℕ) (b : Bool) → (0 < n → b ≡ false) → some n && b ≡ false
closed_none n b h = false_of _ (λ t. clash (and_r (some n) b t) (h (some-pos n (and_l (some n) b t))))

module _ (h : History) (r : Noted) where
  whole-dropped : spoiled h r ≡ false → member r.number h.dropped ≡ false
  unfolding spoiled
  whole-dropped e = or-fl (member r.number h.dropped) _ e

  whole-request : spoiled h r ≡ false → 0 < r.request → member r.request h.closed_requests ≡ false
  unfolding spoiled
  whole-request e p = none-closed r.request _ p (or-fl (some r.request && member r.request h.closed_requests) _ (or-fr (member r.number h.dropped) _ e))

  whole-port : spoiled h r ≡ false → 0 < r.port → member r.port h.closed_ports ≡ false
  unfolding spoiled
  whole-port e p = none-closed r.port _ p (or-fr (some r.request && member r.request h.closed_requests) _ (or-fr (member r.number h.dropped) _ e))

  pub make-whole : member r.number h.dropped ≡ false → (0 < r.request → member r.request h.closed_requests ≡ false)
      → (0 < r.port → member r.port h.closed_ports ≡ false) → spoiled h r ≡ false
  unfolding spoiled
  make-whole d q p = rw (d, closed_none r.request _ q) (closed_none r.port _ p)

module _ (h : History) (fit : Fit h) where
  -- ---- a row noted
  pub noted-number : (n : ℕ) → IsNoted h n → (noted_of h.rows n).number ≡ n
  unfolding IsNoted noted noted_of
  noted-number n t = first_key (λ r. r.number) nothing_noted h.rows n t

  -- a row that bears a request has its port for a source
  bears-at : (n q : ℕ) → IsNoted h n → 0 < q → (noted_of h.rows n).request ≡ q → AskedOver h q (loan_of h.requests q).port × IsSource h (loan_of h.requests q).port n
  unfolding IsNoted IsSource noted
  bears-at n q t p e =
      let (a, b) = bears-open h.requests (noted_of h.rows n) q p e (unfold noted_of in all_first (λ r. r.number) nothing_noted (bears_well h.requests) h.rows n fit.rows-bear t) in
      (record { is_number = p; request = a; port = refl }, b)

  client-of : (n c : ℕ) → IsNoted h n → 0 < c → (noted_of h.rows n).port ≡ c → ClientOf h.rows (noted_of h.rows n) c
  unfolding IsNoted noted
  client-of n c t p e =
      ends_open h.rows (noted_of h.rows n) c p e (unfold noted_of in all_first (λ r. r.number) nothing_noted (ends_well h.rows) h.rows n fit.rows_end t)

  -- a port is noted, bears no request, and was not dropped
  pub port-noted : (c : ℕ) → IsPort h c → IsNoted h c
  unfolding IsPort IsNoted noted noted_of nothing_noted
  port-noted c (p, e) = first-there (λ r. r.number) nothing_noted (λ r. eqb r.port c) (ne_eqb 0 c (λ z. omega arith)) h.rows c (rw e (eqb-self c))

  pub port-bears-none : (c : ℕ) → IsPort h c → (noted_of h.rows c).request ≡ 0
  unfolding IsPort
  port-bears-none c t = (client-of c c (port-noted c t) t.0 t.1).bears_none

  pub port-kept : (c : ℕ) → IsPort h c → member c h.dropped ≡ false
  unfolding IsPort
  port-kept c t = false_of _ (λ d. let z : (noted_of h.rows c).port ≡ 0 = eqb-true _ 0 (all-at _ h.dropped fit.ends-kept c d) in let (p, e) = t in omega arith)

  asked-noted : (q c : ℕ) → AskedOver h q c → member q (map (λ v. v.number) h.requests) ≡ true
  unfolding loan_of no_loan
  asked-noted q c a =
      first-there (λ v. v.number) no_loan (λ v. eqb v.number q) (ne_eqb 0 q (λ z. let p = a.is_number in omega arith)) h.requests q
      (ap (λ k. eqb k q) a.request ∙ eqb-self q)

  -- a request's port is noted
  pub asked-port : (q c : ℕ) → AskedOver h q c → IsPort h c
  unfolding IsPort port_noted loan_of
  asked-port q c a =
      let w : port_noted h.rows (loan_of h.requests q) ≡ true = all_first (λ v. v.number) no_loan (port_noted h.rows) h.requests q fit.ports-noted (asked-noted q c a) in
      subst (λ c. (0 < c) × ((noted_of h.rows c).port ≡ c)) a.port
      (some-pos _ (and_l _ (eqb (noted_of h.rows (loan_of h.requests q).port).port (loan_of h.requests q).port) w), eqb-true _ _ (and_r (some (loan_of h.requests q).port) _ w))

  -- ---- a row stands if it is not spoiled and its sources stand
  pub stands-eq : (n : ℕ) → IsNoted h n → stands h n ≡ not (spoiled h (noted_of h.rows n)) && all (stands h) (noted_of h.rows n).sources
  unfolding IsNoted stands standing
  stands-eq n t = sweep-eq (spoiled h) h.rows fit.rows-rise fit.sources-older n t

  pub stands-noted : (n : ℕ) → stands h n ≡ true → IsNoted h n
  unfolding IsNoted stands standing
  stands-noted n t = sweep-sub (spoiled h) h.rows n t

  pub stands-whole : (n : ℕ) → stands h n ≡ true → spoiled h (noted_of h.rows n) ≡ false
  stands-whole n t = not_t _ (and_l _ (all (stands h) (noted_of h.rows n).sources) (sym (stands-eq n (stands-noted n t)) ∙ t))

  pub stands-source : (n s : ℕ) → stands h n ≡ true → IsSource h s n → stands h s ≡ true
  unfolding IsSource
  stands-source n s t i =
      all-at (stands h) (noted_of h.rows n).sources (and_r (not (spoiled h (noted_of h.rows n))) _ (sym (stands-eq n (stands-noted n t)) ∙ t)) s i

  -- an end stands only if its port's client end does
  stands-client : (n c : ℕ) → stands h n ≡ true → 0 < c → (noted_of h.rows n).port ≡ c → stands h c ≡ true
  stands-client n c t p e =
      stands-eq c noted-c ∙ and_i (not (spoiled h (noted_of h.rows c))) (all (stands h) (noted_of h.rows c).sources) (ap not whole-c)
      (ap (all (stands h)) k.sources ∙ and_r (not (spoiled h (noted_of h.rows n))) _ (sym (stands-eq n (stands-noted n t)) ∙ t))
    where
      k : ClientOf h.rows (noted_of h.rows n) c
      k = client-of n c (stands-noted n t) p e

      port-c : IsPort h c
      port-c = unfold IsPort in (p, k.port)

      noted-c : IsNoted h c
      noted-c = port-noted c port-c

      whole-c : spoiled h (noted_of h.rows c) ≡ false
      whole-c =
          make-whole h (noted_of h.rows c) (rw k.number (port-kept c port-c)) (λ q. let z = port-bears-none c port-c in absurd (omega arith))
          (λ q. rw (k.port, ← e) (whole-port h (noted_of h.rows n) (stands-whole n t) (rw e p)))

  -- ---- a row that uses what is gone does not stand, nor does one whose chain uses it
  row-falls : (n : ℕ) (x : Thing) → RowUses h n x → GoneTest h x → stands h n ≡ false
  unfolding RowUses GoneTest is_closed
  row-falls n (a_row m) u g =
      false_of _ (λ t. clash (ap (λ k. member k h.dropped) (noted-number n (stands-noted n t) ∙ sym u) ∙ g) (whole-dropped h (noted_of h.rows n) (stands-whole n t)))
  row-falls n (a_request q) (p, e) g = false_of _ (λ t. pick t (bears-at n q (stands-noted n t) p e))
    where
      pick : stands h n ≡ true → AskedOver h q (loan_of h.requests q).port × IsSource h (loan_of h.requests q).port n → ⊥
      pick t (a, i) =
          let v = loan_of h.requests q in
          ⊎_elim
          (λ m. clash (ap (λ k. member k h.closed_requests) (e ∙ sym a.request) ∙ m) (whole-request h (noted_of h.rows n) (stands-whole n t) (rw e p)))
          (λ m. clash (stands-source n v.port t i) (not_t (stands h v.port) m))
          (or_cases (member v.number h.closed_requests) (not (stands h v.port)) (g v.port a))
  row-falls n (a_port c) (p, e) g = false_of _ (λ t. clash (stands-client n c t p e) (g (unfold IsPort in (p, (client-of n c (stands-noted n t) p e).port))))

  pub chain-falls : {n : ℕ} (k : Chain h n) (x : Thing) → Uses h k x → GoneTest h x → stands h n ≡ false
  unfolding Uses
  chain-falls (ends n t) x u g = row-falls n x u g
  chain-falls (leads n s i k) x (inl u) g = row-falls n x u g
  chain-falls (leads n s i k) x (inr u) g = false_of _ (λ t. clash (stands-source n s t i) (chain-falls k x u g))

  -- what is gone is so as computed
  pub gone-test : (x : Thing) → Gone h x → GoneTest h x
  unfolding GoneTest is_closed IsPort
  gone-test x (row_dropped n t) = t
  gone-test x (request_closed q t) = λ c a. or_l (member (loan_of h.requests q).number h.closed_requests) (not (stands h (loan_of h.requests q).port)) (rw a.request t)
  gone-test x (port_closed c t) = λ p. false_of _ (λ s. clash (ap (λ k. member k h.closed_ports) p.1 ∙ t) (whole-port h (noted_of h.rows c) (stands-whole c s) (rw p.1 p.0)))
  gone-test x (operation_fell c e p i k y u g) = λ p. false_of _ (λ t. clash (stands-source c e t i) (chain-falls k y u (gone-test y g)))
  gone-test x (port_fell q c a g) = λ d b. or_r (member (loan_of h.requests q).number h.closed_requests) _ (ap not (ap (stands h) a.port ∙ gone-test (a_port c) g (asked-port q c a)))
