-- What the history computes is what its words mean: a row stands just if no chain of it uses anything dropped or closed.
use Prim.Native.Nat.{ℕ}
use mathlib.Core.Bool.{Bool, true, false, not, ◌&&◌, ◌||◌}
use mathlib.Core.List.{List, [], ◌∷◌}
use mathlib.Core.Path.{◌≡◌, refl, sym, ap, ◌∙◌}
use mathlib.Core.Logic.{◌⊎◌, inl, inr, ⊎_elim, ◌↔◌}
use lib.Dec.{eqb}
use native.Mathlib.Omega.{arith}
use Rattle.rows.specs.Lists.{all, member, some}
use Rattle.rows.proofs.Bools.{true_of, clash, and_l, and_r, not_t, or_r, or_cases, some-pos, all-at, eqb-sym-f, member-here}
use Rattle.rows.proofs.Keyed.{all_first}
use Rattle.history.specs.History.{Noted, History}
use Rattle.history.specs.Notes.{noted, nothing_noted, noted_of, loan_of, spoiled, stands, is_closed}
use Rattle.history.specs.Chains.{Thing, a_row, a_request, a_port, IsNoted, IsText, IsSource, Chain, ends, leads, RowUses, Uses, IsPort, AskedOver, Gone, row_dropped, request_closed, port_closed, operation_fell, port_fell, Stands}
use Rattle.history.proofs.Fit.{Fit, is_empty, rooted}
use Rattle.history.proofs.Sweep.{rising, sourced, rising-rest, rising-fresh, sourced-rest, sourced-first, sourced-at, other, in_rest, noted_here, noted_other}
use Rattle.history.proofs.Gone.{GoneTest, make-whole, noted-number, port-noted, port-bears-none, port-kept, asked-port, stands-eq, stands-noted, chain-falls, gone-test}

-- one that fails the test, if not all pass it
pub record Fails (f : ℕ → Bool) (ss : List ℕ) : Type 0 where
  pub one : ℕ
  pub is : member one ss ≡ true
  pub fails : f one ≡ false

pub some-fails : (f : ℕ → Bool) (ss : List ℕ) → all f ss ≡ false → Fails f ss
unfolding all member
some-fails f [] e = clash refl e
some-fails f (s ∷ ss) e = pick (some-fails f ss) (f s) refl e
  where
    pick : (all f ss ≡ false → Fails f ss) → (b : Bool) → f s ≡ b → b && all f ss ≡ false → Fails f (s ∷ ss)
    pick ih true q e = let w = ih e in record { one = w.one; is = or_r (eqb w.one s) (member w.one ss) w.is; fails = w.fails }
    pick ih false q e = record { one = s; is = member-here s ss; fails = q }

-- ---- by the rows, oldest first: what holds of a row if it holds of its sources holds of every row
module _ (h : History) (P : ℕ → Type 0) (step : (n : ℕ) → IsNoted h n → ((s : ℕ) → IsSource h s n → P s) → P n) where
  -- the rows of rs are noted in the history as in rs
  record Part (rs : List Noted) : Type 0 where
    there : (n : ℕ) → member n (noted rs) ≡ true → IsNoted h n
    same : (n : ℕ) → member n (noted rs) ≡ true → noted_of h.rows n ≡ noted_of rs n

  part-rest : (r : Noted) (rs : List Noted) → member r.number (noted rs) ≡ false → Part (r ∷ rs) → Part rs
  unfolding noted member
  part-rest r rs fresh p =
      record {
        there = λ n t. p.there n (or_r (eqb n r.number) (member n (noted rs)) t);
        same = λ n t. p.same n (or_r (eqb n r.number) (member n (noted rs)) t) ∙ noted_other r rs n (eqb-sym-f n r.number (other r rs fresh n t));
      }

  for-part : (rs : List Noted) → rising rs ≡ true → sourced rs ≡ true → Part rs → (n : ℕ) → member n (noted rs) ≡ true → P n
  unfolding IsSource
  for-part [] u v p n t = clash t (unfold noted member in refl)
  for-part (r ∷ rs) u v p n t = pick (for-part rs (rising-rest r rs u) (sourced-rest r rs v) (part-rest r rs (rising-fresh r rs u) p)) (eqb r.number n) refl
    where
      pick : ((k : ℕ) → member k (noted rs) ≡ true → P k) → (b : Bool) → eqb r.number n ≡ b → P n
      pick ih true q =
          step n (p.there n t) (λ s i. ih s (all-at (λ k. member k (noted rs)) r.sources (sourced-first r rs v) s (sym (ap (λ x. member s x.sources) (p.same n t ∙ noted_here r rs n q)) ∙ i)))
      pick ih false q = ih n (in_rest r rs n (eqb-sym-f r.number n q) t)

  pub by-sources : Fit h → (n : ℕ) → IsNoted h n → P n
  unfolding IsNoted
  by-sources fit n t = for-part h.rows fit.rows-rise fit.sources-older (record { there = λ n t. t; same = λ n t. refl }) n t

-- ---- a row that does not stand has a chain that uses something gone
record Broken (h : History) (n : ℕ) : Type 0 where
  chain : Chain h n
  thing : Thing
  uses : Uses h chain thing
  gone : Gone h thing

-- a chain of each row, and a broken one of each that does not stand
record Found (h : History) (n : ℕ) : Type 0 where
  chain : Chain h n
  broken : stands h n ≡ false → Broken h n

uses-first : (h : History) {n : ℕ} (k : Chain h n) (x : Thing) → RowUses h n x → Uses h k x
unfolding Uses
uses-first h (ends n t) x u = u
uses-first h (leads n s i k) x u = inl u

broken-source : (h : History) (n s : ℕ) → IsSource h s n → Broken h s → Broken h n
unfolding Uses
broken-source h n s i b = record { chain = leads n s i b.chain; thing = b.thing; uses = inr b.uses; gone = b.gone }

module _ (h : History) (fit : Fit h) where
  -- a noted row that does not stand is spoiled, or has a source that does not stand
  falls-by : (n : ℕ) → IsNoted h n → stands h n ≡ false → (spoiled h (noted_of h.rows n) ≡ true) ⊎ Fails (stands h) (noted_of h.rows n).sources
  falls-by n t z = pick (spoiled h (noted_of h.rows n)) refl (sym (stands-eq h fit n t) ∙ z)
    where
      pick : (b : Bool) → spoiled h (noted_of h.rows n) ≡ b → not b && all (stands h) (noted_of h.rows n).sources ≡ false
          → (spoiled h (noted_of h.rows n) ≡ true) ⊎ Fails (stands h) (noted_of h.rows n).sources
      pick true q z = inl q
      pick false q z = inr (some-fails (stands h) (noted_of h.rows n).sources z)

  -- a spoiled row uses something gone
  spoiled-uses : (n : ℕ) → IsNoted h n → spoiled h (noted_of h.rows n) ≡ true → (x : Thing) × RowUses h n x × Gone h x
  unfolding spoiled RowUses
  spoiled-uses n t e = ⊎_elim by-drop (λ w. ⊎_elim by-request by-port (or_cases _ (some r.port && member r.port h.closed_ports) w)) (or_cases (member r.number h.dropped) _ e)
    where
      r : Noted
      r = noted_of h.rows n

      by-drop : member r.number h.dropped ≡ true → (x : Thing) × RowUses h n x × Gone h x
      by-drop d = (a_row n, refl, row_dropped n (ap (λ k. member k h.dropped) (sym (noted-number h fit n t)) ∙ d))

      by-request : some r.request && member r.request h.closed_requests ≡ true → (x : Thing) × RowUses h n x × Gone h x
      by-request q = (a_request r.request, (some-pos _ (and_l _ _ q), refl), request_closed _ (and_r (some r.request) _ q))

      by-port : some r.port && member r.port h.closed_ports ≡ true → (x : Thing) × RowUses h n x × Gone h x
      by-port c = (a_port r.port, (some-pos _ (and_l _ _ c), refl), port_closed _ (and_r (some r.port) _ c))

  -- a row is of the text, or has a source
  root : (n : ℕ) → IsNoted h n → IsText h n ⊎ ((s : ℕ) × IsSource h s n)
  unfolding IsNoted IsText IsSource rooted is_empty noted
  root n t = pick (noted_of h.rows n).sources refl (unfold noted_of in all_first (λ r. r.number) nothing_noted (rooted h.text) h.rows n fit.rows-rooted t)
    where
      pick : (ss : List ℕ) → (noted_of h.rows n).sources ≡ ss → not (is_empty ss) || member (noted_of h.rows n).number h.text ≡ true → IsText h n ⊎ ((s : ℕ) × IsSource h s n)
      pick [] q w = inl (ap (λ k. member k h.text) (sym (noted-number h fit n t)) ∙ w)
      pick (s ∷ ss) q w = inr (s, ap (member s) q ∙ member-here s ss)

  found_at : (n : ℕ) → IsNoted h n → ((s : ℕ) → IsSource h s n → Found h s) → Found h n
  unfolding IsSource
  found_at n t ih =
      record {
        chain = whole;
        broken = λ z. ⊎_elim (λ e. let (x, u, g) = spoiled-uses n t e in record { chain = whole; thing = x; uses = uses-first h whole x u; gone = g })
            (λ w. broken-source h n w.one w.is ((ih w.one w.is).broken w.fails)) (falls-by n t z);
      }
    where
      whole : Chain h n
      whole = ⊎_elim (λ e. ends n e) (λ w. leads n w.0 w.1 (ih w.0 w.1).chain) (root n t)

  found : (n : ℕ) → IsNoted h n → Found h n
  found = by-sources h (Found h) found_at fit

  source-noted : (n s : ℕ) → IsSource h s n → IsNoted h s
  unfolding IsNoted IsSource
  source-noted n s i = all-at (λ s. member s (noted h.rows)) (noted_of h.rows n).sources (sourced-at h.rows fit.sources-older n) s i

  -- a port whose client end does not stand is closed
  port-gone : (c : ℕ) → IsPort h c → stands h c ≡ false → Gone h (a_port c)
  unfolding IsPort IsSource
  port-gone c p z = ⊎_elim by_call by-operation (falls-by c t z)
    where
      t : IsNoted h c
      t = port-noted h fit c p

      whole : member c h.closed_ports ≡ false → spoiled h (noted_of h.rows c) ≡ false
      whole f =
          make-whole h (noted_of h.rows c) (rw (noted-number h fit c t) (port-kept h fit c p)) (λ q. let none = port-bears-none h fit c p in absurd (omega arith))
          (λ q. rw p.1 f)

      by_call : spoiled h (noted_of h.rows c) ≡ true → Gone h (a_port c)
      by_call e = port_closed c (true_of _ (λ f. clash e (whole f)))

      by-operation : Fails (stands h) (noted_of h.rows c).sources → Gone h (a_port c)
      by-operation w =
          let b = (found w.one (source-noted c w.one w.is)).broken w.fails in
          operation_fell c w.one p w.is b.chain b.thing b.uses b.gone

-- ---- the theorems
pub stands-chains : (h : History) → Fit h → (n : ℕ) → (stands h n ≡ true) ↔ Stands h n
stands-chains h fit n = (
  λ t. record { is_noted = stands-noted h fit n t; unbroken = λ k x u g. clash t (chain-falls h fit k x u (gone-test h fit x g)) },
  λ s. true_of _ (λ z. let b = (found h fit n s.is_noted).broken z in s.unbroken b.chain b.thing b.uses b.gone),
)

pub port-open : (h : History) → Fit h → (c : ℕ) → IsPort h c → (stands h c ≡ true) ↔ (Gone h (a_port c) → ⊥)
unfolding GoneTest
port-open h fit c p = (λ t g. clash t (gone-test h fit (a_port c) g p), λ s. true_of _ (λ z. s (port-gone h fit c p z)))

pub request-closed : (h : History) → Fit h → (q c : ℕ) → AskedOver h q c → (is_closed h (loan_of h.requests q) ≡ true) ↔ Gone h (a_request q)
unfolding GoneTest is_closed
request-closed h fit q c a = (
  λ t. ⊎_elim (λ m. request_closed q (rw a.request at m))
      (λ f. port_fell q c a (port-gone h fit c (asked-port h fit q c a) (ap (stands h) (sym a.port) ∙ not_t _ f)))
      (or_cases (member (loan_of h.requests q).number h.closed_requests) (not (stands h (loan_of h.requests q).port)) t),
  λ g. gone-test h fit (a_request q) g c a,
)
