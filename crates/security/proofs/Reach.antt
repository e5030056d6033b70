-- Reach: behind every operation and subdirectory outside the nodes stands a row of a node that the first lender can come to.
use Prim.Native.Nat.{ℕ}
use native.Mathlib.Omega.{arith}
use mathlib.Core.Bool.{Bool, true, false, not, ◌&&◌}
use mathlib.Core.Path.{◌≡◌, refl, sym, ap, ◌∙◌, subst}
use mathlib.Core.Logic.{⊎_elim}
use lib.Dec.{eqb}
use borrow.Author.Tests.{eqb-true}
use Rattle.rows.specs.declared.Row.{Row}
use Rattle.std.specs.Prelude.{if◌then◌else◌}
use Rattle.rows.specs.Lists.{some}
use Rattle.rows.specs.Codes.{is_subdirectory, is_end, in_node, is_node, may_hold}
use Rattle.rows.specs.Tables.{State, no_row, row_of, process_at, numbers, bears, comes_from}
use Rattle.rows.specs.declared.Process.{Process}
use Rattle.rows.specs.Setters.{with_place, in_prime_node, went_through}
use Rattle.rows.specs.Sound.{rows_rise}
use Rattle.rows.proofs.Bools.{clash, false_of, some-pos, none-zero, true-or-false}
use Rattle.rows.proofs.Keyed.{first-none}
use Rattle.rows.proofs.RowSources.{node-there}
use Rattle.tables.proofs.Sound.{Sound}
use Rattle.tables.proofs.SoundFacts.{row_below}
use Rattle.tables.proofs.Standing.{nodes-stay, via-listed}
use Rattle.tables.proofs.Marking.{marked-reaches}
use Rattle.closing.proofs.Facts.{copy_at}
use Rattle.calls.specs.declared.Call.{Call}
use Rattle.calls.specs.declared.Call.TheVariants.{Go, Hold, Register, Drop, Port, Close, Ask, Fetch, Revoke, Comes, Chain, ComesAll}
use Rattle.security.specs.Sessions.{IsRow}
use Rattle.security.specs.Changes.{discards, falls, goes, closed_by, record_homed, record_after}
use Rattle.security.specs.Reach.{Reaches, here, down, Behind, taken, copied, FirstLender, has-it, of-copy, of-way}
use Rattle.security.proofs.Rows.{source-no-end}
use Rattle.security.proofs.Numbers.{source_row}
use Rattle.security.proofs.Nodes.{node-unborne}
use Rattle.security.proofs.Effects.{Effect, tells, moves-to, adds, asks, fetches, shuts-off}
use Rattle.security.proofs.Touches.{quiet-goes, adds-still, question-still, touches}
use Rattle.security.proofs.Moves.{old-moves, moves_of}
use Rattle.security.proofs.Frames.{same-but-place, source-kept}
use Rattle.security.proofs.Derived.{node-row-same, copy-sourced}

-- ---- what every call keeps: the rows of nodes, and the prime nodes
-- a row of a node does not go
node-spared : (st : State) → Sound st → (c : Call) → ((n : ℕ) → is_node (row_of st.rows n).place ≡ true → discards c (row_of st.rows n) ≡ false)
    → (n : ℕ) → is_node (row_of st.rows n).place ≡ true → goes st c n ≡ false
unfolding goes falls comes_from rows_rise
node-spared st s c h n e = rw (h n e) (pick (some (closed_by st c)) refl)
  where
    q : ℕ
    q = closed_by st c

    pick : (b : Bool) → some q ≡ b → b && comes_from st.rows q n ≡ false
    pick true z =
        sym (marked-reaches (bears q) st.rows s.numbers.rows-rise n)
        ∙ nodes-stay st s.numbers s.rows (bears q)
        (λ m t f. unfold bears in false_of _ (λ y. let w = eqb-true _ q y in let u = node-unborne st s m f in let l = some-pos q z in omega arith)) n e
    pick false z = refl

spared : (st : State) → Sound st → (c : Call) (st' : State) → Effect st c st' → (n : ℕ) → is_node (row_of st.rows n).place ≡ true → goes st c n ≡ false
unfolding closed_by discards
spared st s c st' (tells c' x) n k = quiet-goes st c (question-still st c x).quiet n
spared st s c st' (moves-to p e a) n k = quiet-goes st c (record { closes-none = refl; discards-none = λ r. refl }) n
spared st s c st' (adds c' rs m a z) n k = quiet-goes st c (adds-still st c rs a).quiet n
spared st s c st' (asks p d is a) n k = quiet-goes st c (record { closes-none = refl; discards-none = λ r. refl }) n
spared st s c st' (fetches p e a) n k = quiet-goes st c (record { closes-none = refl; discards-none = λ r. refl }) n
spared st s c st' (shuts-off c' g f x y) n k = node-spared st s c y.spares n k

homed-prime : (st : State) (c : Call) (p : ℕ) → (record_homed st c p).prime ≡ (process_at st.processes p).prime
unfolding record_homed
homed-prime st c p = pick (some (process_at st.processes p).through && goes st c (process_at st.processes p).through)
  where
    pick : (b : Bool) → (if b then in_prime_node (process_at st.processes p) else process_at st.processes p).prime ≡ (process_at st.processes p).prime
    pick true = refl
    pick false = refl

gone : (a b : Bool) (x : Process) (e k : ℕ) → (if a then (if b then in_prime_node x else went_through e k x) else x).prime ≡ x.prime
gone true true x e k = refl
gone true false x e k = refl
gone false b x e k = refl

prime-after : (st : State) (c : Call) (p : ℕ) → (record_after st c p).prime ≡ (process_at st.processes p).prime
unfolding record_after
prime-after st (Go q e) p = gone (eqb p q) (eqb e 0) (process_at st.processes p) e (row_of st.rows e).object
prime-after st (Hold q e) p = refl
prime-after st (Register q e) p = refl
prime-after st (Drop q e) p = refl
prime-after st (Port q e) p = refl
prime-after st (Close q c) p = homed-prime st (Close q c) p
prime-after st (Ask q c is) p = refl
prime-after st (Fetch q e) p = refl
prime-after st (Call.Answer q e served) p = homed-prime st (Call.Answer q e served) p
prime-after st (Revoke q v) p = homed-prime st (Revoke q v) p
prime-after st (Comes e q) p = refl
prime-after st (Chain e) p = refl
prime-after st (ComesAll es qs) p = refl

pub no-row-zero : (st : State) → Sound st → row_of st.rows 0 ≡ no_row
unfolding row_of numbers
no-row-zero st s = first-none (λ r. r.number) no_row st.rows 0 (false_of _ (λ t. let l = (row_below st s.numbers 0 (unfold numbers in t)).0 in omega arith))

-- a row that bears something is there
pub bearer-some : (st : State) → Sound st → (n : ℕ) → some (row_of st.rows n).request ≡ true → some n ≡ true
unfolding no_row some
bearer-some st s n b =
    ⊎_elim (λ h. h) (λ h. clash b (ap (λ k. some (row_of st.rows k).request) (none-zero n h) ∙ ap (λ r. some r.request) (no-row-zero st s))) (true-or-false (some n))

module _ (st st' : State) (c : Call) (s : Sound st) (s' : Sound st') (x : Effect st c st') where
  abbrev R : ℕ → Row
  R n = row_of st.rows n

  abbrev R' : ℕ → Row
  R' n = row_of st'.rows n

  pub node-stands : (n : ℕ) → is_node (R n).place ≡ true → IsRow st' n
  node-stands n e = (touches st s c st' x).rows n (node-there st.rows n e) ∙ ap not (spared st s c st' x n e)

  pub node_kept : (n : ℕ) → is_node (R n).place ≡ true → R' n ≡ R n
  node_kept n e = node-row-same st st' c s x n (node-there st.rows n e) (node-stands n e) e

  pub prime-kept : (p : ℕ) → (process_at st'.processes p).prime ≡ (process_at st.processes p).prime
  prime-kept p = ap (λ y. y.prime) ((touches st s c st' x).records p) ∙ prime-after st c p

  pub reaches-kept : (m k : ℕ) → Reaches st m k → Reaches st' m k
  unfolding in_node
  reaches-kept m k here = here
  reaches-kept m k (down j n r t e d kind right) =
      let node : is_node (R n).place ≡ true = ap is_node e ∙ d in
      let same = node_kept n node in
      subst (λ y. Reaches st' m y.object) same
      (down j n (reaches-kept m j r) (node-stands n node) (ap (λ y. y.place) same ∙ e) d (ap (λ y. is_subdirectory y.kind) same ∙ kind) (ap (λ y. may_hold y.rights) same ∙ right))

  -- ---- rows that were there
  module _ (n : ℕ) (t : IsRow st n) (t' : IsRow st' n) where
    pub request-kept : (R' n).request ≡ (R n).request
    unfolding with_place
    request-kept = same-but-place st st' c s x n t t' (λ r. r.request) (λ p r. refl)

    source-same : (R' n).source ≡ (R n).source
    unfolding with_place
    source-same = same-but-place st st' c s x n t t' (λ r. r.source) (λ p r. refl)

    via-same : (R' n).via ≡ (R n).via
    unfolding with_place
    via-same = same-but-place st st' c s x n t t' (λ r. r.via) (λ p r. refl)

    -- what is no end and bears nothing does not move
    pub unmoved : is_end (R n).kind ≡ false → (R n).request ≡ 0 → R' n ≡ R n
    unmoved e z =
        ⊎_elim (λ y. y.1)
        (λ y. ⊎_elim (λ k. clash k e) (λ b. let l = some-pos (R n).request b.0 in absurd (omega arith)) (old-moves st s c n (R' n) t y))
        ((moves_of st s c st' x).arrives n t')

    -- the row gone through, also where there is none
    via-stands : some (R n).via ≡ true → (IsRow st (R n).via) × (IsRow st' (R n).via)
    via-stands h = (source_row st s n (R n).via t (via-listed (R n) h), subst (IsRow st') via-same (source_row st' s' n (R' n).via t' (via-listed (R' n) (ap some via-same ∙ h))))

    via-request : (R' (R n).via).request ≡ (R (R n).via).request
    unfolding with_place
    via-request =
        ⊎_elim (λ h. let (v, v') = via-stands h in same-but-place st st' c s x (R n).via v v' (λ r. r.request) (λ p r. refl))
        (λ h. let z = none-zero (R n).via h in ap (λ k. (R' k).request) z ∙ ap (λ r. r.request) (no-row-zero st' s' ∙ sym (no-row-zero st s)) ∙ ap (λ k. (R k).request) (sym z))
        (true-or-false (some (R n).via))

  pub first-kept : (n p : ℕ) → FirstLender st n p → IsRow st n → IsRow st' n → is_end (R n).kind ≡ false → FirstLender st' n p
  first-kept n p (has-it n₁ p₁ z v h) t t' e =
      has-it n p (request-kept n t t' ∙ z) (ap (λ k. (R' k).request) (via-same n t t') ∙ via-request n t t' ∙ v) (ap (λ r. r.place) (unmoved n t t' e z) ∙ h)
  first-kept n p (of-copy n₁ p₁ b l) t t' e =
      let h = copy-sourced st s n t b in
      let (m, m') = source-kept st st' c s s' x n t t' h in
      of-copy n p (ap some (request-kept n t t') ∙ b) (subst (λ k. FirstLender st' k p) (sym (source-same n t t')) (first-kept (R n).source p l m m' (source-no-end st s n t h)))
  first-kept n p (of-way n₁ p₁ z b l) t t' e =
      let (m, m') = via-stands n t t' (bearer-some st s (R n).via b) in
      of-way n p (request-kept n t t' ∙ z) (ap (λ k. some (R' k).request) (via-same n t t') ∙ ap some (via-request n t t') ∙ b)
      (subst (λ k. FirstLender st' k p) (sym (via-same n t t')) (first-kept (R n).via p l m m' (copy_at st s (R n).via m b).no_end))

  pub behind-kept : (n d : ℕ) → Behind st.rows n d → IsRow st n → IsRow st' n → Behind st'.rows n d
  behind-kept n d (taken n₁ z) t t' = subst (Behind st'.rows n) (source-same n t t') (taken n (request-kept n t t' ∙ z))
  behind-kept n d (copied n₁ d₁ b l) t t' =
      let (m, m') = source-kept st st' c s s' x n t t' (copy-sourced st s n t b) in
      copied n d (ap some (request-kept n t t') ∙ b) (subst (λ k. Behind st'.rows k d) (sym (source-same n t t')) (behind-kept (R n).source d l m m'))
