-- What the words of a directory tell of the forms that they hold.
use Prim.Native.Nat.{ℕ, ◌+◌, ◌-◌, ◌≤◌, ◌<◌}
use native.Mathlib.Omega.{arith}
use mathlib.Core.Bool.{false}
use mathlib.Core.List.{List}
use mathlib.Core.Path.{◌≡◌, sym, ap, ◌∙◌}
use lib.Dec.{ltb}
use lib.ListN.{get_or, take, drop}
use Rattle.rows.specs.Lists.{some, between}
use Rattle.rows.specs.Limits.{nodes, processes}
use Rattle.rows.specs.vocabulary.Sizes.{PROCESSES}
use Rattle.rows.proofs.Bools.{false_of}
use Rattle.rows.proofs.Places.{between-range}
use Rattle.text.specs.Opening.{Form, prime_of}
use Rattle.text.specs.vocabulary.Sizes.{NODES}
use Rattle.joining.specs.Joins.{node_in, process_in}
use Rattle.joining.specs.vocabulary.Directories.{node_at, codes_at, ENTRIES, Held, IsHeld, CodesEnd}
use Rattle.joining.proofs.FormFacts.{node-outside, prime-outside, prime-given}

module _ (w : List ℕ) (fs : List Form) (h : Held w fs) where
  -- ---- a node
  pub node-told : (n : ℕ) → n ≤ NODES → ltb 0 (get_or w (node_at n) 0) ≡ node_in fs n
  unfolding some
  node-told n small = (h.node n small).given

  pub node-beyond : (n : ℕ) → NODES < n → false ≡ node_in fs n
  unfolding nodes
  node-beyond n large = sym (node-outside fs h.passed n (false_of (between 1 32 n) (λ e. let (lo, hi) = between-range 1 32 n e in omega arith)))

  -- ---- a process
  pub prime-beyond : (p : ℕ) → PROCESSES < p → 0 ≡ prime_of fs p
  unfolding processes
  prime-beyond p large = sym (prime-outside fs h.passed p (false_of (between 1 64 p) (λ e. let (lo, hi) = between-range 1 64 p e in omega arith)))

  -- it is given if it has a prime node
  pub prime-told : (p n : ℕ) → n ≡ prime_of fs p → ltb 0 n ≡ process_in fs p
  unfolding some
  prime-told p n e = ap (ltb 0) e ∙ prime-given fs h.passed p

-- ---- the codes of a node
pub codes-few : (w : List ℕ) (n : ℕ) → IsHeld w → n ≤ NODES → get_or w (node_at n + 1) 0 ≤ ENTRIES
codes-few w n k small = (k.held.node n small).few

pub codes-end : (w : List ℕ) (n : ℕ) → IsHeld w → n ≤ NODES → CodesEnd w n (codes_at n + get_or w (node_at n + 1) 0)
codes-end w n k small =
    let few = codes-few w n k small in
    let count : codes_at n + get_or w (node_at n + 1) 0 - codes_at n ≡ get_or w (node_at n + 1) 0 = omega arith in
    record {
      low = omega arith;
      high = omega arith;
      codes = λ fs h. ap (λ (m : ℕ). take m (drop (codes_at n) w)) count ∙ (h.node n small).codes;
    }
