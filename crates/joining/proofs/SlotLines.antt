-- The joined text by slots: the codes of a node have room in its line; the line of each slot; lines written one after the other.
use Prim.Native.Nat.{ℕ, zero, suc, ◌+◌, ◌-◌, ◌*◌, ◌≤◌, ◌<◌}
use native.Mathlib.Numerals.{add-one}
use native.Mathlib.Decide.{ℕ_discrete}
use native.Mathlib.Omega.{arith}
use mathlib.Core.Bool.{Bool, true, false, ◌||◌}
use mathlib.Core.List.{List, [], ◌∷◌, ◌++◌, map, map-append, append_assoc, append-nil}
use mathlib.Core.Path.{◌≡◌, refl, sym, ap, ◌∙◌}
use lib.Dec.{ltb}
use lib.ListN.{length, get_or, take, drop, length-append, length-map, length-drop, drop_of_length-le}
use lib.Seq.{take-suc, take_all, take_at, drop_at, drop-drop}
use borrow.Author.Tests.{lt-ltb, le-ltb, ltb-false}
use Rattle.rows.specs.Lists.{any, all, bytes}
use Rattle.rows.specs.Limits.{nodes, processes, most_entries}
use Rattle.rows.proofs.Bools.{and_l, and_r, and_i, or-fl, or-fr}
use Rattle.text.specs.declared.Entry.{Entry}
use Rattle.text.specs.Opening.{Form, node_form, process_form}
use Rattle.text.specs.vocabulary.Sizes.{NODES}
use Rattle.text.proofs.GroupLaws.{take-pad}
use Rattle.joining.specs.declared.Codes.{Codes}
use Rattle.joining.specs.Joins.{node_in, process_in, entries_joined, prime_joined, numbers_from, node_crowded}
use Rattle.joining.specs.Written.{entry_text, entries_text, form_text}
use Rattle.joining.specs.vocabulary.Directories.{ENTRIES, entry_code, entry_of, Held}
use Rattle.joining.specs.vocabulary.Merged.{CODES, in_codes}
use Rattle.joining.specs.vocabulary.Lines.{CODE-LIMIT, Puts, codes_in, CodesFit, codes_text, node_of, node_slot, process_slot, slot_text, slots_text}
use Rattle.joining.proofs.MergedNodes.{entry_good, good-fits, codes-back, joined-good}
use Rattle.joining.proofs.FormTexts.{entries-snoc}

-- ---- the codes of a node
code-small : (e : Entry) → entry_good e ≡ true → ltb (entry_code e) CODE-LIMIT ≡ true
unfolding entry_code
code-small e g =
    let (o, p, r, k) = good-fits e g in
    lt-ltb (((e.object * 256 + e.operation) * 8 + e.rights) * 4 + e.kind) CODE-LIMIT (omega arith)

codes-small : (es : List Entry) → all entry_good es ≡ true → all (λ x. ltb x CODE-LIMIT) (map entry_code es) ≡ true
unfolding all
codes-small [] g = refl
codes-small (e ∷ es) g =
    and_i (ltb (entry_code e) CODE-LIMIT) _ (code-small e (and_l (entry_good e) (all entry_good es) g)) (codes-small es (and_r (entry_good e) (all entry_good es) g))

-- no number of which a test fails for all
none_of : (f : ℕ → Bool) (a k : ℕ) → any f (numbers_from a k) ≡ false → (n : ℕ) → a ≤ n → n < a + k → f n ≡ false
unfolding any numbers_from
none_of f a zero e n lo hi = absurd (omega arith)
none_of f a (suc k) e n lo hi = elim (ℕ_discrete a n) [
  | yes same ↦ ap f (sym same) ∙ or-fl (f a) (any f (numbers_from (suc a) k)) e
  | no other ↦ none_of f (suc a) k (or-fr (f a) (any f (numbers_from (suc a) k)) e) n (omega arith) (omega arith)
]

pub joined-few : (fs gs : List Form) → node_crowded fs gs ≡ false → (n : ℕ) → 1 ≤ n → n ≤ NODES → length (entries_joined fs gs n) ≤ ENTRIES
unfolding node_crowded nodes most_entries
joined-few fs gs room n low high = ltb-false 16 (length (entries_joined fs gs n)) (none_of (λ m. ltb 16 (length (entries_joined fs gs m))) 1 32 room n low (omega arith))

module _ (fs gs : List Form) (n : ℕ) (c : Codes) (is : c ≡ in_codes (map entry_code (entries_joined fs gs n))) where
  counted : c.count ≡ length (entries_joined fs gs n)
  unfolding in_codes
  counted = ap (λ (x : Codes). x.count) is ∙ length-map (entries_joined fs gs n) entry_code

  pub codes-few : node_crowded fs gs ≡ false → 1 ≤ n → n ≤ NODES → c.count ≤ ENTRIES
  codes-few room low high = let few = joined-few fs gs room n low high in let k = counted in omega arith

  module _ (a b : List ℕ) (ha : Held a fs) (hb : Held b gs) (few : c.count ≤ ENTRIES) where
    codes-are : codes_in c ≡ map entry_code (entries_joined fs gs n)
    unfolding in_codes
    codes-are =
        let k = counted in
        let size = length-map (entries_joined fs gs n) entry_code in
        ap (λ (x : Codes). take x.count x.codes) is ∙ take-pad CODES (map entry_code (entries_joined fs gs n)) (omega arith)

    pub codes-fit : CodesFit c
    codes-fit = (few, ap (all (λ x. ltb x CODE-LIMIT)) codes-are ∙ codes-small (entries_joined fs gs n) (joined-good fs gs ha.passed hb.passed n))

    pub node-is : node_of n c ≡ node_form n (entries_joined fs gs n)
    node-is = ap (node_form n) (ap (map entry_of) codes-are ∙ codes-back (entries_joined fs gs n) (joined-good fs gs ha.passed hb.passed n))

-- ---- the line of a slot
module _ (fs gs : List Form) where
  pub node-given : (n : ℕ) → node_in fs n || node_in gs n ≡ true → node_slot fs gs n ≡ form_text (node_form n (entries_joined fs gs n))
  unfolding node_slot
  node-given n e = rw e refl

  pub node-absent : (n : ℕ) → node_in fs n || node_in gs n ≡ false → node_slot fs gs n ≡ []
  unfolding node_slot
  node-absent n e = rw e refl

  pub process-given : (p : ℕ) → process_in fs p || process_in gs p ≡ true → process_slot fs gs p ≡ form_text (process_form p (prime_joined fs gs p))
  unfolding process_slot
  process-given p e = rw e refl

  pub process-absent : (p : ℕ) → process_in fs p || process_in gs p ≡ false → process_slot fs gs p ≡ []
  unfolding process_slot
  process-absent p e = rw e refl

  pub slot-node : (k : ℕ) → k < NODES → slot_text fs gs k ≡ node_slot fs gs (k + 1)
  unfolding slot_text nodes
  slot-node k h = rw (lt-ltb k 32 h, add-one k) refl

  pub slot-process : (k : ℕ) → NODES ≤ k → k < 96 → slot_text fs gs k ≡ process_slot fs gs (k + 1 - 32)
  unfolding slot_text nodes processes
  slot-process k lo hi = rw (le-ltb k 32 lo, lt-ltb k 96 hi, add-one k) refl

  pub slot-last : (k : ℕ) → 96 ≤ k → slot_text fs gs k ≡ bytes "(open)\n"
  unfolding slot_text nodes processes
  slot-last k h = rw (le-ltb k 32 (omega arith), le-ltb k 96 h) refl

-- ---- entries put one after the other
pub codes-more : (cs : List ℕ) (i : ℕ) → i < length cs → codes_text (take (i + 1) cs) ≡ codes_text (take i cs) ++ entry_text (entry_of (get_or cs i 0))
codes-more cs i h =
    let more : take (i + 1) cs ≡ take i cs ++ (get_or cs i 0 ∷ []) = rw add-one (take-suc cs i 0 h) in
    ap codes_text more ∙ ap entries_text (map-append entry_of (take i cs) (get_or cs i 0 ∷ [])) ∙ entries-snoc (map entry_of (take i cs)) (entry_of (get_or cs i 0))

pub code_at : (cs : List ℕ) (i : ℕ) → all (λ x. ltb x CODE-LIMIT) cs ≡ true → i < length cs → ltb (get_or cs i 0) CODE-LIMIT ≡ true
unfolding all
code_at [] i e h = absurd (omega arith)
code_at (c ∷ cs) zero e h = and_l (ltb c CODE-LIMIT) (all (λ x. ltb x CODE-LIMIT) cs) e
code_at (c ∷ cs) (suc i) e h = code_at cs i (and_r (ltb c CODE-LIMIT) (all (λ x. ltb x CODE-LIMIT) cs) e) (omega arith)

-- ---- lines written one after the other
module _ (fs gs : List Form) (out₀ out : List ℕ) (from k n : ℕ) (low : from ≤ k) (same : length out ≡ length out₀) (within : n ≤ length out₀)
    (is : Puts (slots_text fs gs from (k - from)) out₀ out n) where
  pub slot-written : (m r : ℕ) (u : List ℕ) → m ≡ length out - n → Puts (slot_text fs gs k) (take m (drop n out)) u r
      → Puts (slots_text fs gs from (k + 1 - from)) out₀ (take n out ++ (u ++ drop m (drop n out))) (n + r)
  unfolding slots_text
  slot-written m r u size (long, put) =
      let front = slots_text fs gs from (k - from) in
      let t = slot_text fs gs k in
      let front_long : length front ≡ n = sym is.0 in
      let left = length-drop n out in
      let before : take n out ≡ front = ap (take n) is.1 ∙ take_at front (drop (length front) out₀) n front_long in
      let after : drop n out ≡ drop n out₀ = ap (drop n) is.1 ∙ drop_at front (drop (length front) out₀) n front_long ∙ ap (λ (j : ℕ). drop j out₀) front_long in
      let whole : take m (drop n out) ≡ drop n out₀ = take_all m (drop n out) (omega arith) ∙ after in
      let none : drop m (drop n out) ≡ [] = drop_of_length-le (drop n out) {i = m} (omega arith) in
      let written : u ≡ t ++ drop (n + r) out₀ =
      put ∙ ap (λ (l : List ℕ). t ++ drop (length t) l) whole ∙ ap (λ (l : List ℕ). t ++ l) (drop-drop (length t) n out₀ ∙ ap (λ (j : ℕ). drop (n + j) out₀) (sym long)) in
      let next : k + 1 - from ≡ suc (k - from) = omega arith in
      let there : from + (k - from) ≡ k = omega arith in
      let texts : front ++ t ≡ slots_text fs gs from (k + 1 - from) = ap (λ (j : ℕ). front ++ slot_text fs gs j) (sym there) ∙ ap (slots_text fs gs from) (sym next) in
      let count : n + r ≡ length (slots_text fs gs from (k + 1 - from)) = let l = sym (length-append front t) ∙ ap length texts in omega arith in (
        count,
        (λ i. before i ++ (written i ++ none i)) ∙ ap (λ (l : List ℕ). front ++ l) (append-nil (t ++ drop (n + r) out₀)) ∙ sym (append_assoc front t (drop (n + r) out₀))
            ∙ (λ i. texts i ++ drop (count i) out₀),
      )
