-- What the forms of both texts list: an entry's name, those of a node, of a process, of all forms of a text.
use Prim.Native.Nat.{ℕ}
use native.Mathlib.Omega.{arith}
use mathlib.Core.Bool.{Bool, true, false, not, cond, ◌&&◌, ◌||◌, true≢false}
use mathlib.Core.List.{List, [], ◌∷◌, ◌++◌, map}
use mathlib.Core.Path.{◌≡◌, refl, sym, ap, ◌∙◌}
use lib.Dec.{eqb, ltb}
use borrow.Author.Tests.{eqb-true}
use Rattle.rows.specs.Lists.{any, all, each}
use Rattle.rows.specs.Limits.{nodes, processes}
use Rattle.rows.specs.Codes.{is_operation}
use Rattle.rows.proofs.Bools.{any_append, and-true, and_i}
use Rattle.rows.proofs.Lists.{all_map}
use Rattle.calls.specs.Rules.{lowest}
use Rattle.text.specs.declared.Entry.{Entry}
use Rattle.text.specs.Opening.{Form, node_form, process_form, gives_node, gives_process, entry_listed, form_listed, prime_of}
use Rattle.text.proofs.OpeningForms.{form_passed, node-passed, process-passed}
use Rattle.joining.specs.Joins.{node_in, process_in, entries_of, numbers_from, name_missing, node_crowded, primes_differ, join_refusal}
use Rattle.joining.specs.vocabulary.Directories.{entry_code, entry_of, Held}
use Rattle.joining.specs.vocabulary.Listed.{node_listed, prime_listed}
use Rattle.joining.proofs.FormFacts.{first-passed, older-passed}
use Rattle.joining.proofs.HeldForms.{prime-told}
use Rattle.joining.proofs.MergedNodes.{entry_good, codes-back}
use Rattle.joining.proofs.NumbersFrom.{one_more}

-- ---- a name
pub node-either : (fs gs : List Form) (n : ℕ) → node_in (fs ++ gs) n ≡ node_in fs n || node_in gs n
unfolding node_in
node-either fs gs n = any_append (gives_node n) fs gs

pub process-either : (fs gs : List Form) (p : ℕ) → process_in (fs ++ gs) p ≡ process_in fs p || process_in gs p
unfolding process_in
process-either fs gs p = any_append (gives_process p) fs gs

module _ (a b : List ℕ) (fs gs : List Form) (ha : Held a fs) (hb : Held b gs) (e : Entry) where
  pub operation-listed : (p q : ℕ) → is_operation e.kind ≡ true → p ≡ prime_of fs e.object → q ≡ prime_of gs e.object
      → ltb 0 p || ltb 0 q ≡ entry_listed (fs ++ gs) e
  unfolding entry_listed process_in
  operation-listed p q k x y =
      (λ i. prime-told a fs ha e.object p x i || prime-told b gs hb e.object q y i) ∙ sym (process-either fs gs e.object) ∙ (rw k refl)

  pub subdirectory-listed : (x y : Bool) → is_operation e.kind ≡ false → x ≡ node_in fs e.object → y ≡ node_in gs e.object → x || y ≡ entry_listed (fs ++ gs) e
  unfolding entry_listed node_in
  subdirectory-listed x y k p q = (λ i. p i || q i) ∙ sym (node-either fs gs e.object) ∙ (rw k refl)

-- ---- entries by their codes
pub codes-listed : (f : Entry → Bool) (es : List Entry) → all entry_good es ≡ true → all (λ c. f (entry_of c)) (map entry_code es) ≡ all f es
codes-listed f es g = sym (all_map f entry_of (map entry_code es)) ∙ ap (all f) (codes-back es g)

-- ---- brackets of two tests
and-out : (a b c : Bool) → (a && b) && c ≡ a && (b && c)
and-out true b c = refl
and-out false b c = refl

-- ---- a test that every number passes
all_true : (f : ℕ → Bool) → ((n : ℕ) → f n ≡ true) → (ns : List ℕ) → all f ns ≡ true
unfolding all
all_true f h [] = refl
all_true f h (n ∷ ns) = and_i (f n) (all f ns) (h n) (all_true f h ns)

-- ---- the forms of a text, one after the other, by nodes and by processes
pub no-entries : (fs : List Form) (n : ℕ) → node_in fs n ≡ false → entries_of fs n ≡ []
unfolding node_in any gives_node entries_of
no-entries [] n e = refl
no-entries (node_form m es ∷ fs) n e = pick (eqb m n) (no-entries fs n) e
  where
    pick : (b : Bool) → (node_in fs n ≡ false → entries_of fs n ≡ []) → b || any (gives_node n) fs ≡ false → cond b es (entries_of fs n) ≡ []
    pick true ih e = absurd (true≢false e)
    pick false ih e = ih e
no-entries (process_form p m ∷ fs) n e = no-entries fs n e

module _ (ls : List Form) where
  -- a node form adds its entries to those of its node, which had none
  node-more : (m : ℕ) (es : List Entry) (fs : List Form) → node_in fs m ≡ false → (n : ℕ)
      → node_listed ls (node_form m es ∷ fs) n ≡ cond (eqb m n) (all (entry_listed ls) es) true && node_listed ls fs n
  unfolding entries_of all
  node-more m es fs fresh n = pick (eqb m n) refl
    where
      pick : (b : Bool) → eqb m n ≡ b → all (entry_listed ls) (cond b es (entries_of fs n)) ≡ cond b (all (entry_listed ls) es) true && all (entry_listed ls) (entries_of fs n)
      pick true q =
          let none : entries_of fs n ≡ [] = no-entries fs n (ap (node_in fs) (sym (eqb-true m n q)) ∙ fresh) in
          rw none (sym (and-true (all (entry_listed ls) es)))
      pick false q = refl

  prime-more : (q m : ℕ) (fs : List Form) → process_in fs q ≡ false → (p : ℕ)
      → prime_listed ls (process_form q m ∷ fs) p ≡ cond (eqb q p) (node_in ls m) true && prime_listed ls fs p
  unfolding process_in any gives_process prime_of
  prime-more q m fs fresh p = pick (eqb q p) refl
    where
      pick : (b : Bool) → eqb q p ≡ b
          → not (b || any (gives_process p) fs) || node_in ls (cond b m (prime_of fs p)) ≡ cond b (node_in ls m) true && (not (any (gives_process p) fs) || node_in ls (prime_of fs p))
      pick true e =
          let none : any (gives_process p) fs ≡ false = ap (λ (x : ℕ). any (gives_process x) fs) (sym (eqb-true q p e)) ∙ fresh in
          rw none (sym (and-true (node_in ls m)))
      pick false e = refl

  and-past : (a b c : Bool) → a && (b && c) ≡ b && (a && c)
  and-past true b c = refl
  and-past false true c = refl
  and-past false false c = refl

  pub text-listed : (hs : List Form) → each form_passed hs ≡ true
      → all (node_listed ls hs) (numbers_from 1 nodes) && all (prime_listed ls hs) (numbers_from 1 processes) ≡ all (form_listed ls) hs
  unfolding all form_listed node_in process_in any gives_node gives_process entries_of prime_of
  text-listed [] e = rw (all_true (node_listed ls []) (λ n. refl) (numbers_from 1 nodes), all_true (prime_listed ls []) (λ p. refl) (numbers_from 1 processes)) refl
  text-listed (node_form m es ∷ fs) e =
      let k = node-passed fs m es (first-passed (node_form m es) fs e) in
      rw (one_more (node_listed ls (node_form m es ∷ fs)) (node_listed ls fs) m (all (entry_listed ls) es) nodes k.node (node-more m es fs k.fresh))
      (and-out (all (entry_listed ls) es) (all (node_listed ls fs) (numbers_from 1 nodes)) (all (prime_listed ls fs) (numbers_from 1 processes))
      ∙ ap (λ (b : Bool). all (entry_listed ls) es && b) (text-listed fs (older-passed (node_form m es) fs e)))
  text-listed (process_form q m ∷ fs) e =
      let k = process-passed fs q m (first-passed (process_form q m) fs e) in
      rw (one_more (prime_listed ls (process_form q m ∷ fs)) (prime_listed ls fs) q (node_in ls m) processes k.process (prime-more q m fs k.fresh))
      (and-past (all (node_listed ls fs) (numbers_from 1 nodes)) (node_in ls m) (all (prime_listed ls fs) (numbers_from 1 processes))
      ∙ ap (λ (b : Bool). node_in ls m && b) (text-listed fs (older-passed (process_form q m) fs e)))

-- ---- the prime node of a process of either text, tested as code does
pub prime-test : (w : List ℕ) (hs : List Form) → Held w hs → (fs gs : List Form) (p n : ℕ) → n ≡ prime_of hs p → (x y : Bool) → x ≡ node_in fs n → y ≡ node_in gs n
    → ltb 0 n && not (x || y) ≡ not (prime_listed (fs ++ gs) hs p)
prime-test w hs h fs gs p n e x y q r =
    let both : x || y ≡ node_in (fs ++ gs) (prime_of hs p) = (λ i. q i || r i) ∙ sym (node-either fs gs n) ∙ ap (node_in (fs ++ gs)) e in
    (λ i. prime-told w hs h p n e i && not (both i)) ∙ turn (process_in hs p) (node_in (fs ++ gs) (prime_of hs p))
  where
    turn : (b c : Bool) → b && not c ≡ not (not b || c)
    turn true c = refl
    turn false c = refl

-- ---- two prime nodes, tested as code does
pub differ-test : (a b : List ℕ) (fs gs : List Form) → Held a fs → Held b gs → (p m n : ℕ) → m ≡ prime_of fs p → n ≡ prime_of gs p
    → ltb 0 m && (ltb 0 n && not (eqb m n)) ≡ process_in fs p && (process_in gs p && not (eqb (prime_of fs p) (prime_of gs p)))
differ-test a b fs gs ha hb p m n x y = λ i. prime-told a fs ha p m x i && (prime-told b gs hb p n y i && not (eqb (x i) (y i)))

-- ---- the refusal of two texts
module _ (fs gs : List Form) where
  pub all-forms : (f : Form → Bool) (hs : List Form) → all f (hs ++ gs) ≡ all f hs && all f gs
  unfolding all
  all-forms f [] = refl
  all-forms f (h ∷ hs) = ap (λ (b : Bool). f h && b) (all-forms f hs) ∙ sym (and-out (f h) (all f hs) (all f gs))

  pub missing-test : (x y : Bool) → x ≡ all (form_listed (fs ++ gs)) fs → y ≡ all (form_listed (fs ++ gs)) gs → not (x && y) ≡ name_missing fs gs
  unfolding name_missing
  missing-test x y p q = ap not ((λ i. p i && q i) ∙ sym (all-forms (form_listed (fs ++ gs)) fs))

  -- the numbers of the table, one after the other
  pub refused-missing : name_missing fs gs ≡ true → 5 ≡ join_refusal fs gs
  unfolding join_refusal lowest
  refused-missing m = rw m refl

  pub refused-crowded : name_missing fs gs ≡ false → node_crowded fs gs ≡ true → 6 ≡ join_refusal fs gs
  unfolding join_refusal lowest
  refused-crowded m c = rw (m, c) refl

  pub refused-primes : name_missing fs gs ≡ false → node_crowded fs gs ≡ false → primes_differ fs gs ≡ true → 20 ≡ join_refusal fs gs
  unfolding join_refusal lowest
  refused-primes m c d = rw (m, c, d) refl

  pub refused_none : name_missing fs gs ≡ false → node_crowded fs gs ≡ false → primes_differ fs gs ≡ false → 0 ≡ join_refusal fs gs
  unfolding join_refusal lowest
  refused_none m c d = rw (m, c, d) refl

  -- and back
  pub refuses-nothing : join_refusal fs gs ≡ 0 → (name_missing fs gs ≡ false) × (node_crowded fs gs ≡ false) × (primes_differ fs gs ≡ false)
  refuses-nothing none = pick (name_missing fs gs) refl (node_crowded fs gs) refl (primes_differ fs gs) refl
    where
      pick : (m : Bool) → name_missing fs gs ≡ m → (c : Bool) → node_crowded fs gs ≡ c → (d : Bool) → primes_differ fs gs ≡ d
          → (name_missing fs gs ≡ false) × (node_crowded fs gs ≡ false) × (primes_differ fs gs ≡ false)
      pick true p c q d r = absurd (let k = refused-missing p in omega arith)
      pick false p true q d r = absurd (let k = refused-crowded p q in omega arith)
      pick false p false q true r = absurd (let k = refused-primes p q r in omega arith)
      pick false p false q false r = (p, q, r)
