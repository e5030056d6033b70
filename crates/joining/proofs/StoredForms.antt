-- A form stored in a directory: the words of its node or process, and all others as they were.
use Prim.Native.Nat.{ℕ, ◌+◌, ◌-◌, ◌≤◌, ◌<◌, min}
use native.Mathlib.Omega.{arith}
use native.Mathlib.Decide.{dec_lt, ℕ_discrete}
use mathlib.Core.Bool.{Bool, true, false, cond}
use mathlib.Core.List.{List, [], ◌∷◌, ◌++◌, map, append_assoc}
use mathlib.Core.Path.{◌≡◌, refl, sym, ap, subst, ◌∙◌}
use lib.Dec.{eqb}
use lib.ListN.{length, get_or, set, take, drop, replicate, length-replicate, length-append, length-map, length-drop, length-take, length-set, get_or-append}
use lib.Seq.{get_or-take, get_or-drop, get_or-append-add, get_or-set_same, get_or-set_other, ext_get_or, length-take-le, take_at, drop_at}
use borrow.Author.Tests.{eqb-true, eqb-false, eq-eqb, ne_eqb}
use Rattle.rows.specs.Lists.{any, all, each, some}
use Rattle.rows.specs.Limits.{nodes, processes, most_entries}
use Rattle.rows.specs.vocabulary.Sizes.{PROCESSES}
use Rattle.rows.proofs.Bools.{and_i, or_l, eqb-self}
use Rattle.rows.proofs.Lists.{same-everywhere}
use Rattle.rows.proofs.Places.{between-range}
use Rattle.text.specs.Opening.{Form, node_form, process_form, entries_in, gives_node, form_refusal, prime_of}
use Rattle.text.specs.vocabulary.Openings.{entries_here}
use Rattle.text.specs.vocabulary.Sizes.{NODES, GROUPS}
use Rattle.text.proofs.OpeningForms.{entry_shaped, entries-shaped, form_passed, node-passed, process-passed}
use Rattle.joining.specs.Joins.{node_in, entries_of}
use Rattle.joining.specs.vocabulary.Directories.{DIRECTORY, ENTRIES, PRIMES, node_at, codes_at, entry_code, NodeHeld, Held}
use Rattle.joining.specs.vocabulary.Reading.{EntriesFit, StoresCodes}

-- ---- words that are the same but for those from one position up to another
pub record Outside (w u : List ℕ) (lo hi : ℕ) : Type 0 where
  pub long : length u ≡ length w
  pub below : (j : ℕ) → j < lo → get_or u j 0 ≡ get_or w j 0
  pub above : (j : ℕ) → hi ≤ j → get_or u j 0 ≡ get_or w j 0

set-outside : (w : List ℕ) (i v lo hi : ℕ) → lo ≤ i → i < hi → Outside w (set w i v) lo hi
set-outside w i v lo hi a b =
    record {
      long = length-set w i v;
      below = λ j h. get_or-set_other w i j v 0 (λ e. omega arith);
      above = λ j h. get_or-set_other w i j v 0 (λ e. omega arith);
    }

then-outside : (w u v : List ℕ) (lo hi : ℕ) → Outside w u lo hi → Outside u v lo hi → Outside w v lo hi
then-outside w u v lo hi p q =
    record {
      long = q.long ∙ p.long;
      below = λ j h. q.below j h ∙ p.below j h;
      above = λ j h. q.above j h ∙ p.above j h;
    }

-- codes put in the place of so many words
module _ (w cs : List ℕ) (at n : ℕ) (size : length cs ≡ n) (room : at + n ≤ length w) where
  put : List ℕ
  put = take at w ++ (cs ++ drop (at + n) w)

  before-long : length (take at w) ≡ at
  before-long = length-take-le at w (omega arith)

  front_long : length (take at w ++ cs) ≡ at + n
  front_long = length-append (take at w) cs ∙ (λ i. before-long i + size i)

  front-first : put ≡ (take at w ++ cs) ++ drop (at + n) w
  unfolding put
  front-first = sym (append_assoc (take at w) cs (drop (at + n) w))

  put-outside : Outside w put at (at + n)
  unfolding put
  put-outside =
      record {
        long = let l = length-append (take at w ++ cs) (drop (at + n) w) in let d = length-drop (at + n) w in let f = front_long in ap length front-first ∙ (omega arith);
        below = λ j h. get_or-append (take at w) (cs ++ drop (at + n) w) 0 j (let b = before-long in omega arith) ∙ get_or-take at w j 0 h;
        above = λ j h.
            let q : length (take at w ++ cs) + (j - (at + n)) ≡ j = (let f = front_long in omega arith) in
            let r : at + n + (j - (at + n)) ≡ j = omega arith in
            ap (λ (l : List ℕ). get_or l j 0) front-first
            ∙ ap (λ (k : ℕ). get_or ((take at w ++ cs) ++ drop (at + n) w) k 0) (sym q)
            ∙ get_or-append-add (take at w ++ cs) (drop (at + n) w) (j - (at + n)) 0
            ∙ get_or-drop (at + n) w (j - (at + n)) 0
            ∙ ap (λ (k : ℕ). get_or w k 0) r;
      }

  put-there : take n (drop at put) ≡ cs
  unfolding put
  put-there = ap (take n) (drop_at (take at w) (cs ++ drop (at + n) w) at before-long) ∙ take_at cs (drop (at + n) w) n size

-- a part outside is the same
part_same : (w u : List ℕ) (lo hi : ℕ) → Outside w u lo hi → (a k : ℕ) → ((j : ℕ) → a ≤ j → j < a + k → (j < lo → ⊥) → hi ≤ j) → take k (drop a u) ≡ take k (drop a w)
part_same w u lo hi o a k out =
    ext_get_or 0 (take k (drop a u)) (take k (drop a w)) (length-take k (drop a u) ∙ ap (λ (m : ℕ). min k m) same_left ∙ sym (length-take k (drop a w))) each_same
  where
    same_left : length (drop a u) ≡ length (drop a w)
    same_left = length-drop a u ∙ ap (λ (m : ℕ). m - a) o.long ∙ sym (length-drop a w)

    at_one : (j : ℕ) → a ≤ j → j < a + k → get_or u j 0 ≡ get_or w j 0
    at_one j low high = elim (dec_lt j lo) [ yes h ↦ o.below j h | no h ↦ o.above j (out j low high h) ]

    each_same : (i : ℕ) → i < length (take k (drop a u)) → get_or (take k (drop a u)) i 0 ≡ get_or (take k (drop a w)) i 0
    each_same i h =
        let few : i < k = (let m = length-take k (drop a u) in omega arith) in
        get_or-take k (drop a u) i 0 few ∙ get_or-drop a u i 0 ∙ at_one (a + i) (omega arith) (omega arith) ∙ sym (get_or-take k (drop a w) i 0 few ∙ get_or-drop a w i 0)

-- ---- nothing is held
none-held : Held (replicate DIRECTORY 0) []
unfolding node_in any entries_of prime_of some each
none-held =
    record {
      long = length-replicate {A = ℕ} DIRECTORY 0;
      passed = refl;
      node = λ n h. record { given = ap (λ (x : ℕ). some x) (same-everywhere {A = ℕ} 0 DIRECTORY (node_at n)); few = rw (same-everywhere {A = ℕ} 0 DIRECTORY (node_at n + 1)) (omega arith); codes = rw (same-everywhere {A = ℕ} 0 DIRECTORY (node_at n + 1)) refl };
      prime = λ p h. same-everywhere {A = ℕ} 0 DIRECTORY (PRIMES + p);
    }

pub cleared-held : (w u : List ℕ) → length w ≡ DIRECTORY → u ≡ replicate (length w) 0 → Held u []
cleared-held w u long is = subst (λ (x : List ℕ). Held x []) (sym (is ∙ ap (λ (n : ℕ). replicate n 0) long)) none-held

-- ---- a node is stored
node-formed : (s : List ℕ) (n from : ℕ) (fs : List Form) → form_refusal fs (node_form n (entries_here s from)) ≡ 0 → form_passed (node_form n (entries_here s from)) fs ≡ true
unfolding form_passed entries_in
node-formed s n from fs taken =
    and_i (eqb (form_refusal fs (node_form n (entries_here s from))) 0) (all entry_shaped (entries_here s from)) (eq-eqb (form_refusal fs (node_form n (entries_here s from))) 0 taken)
    (entries-shaped GROUPS s from)

-- it is in range, and so are its entries
pub node-takes : (s : List ℕ) (n from : ℕ) (fs : List Form) → form_refusal fs (node_form n (entries_here s from)) ≡ 0 → (n ≤ NODES) × EntriesFit s from
unfolding nodes most_entries
node-takes s n from fs taken =
    let k = node-passed fs n (entries_here s from) (node-formed s n from fs taken) in
    let (lo, hi) = between-range 1 32 n k.node in
    (omega arith, (k.few, k.ranged))

module _ (w s u : List ℕ) (n from count : ℕ) (fs : List Form) (h : Held w fs) (taken : form_refusal fs (node_form n (entries_here s from)) ≡ 0)
    (stores : StoresCodes w (codes_at n) s from u count) where
  cs : List ℕ
  cs = map entry_code (entries_here s from)

  in-range : n ≤ NODES
  in-range = (node-takes s n from fs taken).0

  few : count ≤ ENTRIES
  few = let k = (node-takes s n from fs taken).1.0 in let c = stores.0 in omega arith

  size : length cs ≡ count
  unfolding cs
  size = length-map (entries_here s from) entry_code ∙ sym stores.0

  after : List ℕ
  after = set (set u (node_at n) 1) (node_at n + 1) count

  u-long : length u ≡ DIRECTORY
  unfolding cs put
  u-long = let k = in-range in let m = few in let l = h.long in ap length stores.1 ∙ (put-outside w cs (codes_at n) count size (omega arith)).long ∙ h.long

  -- the words of the node
  after-given : get_or after (node_at n) 0 ≡ 1
  unfolding after
  after-given =
      let k = in-range in
      let l = u-long in
      get_or-set_other (set u (node_at n) 1) (node_at n + 1) (node_at n) count 0 (λ e. omega arith) ∙ get_or-set_same u (node_at n) 1 0 (omega arith)

  after-count : get_or after (node_at n + 1) 0 ≡ count
  unfolding after
  after-count =
      let k = in-range in
      let l = length-set u (node_at n) 1 ∙ u-long in
      get_or-set_same (set u (node_at n) 1) (node_at n + 1) count 0 (omega arith)

  -- all others are as they were
  marks-outside : Outside u after (node_at n) (codes_at n)
  unfolding after
  marks-outside =
      then-outside u (set u (node_at n) 1) (set (set u (node_at n) 1) (node_at n + 1) count) (node_at n) (codes_at n) (set-outside u (node_at n) 1 (node_at n) (codes_at n) (omega arith) (omega arith))
      (set-outside (set u (node_at n) 1) (node_at n + 1) count (node_at n) (codes_at n) (omega arith) (omega arith))

  after-codes : take count (drop (codes_at n) after) ≡ cs
  unfolding cs put
  after-codes =
      let k = in-range in
      let m = few in
      let l = h.long in
      part_same u after (node_at n) (codes_at n) marks-outside (codes_at n) count (λ j low high up. low)
      ∙ ap (λ (x : List ℕ). take count (drop (codes_at n) x)) stores.1 ∙ put-there w cs (codes_at n) count size (omega arith)

  wider : (x y : List ℕ) (lo hi low high : ℕ) → low ≤ lo → hi ≤ high → Outside x y lo hi → Outside x y low high
  wider x y lo hi low high a b o = record { long = o.long; below = λ j q. o.below j (omega arith); above = λ j q. o.above j (omega arith) }

  all-outside : Outside w after (node_at n) (codes_at n + ENTRIES)
  unfolding cs put
  all-outside =
      let k = in-range in
      let m = few in
      let l = h.long in
      then-outside w u after (node_at n) (codes_at n + ENTRIES)
      (wider w u (codes_at n) (codes_at n + count) (node_at n) (codes_at n + ENTRIES) (omega arith) (omega arith)
      (subst (λ (x : List ℕ). Outside w x (codes_at n) (codes_at n + count)) (sym stores.1) (put-outside w cs (codes_at n) count size (omega arith))))
      (wider u after (node_at n) (codes_at n) (node_at n) (codes_at n + ENTRIES) (omega arith) (omega arith) marks-outside)

  here : NodeHeld after (node_form n (entries_here s from) ∷ fs) n
  unfolding node_in any gives_node entries_of some cs
  here =
      let same = eqb-self n in
      record {
        given = ap (λ (x : ℕ). some x) after-given ∙ sym (or_l (eqb n n) (any (gives_node n) fs) same);
        few = rw after-count few;
        codes = ap (λ (k : ℕ). take k (drop (codes_at n) after)) after-count ∙ after-codes ∙ (rw same refl);
      }

  elsewhere : (m : ℕ) → m ≤ NODES → (n ≡ m → ⊥) → NodeHeld after (node_form n (entries_here s from) ∷ fs) m
  unfolding node_in any gives_node entries_of
  elsewhere m small other =
      let k = h.node m small in
      let q = in-range in
      let not-here = ne_eqb n m other in
      let o = all-outside in
      let mark : get_or after (node_at m) 0 ≡ get_or w (node_at m) 0 = elim (dec_lt m n) [ yes l ↦ o.below (node_at m) (omega arith) | no l ↦ o.above (node_at m) (omega arith) ] in
      let many : get_or after (node_at m + 1) 0 ≡ get_or w (node_at m + 1) 0 = elim (dec_lt m n) [ yes l ↦ o.below (node_at m + 1) (omega arith) | no l ↦ o.above (node_at m + 1) (omega arith) ] in
      let part : take (get_or w (node_at m + 1) 0) (drop (codes_at m) after) ≡ take (get_or w (node_at m + 1) 0) (drop (codes_at m) w) =
      part_same w after (node_at n) (codes_at n + ENTRIES) o (codes_at m) (get_or w (node_at m + 1) 0) (λ j low high up. let f = k.few in elim (dec_lt m n) [ yes l ↦ absurd (up (omega arith)) | no l ↦ omega arith ]) in
      record {
        given = ap (λ (x : ℕ). some x) mark ∙ k.given ∙ (rw not-here refl);
        few = rw many k.few;
        codes = ap (λ (x : ℕ). take x (drop (codes_at m) after)) many ∙ part ∙ k.codes ∙ (rw not-here refl);
      }

  pub node-held : Held (set (set u (node_at n) 1) (node_at n + 1) count) (node_form n (entries_here s from) ∷ fs)
  unfolding each prime_of after
  node-held =
      let q = in-range in
      record {
        long = all-outside.long ∙ h.long;
        passed = and_i (form_passed (node_form n (entries_here s from)) fs) (each form_passed fs) (node-formed s n from fs taken) h.passed;
        node = λ m small. elim (ℕ_discrete n m) [ yes e ↦ subst (NodeHeld after (node_form n (entries_here s from) ∷ fs)) e here | no other ↦ elsewhere m small other ];
        prime = λ p small. all-outside.above (PRIMES + p) (omega arith) ∙ h.prime p small;
      }

-- ---- a process is stored
module _ (w : List ℕ) (p n : ℕ) (fs : List Form) (h : Held w fs) (taken : form_refusal fs (process_form p n) ≡ 0) where
  process-now : form_passed (process_form p n) fs ≡ true
  unfolding form_passed entries_in all
  process-now = and_i (eqb (form_refusal fs (process_form p n)) 0) true (eq-eqb (form_refusal fs (process_form p n)) 0 taken) refl

  pub process-small : p ≤ PROCESSES
  unfolding processes
  process-small = let (lo, hi) = between-range 1 64 p (process-passed fs p n process-now).process in omega arith

  set-prime : Outside w (set w (PRIMES + p) n) (PRIMES + p) (PRIMES + p + 1)
  set-prime = set-outside w (PRIMES + p) n (PRIMES + p) (PRIMES + p + 1) (omega arith) (omega arith)

  node-same : (m : ℕ) → m ≤ NODES → NodeHeld (set w (PRIMES + p) n) (process_form p n ∷ fs) m
  unfolding node_in any gives_node entries_of
  node-same m small =
      let k = h.node m small in
      let f = k.few in
      let mark = set-prime.below (node_at m) (omega arith) in
      let many = set-prime.below (node_at m + 1) (omega arith) in
      let part = part_same w (set w (PRIMES + p) n) (PRIMES + p) (PRIMES + p + 1) set-prime (codes_at m) (get_or w (node_at m + 1) 0) (λ j low high up. absurd (up (omega arith))) in
      record {
        given = ap (λ (x : ℕ). some x) mark ∙ k.given;
        few = rw many f;
        codes = ap (λ (x : ℕ). take x (drop (codes_at m) (set w (PRIMES + p) n))) many ∙ part ∙ k.codes;
      }

  prime-now : (q : ℕ) → q ≤ PROCESSES → get_or (set w (PRIMES + p) n) (PRIMES + q) 0 ≡ prime_of (process_form p n ∷ fs) q
  unfolding prime_of
  prime-now q small = pick (eqb p q) refl
    where
      pick : (b : Bool) → eqb p q ≡ b → get_or (set w (PRIMES + p) n) (PRIMES + q) 0 ≡ cond b n (prime_of fs q)
      pick true e =
          let same = eqb-true p q e in
          let k = process-small in
          let l = h.long in
          ap (λ (x : ℕ). get_or (set w (PRIMES + p) n) (PRIMES + x) 0) (sym same) ∙ get_or-set_same w (PRIMES + p) n 0 (omega arith)
      pick false e = let other = eqb-false p q e in get_or-set_other w (PRIMES + p) (PRIMES + q) n 0 (λ s. other (omega arith)) ∙ h.prime q small

  pub process-held : Held (set w (PRIMES + p) n) (process_form p n ∷ fs)
  unfolding each
  process-held =
      record {
        long = set-prime.long ∙ h.long;
        passed = and_i (form_passed (process_form p n) fs) (each form_passed fs) process-now h.passed;
        node = node-same;
        prime = prime-now;
      }
