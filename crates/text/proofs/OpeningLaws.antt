-- Laws of the opening reader: its lines, its entries, what a line tells, and what is given.
use Prim.Native.Nat.{ℕ, ◌<◌, suc, ◌+◌, ◌≤◌, ◌-◌, zero}
use native.Mathlib.Omega.{arith}
use mathlib.Core.Bool.{Bool, cond, true, false, ◌&&◌, ◌||◌}
use mathlib.Core.List.{List, ◌∷◌, [], ◌++◌, append-nil}
use mathlib.Core.Path.{◌≡◌, refl, ap, sym, ◌∙◌}
use lib.Dec.{eqb}
use lib.ListN.{length, take, drop, length-drop, get_or, length-append, replicate, length-replicate, set, length-set}
use lib.Seq.{drop-drop, drop-cons, append_snoc, get_or-set_same, get_or-set_other}
use borrow.Author.Tests.{eq-eqb, eqb-true}
use Rattle.std.specs.List.{position_or_len}
use Rattle.std.proofs.lemmas.Bool.Decides.{nat_tests}
use Rattle.rows.proofs.Bools.{clash}
use Rattle.rows.specs.Lists.{all, any}
use Rattle.rows.proofs.Lists.{same-everywhere}
use Rattle.text.specs.Opening.{lines_of, with_byte, Entries, entries_from, add_entry, operation_entry, subdirectory_entry, entry_ranged, Form, node_form, gives_node, gives_process, process_form}
use Rattle.text.specs.vocabulary.Openings.{first_line, entries_read, entry_read, Gives}
use Rattle.text.specs.vocabulary.Sizes.{NODES}
use Rattle.rows.specs.vocabulary.Sizes.{PROCESSES}
use Rattle.text.specs.declared.EntriesRead.{EntriesRead}
use Rattle.text.specs.declared.Entry.{Entry}
use Rattle.std.specs.Prelude.{Option, Some, None}
use Rattle.text.specs.declared.Given.{Given}
use Rattle.text.specs.declared.Read.{Read}
use Rattle.text.specs.Patterns.{form}
use Rattle.text.proofs.GroupLaws.{all_snoc}

-- ---- lines
-- a text is its first line and the lines after it
first-split : (t : List ℕ) → 0 < length t → lines_of t ≡ take (first_line t) t ∷ lines_of (drop (first_line t) t)
unfolding lines_of with_byte first_line
first-split [] h = absurd (omega arith)
first-split (b ∷ []) h = pick (eqb b 10)
  where
    pick : (x : Bool) → (b ∷ []) ∷ [] ≡ take (cond x 1 (suc 0)) (b ∷ []) ∷ lines_of (drop (cond x 1 (suc 0)) (b ∷ []))
    pick true = refl
    pick false = refl
first-split (b ∷ d ∷ ds) h = let older = first-split (d ∷ ds) (omega arith) in rw older (pick older (eqb b 10))
  where
    k : ℕ
    k = first_line (d ∷ ds)

    pick : lines_of (d ∷ ds) ≡ take k (d ∷ ds) ∷ lines_of (drop k (d ∷ ds)) → (x : Bool)
        → cond x ((b ∷ []) ∷ take k (d ∷ ds) ∷ lines_of (drop k (d ∷ ds))) ((b ∷ take k (d ∷ ds)) ∷ lines_of (drop k (d ∷ ds)))
        ≡ take (cond x 1 (suc k)) (b ∷ d ∷ ds) ∷ lines_of (drop (cond x 1 (suc k)) (b ∷ d ∷ ds))
    pick older true = ap (λ (ls : List (List ℕ)). (b ∷ []) ∷ ls) (sym older)
    pick older false = refl

module _ (t : List ℕ) (i : ℕ) where
  pub line-split : i < length t → lines_of (drop i t) ≡ take (first_line (drop i t)) (drop i t) ∷ lines_of (drop (i + first_line (drop i t)) t)
  line-split h =
      let m = length-drop i t in
      first-split (drop i t) (omega arith) ∙ (rw (drop-drop (first_line (drop i t)) i t))

  pub line-some : i < length t → 0 < first_line (drop i t)
  unfolding first_line
  line-some h = rw (drop-cons t i 0 h) (pick (eqb (get_or t i 0) 10))
    where
      pick : (b : Bool) → 0 < cond b 1 (suc (first_line (drop (suc i) t)))
      pick true = omega arith
      pick false = omega arith

-- the bytes before the first line feed, as std counts them: with it they are the first line
pub line-fed : (l : List ℕ) → position_or_len (λ b. eqb b 10) l < length l → first_line l ≡ suc (position_or_len (λ b. eqb b 10) l)
unfolding first_line
line-fed [] h = grind arith
line-fed (b ∷ l) h = grind (arith, nat_tests, line-fed l)

pub line-unfed : (l : List ℕ) → length l ≤ position_or_len (λ b. eqb b 10) l → first_line l ≡ position_or_len (λ b. eqb b 10) l
unfolding first_line
line-unfed [] h = refl
line-unfed (b ∷ l) h = grind (arith, nat_tests, line-unfed l)

-- ---- entries: those read, then those left
abbrev entries_joined : Entries → Entries → Entries
entries_joined g h = record { entries = g.entries ++ h.entries; next = h.next }

pub record Entering (n : ℕ) (s : List ℕ) (at : ℕ) (r : EntriesRead) : Type 0 where
  pub read : Entries
  pub told : r ≡ entries_read read
  pub whole : entries_from n s at ≡ entries_joined read (entries_from (n - length read.entries) s read.next)

-- the entries from a position on, by what is read at it
by_read : ℕ → List ℕ → ℕ → Option (Entry × ℕ) → Entries
by_read n s i None = record { entries = []; next = i }
by_read n s i (Some x) = add_entry x.0 (entries_from n s x.1)

from_read : (n : ℕ) (s : List ℕ) (i : ℕ) → entries_from (suc n) s i ≡ by_read n s i (entry_read s i)
unfolding entries_from entry_read by_read
from_read n s i = pick o.good d.good
  where
    o : Read
    o = form s i " (op # # #)"

    d : Read
    d = form s i " (dir # #)"

    pick : (a b : Bool) → cond (a || b) (add_entry (cond a (operation_entry o) (subdirectory_entry d)) (entries_from n s (cond a o.next d.next))) (record { entries = []; next = i })
        ≡ by_read n s i (cond a (Some (operation_entry o, o.next)) (cond b (Some (subdirectory_entry d, d.next)) None))
    pick true b = refl
    pick false true = refl
    pick false false = refl

pub from_more : (n : ℕ) (s : List ℕ) (i : ℕ) (e : Entry) (next : ℕ) → entry_read s i ≡ Some (e, next) → entries_from (suc n) s i ≡ add_entry e (entries_from n s next)
unfolding by_read
from_more n s i e next is = from_read n s i ∙ ap (by_read n s i) is

pub from-none : (n : ℕ) (s : List ℕ) (i : ℕ) → entry_read s i ≡ None → entries_from n s i ≡ record { entries = []; next = i }
unfolding entries_from by_read
from-none zero s i none = refl
from-none (suc n) s i none = from_read n s i ∙ ap (by_read n s i) none

module _ (n : ℕ) (s : List ℕ) (at : ℕ) where
  pub entering-starts : (r : EntriesRead) → r ≡ entries_read (record { entries = []; next = at }) → Entering n s at r
  entering-starts r e = let q : n - 0 ≡ n = omega arith in record { read = record { entries = []; next = at }; told = e; whole = rw q }

  module _ (r : EntriesRead) (k : Entering n s at r) where
    next-same : r.next ≡ k.read.next
    unfolding entries_read
    next-same = ap (λ (x : EntriesRead). x.next) k.told

    count_same : r.count ≡ length k.read.entries
    unfolding entries_read
    count_same = ap (λ (x : EntriesRead). x.count) k.told

    -- one more entry was read
    pub entering-goes-on : (x : Entry) (next : ℕ) → entry_read s r.next ≡ Some (x, next) → r.count < n
        → Entering n s at (record { next = next; count = r.count + 1; ranged = r.ranged && entry_ranged x })
    unfolding add_entry entries_read
    entering-goes-on x next is h =
        let es = k.read.entries in
        let c = count_same in
        let m : length (es ++ (x ∷ [])) ≡ length es + 1 = length-append es (x ∷ []) in
        let q : n - length es ≡ suc (n - length (es ++ (x ∷ []))) = omega arith in
        let there : entry_read s k.read.next ≡ Some (x, next) = ap (entry_read s) (sym next-same) ∙ is in
        let counted : r.count + 1 ≡ length (es ++ (x ∷ [])) = omega arith in
        let ranged : r.ranged && entry_ranged x ≡ all entry_ranged (es ++ (x ∷ [])) =
        ap (λ (y : EntriesRead). y.ranged && entry_ranged x) k.told ∙ sym (all_snoc entry_ranged es x) in
        record {
          read = record { entries = es ++ (x ∷ []); next = next };
          told = λ j. record { next = next; count = counted j; ranged = ranged j };
          whole = k.whole ∙ (rw (q, from_more (n - length (es ++ (x ∷ []))) s k.read.next x next there, append_snoc));
        }

    -- no entry follows; no more are read
    pub entering-stops : entry_read s r.next ≡ None → r ≡ entries_read (entries_from n s at)
    entering-stops none =
        let there : entry_read s k.read.next ≡ None = ap (entry_read s) (sym next-same) ∙ none in
        k.told ∙ (rw (k.whole, from-none (n - length k.read.entries) s k.read.next there, append-nil))

    pub entering-ends : n ≤ r.count → r ≡ entries_read (entries_from n s at)
    unfolding entries_from
    entering-ends h =
        let c = count_same in
        let q : n - length k.read.entries ≡ 0 = omega arith in
        k.told ∙ (rw (k.whole, q, append-nil))

-- ---- what is given
pub gives_none : Gives (record { nodes = replicate (suc NODES) false; processes = replicate (suc PROCESSES) false }) []
unfolding any
gives_none =
    record {
      many-nodes = length-replicate (suc NODES) false;
      many-processes = length-replicate (suc PROCESSES) false;
      node = same-everywhere false (suc NODES);
      process = same-everywhere false (suc PROCESSES);
    }

set-at-one : (l : List Bool) (n m : ℕ) → n < length l → get_or (set l n true) m false ≡ eqb n m || get_or l m false
set-at-one l n m h = pick (eqb n m) refl
  where
    pick : (b : Bool) → eqb n m ≡ b → get_or (set l n true) m false ≡ b || get_or l m false
    pick true e = let same : n ≡ m = eqb-true n m e in rw (← same) (get_or-set_same l n true false h)
    pick false e = get_or-set_other l n m true false (λ same. clash (eq-eqb n m (sym same)) e)

module _ (g : Given) (fs : List Form) (k : Gives g fs) where
  pub gives-node : (n : ℕ) (es : List Entry) → n ≤ NODES → Gives (record { nodes = set g.nodes n true; processes = g.processes }) (node_form n es ∷ fs)
  unfolding any gives_node gives_process
  gives-node n es h =
      let m = k.many-nodes in
      record {
        many-nodes = length-set g.nodes n true ∙ m;
        many-processes = k.many-processes;
        node = λ i. set-at-one g.nodes n i (omega arith) ∙ ap (λ (b : Bool). eqb n i || b) (k.node i);
        process = k.process;
      }

  pub gives-process : (p n : ℕ) → p ≤ PROCESSES → Gives (record { nodes = g.nodes; processes = set g.processes p true }) (process_form p n ∷ fs)
  unfolding any gives_node gives_process
  gives-process p n h =
      let m = k.many-processes in
      record {
        many-nodes = k.many-nodes;
        many-processes = length-set g.processes p true ∙ m;
        node = k.node;
        process = λ i. set-at-one g.processes p i (omega arith) ∙ ap (λ (b : Bool). eqb p i || b) (k.process i);
      }
