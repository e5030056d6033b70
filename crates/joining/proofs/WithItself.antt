-- A text joined with itself: it is read twice, nothing of it is refused, and its forms are written in order.
use Prim.Native.Nat.{ℕ, suc}
use native.Mathlib.Omega.{arith}
use mathlib.Core.Bool.{Bool, true, false, not, cond, ◌&&◌, ◌||◌}
use mathlib.Core.List.{List, [], ◌∷◌, ◌++◌, map, append_assoc, append-nil}
use mathlib.Core.Path.{◌≡◌, refl, sym, ap, subst, ◌∙◌}
use lib.Dec.{eqb, ltb}
use lib.ListN.{length}
use borrow.Author.Tests.{eqb-true, eqb-false, le-ltb, eq-eqb}
use Rattle.rows.specs.Lists.{filter, any, all, each}
use Rattle.rows.specs.Limits.{nodes, processes, most_entries}
use Rattle.rows.specs.Codes.{is_operation}
use Rattle.rows.proofs.Bools.{and_l, and_r, and_i, and-rf, or_l, or_r, eqb-self, all-eq, any_append}
use Rattle.text.specs.declared.Entry.{Entry}
use Rattle.text.specs.Opening.{Form, node_form, process_form, Line, last_line, form_line, bad_line, FirstPass, read_to, stopped_by, opens, refused_at, with_byte, lines_of, line_of, gives_node, gives_process, prime_of, form_refusal, first_pass, entry_listed, form_listed, missing_at, second_pass, opening_of}
use Rattle.text.proofs.Lines.{plain, plain-append, plain_byte, plain-one, line-ends}
use Rattle.text.proofs.OpeningForms.{form_passed, Good, opening-good, node-passed, process-passed}
use Rattle.text.proofs.PassLaws.{by_line, by-line, form-taken, form-refused}
use Rattle.joining.specs.Joins.{node_in, process_in, entries_of, same_entry, with_all_new, entries_joined, prime_joined, numbers_from, nodes_joined, processes_joined, forms_joined, name_missing, node_crowded, primes_differ, join_refusal, joined_by, after_second, after_first, join_of}
use Rattle.joining.specs.Written.{text_of, join_text, join}
use Rattle.joining.specs.Opened.{giving_each, in_order}
use Rattle.joining.proofs.FormFacts.{first-passed, older-passed, entries-good}
use Rattle.joining.proofs.FedTexts.{plain-bad}
use Rattle.joining.proofs.ListedNames.{node-either, process-either, all-forms, refused_none}
use Rattle.joining.proofs.NewEntries.{new-old}
use Rattle.joining.proofs.OpenedTimes.{same_self}

-- ---- a pass that read all forms
-- the forms, and the lines after `(open)`
unfoldable Reads : FirstPass → List Form → List (List ℕ) → Type 0
Reads (read_to fs rest) gs ls = (fs ≡ gs) × (rest ≡ ls)
Reads (stopped_by k n) gs ls = ⊥

reads-is : (x : FirstPass) (gs : List Form) (ls : List (List ℕ)) → x ≡ read_to gs ls → Reads x gs ls
unfolding Reads
reads-is x gs ls e = subst (λ (y : FirstPass). Reads y gs ls) (sym e) (refl, refl)

-- no byte, no line
no_lines : (t : List ℕ) → lines_of t ≡ [] → t ≡ []
unfolding lines_of with_byte
no_lines [] e = refl
no_lines (b ∷ t) e = absurd (some (lines_of t) e)
  where
    some : (ls : List (List ℕ)) → with_byte b ls ≡ [] → ⊥
    some [] q = let n = ap length q in omega arith
    some (l ∷ ls) q = pick (eqb b 10) q
      where
        pick : (c : Bool) → cond c ((b ∷ []) ∷ l ∷ ls) ((b ∷ l) ∷ ls) ≡ [] → ⊥
        pick true q = let n = ap length q in omega arith
        pick false q = let n = ap length q in omega arith

-- ---- what follows a text that ends with its `(open)` is what is left
module _ (gs : List Form) (y : List ℕ) where
  Goes : List ℕ → List ℕ → List Form → ℕ → Type 0
  Goes l t fs n = plain l ≡ true → first_pass fs n (lines_of (l ++ t)) ≡ read_to gs [] → first_pass fs n (lines_of (l ++ (t ++ y))) ≡ read_to gs (lines_of y)

  -- a line begun, and nothing more
  ends-bad : (l : List ℕ) (fs : List Form) (n : ℕ) → plain l ≡ true → first_pass fs n (lines_of l) ≡ read_to gs [] → ⊥
  unfolding lines_of first_pass by_line Reads
  ends-bad [] fs n p e = reads-is (stopped_by 2 n) gs [] e
  ends-bad (b ∷ l) fs n p e =
      reads-is (stopped_by 2 n) gs []
      (sym (ap (first_pass fs n) (plain-one (b ∷ l) p (omega arith)) ∙ by-line fs n (b ∷ l) [] ∙ ap (by_line fs n []) (plain-bad (b ∷ l) p)) ∙ e)

  -- a line that ends
  line-goes : (l t : List ℕ) (fs : List Form) (n : ℕ) → ((f : Form) → Goes [] t (f ∷ fs) (suc n)) → Goes l (10 ∷ t) fs n
  unfolding Goes by_line Reads plain all lines_of
  line-goes l t fs n next p e =
      ap (first_pass fs n) (line-ends l (t ++ y) p) ∙ by-line fs n s (lines_of (t ++ y)) ∙ pick (line_of s) (sym (ap (first_pass fs n) (line-ends l t p) ∙ by-line fs n s (lines_of t)) ∙ e)
    where
      s : List ℕ
      s = l ++ (10 ∷ [])

      pick : (x : Line) → by_line fs n (lines_of t) x ≡ read_to gs [] → by_line fs n (lines_of (t ++ y)) x ≡ read_to gs (lines_of y)
      pick last_line q =
          let k = reads-is (read_to fs (lines_of t)) gs [] q in
          let none = no_lines t k.1 in
          λ i. read_to (k.0 i) (lines_of (none i ++ y))
      pick bad_line q = absurd (reads-is (stopped_by 2 n) gs [] q)
      pick (form_line f) q = taken (eqb (form_refusal fs f) 0) refl
        where
          taken : (b : Bool) → eqb (form_refusal fs f) 0 ≡ b → by_line fs n (lines_of (t ++ y)) (form_line f) ≡ read_to gs (lines_of y)
          taken true c =
              let z = eqb-true (form_refusal fs f) 0 c in
              form-taken fs n (lines_of (t ++ y)) f z ∙ next f refl (sym (form-taken fs n (lines_of t) f z) ∙ q)
          taken false c =
              let z = eqb-false (form_refusal fs f) 0 c in
              absurd (reads-is (stopped_by (form_refusal fs f) n) gs [] (sym (form-refused fs n (lines_of t) f z) ∙ q))

  goes-on : (t l : List ℕ) (fs : List Form) (n : ℕ) → Goes l t fs n
  unfolding Goes
  goes-on [] l fs n p e = absurd (ends-bad l fs n p (ap (λ (x : List ℕ). first_pass fs n (lines_of x)) (sym (append-nil l)) ∙ e))
  goes-on (b ∷ t) l fs n p e = pick (eqb b 10) refl (λ f. goes-on t [] (f ∷ fs) (suc n)) (goes-on t (l ++ (b ∷ [])) fs n)
    where
      pick : (c : Bool) → eqb b 10 ≡ c → ((f : Form) → Goes [] t (f ∷ fs) (suc n)) → Goes (l ++ (b ∷ [])) t fs n
          → first_pass fs n (lines_of (l ++ ((b ∷ t) ++ y))) ≡ read_to gs (lines_of y)
      pick true q next later =
          let feed = eqb-true b 10 q in
          subst (λ (d : ℕ). Goes l (d ∷ t) fs n) (sym feed) (line-goes l t fs n next) p e
      pick false q next later =
          ap (λ (x : List ℕ). first_pass fs n (lines_of x)) (sym (append_assoc l (b ∷ []) (t ++ y)))
          ∙ later (plain-append l (b ∷ []) p (plain_byte b (ap not q))) (ap (λ (x : List ℕ). first_pass fs n (lines_of x)) (append_assoc l (b ∷ []) t) ∙ e)

-- ---- nothing of a text and itself is refused
-- entries that are there are not added again
all_old : (w xs : List Entry) → all (λ x. any (same_entry x) w) xs ≡ true → with_all_new same_entry w xs ≡ w
unfolding with_all_new all
all_old w [] h = refl
all_old w (x ∷ xs) h =
    let here = new-old same_entry w x (and_l (any (same_entry x) w) (all (λ x. any (same_entry x) w) xs) h) in
    ap (λ (v : List Entry). with_all_new same_entry v xs) here ∙ all_old w xs (and_r (any (same_entry x) w) (all (λ x. any (same_entry x) w) xs) h)

own-there : (ys xs : List Entry) → all (λ x. any (same_entry x) (ys ++ xs)) xs ≡ true
unfolding all any
own-there ys [] = refl
own-there ys (x ∷ xs) =
    and_i (any (same_entry x) (ys ++ (x ∷ xs))) _ (found ys)
    (ap (λ (l : List Entry). all (λ x. any (same_entry x) l) xs) (sym (append_assoc ys (x ∷ []) xs)) ∙ own-there (ys ++ (x ∷ [])) xs)
  where
    found : (zs : List Entry) → any (same_entry x) (zs ++ (x ∷ xs)) ≡ true
    found zs = any_append (same_entry x) zs (x ∷ xs) ∙ or_r (any (same_entry x) zs) (any (same_entry x) (x ∷ xs)) (or_l (same_entry x x) (any (same_entry x) xs) (same_self x))

none_any : (f : ℕ → Bool) → ((n : ℕ) → f n ≡ false) → (ns : List ℕ) → any f ns ≡ false
unfolding any
none_any f h [] = refl
none_any f h (n ∷ ns) = rw (h n) (none_any f h ns)

or_self : (b : Bool) → b || b ≡ b
or_self true = refl
or_self false = refl

module _ (fs : List Form) (good : Good fs) where
  entries-itself : (n : ℕ) → entries_joined fs fs n ≡ entries_of fs n
  unfolding entries_joined
  entries-itself n = pick (node_in fs n)
    where
      pick : (b : Bool) → cond b (with_all_new same_entry (entries_of fs n) (entries_of fs n)) (entries_of fs n) ≡ entries_of fs n
      pick true = all_old (entries_of fs n) (entries_of fs n) (own-there [] (entries_of fs n))
      pick false = refl

  prime-itself : (p : ℕ) → prime_joined fs fs p ≡ prime_of fs p
  unfolding prime_joined
  prime-itself p = pick (process_in fs p)
    where
      pick : (b : Bool) → cond b (prime_of fs p) (prime_of fs p) ≡ prime_of fs p
      pick true = refl
      pick false = refl

  entry-itself : (e : Entry) → entry_listed (fs ++ fs) e ≡ entry_listed fs e
  unfolding entry_listed node_in process_in
  entry-itself e = pick (is_operation e.kind)
    where
      pick : (b : Bool) → cond b (process_in (fs ++ fs) e.object) (node_in (fs ++ fs) e.object) ≡ cond b (process_in fs e.object) (node_in fs e.object)
      pick true = process-either fs fs e.object ∙ or_self (process_in fs e.object)
      pick false = node-either fs fs e.object ∙ or_self (node_in fs e.object)

  form-itself : (f : Form) → form_listed (fs ++ fs) f ≡ form_listed fs f
  unfolding form_listed node_in
  form-itself (node_form n es) = all-eq (entry_listed (fs ++ fs)) (entry_listed fs) entry-itself es
  form-itself (process_form p n) = node-either fs fs n ∙ or_self (node_in fs n)

  named-itself : name_missing fs fs ≡ false
  unfolding name_missing
  named-itself =
      let once : all (form_listed (fs ++ fs)) fs ≡ true = all-eq (form_listed (fs ++ fs)) (form_listed fs) form-itself fs ∙ good.listed in
      ap not (all-forms fs fs (form_listed (fs ++ fs)) fs ∙ and_i _ _ once once)

  room-itself : node_crowded fs fs ≡ false
  unfolding node_crowded
  room-itself =
      none_any (λ n. ltb most_entries (length (entries_joined fs fs n)))
      (λ n. ap (λ (es : List Entry). ltb most_entries (length es)) (entries-itself n) ∙ le-ltb most_entries (length (entries_of fs n)) (entries-good fs good.passed n).few)
      (numbers_from 1 nodes)

  primes-itself : primes_differ fs fs ≡ false
  unfolding primes_differ
  primes-itself =
      none_any (λ p. process_in fs p && (process_in fs p && not (eqb (prime_of fs p) (prime_of fs p))))
      (λ p. and-rf (process_in fs p) _ (and-rf (process_in fs p) _ (ap not (eqb-self (prime_of fs p))))) (numbers_from 1 processes)

-- ---- its forms in order
-- a form gives its number alone, and once
one-node : (fs : List Form) → each form_passed fs ≡ true → (n : ℕ) → filter (gives_node n) fs ≡ cond (node_in fs n) (node_form n (entries_of fs n) ∷ []) []
unfolding filter gives_node node_in any entries_of
one-node [] p n = refl
one-node (node_form m es ∷ fs) p n =
    pick (eqb m n) refl (one-node fs (older-passed (node_form m es) fs p) n) (node-passed fs m es (first-passed (node_form m es) fs p)).fresh
  where
    pick : (b : Bool) → eqb m n ≡ b → filter (gives_node n) fs ≡ cond (any (gives_node n) fs) (node_form n (entries_of fs n) ∷ []) [] → any (gives_node m) fs ≡ false
        → cond b (node_form m es ∷ filter (gives_node n) fs) (filter (gives_node n) fs) ≡ cond (b || any (gives_node n) fs) (node_form n (cond b es (entries_of fs n)) ∷ []) []
    pick false q older new = older
    pick true q older new =
        let same = eqb-true m n q in
        let none : filter (gives_node n) fs ≡ [] = older ∙ rw (ap (λ (k : ℕ). any (gives_node k) fs) (sym same) ∙ new) refl in
        λ i. node_form (same i) es ∷ none i
one-node (process_form q m ∷ fs) p n = one-node fs (older-passed (process_form q m) fs p) n

one-process : (fs : List Form) → each form_passed fs ≡ true → (p : ℕ) → filter (gives_process p) fs ≡ cond (process_in fs p) (process_form p (prime_of fs p) ∷ []) []
unfolding filter gives_process process_in any prime_of
one-process [] e p = refl
one-process (node_form m es ∷ fs) e p = one-process fs (older-passed (node_form m es) fs e) p
one-process (process_form r m ∷ fs) e p =
    pick (eqb r p) refl (one-process fs (older-passed (process_form r m) fs e) p) (process-passed fs r m (first-passed (process_form r m) fs e)).fresh
  where
    pick : (b : Bool) → eqb r p ≡ b → filter (gives_process p) fs ≡ cond (any (gives_process p) fs) (process_form p (prime_of fs p) ∷ []) [] → any (gives_process r) fs ≡ false
        → cond b (process_form r m ∷ filter (gives_process p) fs) (filter (gives_process p) fs) ≡ cond (b || any (gives_process p) fs) (process_form p (cond b m (prime_of fs p)) ∷ []) []
    pick false q older new = older
    pick true q older new =
        let same = eqb-true r p q in
        let none : filter (gives_process p) fs ≡ [] = older ∙ rw (ap (λ (k : ℕ). any (gives_process k) fs) (sym same) ∙ new) refl in
        λ i. process_form (same i) m ∷ none i

-- forms made of the numbers that are given are those that give them
in-rising : (gives : ℕ → Form → Bool) (fs : List Form) (given : ℕ → Bool) (make : ℕ → Form) → ((n : ℕ) → filter (gives n) fs ≡ cond (given n) (make n ∷ []) [])
    → (ns : List ℕ) → map make (filter given ns) ≡ giving_each gives ns fs
unfolding filter giving_each
in-rising gives fs given make one [] = refl
in-rising gives fs given make one (n ∷ ns) = pick (given n) ∙ (λ i. sym (one n) i ++ in-rising gives fs given make one ns i)
  where
    pick : (b : Bool) → map make (cond b (n ∷ filter given ns) (filter given ns)) ≡ cond b (make n ∷ []) [] ++ map make (filter given ns)
    pick true = refl
    pick false = refl

forms-itself : (fs : List Form) → Good fs → forms_joined fs fs ≡ in_order fs
unfolding forms_joined nodes_joined processes_joined in_order
forms-itself fs good =
    λ i. in-rising gives_node fs (λ n. node_in fs n || node_in fs n) (λ n. node_form n (entries_joined fs fs n))
    (λ n. one-node fs good.passed n ∙ (λ j. cond (sym (or_self (node_in fs n)) j) (node_form n (sym (entries-itself fs good n) j) ∷ []) [])) (numbers_from 1 nodes) i
    ++ in-rising gives_process fs (λ p. process_in fs p || process_in fs p) (λ p. process_form p (prime_joined fs fs p))
    (λ p. one-process fs good.passed p ∙ (λ j. cond (sym (or_self (process_in fs p)) j) (process_form p (sym (prime-itself fs good p) j) ∷ []) [])) (numbers_from 1 processes) i

-- ---- the text, twice
-- an accepted opening read all forms
opened-read : (x : FirstPass) (fs : List Form) (rest : List (List ℕ)) → second_pass x ≡ opens fs rest → x ≡ read_to fs rest
unfolding second_pass
opened-read (stopped_by k n) fs rest e = absurd (opening-apart e)
  where
    opening-apart : refused_at k n ≡ opens fs rest → ⊥
    opening-apart q = let z : ◌≡◌ {A = ℕ} 0 1 = cc in omega arith
opened-read (read_to gs ls) fs rest e = pick (eqb (missing_at gs gs) 0) e
  where
    pick : (b : Bool) → cond b (opens gs ls) (refused_at 5 (missing_at gs gs)) ≡ opens fs rest → read_to gs ls ≡ read_to fs rest
    pick true q =
        let f : gs ≡ fs = cc in
        let l : ls ≡ rest = cc in
        λ i. read_to (f i) (l i)
    pick false q = absurd (let z : ◌≡◌ {A = ℕ} 0 1 = cc in omega arith)

pub joined-itself : (text : List ℕ) (fs : List Form) → opening_of (lines_of text) ≡ opens fs [] → join (text ++ text) ≡ text_of (in_order fs)
unfolding opening_of join join_of after_first after_second joined_by join_text Goes plain all
joined-itself text fs e =
    let good = opening-good (lines_of text) [] fs e in
    let read = opened-read (first_pass [] 1 (lines_of text)) fs [] e in
    let twice = goes-on fs text text [] [] 1 refl read in
    let none = sym (refused_none fs fs (named-itself fs good) (room-itself fs good) (primes-itself fs good)) in
    ap (λ (x : FirstPass). join_text (after_first x)) twice ∙ ap (λ (x : FirstPass). join_text (after_second fs x)) read
    ∙ rw (eq-eqb (join_refusal fs fs) 0 none) (ap text_of (forms-itself fs good))
