-- An opening line by line: what a line decides, and that what follows a decided opening is no part of it.
use Prim.Native.Nat.{ℕ, suc, ◌*◌, ◌≤◌}
use native.Mathlib.Omega.{arith}
use mathlib.Core.Bool.{Bool, true, false, cond}
use mathlib.Core.List.{List, [], ◌∷◌, ◌++◌, append_assoc, append-nil}
use mathlib.Core.Path.{◌≡◌, refl, sym, ap, subst, ◌∙◌}
use lib.Dec.{eqb, ltb}
use lib.ListN.{length, length-append}
use native.Mathlib.Nat.{le_trans, mul-le-mul_right}
use borrow.Author.Tests.{eq-eqb, lt-ltb, le-ltb, ltb-true, ltb-false}
use Rattle.rows.specs.Lists.{all, each}
use Rattle.rows.specs.Limits.{most_bytes}
use Rattle.rows.proofs.Bools.{and_i}
use Rattle.text.specs.Opening.{Form, Line, last_line, form_line, bad_line, FirstPass, read_to, stopped_by, Opening, opens, refused_at, lines_of, line_of, form_refusal, first_pass, missing_at, second_pass, opening_of, entries_in}
use Rattle.text.proofs.OpeningForms.{entry_shaped, Shaped, line-shaped, form_passed}
use Rattle.text.proofs.OpeningCount.{forms-few}
use Rattle.feed.specs.Feeding.{goes_on, undecided}
use Rattle.feed.specs.Prints.{most_text}
use Rattle.text.proofs.PassLaws.{by_line, by-line, form-taken, form-refused}
use Rattle.text.proofs.KeptLines.{KeptLine, line-long}

-- ---- the first pass at a line, by what the line is
pass-by : (fs : List Form) (n : ℕ) (l : List ℕ) (x : Line) → line_of l ≡ x → (ls : List (List ℕ)) → first_pass fs n (l ∷ ls) ≡ by_line fs n ls x
pass-by fs n l x e ls = by-line fs n l ls ∙ ap (by_line fs n ls) e

-- ---- an opening with other lines after it
unfoldable pub with_rest : List (List ℕ) → Opening → Opening
with_rest ls (opens fs rest) = opens fs ls
with_rest ls (refused_at k n) = refused_at k n

second-rest : (fs : List Form) (ls : List (List ℕ)) → second_pass (read_to fs ls) ≡ with_rest ls (second_pass (read_to fs []))
unfolding second_pass with_rest
second-rest fs ls = pick (eqb (missing_at fs fs) 0)
  where
    pick : (b : Bool) → cond b (opens fs ls) (refused_at 5 (missing_at fs fs)) ≡ with_rest ls (cond b (opens fs []) (refused_at 5 (missing_at fs fs)))
    pick true = refl
    pick false = refl

-- a line that is a form is not too long
form-short : (l : List ℕ) (f : Form) → line_of l ≡ form_line f → length l ≤ suc most_bytes
form-short l f e = pick (ltb (suc most_bytes) (length l)) refl
  where
    pick : (b : Bool) → ltb (suc most_bytes) (length l) ≡ b → length l ≤ suc most_bytes
    pick true q =
        let bad : line_of l ≡ bad_line = line-long l (ltb-true (suc most_bytes) (length l) q) in
        absurd (let z : ◌≡◌ {A = ℕ} 0 1 = cc in omega arith)
    pick false q = ltb-false (suc most_bytes) (length l) q

-- a form that is taken has passed
form-passed : (l : List ℕ) (f : Form) (fs : List Form) → line_of l ≡ form_line f → form_refusal fs f ≡ 0 → each form_passed fs ≡ true → each form_passed (f ∷ fs) ≡ true
unfolding each form_passed Shaped
form-passed l f fs e z older =
    and_i (form_passed f fs) (each form_passed fs)
    (and_i (eqb (form_refusal fs f) 0) (all entry_shaped (entries_in f)) (eq-eqb (form_refusal fs f) 0 z) (subst Shaped e (line-shaped l))) older

-- ---- a text that waits for more: whole lines, each a form that is taken
pub record Waiting (text : List ℕ) (fs : List Form) : Type 0 where
  pub joins : (z : List ℕ) → lines_of (text ++ z) ≡ lines_of text ++ lines_of z
  pub reads : (ls : List (List ℕ)) → first_pass [] 1 (lines_of text ++ ls) ≡ first_pass fs (suc (length (lines_of text))) ls
  pub passed : each form_passed fs ≡ true
  pub short : length text ≤ length fs * suc most_bytes

pub waiting-starts : Waiting [] []
unfolding lines_of each
waiting-starts = record { joins = λ z. refl; reads = λ ls. refl; passed = refl; short = omega arith }

-- so it has a line for each node and each process at most
pub waiting-short : (text : List ℕ) (fs : List Form) → Waiting text fs → length text ≤ most_text
unfolding most_text
waiting-short text fs w = le_trans w.short (mul-le-mul_right (suc most_bytes) (forms-few fs w.passed))

-- the text with a line more waits, or is decided
pub record Goes (text l : List ℕ) (fs : List Form) : Type 0 where
  pub waits : undecided (text ++ l) ≡ true
  pub waiting : Waiting (text ++ l) fs

pub record Stops (text l : List ℕ) : Type 0 where
  pub decides : undecided (text ++ l) ≡ false
  pub rest-left : (ls : List (List ℕ)) → opening_of (lines_of (text ++ l) ++ ls) ≡ with_rest ls (opening_of (lines_of (text ++ l)))

module _ (text : List ℕ) (fs : List Form) (w : Waiting text fs) (l : List ℕ) (k : KeptLine l) where
  n : ℕ
  n = suc (length (lines_of text))

  lines_more : lines_of (text ++ l) ≡ lines_of text ++ (l ∷ [])
  lines_more = w.joins l ∙ ap (λ ls. lines_of text ++ ls) k.one

  count-more : length (lines_of (text ++ l)) ≡ n
  unfolding n
  count-more = let m = length-append (lines_of text) (l ∷ []) in ap length lines_more ∙ (omega arith)

  pub lines-with : (ls : List (List ℕ)) → lines_of (text ++ l) ++ ls ≡ lines_of text ++ (l ∷ ls)
  lines-with ls = ap (λ ms. ms ++ ls) lines_more ∙ append_assoc (lines_of text) (l ∷ []) ls

  pass-more : (ls : List (List ℕ)) → first_pass [] 1 (lines_of (text ++ l) ++ ls) ≡ first_pass fs n (l ∷ ls)
  unfolding n
  pass-more ls = ap (first_pass [] 1) (lines-with ls) ∙ w.reads (l ∷ ls)

  pass_all : first_pass [] 1 (lines_of (text ++ l)) ≡ first_pass fs n (l ∷ [])
  pass_all = ap (first_pass [] 1) (sym (append-nil (lines_of (text ++ l)))) ∙ pass-more []

  undecided-by : (x : FirstPass) → first_pass fs n (l ∷ []) ≡ x → undecided (text ++ l) ≡ goes_on x n
  unfolding undecided
  undecided-by x e = rw (pass_all, e, count-more)

  -- a form that is taken: the text waits for the next line
  pub line-goes : (f : Form) → line_of l ≡ form_line f → form_refusal fs f ≡ 0 → Goes text l (f ∷ fs)
  unfolding goes_on first_pass n
  line-goes f e z =
      record {
        waits = undecided-by (stopped_by 2 (suc n)) (taken []) ∙ lt-ltb n (suc n) (omega arith);
        waiting = record {
          joins = λ y. ap lines_of (append_assoc text l y) ∙ w.joins (l ++ y) ∙ ap (λ ls. lines_of text ++ ls) (k.ends few y)
              ∙ sym (append_assoc (lines_of text) (l ∷ []) (lines_of y)) ∙ ap (λ ls. ls ++ lines_of y) (sym lines_more);
          reads = λ ls. pass-more ls ∙ taken ls ∙ ap (λ m. first_pass (f ∷ fs) (suc m) ls) (sym count-more);
          passed = form-passed l f fs e z w.passed;
          short = let m = length-append text l in let s = w.short in let q = few in omega arith;
        };
      }
    where
      few : length l ≤ suc most_bytes
      few = form-short l f e

      taken : (ls : List (List ℕ)) → first_pass fs n (l ∷ ls) ≡ first_pass (f ∷ fs) (suc n) ls
      taken ls = pass-by fs n l (form_line f) e ls ∙ form-taken fs n ls f z

  -- any other line decides it
  stops-by : (x : List (List ℕ) → FirstPass) → ((ls : List (List ℕ)) → first_pass fs n (l ∷ ls) ≡ x ls) → goes_on (x []) n ≡ false
      → ((ls : List (List ℕ)) → second_pass (x ls) ≡ with_rest ls (second_pass (x []))) → Stops text l
  unfolding opening_of
  stops-by x e none rest =
      record {
        decides = undecided-by (x []) (e []) ∙ none;
        rest-left = λ ls. ap second_pass (pass-more ls ∙ e ls) ∙ rest ls ∙ sym (ap (λ y. with_rest ls (second_pass y)) (pass_all ∙ e []));
      }

  stops_at : (m : ℕ) → ((ls : List (List ℕ)) → first_pass fs n (l ∷ ls) ≡ stopped_by m n) → Stops text l
  unfolding goes_on second_pass with_rest
  stops_at m e = stops-by (λ ls. stopped_by m n) e (le-ltb n n (omega arith)) (λ ls. refl)

  pub last-stops : line_of l ≡ last_line → Stops text l
  unfolding goes_on by_line
  last-stops e = stops-by (read_to fs) (pass-by fs n l last_line e) refl (second-rest fs)

  pub bad-stops : line_of l ≡ bad_line → Stops text l
  unfolding by_line
  bad-stops e = stops_at 2 (pass-by fs n l bad_line e)

  pub refused-stops : (f : Form) → line_of l ≡ form_line f → (form_refusal fs f ≡ 0 → ⊥) → Stops text l
  refused-stops f e z = stops_at (form_refusal fs f) (λ ls. pass-by fs n l (form_line f) e ls ∙ form-refused fs n ls f z)

-- ---- the text ends: with a line begun, or after its last line
module _ (text : List ℕ) (fs : List Form) (w : Waiting text fs) where
  pub ends-whole : opening_of (lines_of text) ≡ refused_at 2 (suc (length (lines_of text)))
  unfolding opening_of second_pass first_pass
  ends-whole = ap opening_of (sym (append-nil (lines_of text))) ∙ ap second_pass (w.reads [])

  pub ends-begun : (l : List ℕ) → opening_of (lines_of text ++ (l ∷ [])) ≡ with_rest [] (opening_of (lines_of text ++ (l ∷ [])))
  unfolding opening_of second_pass first_pass by_line with_rest
  ends-begun l = let e = w.reads (l ∷ []) ∙ by-line fs m l [] in ap second_pass e ∙ pick (line_of l) ∙ sym (ap (λ x. with_rest [] (second_pass x)) e)
    where
      m : ℕ
      m = suc (length (lines_of text))

      taken : (f : Form) (b : Bool)
          → second_pass (elim b [ true ↦ first_pass (f ∷ fs) (suc m) [] | false ↦ stopped_by (form_refusal fs f) m ])
          ≡ with_rest [] (second_pass (elim b [ true ↦ first_pass (f ∷ fs) (suc m) [] | false ↦ stopped_by (form_refusal fs f) m ]))
      taken f true = refl
      taken f false = refl

      pick : (x : Line) → second_pass (by_line fs m [] x) ≡ with_rest [] (second_pass (by_line fs m [] x))
      pick last_line = second-rest fs []
      pick bad_line = refl
      pick (form_line f) = taken f (eqb (form_refusal fs f) 0)
