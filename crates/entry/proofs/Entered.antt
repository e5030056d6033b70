-- Words that are sound tables represent the state that is read from them; what the entry definitions make of words.
use Prim.Native.Nat.{ℕ, suc}
use mathlib.Core.Bool.{Bool, true, false, cond, ◌&&◌}
use mathlib.Core.List.{List, [], ◌∷◌}
use mathlib.Core.Path.{◌≡◌, refl, sym, ap, subst, ◌∙◌}
use lib.Dec.{eqb}
use native.Mathlib.Omega.{arith}
use lib.ListN.{length, replicate, length-replicate}
use borrow.Author.Tests.{eq-eqb, ne_eqb, eqb-true}
use Rattle.rows.specs.Lists.{same_list}
use Rattle.rows.specs.Tables.{empty}
use Rattle.rows.specs.Sound.{sound}
use Rattle.rows.specs.Layout.{tables_length, processes_length, words_of, state_of, right_lengths, sound_words, cleared_tables, cleared_processes}
use Rattle.rows.specs.Computes.{computes}
use Rattle.rows.specs.vocabulary.Represents.{Represents}
use Rattle.rows.specs.vocabulary.Sizes.{IsTables, IsRecords}
use Rattle.rows.proofs.Bools.{and_l, and_r, and_i, false_of}
use Rattle.rows.proofs.RepresentedWords.{long-words}
use Rattle.tables.proofs.Sound.{sound-open}
use Rattle.tables.proofs.Words.{words-state, sound-represents}
use Rattle.calls.specs.declared.Answer.{Answer}
use Rattle.calls.specs.declared.Answer.TheVariants.{Refused}
use Rattle.calls.specs.Answers.{refusal_of}
use Rattle.text.specs.declared.Reply.{Reply}
use Rattle.text.specs.declared.Refused.{Refused as RefusedAt}
use Rattle.std.specs.Prelude.{Result, Ok, Err}
use Rattle.text.specs.Answers.{printed}
use Rattle.text.specs.CallLines.{reading_of}
use Rattle.text.specs.Opening.{Form, Line, last_line, form_line, bad_line, FirstPass, read_to, stopped_by, form_refusal, line_of, first_pass, missing_at, second_pass, Opening, opens, refused_at, lines_of, opening_of}
use Rattle.text.specs.Entry.{answered, call_on, reply_of, reply_with, call_entry, open_entry, opened_by}
use Rattle.text.specs.vocabulary.Replies.{in_reply, opening_text}
use Rattle.text.specs.vocabulary.Openings.{verdict_of}
use Rattle.text.specs.vocabulary.Written.{BothRepresent, OpeningWritten, state_after}
use Rattle.entry.specs.vocabulary.Entries.{AnswersOn, Replies}

-- ---- sound words
pub state-sound : (t p : List ℕ) → sound_words t p ≡ true → sound (state_of t p) ≡ true
unfolding sound_words
state-sound t p e = and_r (same_list (words_of (state_of t p)) t) (sound (state_of t p)) (and_r (right_lengths t p) (same_list (words_of (state_of t p)) t && sound (state_of t p)) e)

pub state-represented : (t p : List ℕ) → sound_words t p ≡ true → Represents t (state_of t p)
state-represented t p e =
    let st = state_of t p in
    subst (λ w. Represents w st) (words-state t p e).0 (sound-represents st (sound-open st (state-sound t p e)))

-- the lengths of both runs
pub right-lengths : (t p : List ℕ) → right_lengths t p ≡ true → IsTables t × IsRecords p
unfolding right_lengths computes
right-lengths t p e = (
  eqb-true (length t) tables_length (and_l (eqb (length t) tables_length) (eqb (length p) processes_length) e),
  eqb-true (length p) processes_length (and_r (eqb (length t) tables_length) (eqb (length p) processes_length) e),
)

pub sound-lengths : (t p : List ℕ) → sound_words t p ≡ true → IsTables t × IsRecords p
unfolding sound_words
sound-lengths t p e = right-lengths t p (and_l (right_lengths t p) (same_list (words_of (state_of t p)) t && sound (state_of t p)) e)

-- ---- call
pub replies-one : (t p line : List ℕ) (r : Reply) → sound_words t p ≡ false → r ≡ in_reply (printed (Refused 1)) → Replies (call_entry t p line) r t p
unfolding call_entry printed refusal_of
replies-one t p line r e is = rw e (is, refl, refl)

pub replies-answer : (t p line u v : List ℕ) (a : Answer) (r : Reply) → sound_words t p ≡ true
    → AnswersOn t p (λ st. answered st (reading_of line)) u v a → r ≡ in_reply (printed a) → Replies (call_entry t p line) r u v
unfolding call_entry call_on reply_of reply_with state_of
replies-answer t p line u v a r e f is =
    let (runs, same) = f (state_of t p) (state-sound t p e) (state-represented t p e) refl in
    rw e (is ∙ ap (λ (x : Answer). in_reply (printed x)) same, runs.0.words, runs.1)

-- ---- cleared
pub cleared-long : (t u : List ℕ) → IsTables t → u ≡ words_of empty → u ≡ cleared_tables t
unfolding cleared_tables computes
cleared-long t u e is = rw (eq-eqb (length t) tables_length e) is

pub cleared-other : (t u : List ℕ) → (IsTables t → ⊥) → u ≡ replicate (length t) 0 → u ≡ cleared_tables t
unfolding cleared_tables computes
cleared-other t u e is = rw (ne_eqb (length t) tables_length e) is

long-empty : length (words_of empty) ≡ tables_length
unfolding computes
long-empty = long-words empty (omega arith) (omega arith)

-- both runs are cleared
abbrev pub Cleared : List ℕ → List ℕ → List ℕ → List ℕ → Type 0
Cleared t p u v = (u ≡ cleared_tables t) × (v ≡ cleared_processes p)

-- a cleared run keeps its length
long-tables : (t : List ℕ) → length (cleared_tables t) ≡ length t
unfolding cleared_tables
long-tables t = pick (eqb (length t) tables_length) refl
  where
    pick : (b : Bool) → eqb (length t) tables_length ≡ b → length (cond b (words_of empty) (replicate (length t) 0)) ≡ length t
    pick true e = long-empty ∙ sym (eqb-true (length t) tables_length e)
    pick false e = length-replicate (length t) 0

tables-kept : (t p u v : List ℕ) → Cleared t p u v → length u ≡ length t
tables-kept t p u v z = ap length z.0 ∙ long-tables t

records-kept : (t p u v : List ℕ) → Cleared t p u v → length v ≡ length p
unfolding cleared_processes
records-kept t p u v z = ap length z.1 ∙ length-replicate (length p) 0

-- so its length tells that of the run lent
lengths-right : (t p u v : List ℕ) → Cleared t p u v → IsTables u → IsRecords v → right_lengths t p ≡ true
unfolding right_lengths computes
lengths-right t p u v z a b =
    and_i (eqb (length t) tables_length) (eqb (length p) processes_length)
    (eq-eqb (length t) tables_length (sym (tables-kept t p u v z) ∙ a)) (eq-eqb (length p) processes_length (sym (records-kept t p u v z) ∙ b))

pub tables-off : (t p u v : List ℕ) → Cleared t p u v → (IsTables u → ⊥) → right_lengths t p ≡ false
tables-off t p u v z off = false_of (right_lengths t p) (λ e. off (tables-kept t p u v z ∙ (right-lengths t p e).0))

pub records-off : (t p u v : List ℕ) → Cleared t p u v → (IsRecords v → ⊥) → right_lengths t p ≡ false
records-off t p u v z off = false_of (right_lengths t p) (λ e. off (records-kept t p u v z ∙ (right-lengths t p e).1))

-- ---- open
-- a refusal has a number
unfoldable Numbered : Opening → Type 0
Numbered (opens fs rest) = Unit {0}
Numbered (refused_at k n) = eqb k 0 ≡ false

unfoldable Stopped : FirstPass → Type 0
Stopped (read_to fs rest) = Unit {0}
Stopped (stopped_by k n) = eqb k 0 ≡ false

first-stopped : (ls : List (List ℕ)) (fs : List Form) (n : ℕ) → Stopped (first_pass fs n ls)
unfolding first_pass Stopped
first-stopped [] fs n = refl
first-stopped (l ∷ ls) fs n = by-line (λ f. first-stopped ls (f ∷ fs) (suc n)) (line_of l)
  where
    by_form : (f : Form) (b : Bool) → eqb (form_refusal fs f) 0 ≡ b → Stopped (first_pass (f ∷ fs) (suc n) ls)
        → Stopped (elim b [ true ↦ first_pass (f ∷ fs) (suc n) ls | false ↦ stopped_by (form_refusal fs f) n ])
    by_form f true e later = later
    by_form f false e later = e

    by-line : ((f : Form) → Stopped (first_pass (f ∷ fs) (suc n) ls)) → (x : Line) → Stopped (
        elim x [
          | last_line ↦ read_to fs ls
          | form_line f ↦ elim (eqb (form_refusal fs f) 0) [ true ↦ first_pass (f ∷ fs) (suc n) ls | false ↦ stopped_by (form_refusal fs f) n ]
          | bad_line ↦ stopped_by 2 n
        ]
        )
    by-line ih last_line = tt
    by-line ih (form_line f) = by_form f (eqb (form_refusal fs f) 0) refl (ih f)
    by-line ih bad_line = refl

second-numbered : (x : FirstPass) → Stopped x → Numbered (second_pass x)
unfolding second_pass Stopped Numbered
second-numbered (stopped_by k n) h = h
second-numbered (read_to fs rest) h = pick (eqb (missing_at fs fs) 0)
  where
    pick : (b : Bool) → Numbered (cond b (opens fs rest) (refused_at 5 (missing_at fs fs)))
    pick true = tt
    pick false = refl

opening-numbered : (ls : List (List ℕ)) → Numbered (opening_of ls)
unfolding opening_of
opening-numbered ls = second-numbered (first_pass [] 1 ls) (first-stopped ls [] 1)

-- the text of a verdict
verdict_text : Result Unit RefusedAt → List ℕ
verdict_text (Ok u) = opening_text 0 0
verdict_text (Err r) = opening_text r.number r.line

-- the reply and both runs of an opening that was read
replied-by : (o : Opening) (u v : List ℕ) (r : Reply) → BothRepresent u v (state_after o)
    → r ≡ in_reply (verdict_text (verdict_of o)) → Numbered o → Replies (opened_by o) r u v
unfolding opened_by reply_with state_after verdict_of verdict_text opening_text Numbered
replied-by (opens fs rest) u v r rep is g = (is, rep.tables.words, rep.records)
replied-by (refused_at k n) u v r rep is g = (rw g at is, rep.tables.words, rep.records)

-- empty tables, where both runs have their length
pub cleared-empty : (t p u v : List ℕ) → Cleared t p u v → IsTables u → IsRecords v → BothRepresent u v empty
unfolding cleared_tables cleared_processes computes
cleared-empty t p u v z a b =
    let lt : length t ≡ tables_length = sym (tables-kept t p u v z) ∙ a in
    let lp : length p ≡ processes_length = sym (records-kept t p u v z) ∙ b in
    record {
      tables = subst (λ w. Represents w empty) (sym (z.0 ∙ rw (eq-eqb (length t) tables_length lt) refl)) (sound-represents empty (sound-open empty refl));
      records = z.1 ∙ ap (λ (n : ℕ). replicate n 0) lp;
    }

pub replies-lengths : (t p text u v : List ℕ) (r : Reply) → Cleared t p u v → right_lengths t p ≡ false
    → r ≡ in_reply (opening_text 1 0) → Replies (open_entry t p text) r u v
unfolding open_entry opening_text
replies-lengths t p text u v r z e is = rw e (is, z.0, z.1)

replies-opening : (t p text t' p' u v : List ℕ) (x : Result Unit RefusedAt) (r : Reply) → Cleared t p t' p' → IsTables t' → IsRecords p'
    → x ≡ verdict_of (opening_of (lines_of text)) → OpeningWritten text u v → r ≡ in_reply (verdict_text x)
    → Replies (open_entry t p text) r u v
unfolding open_entry
replies-opening t p text t' p' u v x r z a b verdict w is =
    rw (lengths-right t p t' p' z a b)
    (replied-by (opening_of (lines_of text)) u v r w (is ∙ ap (λ (y : Result Unit RefusedAt). in_reply (verdict_text y)) verdict) (opening-numbered (lines_of text)))

-- it was accepted; it was refused
pub replies-accepted : (t p text t' p' u v : List ℕ) (r : Reply) → Cleared t p t' p' → IsTables t' → IsRecords p'
    → Ok tt ≡ verdict_of (opening_of (lines_of text)) → OpeningWritten text u v → r ≡ in_reply (opening_text 0 0) → Replies (open_entry t p text) r u v
unfolding verdict_text
replies-accepted t p text t' p' u v r z a b verdict w is = replies-opening t p text t' p' u v (Ok tt) r z a b verdict w is

pub replies-refused : (t p text t' p' u v : List ℕ) (e : RefusedAt) (r : Reply) → Cleared t p t' p' → IsTables t' → IsRecords p'
    → Err e ≡ verdict_of (opening_of (lines_of text)) → OpeningWritten text u v → r ≡ in_reply (opening_text e.number e.line) → Replies (open_entry t p text) r u v
unfolding verdict_text
replies-refused t p text t' p' u v e r z a b verdict w is = replies-opening t p text t' p' u v (Err e) r z a b verdict w is
