-- Laws of the second pass over an opening text: the forms written, then the lines left; and the verdict.
use Prim.Native.Nat.{ℕ, suc, ◌<◌, ◌+◌, ◌-◌, ◌≤◌}
use native.Mathlib.Numerals.{add-one}
use native.Mathlib.Omega.{arith}
use mathlib.Core.Bool.{true, false, Bool, cond}
use mathlib.Core.List.{List, ◌∷◌, []}
use mathlib.Core.Path.{◌≡◌, refl, ap, subst, ◌∙◌, sym}
use lib.Dec.{eqb}
use lib.ListN.{drop, length, take, set, drop_of_length-le}
use borrow.Author.Tests.{ne_eqb, eqb-true, eqb-false, lt-ltb}
use Rattle.rows.specs.Lists.{all, each}
use Rattle.rows.specs.Limits.{processes}
use Rattle.rows.specs.Tables.{State, empty}
use Rattle.rows.specs.Setters.{with_next, with_processes}
use Rattle.rows.specs.vocabulary.Represents.{Represents}
use Rattle.rows.proofs.Bools.{and_i}
use Rattle.rows.proofs.Places.{between-range}
use Rattle.changes.specs.vocabulary.Changes.{SetsNext}
use Rattle.calls.proofs.Effected.{records-apart}
use Rattle.text.specs.Opening.{Form, Line, FirstPass, last_line, read_to, form_line, form_refusal, first_pass, stopped_by, bad_line, line_of, node_form, process_form, lines_of, entries_in, form_listed, missing_at, second_pass, Opening, opens, refused_at, opening_of, with_entries, with_form, opened_from}
use Rattle.text.specs.Entry.{state_opened}
use Rattle.text.specs.vocabulary.Openings.{Gives, first_line, Ends, naming, naming_of, ReadTo, Misses, line_at, verdict_of}
use Rattle.text.specs.vocabulary.Written.{BothRepresent, AddsEntries, SetsRecord, at_home, LineFits, LineWritten, PassedTo, FormsWritten, state_after, OpeningWritten}
use Rattle.text.specs.declared.Entry.{Entry}
use Rattle.text.specs.declared.Given.{Given}
use Rattle.text.specs.declared.Naming.TheVariants.{Ended, Listed, Missing}
use Rattle.text.specs.declared.Refused.{Refused}
use Rattle.std.specs.Prelude.{Option, Some, None, Ok, Err}
use Rattle.text.proofs.PassLaws.{by_line, by-line, form-taken, form-refused, line-here}
use Rattle.text.proofs.Opening.{opened-requests}
use Rattle.text.proofs.OpeningForms.{Shaped, line-shaped, entry_shaped, form_passed, process-passed}
use Rattle.text.proofs.OpeningRows.{entries-length, opened-next, opened-counted, counted-top}
use Rattle.text.proofs.OpeningCount.{opened-few}

-- ---- a line of a text that the first pass read to `(open)`, older the forms before it: `(open)`, or a form that it took
pub record Taken (fs older : List Form) (n : ℕ) (ls rest : List (List ℕ)) (f : Form) : Type 0 where
  pub passed : form_passed f older ≡ true
  pub left : first_pass (f ∷ older) (suc n) ls ≡ read_to fs rest

pub data Next (fs older : List Form) (n : ℕ) (ls rest : List (List ℕ)) : Line → Type 0 where
  at_open : older ≡ fs → Next fs older n ls rest last_line
  at-form : (f : Form) → Taken fs older n ls rest f → Next fs older n ls rest (form_line f)

next-line : (fs older : List Form) (n : ℕ) (l : List ℕ) (ls rest : List (List ℕ)) → first_pass older n (l ∷ ls) ≡ read_to fs rest → Next fs older n ls rest (line_of l)
unfolding by_line form_passed Shaped
next-line fs older n l ls rest e = pick (line_of l) (line-shaped l) (sym (by-line older n l ls) ∙ e)
  where
    taken : (f : Form) → all entry_shaped (entries_in f) ≡ true → by_line older n ls (form_line f) ≡ read_to fs rest → (b : Bool) → eqb (form_refusal older f) 0 ≡ b → Taken fs older n ls rest f
    taken f s w true q =
        record {
          passed = and_i (eqb (form_refusal older f) 0) (all entry_shaped (entries_in f)) q s;
          left = sym (form-taken older n ls f (eqb-true (form_refusal older f) 0 q)) ∙ w;
        }
    taken f s w false q = let r = sym (form-refused older n ls f (eqb-false (form_refusal older f) 0 q)) ∙ w in absurd (let z : ◌≡◌ {A = ℕ} 0 1 = cc in omega arith)

    pick : (x : Line) → Shaped x → by_line older n ls x ≡ read_to fs rest → Next fs older n ls rest x
    pick last_line s w = at_open cc
    pick bad_line s w = absurd (let z : ◌≡◌ {A = ℕ} 0 1 = cc in omega arith)
    pick (form_line f) s w = at-form f (taken f s w (eqb (form_refusal older f) 0) refl)

-- what an older form lacks stays the first that is missing
missing-stays : (fs older : List Form) (f : Form) (k : ℕ) → missing_at fs older ≡ k → 0 < k → missing_at fs (f ∷ older) ≡ k
unfolding missing_at
missing-stays fs older f k e h = rw (e, lt-ltb 0 k h)

pass-missing : (ls : List (List ℕ)) (fs older : List Form) (n k : ℕ) (rest : List (List ℕ)) → first_pass older n ls ≡ read_to fs rest → missing_at fs older ≡ k → 0 < k → missing_at fs fs ≡ k
unfolding first_pass
pass-missing [] fs older n k rest e m h = absurd (let z : ◌≡◌ {A = ℕ} 0 1 = cc in omega arith)
pass-missing (l ∷ ls) fs older n k rest e m h = pick (λ f w. pass-missing ls fs (f ∷ older) (suc n) k rest w.left (missing-stays fs older f k m h) h) (line_of l) (next-line fs older n l ls rest e)
  where
    pick : ((f : Form) → Taken fs older n ls rest f → missing_at fs fs ≡ k) → (x : Line) → Next fs older n ls rest x → missing_at fs fs ≡ k
    pick ih x (at_open same) = ap (missing_at fs) (sym same) ∙ m
    pick ih x (at-form f w) = ih f w

-- ---- a form more in the words
-- the state that forms open, before the next number is set
unfoldable pub begun_by : List Form → State
begun_by fs = with_next 1 (opened_from empty fs)

module _ (t p : List ℕ) (older : List Form) (count : ℕ) (w : BothRepresent t p (begun_by older)) (many : count ≡ length (opened_from empty older).rows) where
  node-begun : (u q : List ℕ) (n : ℕ) (es : List Entry) → AddsEntries t u count n es → q ≡ p → BothRepresent u q (begun_by (node_form n es ∷ older))
  unfolding begun_by opened_from with_form
  node-begun u q n es adds same =
      let st = opened_from empty older in
      let number : suc count ≡ st.next = ap suc many ∙ sym (opened-next older) in
      let top = counted-top st.rows (opened-counted older) in
      let added = adds (with_next 1 st) w.tables many (top ∙ sym many) in
      record {
        tables = subst (Represents u) (λ j. record { rows = with_entries (number j) n es st.rows; requests = opened-requests older j; processes = st.processes; next = 1 }) added;
        records = same ∙ w.records;
      }

  process-begun : (u q : List ℕ) (r n : ℕ) → u ≡ t → SetsRecord p q r n → BothRepresent u q (begun_by (process_form r n ∷ older))
  unfolding begun_by opened_from with_form
  process-begun u q r n same sets =
      let st = opened_from empty older in
      let ps = set st.processes (r - 1) (at_home n) in
      let kept : Represents t (with_processes ps (with_next 1 st)) = records-apart (with_next 1 st) ps w.tables in
      record {
        tables = subst (λ (x : List ℕ). Represents x (begun_by (process_form r n ∷ older))) (sym same) (subst (Represents t) (λ j. record { rows = st.rows; requests = opened-requests older j; processes = ps; next = 1 }) kept);
        records = sets st.processes w.records;
      }

  numbered : (u q v : List ℕ) → u ≡ t → q ≡ p → SetsNext u v (count + 1) → BothRepresent v q (state_opened older)
  unfolding begun_by state_opened
  numbered u q v first second sets =
      let st = opened_from empty older in
      let number : count + 1 ≡ st.next = rw add-one (ap suc many ∙ sym (opened-next older)) in
      record {
        tables = subst (λ (m : ℕ). Represents v (with_next m st)) number (sets (with_next 1 st) (subst (λ (x : List ℕ). Represents x (with_next 1 st)) (sym first) w.tables));
        records = second ∙ w.records;
      }

rows_more : (older : List Form) (f : Form) → length (opened_from empty (f ∷ older)).rows ≡ length (opened_from empty older).rows + length (entries_in f)
unfolding opened_from with_form entries_in
rows_more older (node_form n es) = entries-length es (opened_from empty older).next n (opened_from empty older).rows
rows_more older (process_form p n) = omega arith

-- ---- the forms written, then the lines left
pub record Forming (text t p : List ℕ) (g : Given) (at n count : ℕ) : Type 0 where
  pub forms : List Form
  pub rest : List (List ℕ)
  pub older : List Form
  pub read : ReadTo text forms rest
  pub gives : Gives g forms
  pub none : missing_at forms older ≡ 0
  pub number : n ≡ suc (length older)
  pub left : first_pass older n (lines_of (drop at text)) ≡ read_to forms rest
  pub passed : each form_passed older ≡ true
  pub words : BothRepresent t p (begun_by older)
  pub many : count ≡ length (opened_from empty older).rows

pub forming-starts : (text t p : List ℕ) (g : Given) → PassedTo text g → BothRepresent t p empty → Forming text t p g 0 1 0
unfolding missing_at each begun_by opened_from empty
forming-starts text t p g k w =
    record {
      forms = k.forms;
      rest = k.rest;
      older = [];
      read = k.read;
      gives = k.gives;
      none = refl;
      number = refl;
      left = k.read;
      passed = refl;
      words = w;
      many = refl;
    }

module _ {text t p : List ℕ} {g : Given} {at n count : ℕ} (k : Forming text t p g at n count) where
  pub forming-few : count ≤ 512
  forming-few = let m = k.many in let few = opened-few k.older k.passed in omega arith

  -- the text decides the forms
  forms-same : (fs : List Form) (rest : List (List ℕ)) → ReadTo text fs rest → k.forms ≡ fs
  forms-same fs rest e = let w = sym k.read ∙ e in cc

  pub missing-told : (r : Option ℕ) → r ≡ line_at (missing_at k.forms k.forms) → Misses g text r
  missing-told r e fs rest h gives = e ∙ ap (λ (x : List Form). line_at (missing_at x x)) (forms-same fs rest h)

  pub written-told : {u q : List ℕ} → BothRepresent u q (state_opened k.forms) → FormsWritten text u q
  written-told {u} {q} w fs rest r = subst (λ (x : List Form). BothRepresent u q (state_opened x)) (forms-same fs rest r) w

  pub forming-ends : length text ≤ at → ⊥
  unfolding first_pass lines_of
  forming-ends h = let e : stopped_by 2 n ≡ read_to k.forms k.rest = rw (drop_of_length-le text h) at k.left in let z : ◌≡◌ {A = ℕ} 0 1 = cc in omega arith

  module _ (e : ℕ) (h : at < length text) (is : e ≡ at + first_line (drop at text)) where
    abbrev line : List ℕ
    line = take (e - at) (drop at text)

    next : Next k.forms k.older n (lines_of (drop e text)) k.rest (line_of line)
    next = next-line k.forms k.older n line (lines_of (drop e text)) k.rest (ap (first_pass k.older n) (sym (line-here text at e h is)) ∙ k.left)

    both-passed : (f : Form) → form_passed f k.older ≡ true → each form_passed (f ∷ k.older) ≡ true
    unfolding each
    both-passed f q = and_i (form_passed f k.older) (each form_passed k.older) q k.passed

    pub forming-fits : LineFits count (line_of line)
    unfolding LineFits entries_in processes
    forming-fits = pick (line_of line) next
      where
        form-fits : (f : Form) → form_passed f k.older ≡ true → LineFits count (form_line f)
        form-fits (node_form m es) q =
            let few = opened-few (node_form m es ∷ k.older) (both-passed (node_form m es) q) in
            let more = rows_more k.older (node_form m es) in
            let m = k.many in
            omega arith
        form-fits (process_form r m) q = between-range 1 processes r (process-passed k.older r m q).process

        pick : (x : Line) → Next k.forms k.older n (lines_of (drop e text)) k.rest x → LineFits count x
        pick x (at_open same) = tt
        pick x (at-form f w) = form-fits f w.passed

    pub forming-goes-on : (u q : List ℕ) (m : ℕ) → Listed m ≡ naming k.forms count (line_of line) → LineWritten t p u q count (line_of line) → Forming text u q g e (n + 1) m
    unfolding naming naming_of missing_at LineWritten
    forming-goes-on u q m named written = pick (line_of line) next named written
      where
        begun : (f : Form) → LineWritten t p u q count (form_line f) → BothRepresent u q (begun_by (f ∷ k.older))
        begun (node_form r es) w = node-begun t p k.older count k.words k.many u q r es w.0 w.1
        begun (process_form r o) w = process-begun t p k.older count k.words k.many u q r o w.0 w.1

        listed : (f : Form) → Taken k.forms k.older n (lines_of (drop e text)) k.rest f → LineWritten t p u q count (form_line f)
            → (b : Bool) → form_listed k.forms f ≡ b → Listed m ≡ cond b (Listed (count + length (entries_in f))) Missing → Forming text u q g e (n + 1) m
        listed f w written true l r =
            let counted : m ≡ count + length (entries_in f) = cc in
            let more = rows_more k.older f in
            let many = k.many in
            let number = k.number in
            record {
              forms = k.forms;
              rest = k.rest;
              older = f ∷ k.older;
              read = k.read;
              gives = k.gives;
              none = rw (k.none, l);
              number = omega arith;
              left = rw add-one w.left;
              passed = both-passed f w.passed;
              words = begun f written;
              many = omega arith;
            }
        listed f w written false l r = absurd (let z : ◌≡◌ {A = ℕ} 0 1 = cc in omega arith)

        pick : (x : Line) → Next k.forms k.older n (lines_of (drop e text)) k.rest x → Listed m ≡ naming k.forms count x → LineWritten t p u q count x → Forming text u q g e (n + 1) m
        pick x (at_open same) r written = absurd (let z : ◌≡◌ {A = ℕ} 0 1 = cc in omega arith)
        pick x (at-form f w) r written = listed f w written (form_listed k.forms f) refl r

    pub forming-missing : Missing ≡ naming k.forms count (line_of line) → n ≡ missing_at k.forms k.forms
    unfolding naming naming_of missing_at
    forming-missing named = pick (line_of line) next named
      where
        missing : (f : Form) → Taken k.forms k.older n (lines_of (drop e text)) k.rest f → (b : Bool) → form_listed k.forms f ≡ b
            → Missing ≡ cond b (Listed (count + length (entries_in f))) Missing → n ≡ missing_at k.forms k.forms
        missing f w true l r = absurd (let z : ◌≡◌ {A = ℕ} 0 1 = cc in omega arith)
        missing f w false l r =
            let number = k.number in
            let first : missing_at k.forms (f ∷ k.older) ≡ n = rw (k.none, l) (sym number) in
            sym (pass-missing (lines_of (drop e text)) k.forms (f ∷ k.older) (suc n) n k.rest w.left first (omega arith))

        pick : (x : Line) → Next k.forms k.older n (lines_of (drop e text)) k.rest x → Missing ≡ naming k.forms count x → n ≡ missing_at k.forms k.forms
        pick x (at_open same) r = absurd (let z : ◌≡◌ {A = ℕ} 0 1 = cc in omega arith)
        pick x (at-form f w) r = missing f w (form_listed k.forms f) refl r

    -- at `(open)` every form is written; the next number is set
    pub forming-stops : (u q v : List ℕ) → Ended ≡ naming k.forms count (line_of line) → LineWritten t p u q count (line_of line) → SetsNext u v (count + 1)
        → (0 ≡ missing_at k.forms k.forms) × BothRepresent v q (state_opened k.forms)
    unfolding naming naming_of LineWritten
    forming-stops u q v named written sets = pick (line_of line) next named written
      where
        never : (f : Form) (b : Bool) → Ended ≡ cond b (Listed (count + length (entries_in f))) Missing → ⊥
        never f true r = let z : ◌≡◌ {A = ℕ} 0 1 = cc in omega arith
        never f false r = let z : ◌≡◌ {A = ℕ} 0 1 = cc in omega arith

        pick : (x : Line) → Next k.forms k.older n (lines_of (drop e text)) k.rest x → Ended ≡ naming k.forms count x → LineWritten t p u q count x
            → (0 ≡ missing_at k.forms k.forms) × BothRepresent v q (state_opened k.forms)
        pick x (at_open same) r (first, second) =
            (sym k.none ∙ ap (missing_at k.forms) same, subst (λ (fs : List Form). BothRepresent v q (state_opened fs)) same (numbered t p k.older count k.words k.many u q v first second sets))
        pick x (at-form f w) r written = absurd (never f (form_listed k.forms f) r)

-- ---- the verdict
-- the first pass read to `(open)`
pub passed_to : (text : List ℕ) (g : Given) → Ends (first_pass [] 1 (lines_of text)) (Ok g) → PassedTo text g
unfolding Ends
passed_to text g ends = pick (first_pass [] 1 (lines_of text)) refl ends
  where
    pick : (x : FirstPass) → first_pass [] 1 (lines_of text) ≡ x → Ends x (Ok g) → PassedTo text g
    pick (read_to fs rest) e q = record { forms = fs; rest = rest; read = e; gives = q }
    pick (stopped_by k n) e q = absurd q

-- it was refused: the words stay
pub opening-stopped : (text t u : List ℕ) (r : Refused) → Ends (first_pass [] 1 (lines_of text)) (Err r) → BothRepresent t u empty
    → (Err r ≡ verdict_of (opening_of (lines_of text))) × OpeningWritten text t u
unfolding opening_of Ends verdict_of second_pass state_after
opening-stopped text t u r ends w = pick (first_pass [] 1 (lines_of text)) ends
  where
    pick : (x : FirstPass) → Ends x (Err r) → (Err r ≡ verdict_of (second_pass x)) × BothRepresent t u (state_after (second_pass x))
    pick (read_to fs rest) q = absurd q
    pick (stopped_by k n) q = (λ j. Err (record { number = q.0 j; line = q.1 j }), w)

-- the line that is missing
pub line-at : (m n : ℕ) → n ≡ m → 0 < n → Some n ≡ line_at m
unfolding line_at
line-at m n e h = rw (← e, ne_eqb n 0 (omega arith)) refl

pub no-line-at : (m : ℕ) → 0 ≡ m → None ≡ line_at m
unfolding line_at
no-line-at m e = rw (← e) refl

some-line : (m n : ℕ) → Some n ≡ line_at m → (eqb m 0 ≡ false) × (n ≡ m)
unfolding line_at
some-line m n e = pick (eqb m 0) refl e
  where
    pick : (b : Bool) → eqb m 0 ≡ b → Some n ≡ cond b None (Some m) → (eqb m 0 ≡ false) × (n ≡ m)
    pick true q f = absurd (let z : ◌≡◌ {A = ℕ} 0 1 = cc in omega arith)
    pick false q f = (q, cc)

no-line : (m : ℕ) → None ≡ line_at m → eqb m 0 ≡ true
unfolding line_at
no-line m e = pick (eqb m 0) refl e
  where
    pick : (b : Bool) → eqb m 0 ≡ b → ◌≡◌ {A = Option ℕ} None (cond b None (Some m)) → eqb m 0 ≡ true
    pick true q f = q
    pick false q f = absurd (let z : ◌≡◌ {A = ℕ} 0 1 = cc in omega arith)

module _ (text t u : List ℕ) (g : Given) (k : PassedTo text g) where
  read_as : (x : Opening) → second_pass (read_to k.forms k.rest) ≡ x → opening_of (lines_of text) ≡ x
  unfolding opening_of
  read_as x e = ap second_pass k.read ∙ e

  -- 5: the words were cleared
  pub opening-missing : (n : ℕ) → Misses g text (Some n) → BothRepresent t u empty → (Err (record { number = 5; line = n }) ≡ verdict_of (opening_of (lines_of text))) × OpeningWritten text t u
  unfolding verdict_of second_pass state_after
  opening-missing n missing w =
      let m = some-line (missing_at k.forms k.forms) n (missing k.forms k.rest k.read k.gives) in
      let is = read_as (refused_at 5 n) (rw (m.0, ← m.1) refl) in
      (sym (ap verdict_of is), subst (λ (x : Opening). BothRepresent t u (state_after x)) (sym is) w)

  pub opening-accepted : Misses g text None → FormsWritten text t u → (Ok tt ≡ verdict_of (opening_of (lines_of text))) × OpeningWritten text t u
  unfolding verdict_of second_pass state_after
  opening-accepted missing written =
      let m = no-line (missing_at k.forms k.forms) (missing k.forms k.rest k.read k.gives) in
      let is = read_as (opens k.forms k.rest) (rw m refl) in
      (sym (ap verdict_of is), subst (λ (x : Opening). BothRepresent t u (state_after x)) (sym is) (written k.forms k.rest k.read))
