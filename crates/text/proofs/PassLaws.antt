-- Laws of the first pass over an opening text: what one line does, and what is left.
use Prim.Native.Nat.{ℕ, suc, ◌<◌, ◌+◌, ◌-◌, ◌≤◌}
use native.Mathlib.Numerals.{add-one}
use native.Mathlib.Omega.{arith}
use mathlib.Core.Bool.{true, false, Bool}
use mathlib.Core.List.{List, ◌∷◌, []}
use mathlib.Core.Path.{◌≡◌, refl, ap, subst, ◌∙◌}
use lib.Dec.{eqb}
use lib.ListN.{drop, length, take, drop_of_length-le}
use borrow.Author.Tests.{eq-eqb, ne_eqb, eqb-true, eqb-false}
use Rattle.text.specs.Opening.{Form, Line, FirstPass, last_line, read_to, form_line, form_refusal, first_pass, stopped_by, bad_line, line_of, node_form, process_form, lines_of}
use Rattle.text.specs.vocabulary.Openings.{line_read, NodeTold, Step, GoesOn, EndsText, RefusedWith, FormSteps, Steps, Gives, first_line, Ends}
use Rattle.calls.specs.Answers.{refusal_number}
use Rattle.std.specs.Prelude.{Some, None, Ok, Err}
use Rattle.text.specs.declared.Entry.{Entry}
use Rattle.text.specs.declared.Given.{Given}
use Rattle.text.specs.declared.LineRead.TheVariants.{Node, Process, Last, Bad}
use Rattle.calls.specs.declared.Refusal.{Refusal}
use Rattle.calls.proofs.Judging.{refusal-some}
use Rattle.text.proofs.OpeningLaws.{line-split}

-- ---- what a step is that goes on, ends or is refused
pub record Going (fs : List Form) (x : Step) : Type 0 where
  pub given : Given
  pub is : x ≡ Ok (Some given)
  pub gives : Gives given fs

pub going-on : (fs : List Form) (x : Step) → GoesOn fs x → Going fs x
unfolding GoesOn
going-on fs (Ok (Some g)) k = record { given = g; is = refl; gives = k }
going-on fs (Ok None) k = absurd k
going-on fs (Err e) k = absurd k

pub ending : (x : Step) → EndsText x → x ≡ Ok None
unfolding EndsText
ending (Ok (Some g)) k = absurd k
ending (Ok None) k = refl
ending (Err e) k = absurd k

pub record Refusing (k : ℕ) (x : Step) : Type 0 where
  pub refusal : Refusal
  pub is : x ≡ Err refusal
  pub number : refusal_number refusal ≡ k

pub refusing : (k : ℕ) (x : Step) → RefusedWith k x → Refusing k x
unfolding RefusedWith
refusing k (Ok y) r = absurd r
refusing k (Err e) r = record { refusal = e; is = refl; number = r }

-- ---- one line of the first pass, by what it is
unfoldable pub by_line : List Form → ℕ → List (List ℕ) → Line → FirstPass
by_line fs n ls x =
    elim x [
      | last_line ↦ read_to fs ls
      | form_line f ↦ elim (eqb (form_refusal fs f) 0) [ true ↦ first_pass (f ∷ fs) (suc n) ls | false ↦ stopped_by (form_refusal fs f) n ]
      | bad_line ↦ stopped_by 2 n
    ]

pub by-line : (fs : List Form) (n : ℕ) (l : List ℕ) (ls : List (List ℕ)) → first_pass fs n (l ∷ ls) ≡ by_line fs n ls (line_of l)
unfolding first_pass by_line
by-line fs n l ls = refl

module _ (fs : List Form) (n : ℕ) (ls : List (List ℕ)) (f : Form) where
  pub form-taken : form_refusal fs f ≡ 0 → by_line fs n ls (form_line f) ≡ first_pass (f ∷ fs) (suc n) ls
  unfolding by_line
  form-taken e =
      ap (λ (b : Bool). elim b [ true ↦ first_pass (f ∷ fs) (suc n) ls | false ↦ stopped_by (form_refusal fs f) n ]) (eq-eqb (form_refusal fs f) 0 e)

  pub form-refused : (form_refusal fs f ≡ 0 → ⊥) → by_line fs n ls (form_line f) ≡ stopped_by (form_refusal fs f) n
  unfolding by_line
  form-refused e =
      ap (λ (b : Bool). elim b [ true ↦ first_pass (f ∷ fs) (suc n) ls | false ↦ stopped_by (form_refusal fs f) n ]) (ne_eqb (form_refusal fs f) 0 e)

-- ---- what a line that was read does
module _ (fs : List Form) (x : Line) (r : Step) where
  pub steps-node : (n c : ℕ) (b : Bool) → Node n c b ≡ line_read x → ((es : List Entry) → NodeTold c b es → FormSteps fs (node_form n es) r) → Steps fs x r
  unfolding line_read Steps
  steps-node n c b e h = pick x e
    where
      pick : (y : Line) → Node n c b ≡ line_read y → Steps fs y r
      pick last_line q = absurd (let z : ◌≡◌ {A = ℕ} 0 1 = cc in omega arith)
      pick bad_line q = absurd (let z : ◌≡◌ {A = ℕ} 0 1 = cc in omega arith)
      pick (form_line (process_form p m)) q = absurd (let z : ◌≡◌ {A = ℕ} 0 1 = cc in omega arith)
      pick (form_line (node_form m es)) q =
          let same : n ≡ m = cc in
          let told : NodeTold c b es = record { counted = cc; in-range = cc } in
          subst (λ (i : ℕ). FormSteps fs (node_form i es) r) same (h es told)

  pub steps-process : (p n : ℕ) → Process p n ≡ line_read x → FormSteps fs (process_form p n) r → Steps fs x r
  unfolding line_read Steps
  steps-process p n e h = pick x e
    where
      pick : (y : Line) → Process p n ≡ line_read y → Steps fs y r
      pick last_line q = absurd (let z : ◌≡◌ {A = ℕ} 0 1 = cc in omega arith)
      pick bad_line q = absurd (let z : ◌≡◌ {A = ℕ} 0 1 = cc in omega arith)
      pick (form_line (node_form m es)) q = absurd (let z : ◌≡◌ {A = ℕ} 0 1 = cc in omega arith)
      pick (form_line (process_form o m)) q =
          let same : p ≡ o = cc in
          let prime : n ≡ m = cc in
          rw (← same, ← prime) h

  pub steps-last : Last ≡ line_read x → EndsText r → Steps fs x r
  unfolding line_read Steps
  steps-last e k = pick x e
    where
      pick : (y : Line) → Last ≡ line_read y → Steps fs y r
      pick last_line q = k
      pick bad_line q = absurd (let z : ◌≡◌ {A = ℕ} 0 1 = cc in omega arith)
      pick (form_line (node_form m es)) q = absurd (let z : ◌≡◌ {A = ℕ} 0 1 = cc in omega arith)
      pick (form_line (process_form o m)) q = absurd (let z : ◌≡◌ {A = ℕ} 0 1 = cc in omega arith)

  pub steps-bad : Bad ≡ line_read x → RefusedWith 2 r → Steps fs x r
  unfolding line_read Steps
  steps-bad e k = pick x e
    where
      pick : (y : Line) → Bad ≡ line_read y → Steps fs y r
      pick last_line q = absurd (let z : ◌≡◌ {A = ℕ} 0 1 = cc in omega arith)
      pick bad_line q = k
      pick (form_line (node_form m es)) q = absurd (let z : ◌≡◌ {A = ℕ} 0 1 = cc in omega arith)
      pick (form_line (process_form o m)) q = absurd (let z : ◌≡◌ {A = ℕ} 0 1 = cc in omega arith)

-- a form taken, or refused
pub form-goes : (fs : List Form) (f : Form) (g : Given) → form_refusal fs f ≡ 0 → Gives g (f ∷ fs) → FormSteps fs f (Ok (Some g))
unfolding GoesOn
form-goes fs f g e k = record { taken = λ q. k; refused = λ q. absurd (q e) }

pub form-stops : (fs : List Form) (f : Form) (e : Refusal) → refusal_number e ≡ form_refusal fs f → FormSteps fs f (Err e)
unfolding RefusedWith
form-stops fs f e k = record { taken = λ q. absurd (refusal-some e (k ∙ q)); refused = λ q. k }

-- ---- the first pass: the forms read, then the lines left
pub record Passing (t : List ℕ) (at n : ℕ) (g : Given) : Type 0 where
  pub read : List Form
  pub gives : Gives g read
  pub whole : first_pass [] 1 (lines_of t) ≡ first_pass read n (lines_of (drop at t))

pub passing-starts : (t : List ℕ) (g : Given) → Gives g [] → Passing t 0 1 g
passing-starts t g k = record { read = []; gives = k; whole = refl }

-- the line from at to e
pub line-here : (t : List ℕ) (at e : ℕ) → at < length t → e ≡ at + first_line (drop at t) → lines_of (drop at t) ≡ take (e - at) (drop at t) ∷ lines_of (drop e t)
line-here t at e h is = let q : e - at ≡ first_line (drop at t) = omega arith in rw (q, is) (line-split t at h)

left_by : (t : List ℕ) (at e n : ℕ) (fs : List Form) → at < length t → e ≡ at + first_line (drop at t)
    → first_pass fs n (lines_of (drop at t)) ≡ by_line fs n (lines_of (drop e t)) (line_of (take (e - at) (drop at t)))
left_by t at e n fs h is = ap (first_pass fs n) (line-here t at e h is) ∙ by-line fs n (take (e - at) (drop at t)) (lines_of (drop e t))

module _ (t : List ℕ) (at n : ℕ) (g : Given) (k : Passing t at n g) (e : ℕ) (h : at < length t) (is : e ≡ at + first_line (drop at t)) where
  abbrev here : Line
  here = line_of (take (e - at) (drop at t))

  abbrev after : Line → FirstPass
  after x = by_line k.read n (lines_of (drop e t)) x

  whole-here : first_pass [] 1 (lines_of t) ≡ after here
  whole-here = k.whole ∙ left_by t at e n k.read h is

  pub passing-goes-on : (r : Given) → Steps k.read here (Ok (Some r)) → Passing t e (n + 1) r
  unfolding Steps GoesOn EndsText RefusedWith
  passing-goes-on r st = pick here whole-here st
    where
      taken : (f : Form) → first_pass [] 1 (lines_of t) ≡ after (form_line f) → FormSteps k.read f (Ok (Some r))
          → (b : Bool) → eqb (form_refusal k.read f) 0 ≡ b → Passing t e (n + 1) r
      taken f w s true q =
          let z = eqb-true (form_refusal k.read f) 0 q in
          record { read = f ∷ k.read; gives = s.taken z; whole = rw add-one (w ∙ form-taken k.read n (lines_of (drop e t)) f z) }
      taken f w s false q = absurd (s.refused (eqb-false (form_refusal k.read f) 0 q))

      pick : (x : Line) → first_pass [] 1 (lines_of t) ≡ after x → Steps k.read x (Ok (Some r)) → Passing t e (n + 1) r
      pick last_line w s = absurd s
      pick bad_line w s = absurd s
      pick (form_line f) w s = taken f w s (eqb (form_refusal k.read f) 0) refl

  -- the text ends with what the forms read give
  pub passing-last : Steps k.read here (Ok None) → Ends (first_pass [] 1 (lines_of t)) (Ok g)
  unfolding Steps GoesOn EndsText RefusedWith Ends by_line
  passing-last st = pick here whole-here st
    where
      no-form : (f : Form) → FormSteps k.read f (Ok None) → (b : Bool) → eqb (form_refusal k.read f) 0 ≡ b → ⊥
      no-form f s true q = s.taken (eqb-true (form_refusal k.read f) 0 q)
      no-form f s false q = s.refused (eqb-false (form_refusal k.read f) 0 q)

      pick : (x : Line) → first_pass [] 1 (lines_of t) ≡ after x → Steps k.read x (Ok None) → Ends (first_pass [] 1 (lines_of t)) (Ok g)
      pick last_line w s = rw w k.gives
      pick bad_line w s = absurd s
      pick (form_line f) w s = absurd (no-form f s (eqb (form_refusal k.read f) 0) refl)

  pub passing-stops : (r : Refusal) → Steps k.read here (Err r) → Ends (first_pass [] 1 (lines_of t)) (Err (record { number = refusal_number r; line = n }))
  unfolding Steps GoesOn EndsText RefusedWith Ends by_line
  passing-stops r st = pick here whole-here st
    where
      stopped-at : (f : Form) → first_pass [] 1 (lines_of t) ≡ after (form_line f) → FormSteps k.read f (Err r)
          → (b : Bool) → eqb (form_refusal k.read f) 0 ≡ b → Ends (first_pass [] 1 (lines_of t)) (Err (record { number = refusal_number r; line = n }))
      stopped-at f w s true q = absurd (s.taken (eqb-true (form_refusal k.read f) 0 q))
      stopped-at f w s false q =
          let z = eqb-false (form_refusal k.read f) 0 q in
          rw (w ∙ form-refused k.read n (lines_of (drop e t)) f z) (s.refused z, refl, omega arith)

      pick : (x : Line) → first_pass [] 1 (lines_of t) ≡ after x → Steps k.read x (Err r) → Ends (first_pass [] 1 (lines_of t)) (Err (record { number = refusal_number r; line = n }))
      pick last_line w s = absurd s
      pick bad_line w s = rw w (s, refl, omega arith)
      pick (form_line f) w s = stopped-at f w s (eqb (form_refusal k.read f) 0) refl

pub passing-ends : (t : List ℕ) (at n : ℕ) (g : Given) → Passing t at n g → length t ≤ at → Ends (first_pass [] 1 (lines_of t)) (Err (record { number = 2; line = n }))
unfolding Ends first_pass lines_of
passing-ends t at n g k h = rw (k.whole, drop_of_length-le t h) (refl, refl, omega arith)
