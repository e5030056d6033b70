-- A line of a text read into its directory: what it is, and what is held then.
use Prim.Native.Nat.{ℕ}
use native.Mathlib.Omega.{arith}
use mathlib.Core.Bool.{Bool, true, false}
use mathlib.Core.List.{List, ◌∷◌}
use mathlib.Core.Path.{◌≡◌, refl, sym, ap, ◌∙◌}
use lib.Dec.{eqb}
use borrow.Author.Tests.{eqb-true, eqb-false}
use Rattle.rows.proofs.Bools.{clash}
use Rattle.text.specs.declared.Read.{Read}
use Rattle.text.specs.declared.Given.{Given}
use Rattle.std.specs.Prelude.{Option, Some, None, Ok}
use Rattle.std.specs.Option.{is_some}
use Rattle.text.specs.Patterns.{form}
use Rattle.text.specs.Opening.{Form, node_form, process_form, Line, last_line, form_line, bad_line, line_of, form_refusal}
use Rattle.text.specs.vocabulary.Openings.{Step, EndsText, RefusedWith, FormSteps, Steps, entries_here}
use Rattle.text.proofs.PassLaws.{ending, refusing}
use Rattle.text.proofs.SecondPass.{node-line, other-line, process-only}
use Rattle.joining.specs.vocabulary.Directories.{Held}
use Rattle.joining.specs.vocabulary.Reading.{goes_on, LineHeld}

-- ---- a line that goes on is a form, and has room
pub record GoingForm (fs : List Form) (l : Line) : Type 0 where
  pub form : Form
  pub is : l ≡ form_line form
  pub taken : form_refusal fs form ≡ 0

-- a step with what is given now goes on; one that ends or is refused does not
pub goes-some : (o : Option Given) → goes_on (Ok o) ≡ is_some o
unfolding goes_on
goes-some None = refl
goes-some (Some g) = refl

ended-stops : (x : Step) → EndsText x → goes_on x ≡ false
unfolding goes_on
ended-stops x k = ap goes_on (ending x k)

refused-stops : (k : ℕ) (x : Step) → RefusedWith k x → goes_on x ≡ false
unfolding goes_on
refused-stops k x r = ap goes_on (refusing k x r).is

form-taken : (fs : List Form) (f : Form) (x : Step) → FormSteps fs f x → goes_on x ≡ true → form_refusal fs f ≡ 0
form-taken fs f x s going = pick (eqb (form_refusal fs f) 0) refl
  where
    pick : (b : Bool) → eqb (form_refusal fs f) 0 ≡ b → form_refusal fs f ≡ 0
    pick true e = eqb-true (form_refusal fs f) 0 e
    pick false e = clash going (refused-stops (form_refusal fs f) x (s.refused (eqb-false (form_refusal fs f) 0 e)))

pub going-form : (fs : List Form) (l : Line) (x : Step) → Steps fs l x → goes_on x ≡ true → GoingForm fs l
unfolding Steps
going-form fs last_line x s going = clash going (ended-stops x s)
going-form fs bad_line x s going = clash going (refused-stops 2 x s)
going-form fs (form_line f) x s going = record { form = f; is = refl; taken = form-taken fs f x s going }

-- ---- what is held then
pub line-stored : (fs : List Form) (l : Line) (x : Step) (u : List ℕ) → Steps fs l x → goes_on x ≡ true → ((f : Form) → l ≡ form_line f → form_refusal fs f ≡ 0 → Held u (f ∷ fs)) → LineHeld fs l x u
unfolding Steps LineHeld
line-stored fs last_line x u s going h = clash going (ended-stops x s)
line-stored fs bad_line x u s going h = clash going (refused-stops 2 x s)
line-stored fs (form_line f) x u s going h = (λ e. h f refl (form-taken fs f x s going), λ e. clash going e)

pub line-left : (fs : List Form) (l : Line) (x : Step) (w : List ℕ) → goes_on x ≡ false → Held w fs → LineHeld fs l x w
unfolding LineHeld
line-left fs last_line x w stops h = h
line-left fs bad_line x w stops h = h
line-left fs (form_line f) x w stops h = (λ e. clash e stops, λ e. h)

-- ---- a line that is a form, by how it begins
one_line : (f g : Form) → form_line f ≡ form_line g → f ≡ g
one_line f g e = cc

module _ (s : List ℕ) (f : Read) (is : f ≡ form s 0 "(node #") (g : Form) (line : line_of s ≡ form_line g) where
  not-bad : line_of s ≡ bad_line → ⊥
  not-bad e = let z : form_line g ≡ bad_line = sym line ∙ e in absurd (let q : ◌≡◌ {A = ℕ} 0 1 = cc in omega arith)

  pub is-node : f.good ≡ true → g ≡ node_form f.c (entries_here s f.next)
  is-node good = one_line g (node_form f.c (entries_here s f.next)) (sym line ∙ node-line s f is not-bad good)

  pub is-process : f.good ≡ false → (p : Read) → p ≡ form s 0 "(process # #)\n" → g ≡ process_form p.b p.c
  is-process none p q = process-only s p q 0 g (sym (other-line s f is not-bad none) ∙ line)
