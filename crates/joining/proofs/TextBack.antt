-- A text of forms that pass is read as these forms; the joined text opens.
use Prim.Native.Nat.{ℕ, suc}
use mathlib.Core.Bool.{true}
use mathlib.Core.List.{List, [], ◌∷◌, reverse, reverse_aux}
use mathlib.Core.Path.{◌≡◌, refl, ap, ◌∙◌}
use borrow.Author.Tests.{eqb-true}
use Rattle.rows.specs.Lists.{all, each, bytes}
use Rattle.rows.proofs.Bools.{and_l, and_r, and_i, all-and}
use Rattle.text.specs.Opening.{Form, node_form, process_form, form_line, read_to, opens, with_byte, lines_of, line_of, entry_ranged, form_refusal, first_pass, form_listed, missing_at, second_pass, opening_of}
use Rattle.text.proofs.OpeningForms.{entry_shaped, form_passed, node-passed, process-passed}
use Rattle.text.proofs.PassLaws.{by_line, by-line, form-taken}
use Rattle.joining.specs.Joins.{forms_joined, join_refusal}
use Rattle.joining.specs.Written.{form_text, text_of}
use Rattle.joining.proofs.FormFacts.{first-passed}
use Rattle.joining.proofs.MergedNodes.{entry_good}
use Rattle.joining.proofs.FormsBack.{node-back, process-back, open-back, form-first}
use Rattle.joining.proofs.ListedNames.{refuses-nothing}
use Rattle.joining.proofs.JoinedForms.{passed-turned, listed-turned}

-- ---- a form that passes is read back from its line
form-back : (f : Form) (older : List Form) → form_passed f older ≡ true → line_of (form_text f) ≡ form_line f
unfolding entry_good
form-back (node_form n es) older p =
    let k = node-passed older n es p in
    node-back n es k.node (all-and entry_ranged entry_shaped entry_good (λ e r s. and_i (entry_ranged e) (entry_shaped e) r s) es k.ranged k.shaped) k.few
form-back (process_form q n) older p = let k = process-passed older q n p in process-back q n k.process k.node

form-accepted : (f : Form) (older : List Form) → form_passed f older ≡ true → form_refusal older f ≡ 0
unfolding form_passed
form-accepted f older p = eqb-true (form_refusal older f) 0 (and_l _ _ p)

-- ---- forms turned round: the older ones pass too
older-pass : (fs older : List Form) → each form_passed (reverse_aux fs older) ≡ true → each form_passed older ≡ true
unfolding each
older-pass [] older p = p
older-pass (f ∷ fs) older p = and_r (form_passed f older) (each form_passed older) (older-pass fs (f ∷ older) p)

-- ---- the text is read
last-line : lines_of (bytes "(open)\n") ≡ bytes "(open)\n" ∷ []
unfolding lines_of with_byte bytes
last-line = refl

text-read : (fs older : List Form) (n : ℕ) → each form_passed (reverse_aux fs older) ≡ true → first_pass older n (lines_of (text_of fs)) ≡ read_to (reverse_aux fs older) []
unfolding text_of by_line
text-read [] older n p =
    ap (first_pass older n) last-line ∙ by-line older n (bytes "(open)\n") [] ∙ ap (by_line older n []) open-back
text-read (f ∷ fs) older n p =
    let here = first-passed f older (older-pass fs (f ∷ older) p) in
    ap (first_pass older n) (form-first f (text_of fs)) ∙ by-line older n (form_text f) (lines_of (text_of fs))
    ∙ ap (by_line older n (lines_of (text_of fs))) (form-back f older here) ∙ form-taken older n (lines_of (text_of fs)) f (form-accepted f older here)
    ∙ text-read fs (f ∷ older) (suc n) p

-- ---- and opens
none-missing : (fs gs : List Form) → all (form_listed fs) gs ≡ true → missing_at fs gs ≡ 0
unfolding missing_at all
none-missing fs [] l = refl
none-missing fs (f ∷ older) l = rw (none-missing fs older (and_r (form_listed fs f) (all (form_listed fs) older) l), and_l (form_listed fs f) (all (form_listed fs) older) l) refl

pub text-opens : (fs : List Form) → each form_passed (reverse fs) ≡ true → all (form_listed (reverse fs)) (reverse fs) ≡ true
    → opening_of (lines_of (text_of fs)) ≡ opens (reverse fs) []
unfolding opening_of second_pass
text-opens fs p l = ap second_pass (text-read fs [] 1 p) ∙ rw (none-missing (reverse fs) (reverse fs) l) refl

pub joined-opens : (fs gs : List Form) → each form_passed fs ≡ true → each form_passed gs ≡ true → join_refusal fs gs ≡ 0
    → opening_of (lines_of (text_of (forms_joined fs gs))) ≡ opens (reverse (forms_joined fs gs)) []
joined-opens fs gs pf pg none =
    let k = refuses-nothing fs gs none in
    text-opens (forms_joined fs gs) (passed-turned fs gs pf pg k.1) (listed-turned fs gs pf pg k.1 k.0)
