-- Laws of the second pass over an opening text: what a line that the first pass took is, what it names and what it leaves in the
-- lent words.
use Prim.Native.Nat.{ℕ, suc, ◌+◌, ◌≤◌}
use native.Mathlib.Omega.{arith}
use mathlib.Core.Bool.{true, false, Bool, cond, ◌&&◌}
use mathlib.Core.List.{List, ◌∷◌, []}
use mathlib.Core.Path.{◌≡◌, refl, ap, subst, ◌∙◌, sym}
use lib.Dec.{eqb, ltb}
use lib.ListN.{length, get_or}
use Rattle.rows.proofs.Bools.{and_l}
use Rattle.rows.specs.Limits.{most_bytes}
use Rattle.rows.specs.Lists.{any, bytes}
use Rattle.rows.specs.vocabulary.Sizes.{ROWS, PROCESSES}
use Rattle.text.specs.Opening.{Form, Line, last_line, form_line, bad_line, line_of, node_form, process_form, process_line, open_line, entries_from, entries_in, node_line, form_listed, gives_node}
use Rattle.text.specs.Patterns.{whole, form, most_groups}
use Rattle.text.specs.vocabulary.Openings.{naming, naming_of, listed_from, other_line, entries_here, NamesEntries, NamesLine}
use Rattle.text.specs.vocabulary.Written.{SetsRecord, LineFits, LineWritten, WritesEntries, WritesLine, WritesRecord}
use Rattle.text.specs.vocabulary.Sizes.{GROUPS}
use Rattle.text.specs.declared.Given.{Given}
use Rattle.text.specs.declared.Naming.{Naming}
use Rattle.text.specs.declared.Naming.TheVariants.{Ended, Listed, Missing}
use Rattle.text.specs.declared.Read.{Read}
use Rattle.text.proofs.PatternLaws.{second-byte}

-- a line that begins as a node form is no other form
node-alone : (s : List ℕ) → (form s 0 "(node #").good ≡ true → other_line s ≡ bad_line
unfolding process_line open_line form bytes whole
node-alone s e = pick (whole s (form s 0 "(process # #)\n")) refl (whole s (form s 0 "(open)\n")) refl
  where
    n : get_or s 1 0 ≡ 110
    n = second-byte s 110 (111 ∷ 100 ∷ 101 ∷ 32 ∷ 35 ∷ []) (λ z. omega arith) (λ z. omega arith) e

    good : (f : Read) → whole s f ≡ true → f.good ≡ true
    good f h = and_l f.good (eqb f.next (length s)) h

    pick : (x : Bool) → whole s (form s 0 "(process # #)\n") ≡ x → (y : Bool) → whole s (form s 0 "(open)\n") ≡ y
        → cond x (form_line (process_form (form s 0 "(process # #)\n").b (form s 0 "(process # #)\n").c)) (cond y last_line bad_line) ≡ bad_line
    pick true h y k =
        let p : get_or s 1 0 ≡ 112 = second-byte s 112 (bytes "rocess # #)\n") (λ z. omega arith) (λ z. omega arith) (good (form s 0 "(process # #)\n") h) in
        absurd (omega (arith, n))
    pick false h true k =
        let o : get_or s 1 0 ≡ 111 = second-byte s 111 (bytes "pen)\n") (λ z. omega arith) (λ z. omega arith) (good (form s 0 "(open)\n") k) in
        absurd (omega (arith, n))
    pick false h false k = refl

-- ---- a line that is not bad, by how it begins
module _ (s : List ℕ) (f : Read) (is : f ≡ form s 0 "(node #") (fine : line_of s ≡ bad_line → ⊥) where
  begins : Read
  begins = form s 0 "(node #"

  same_good : f.good ≡ begins.good
  unfolding begins
  same_good = ap (λ (x : Read). x.good) is

  node : Line
  node = form_line (node_form begins.c (entries_here s begins.next))

  pub node-line : f.good ≡ true → line_of s ≡ form_line (node_form f.c (entries_here s f.next))
  unfolding line_of node_line most_groups begins node
  node-line good = rw is (pick (ltb (suc most_bytes) (length s)) (whole s (form s (entries_from GROUPS s begins.next).next ")\n")) fine)
    where
      pick : (l w : Bool) → (cond l bad_line (cond (begins.good && w) node (other_line s)) ≡ bad_line → ⊥) → cond l bad_line (cond (begins.good && w) node (other_line s)) ≡ node
      pick true w h = absurd (h refl)
      pick false true h = rw (sym same_good ∙ good)
      pick false false h = absurd (h (rw (sym same_good ∙ good) (node-alone s (sym same_good ∙ good))))

  pub other-line : f.good ≡ false → line_of s ≡ other_line s
  unfolding line_of node_line most_groups begins node
  other-line none = pick (ltb (suc most_bytes) (length s)) (whole s (form s (entries_from GROUPS s begins.next).next ")\n")) fine
    where
      pick : (l w : Bool) → (cond l bad_line (cond (begins.good && w) node (other_line s)) ≡ bad_line → ⊥) → cond l bad_line (cond (begins.good && w) node (other_line s)) ≡ other_line s
      pick true w h = absurd (h refl)
      pick false w h = rw (sym same_good ∙ none)

-- ---- a line that the first pass took: what it is, names and leaves
module _ (s : List ℕ) (f : Read) (is : f ≡ form s 0 "(node #") (rows : ℕ) (fits : LineFits rows (line_of s)) where
  fine : line_of s ≡ bad_line → ⊥
  unfolding LineFits
  fine e = subst (LineFits rows) e fits

  module _ (good : f.good ≡ true) where
    pub node-fits : rows + length (entries_here s f.next) ≤ ROWS
    unfolding LineFits
    node-fits = subst (LineFits rows) (node-line s f is fine good) fits

    pub node-named : (g : Given) (r : Naming) → NamesEntries g s f.next rows r → NamesLine g rows (line_of s) r
    unfolding naming form_listed listed_from entries_in
    node-named g r named fs k = named fs k ∙ sym (ap (naming fs rows) (node-line s f is fine good))

    pub node-written : (t u p : List ℕ) (r : Naming) → WritesEntries t u s f.next f.c rows r → WritesLine t p u p rows (line_of s) r
    unfolding LineWritten
    node-written t u p r adds h = subst (LineWritten t p u p rows) (sym (node-line s f is fine good)) (adds h, refl)

  module _ (none : f.good ≡ false) where
    pub other_fits : LineFits rows (other_line s)
    other_fits = subst (LineFits rows) (other-line s f is fine none) fits

    pub other-named : (g : Given) (r : Naming) → NamesLine g rows (other_line s) r → NamesLine g rows (line_of s) r
    other-named g r named fs k = named fs k ∙ sym (ap (naming fs rows) (other-line s f is fine none))

    pub other-written : (t p q : List ℕ) (r : Naming) → WritesRecord p q rows (other_line s) r → WritesLine t p t q rows (line_of s) r
    other-written t p q r writes h = subst (LineWritten t p t q rows) (sym (other-line s f is fine none)) (writes t h)

module _ (s : List ℕ) (f : Read) (is : f ≡ form s 0 "(process # #)\n") (rows : ℕ) where
  process-line : whole s f ≡ true → other_line s ≡ form_line (process_form f.b f.c)
  unfolding process_line
  process-line e = let w : whole s (form s 0 "(process # #)\n") ≡ true = ap (whole s) (sym is) ∙ e in rw (w, is)

  open-line : whole s f ≡ false → other_line s ≡ open_line s bad_line
  unfolding process_line
  open-line e = let w : whole s (form s 0 "(process # #)\n") ≡ false = ap (whole s) (sym is) ∙ e in rw w

  -- a form that is no node's is a process's
  pub process-only : (g : Form) → other_line s ≡ form_line g → g ≡ process_form f.b f.c
  unfolding open_line
  process-only g e = pick (whole s f) refl (whole s (form s 0 "(open)\n")) refl
    where
      pick : (x : Bool) → whole s f ≡ x → (y : Bool) → whole s (form s 0 "(open)\n") ≡ y → g ≡ process_form f.b f.c
      pick true w y o = let same = sym e ∙ process-line w in cc
      pick false w true o = let z : form_line g ≡ last_line = sym e ∙ open-line w ∙ (rw o refl) in absurd (let q : ◌≡◌ {A = ℕ} 0 1 = cc in omega arith)
      pick false w false o = let z : form_line g ≡ bad_line = sym e ∙ open-line w ∙ (rw o refl) in absurd (let q : ◌≡◌ {A = ℕ} 0 1 = cc in omega arith)

  pub open-named : whole s f ≡ false → (g : Given) → NamesLine g rows (other_line s) Ended
  unfolding open_line naming
  open-named e g fs k = sym (ap (naming fs rows) (open-line e) ∙ pick (whole s (form s 0 "(open)\n")))
    where
      pick : (b : Bool) → naming fs rows (cond b last_line bad_line) ≡ Ended
      pick true = refl
      pick false = refl

  pub open-written : whole s f ≡ false → (p : List ℕ) → WritesRecord p p rows (other_line s) Ended
  unfolding open_line LineWritten
  open-written e p t h = subst (LineWritten t p t p rows) (sym (open-line e)) (pick (whole s (form s 0 "(open)\n")))
    where
      pick : (b : Bool) → LineWritten t p t p rows (cond b last_line bad_line)
      pick true = (refl, refl)
      pick false = tt

  module _ (e : whole s f ≡ true) where
    pub process-fits : LineFits rows (other_line s) → (1 ≤ f.b) × (f.b ≤ PROCESSES)
    unfolding LineFits
    process-fits h = subst (LineFits rows) (process-line e) h

    module _ (g : Given) (b : Bool) (told : b ≡ get_or g.nodes f.c false) where
      process-named : NamesLine g rows (other_line s) (naming_of b rows)
      unfolding naming form_listed entries_in
      process-named fs k =
          let q : rows + 0 ≡ rows = omega arith in
          let given : b ≡ any (gives_node f.c) fs = told ∙ k.node f.c in
          sym (ap (naming fs rows) (process-line e) ∙ rw (given, q))

      pub process-missing : b ≡ false → NamesLine g rows (other_line s) Missing
      unfolding naming_of
      process-missing q fs k = sym (rw q) ∙ process-named fs k

      pub process-listed : b ≡ true → NamesLine g rows (other_line s) (Listed rows)
      unfolding naming_of
      process-listed q fs k = sym (rw q) ∙ process-named fs k

    pub process-written : (p q : List ℕ) → SetsRecord p q f.b f.c → WritesRecord p q rows (other_line s) (Listed rows)
    unfolding LineWritten
    process-written p q sets t h = subst (LineWritten t p t q rows) (sym (process-line e)) (refl, sets)
