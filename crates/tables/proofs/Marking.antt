-- What is marked: the least set of numbers that has the rows passing a test and, with a source of a row, that row.
use Prim.Native.Nat.{ℕ}
use mathlib.Core.Bool.{Bool, true, false, ◌||◌}
use mathlib.Core.List.{List, [], ◌∷◌, map}
use mathlib.Core.Path.{◌≡◌, refl, ap, sym, ◌∙◌}
use mathlib.Core.Logic.{⊎_elim}
use lib.Dec.{eqb}
use borrow.Author.Tests.{eqb-true, ne_eqb}
use native.Mathlib.Omega.{arith}
use Rattle.rows.specs.declared.Row.{Row}
use Rattle.rows.specs.Lists.{any, all, each, rises, member}
use Rattle.rows.specs.Tables.{no_row, row_of, numbers, sources, reaches, mark, marked}
use Rattle.rows.specs.vocabulary.Represents.{sources_older}
use Rattle.rows.proofs.Bools.{clash, false_of, bool_eq, and_l, and_r, or_l, or_r, or_map, or_cases, all-mono, any-eq, any-mono, eqb-sym-f, member-here, member-there}
use Rattle.rows.proofs.Keyed.{older_of, each_first, older-key, rises-rest, rises-older, rises-fresh}
use Rattle.rows.proofs.Agree.{Agree, first-here, first-older}
use Rattle.rows.proofs.Lists.{any_at}

abbrev Rises : List Row → Type 0
Rises rs = rises (λ r. r.number) rs ≡ true

any-eq-on : {A : Type 0} (p f g : A → Bool) → ((a : A) → p a ≡ true → f a ≡ g a) → (xs : List A) → all p xs ≡ true → any f xs ≡ any g xs
unfolding all any
any-eq-on p f g h [] e = refl
any-eq-on p f g h (a ∷ xs) e = rw (h a (and_l (p a) (all p xs) e), any-eq-on p f g h xs (and_r (p a) (all p xs) e)) refl

found-sources : (rs : List Row) → Rises rs → sources_older rs ≡ true → (n : ℕ) → member n (numbers rs) ≡ true → all (λ s. member s (numbers rs)) (sources (row_of rs n)) ≡ true
unfolding row_of numbers sources_older
found-sources rs up old n t =
    let key : Row → ℕ = λ r. r.number in
    all-mono (λ s. member s (map key (older_of key rs n))) (λ s. member s (map key rs)) (λ s u. (older-key key rs up n s t u).1) (sources (row_of rs n))
    (each_first key no_row (λ r rs. all (λ s. member s (map key rs)) (sources r)) rs old n t)

-- a mark of another number
mark-other : (b : Bool) (k n : ℕ) (m : List ℕ) → eqb n k ≡ false → member n (mark b k m) ≡ member n m
unfolding mark member
mark-other true k n m h = rw h refl
mark-other false k n m h = refl

-- a mark of a number that is not there yet
mark-own : (b : Bool) (k : ℕ) (m : List ℕ) → member k m ≡ false → member k (mark b k m) ≡ b
unfolding mark
mark-own true k m h = member-here k m
mark-own false k m h = h

module _ (f : Row → Bool) where
  -- the row is marked, the older rows being so
  falls : List Row → Row → Bool
  falls rs r = f r || any (λ s. member s (marked f rs)) (sources r)

  pub marked-stands : (rs : List Row) (n : ℕ) → member n (marked f rs) ≡ true → member n (numbers rs) ≡ true
  unfolding marked mark numbers member
  marked-stands [] n m = m
  marked-stands (r ∷ rs) n m = pick (marked-stands rs n) (f r || any (λ s. member s (marked f rs)) (sources r)) m
    where
      pick : (member n (marked f rs) ≡ true → member n (numbers rs) ≡ true) → (b : Bool) → member n (mark b r.number (marked f rs)) ≡ true → member n (r.number ∷ map (λ r. r.number) rs) ≡ true
      pick ih true m = or_map (eqb n r.number) (member n (marked f rs)) (member n (map (λ r. r.number) rs)) ih m
      pick ih false m = member-there n r.number (map (λ r. r.number) rs) (ih m)

  -- a row's own number is not among the older marked ones
  marked-fresh : (r : Row) (rs : List Row) → Rises (r ∷ rs) → member r.number (marked f rs) ≡ false
  unfolding numbers
  marked-fresh r rs up = false_of _ (λ m. clash (marked-stands rs r.number m) (rises-fresh (λ r. r.number) r rs up))

  marked-first : (r : Row) (rs : List Row) → Rises (r ∷ rs) → member r.number (marked f (r ∷ rs)) ≡ falls rs r
  unfolding marked falls
  marked-first r rs up = mark-own (f r || any (λ s. member s (marked f rs)) (sources r)) r.number (marked f rs) (marked-fresh r rs up)

  marked_other : (r : Row) (rs : List Row) (n : ℕ) → eqb n r.number ≡ false → member n (marked f (r ∷ rs)) ≡ member n (marked f rs)
  unfolding marked
  marked_other r rs n h = mark-other (f r || any (λ s. member s (marked f rs)) (sources r)) r.number n (marked f rs) h

  -- the one pass marks what reaches a row that passes
  pub marked-reaches : (rs : List Row) → Rises rs → (e : ℕ) → member e (marked f rs) ≡ reaches f rs e
  unfolding reaches falls member marked mark
  marked-reaches [] up e = refl
  marked-reaches (r ∷ rs) up e = pick (marked-reaches rs (rises-rest (λ r. r.number) r rs up)) (eqb r.number e) refl
    where
      pick : ((s : ℕ) → member s (marked f rs) ≡ reaches f rs s) → (b : Bool) → eqb r.number e ≡ b
          → member e (marked f (r ∷ rs)) ≡ (elim b as (λ x. Bool) [ true ↦ f r || any (λ s. reaches f rs s) (sources r) | false ↦ reaches f rs e ])
      pick ih true q = rw (← eqb-true r.number e q) (marked-first r rs up ∙ ap (λ (b : Bool). f r || b) (any-eq (λ s. member s (marked f rs)) (λ s. reaches f rs s) ih (sources r)))
      pick ih false q = marked_other r rs e (eqb-sym-f r.number e q) ∙ ih e

  -- what holds of the passing rows' numbers, and with a source of a row of that row's number, holds of all that is marked
  pub marked-least : (P : ℕ → Bool) (rs : List Row) → Rises rs
      → ((n : ℕ) → member n (numbers rs) ≡ true → f (row_of rs n) || any P (sources (row_of rs n)) ≡ true → P n ≡ true)
      → (n : ℕ) → member n (marked f rs) ≡ true → P n ≡ true
  unfolding row_of numbers falls marked member
  marked-least P [] up h n m = clash m refl
  marked-least P (r ∷ rs) up h n m = pick (marked-least P rs (rises-rest (λ r. r.number) r rs up) older) (eqb n r.number) refl
    where
      older : (n : ℕ) → member n (map (λ r. r.number) rs) ≡ true → f (row_of rs n) || any P (sources (row_of rs n)) ≡ true → P n ≡ true
      older n t e = h n (member-there n r.number (map (λ r. r.number) rs) t) (rw (first-older (λ r. r.number) no_row r rs n (rises-older (λ r. r.number) r rs up n t)) e)

      first : ((n : ℕ) → member n (marked f rs) ≡ true → P n ≡ true) → member r.number (marked f (r ∷ rs)) ≡ true → P r.number ≡ true
      first ih m =
          h r.number (member-here r.number (map (λ r. r.number) rs))
          (rw (first-here (λ r. r.number) no_row r rs)
          (or_map (f r) (any (λ s. member s (marked f rs)) (sources r)) (any P (sources r)) (any-mono (λ s. member s (marked f rs)) P ih (sources r)) (sym (marked-first r rs up) ∙ m)))

      pick : ((n : ℕ) → member n (marked f rs) ≡ true → P n ≡ true) → (b : Bool) → eqb n r.number ≡ b → P n ≡ true
      pick ih true q = let e = eqb-true n r.number q in rw e (first ih (rw e at m))
      pick ih false q = ih n (sym (marked_other r rs n q) ∙ m)

  -- where the sources are older rows, a row is marked if it passes or a source of it is marked
  pub marked-closed : (rs : List Row) → Rises rs → sources_older rs ≡ true → (n : ℕ) → member n (numbers rs) ≡ true
      → member n (marked f rs) ≡ f (row_of rs n) || any (λ s. member s (marked f rs)) (sources (row_of rs n))
  unfolding row_of numbers falls member sources_older each
  marked-closed [] up old n t = clash t refl
  marked-closed (r ∷ rs) up old n t =
      pick (marked-closed rs (rises-rest (λ r. r.number) r rs up) (and_r (all (λ s. member s (map (λ r. r.number) rs)) (sources r)) (sources_older rs) old) n) (eqb n r.number) refl t
    where
      keys : List ℕ
      keys = map (λ r. r.number) rs

      -- the sources of a row, all older than r, are marked as without r
      same : (x : Row) → all (λ s. member s keys) (sources x) ≡ true
          → f x || any (λ s. member s (marked f rs)) (sources x) ≡ f x || any (λ s. member s (marked f (r ∷ rs))) (sources x)
      same x a =
          ap (λ (b : Bool). f x || b)
          (any-eq-on (λ s. member s keys) (λ s. member s (marked f rs)) (λ s. member s (marked f (r ∷ rs)))
          (λ s u.
          let lt = rises-older (λ r. r.number) r rs up s u in
          sym (marked_other r rs s (ne_eqb s r.number (λ e. omega arith)))) (sources x) a)

      pick : (member n keys ≡ true → member n (marked f rs) ≡ f (row_of rs n) || any (λ s. member s (marked f rs)) (sources (row_of rs n))) → (b : Bool)
          → eqb n r.number ≡ b → b || member n keys ≡ true
          → member n (marked f (r ∷ rs)) ≡ f (row_of (r ∷ rs) n) || any (λ s. member s (marked f (r ∷ rs))) (sources (row_of (r ∷ rs) n))
      pick ih true q t =
          rw (eqb-true n r.number q, first-here (λ r. r.number) no_row r rs)
          (marked-first r rs up ∙ same r (and_l (all (λ s. member s keys) (sources r)) (sources_older rs) old))
      pick ih false q t =
          rw (first-older (λ r. r.number) no_row r rs n (rises-older (λ r. r.number) r rs up n t))
          (marked_other r rs n q ∙ ih t ∙ same (row_of rs n) (found-sources rs (rises-rest (λ r. r.number) r rs up) (and_r (all (λ s. member s keys) (sources r)) (sources_older rs) old) n t))

  module _ (rs : List Row) (up : Rises rs) (old : sources_older rs ≡ true) (n : ℕ) (t : member n (numbers rs) ≡ true) where
    pub marked-seed : f (row_of rs n) ≡ true → member n (marked f rs) ≡ true
    marked-seed e = marked-closed rs up old n t ∙ or_l (f (row_of rs n)) (any (λ s. member s (marked f rs)) (sources (row_of rs n))) e

    pub marked-source : (s : ℕ) → member s (sources (row_of rs n)) ≡ true → member s (marked f rs) ≡ true → member n (marked f rs) ≡ true
    marked-source s u m =
        marked-closed rs up old n t
        ∙ or_r (f (row_of rs n)) (any (λ s. member s (marked f rs)) (sources (row_of rs n))) (any_at (λ s. member s (marked f rs)) (sources (row_of rs n)) s u m)

-- the same numbers marked: the same list
marked-ext : (f g : Row → Bool) (rs : List Row) → Rises rs → ((n : ℕ) → member n (marked f rs) ≡ member n (marked g rs)) → marked f rs ≡ marked g rs
unfolding marked falls
marked-ext f g [] up h = refl
marked-ext f g (r ∷ rs) up h = λ i. mark (head i) r.number (marked-ext f g rs (rises-rest (λ r. r.number) r rs up) rest i)
  where
    head : f r || any (λ s. member s (marked f rs)) (sources r) ≡ g r || any (λ s. member s (marked g rs)) (sources r)
    head = sym (marked-first f r rs up) ∙ h r.number ∙ marked-first g r rs up

    rest : (n : ℕ) → member n (marked f rs) ≡ member n (marked g rs)
    rest n = pick (eqb n r.number) refl
      where
        pick : (b : Bool) → eqb n r.number ≡ b → member n (marked f rs) ≡ member n (marked g rs)
        pick true q = rw (eqb-true n r.number q) (marked-fresh f r rs up ∙ sym (marked-fresh g r rs up))
        pick false q = sym (marked_other f r rs n q) ∙ h n ∙ marked_other g r rs n q

-- a wider test whose passing rows are all marked marks nothing more
pub marked-wider : (f g : Row → Bool) (rs : List Row) → Rises rs → sources_older rs ≡ true
    → ((n : ℕ) → member n (numbers rs) ≡ true → f (row_of rs n) ≡ true → g (row_of rs n) ≡ true)
    → ((n : ℕ) → member n (numbers rs) ≡ true → g (row_of rs n) ≡ true → member n (marked f rs) ≡ true)
    → marked g rs ≡ marked f rs
marked-wider f g rs up old wide fit = marked-ext g f rs up (λ n. bool_eq (member n (marked g rs)) (member n (marked f rs)) (more n) (less n))
  where
    more : (n : ℕ) → member n (marked g rs) ≡ true → member n (marked f rs) ≡ true
    more =
        marked-least g (λ n. member n (marked f rs)) rs up
        (λ n t e.
        ⊎_elim (fit n t) (λ p. marked-closed f rs up old n t ∙ or_r (f (row_of rs n)) (any (λ s. member s (marked f rs)) (sources (row_of rs n))) p)
        (or_cases (g (row_of rs n)) (any (λ s. member s (marked f rs)) (sources (row_of rs n))) e))

    less : (n : ℕ) → member n (marked f rs) ≡ true → member n (marked g rs) ≡ true
    less =
        marked-least f (λ n. member n (marked g rs)) rs up
        (λ n t e.
        marked-closed g rs up old n t
        ∙ ⊎_elim (λ p. or_l (g (row_of rs n)) (any (λ s. member s (marked g rs)) (sources (row_of rs n))) (wide n t p))
        (or_r (g (row_of rs n)) (any (λ s. member s (marked g rs)) (sources (row_of rs n))))
        (or_cases (f (row_of rs n)) (any (λ s. member s (marked g rs)) (sources (row_of rs n))) e))

pub marked-agree : (f g : Row → Bool) (rs : List Row) → Agree f g rs → marked f rs ≡ marked g rs
unfolding marked
marked-agree f g [] a = refl
marked-agree f g (r ∷ rs) a = rw (a.0, marked-agree f g rs a.1) refl
