-- The tables' rows and requests as the history notes them: look-up, tests and marks go through the view.
use Prim.Native.Nat.{ℕ}
use mathlib.Core.Bool.{Bool, true, false, cond}
use mathlib.Core.List.{List, [], ◌∷◌, map}
use mathlib.Core.Path.{◌≡◌, refl, sym, ap}
use lib.Dec.{eqb}
use Rattle.rows.specs.declared.Row.{Row}
use Rattle.rows.specs.Lists.{filter, first_with, top_of, rises, some, nonzero}
use Rattle.rows.specs.Codes.{is_end, is_client, is_server, client_end, server_end}
use Rattle.rows.specs.Tables.{no_row, row_of, numbers, sources}
use Rattle.history.specs.Notes.{noted, nothing_noted, noted_of}
use Rattle.history.proofs.Inv.{view}

-- ---- any list seen as a list of another type
module _ {A B : Type 0} (w : A → B) where
  -- a test goes through
  pub filter-through : (p : B → Bool) (q : A → Bool) → ((a : A) → q a ≡ p (w a)) → (xs : List A) → map w (filter q xs) ≡ filter p (map w xs)
  unfolding filter
  filter-through p q h [] = refl
  filter-through p q h (a ∷ xs) = rw (h a) (pick (filter-through p q h xs) (p (w a)))
    where
      pick : map w (filter q xs) ≡ filter p (map w xs) → (b : Bool) → map w (cond b (a ∷ filter q xs) (filter q xs)) ≡ cond b (w a ∷ filter p (map w xs)) (filter p (map w xs))
      pick ih true = ap (λ k. w a ∷ k) ih
      pick ih false = ih

  -- a change of the elements that the view does not see
  pub map-through : (t : A → A) → ((a : A) → w (t a) ≡ w a) → (xs : List A) → map w (map t xs) ≡ map w xs
  map-through t h [] = refl
  map-through t h (a ∷ xs) = rw (h a, map-through t h xs) refl

  module _ (ka : A → ℕ) (kb : B → ℕ) (k : (a : A) → kb (w a) ≡ ka a) where
    keys-through : (xs : List A) → map kb (map w xs) ≡ map ka xs
    keys-through [] = refl
    keys-through (a ∷ xs) = rw (k a, keys-through xs) refl

    pub first-through : (na : A) (nb : B) → w na ≡ nb → (xs : List A) (n : ℕ) → first_with kb nb (map w xs) n ≡ w (first_with ka na xs n)
    unfolding first_with
    first-through na nb z [] n = sym z
    first-through na nb z (a ∷ xs) n = rw (k a) (pick (first-through na nb z xs n) (eqb (ka a) n))
      where
        pick : first_with kb nb (map w xs) n ≡ w (first_with ka na xs n) → (b : Bool) → cond b (w a) (first_with kb nb (map w xs) n) ≡ w (cond b a (first_with ka na xs n))
        pick ih true = refl
        pick ih false = ih

    rises-through : (xs : List A) → rises kb (map w xs) ≡ rises ka xs
    unfolding rises top_of
    rises-through [] = refl
    rises-through (a ∷ xs) = rw (k a, rises-through xs, top-through xs) refl
      where
        top-through : (ys : List A) → top_of kb (map w ys) ≡ top_of ka ys
        top-through [] = refl
        top-through (y ∷ ys) = k y

-- ---- rows
view-number : (r : Row) → (view r).number ≡ r.number
unfolding view
view-number r = refl

pub view-noted : (rs : List Row) → noted (map view rs) ≡ numbers rs
unfolding noted numbers
view-noted rs = keys-through view (λ r. r.number) (λ r. r.number) view-number rs

view-none : view no_row ≡ nothing_noted
unfolding view no_row nothing_noted sources nonzero filter some is_end is_client is_server client_end server_end
view-none = refl

pub view_of : (rs : List Row) (e : ℕ) → noted_of (map view rs) e ≡ view (row_of rs e)
unfolding noted_of row_of
view_of rs e = first-through view (λ r. r.number) (λ r. r.number) view-number no_row nothing_noted view-none rs e

pub view-rises : (rs : List Row) → rises (λ r. r.number) (map view rs) ≡ rises (λ r. r.number) rs
view-rises rs = rises-through view (λ r. r.number) (λ r. r.number) view-number rs
