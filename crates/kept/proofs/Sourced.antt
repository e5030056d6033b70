-- Clauses of each row with its source and its second source (`sourced F`): one law for each change of rows. Closing has its own in ClosingRows, copies on top in AskStack.
use Prim.Native.Nat.{ℕ}
use mathlib.Core.Bool.{Bool, true, false, ◌||◌}
use mathlib.Core.List.{List, ◌∷◌, map}
use mathlib.Core.Path.{◌≡◌, refl, ap, ◌∙◌}
use lib.Dec.{eqb}
use Rattle.rows.specs.declared.Row.{Row}
use Rattle.rows.specs.declared.Request.{Request}
use Rattle.rows.specs.Lists.{all, each, member, some}
use Rattle.rows.specs.Codes.{is_end, is_copied, is_node}
use Rattle.rows.specs.Tables.{no_row, row_of, request_of}
use Rattle.rows.specs.Setters.{with_place}
use Rattle.rows.specs.Sound.{source_of, via_of, sourced, is_opening, is_registered, is_held, is_port_end, is_lent_copy, has_right_sources, has_right_depth, matches_source}
use Rattle.rows.proofs.Bools.{clash, and_l, and_r, and_i, or_l, or_r, zero-none}
use Rattle.rows.proofs.Keyed.{first-map, first-none, all_first}
use Rattle.rows.proofs.Places.{copied-no-end}
use Rattle.rows.proofs.RowSources.{Shape, opening, registered, held, port-end, lent-copy, shape}
use Rattle.kept.proofs.Lists.{each_map}

-- ---- one more row in front
pub sourced-cons : (F : Row → Row → Row → Bool) (r : Row) (rs : List Row) → F r (source_of rs r) (via_of rs r) ≡ true → sourced F rs ≡ true → sourced F (r ∷ rs) ≡ true
unfolding sourced each
sourced-cons F r rs h e = and_i (F r (source_of rs r) (via_of rs r)) (sourced F rs) h e

-- ---- rows changed in place, each of which passes P
module _ (c : Row → Row) (number : (r : Row) → (c r).number ≡ r.number) (source : (r : Row) → (c r).source ≡ r.source) (via : (r : Row) → (c r).via ≡ r.via)
    (none : c no_row ≡ no_row) (P : Row → Bool) (passes : P no_row ≡ true) where
  found : (rs : List Row) (n : ℕ) → row_of (map c rs) n ≡ c (row_of rs n)
  unfolding row_of
  found rs n = first-map (λ r. r.number) no_row c number none rs n

  pub passes_at : (rs : List Row) → all P rs ≡ true → (n : ℕ) → P (row_of rs n) ≡ true
  unfolding row_of
  passes_at rs a n = pick (member n (map (λ r. r.number) rs)) refl
    where
      pick : (b : Bool) → member n (map (λ r. r.number) rs) ≡ b → P (row_of rs n) ≡ true
      pick true m = all_first (λ r. r.number) no_row P rs n a m
      pick false m = rw (first-none (λ r. r.number) no_row rs n m) passes

  pub sourced-map : (F G : Row → Row → Row → Bool) → ((r s v : Row) → P r ≡ true → P s ≡ true → P v ≡ true → F r s v ≡ true → G (c r) (c s) (c v) ≡ true)
      → (rs : List Row) → all P rs ≡ true → sourced F rs ≡ true → sourced G (map c rs) ≡ true
  unfolding sourced
  sourced-map F G h rs a e = each_map P (λ r rs. F r (source_of rs r) (via_of rs r)) (λ r rs. G r (source_of rs r) (via_of rs r)) c step rs a e
    where
      step : (r : Row) (rs : List Row) → P r ≡ true → all P rs ≡ true → F r (source_of rs r) (via_of rs r) ≡ true → G (c r) (source_of (map c rs) (c r)) (via_of (map c rs) (c r)) ≡ true
      step r rs p ps e =
          ap (λ m. G (c r) (row_of (map c rs) m) (via_of (map c rs) (c r))) (source r)
          ∙ ap (λ m. G (c r) (source_of (map c rs) r) (row_of (map c rs) m)) (via r)
          ∙ ap (λ x. G (c r) x (via_of (map c rs) r)) (found rs r.source)
          ∙ ap (λ x. G (c r) (c (source_of rs r)) x) (found rs r.via)
          ∙ h r (source_of rs r) (via_of rs r) p (passes_at rs ps r.source) (passes_at rs ps r.via) e

-- ---- tests that do not look at places
pub record Placeless (F : Row → Row → Row → Bool) : Type 0 where
  pub own : (p : ℕ) (r s v : Row) → F (with_place p r) s v ≡ F r s v
  pub source : (p : ℕ) (r s v : Row) → F r (with_place p s) v ≡ F r s v
  pub via : (p : ℕ) (r s v : Row) → F r s (with_place p v) ≡ F r s v

pub depth-placeless : Placeless has_right_depth
unfolding has_right_depth with_place
depth-placeless = record { own = λ p r s v. refl; source = λ p r s v. refl; via = λ p r s v. refl }

pub copy-placeless : Placeless matches_source
unfolding matches_source with_place
copy-placeless = record { own = λ p r s v. refl; source = λ p r s v. refl; via = λ p r s v. refl }

-- a change of places and of nothing else leaves them
module _ (c : Row → Row) (keeps : (f : Row → Bool) → ((p : ℕ) (r : Row) → f (with_place p r) ≡ f r) → (r : Row) → f (c r) ≡ f r) (F : Row → Row → Row → Bool) (h : Placeless F) where
  pub sources-elsewhere : (r s v : Row) → F r (c s) (c v) ≡ F r s v
  sources-elsewhere r s v = keeps (λ x. F r x (c v)) (λ p x. h.source p r x (c v)) s ∙ keeps (λ x. F r s x) (λ p x. h.via p r s x) v

  pub rows-elsewhere : (r s v : Row) → F (c r) (c s) (c v) ≡ F r s v
  rows-elsewhere r s v = keeps (λ x. F x (c s) (c v)) (λ p x. h.own p x (c s) (c v)) r ∙ sources-elsewhere r s v

-- ---- the five shapes of a row
-- they ask of the sources their kinds and whether the first is in a node
pub sources-alike : (vs ws : List Request) (r s s' v v' : Row) → s'.kind ≡ s.kind → is_node s'.place ≡ is_node s.place → v'.kind ≡ v.kind
    → (request_of ws r.request).port ≡ (request_of vs r.request).port → has_right_sources ws r s' v' ≡ has_right_sources vs r s v
unfolding has_right_sources is_registered is_held is_port_end is_lent_copy
sources-alike vs ws r s s' v v' a b c d = rw (a, b, c, d) refl

pub end-or-copy : (vs : List Request) (r s v : Row) → is_port_end r s || is_lent_copy vs r s v ≡ true → has_right_sources vs r s v ≡ true
unfolding has_right_sources
end-or-copy vs r s v e =
    or_r (is_opening r) (is_registered r s || (is_held r s v || (is_port_end r s || is_lent_copy vs r s v)))
    (or_r (is_registered r s) (is_held r s v || (is_port_end r s || is_lent_copy vs r s v)) (or_r (is_held r s v) (is_port_end r s || is_lent_copy vs r s v) e))

-- a copied row that bears nothing is neither an end nor a lent copy
neither : (k n : ℕ) → is_copied k ≡ true → eqb n 0 ≡ true → is_end k || some n ≡ false
neither k n c e = rw (copied-no-end k c, zero-none n e) refl

loanable : (vs : List Request) (r s v : Row) → is_end r.kind || some r.request ≡ true → Shape vs r s v → is_port_end r s || is_lent_copy vs r s v ≡ true
unfolding is_opening is_registered is_held
loanable vs r s v m (opening q) = clash m (neither r.kind r.request (search (and_l, and_r)) (search (and_l, and_r)))
loanable vs r s v m (registered q) = clash m (neither r.kind r.request (search (and_l, and_r)) (search (and_l, and_r)))
loanable vs r s v m (held q) = clash m (neither r.kind r.request (search (and_l, and_r)) (search (and_l, and_r)))
loanable vs r s v m (port-end q) = or_l (is_port_end r s) (is_lent_copy vs r s v) q
loanable vs r s v m (lent-copy q) = or_r (is_port_end r s) (is_lent_copy vs r s v) q

-- an end or a lent copy may be in any place that is no node
pub right-elsewhere : (vs : List Request) (x : ℕ) (r s v : Row) → is_node x ≡ false → is_node r.place ≡ false → is_end r.kind || some r.request ≡ true
    → has_right_sources vs r s v ≡ true → has_right_sources vs (with_place x r) s v ≡ true
unfolding with_place
right-elsewhere vs x r s v away n m e = end-or-copy vs (with_place x r) s v (same ∙ loanable vs r s v m (shape vs r s v e))
  where
    same : is_port_end (with_place x r) s || is_lent_copy vs (with_place x r) s v ≡ is_port_end r s || is_lent_copy vs r s v
    same = unfold is_port_end is_lent_copy in rw (away, n) refl
