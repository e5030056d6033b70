-- Laws of the clauses of one row, where its slot's words and its sources are at hand.
use Rattle.std.proofs.Common.{◌≡◌, ℕ, suc, ◌+◌, ◌%◌, ◌^◌, ◌<◌, ◌≤◌, Bool, true, false, cond, not, ◌&&◌, ◌||◌, eqb, ltb, leb, List, refl, ap, ◌∙◌, ⊎_elim, arith, ltb-true, lt-ltb, eq-eqb, ne_eqb, eqb-true, le-leb, leb-true}
use borrow.Author.Tests.{eqb-false}
use Rattle.rows.specs.declared.Row.{Row}
use Rattle.rows.specs.declared.Process.{Process}
use Rattle.rows.specs.declared.Request.{Request}
use Rattle.rows.specs.Lists.{between, some}
use Rattle.rows.specs.Limits.{processes, all_rights}
use Rattle.rows.specs.Codes.{is_client, with_system, in_clist, is_node, is_clist, is_system, is_end, is_copied, is_operation, is_subdirectory, owner_of, within}
use Rattle.rows.specs.Tables.{is_listed, row_of, request_of}
use Rattle.rows.specs.Sound.{source_of, right_in_range, place_in_range, is_opening, is_registered, is_held, is_port_end, is_lent_copy, source_right, has_right_sources, matches_source, copy_matches}
use Rattle.soundness_rows.specs.vocabulary.Clauses.{is_copy_over, shape_right}
use Rattle.soundness_rows.specs.vocabulary.Seen.{Seen}
use Rattle.rows.proofs.Bools.{bool_eq, and_l, and_r, and_i, and-true, or-false, or_cases, or_r}

-- ---- numbers
-- the number before, which wraps where there is none
pub follows-wraps : (a b w : ℕ) → w < 2 ^ 32 → (w + 1) % 2 ^ 32 ≡ b → ltb 0 b && eqb w a ≡ eqb (suc a) b
follows-wraps a b w h e =
    bool_eq (ltb 0 b && eqb w a) (eqb (suc a) b)
    (λ t.
    let p₁ : ltb 0 b ≡ true = search (and_l, and_r) in
    let q₁ : eqb w a ≡ true = search (and_l, and_r) in
    let p : 0 < b = ltb-true 0 b p₁ in
    let q : w ≡ a = eqb-true w a q₁ in
    eq-eqb (suc a) b (omega arith))
    (λ t.
    let q : suc a ≡ b = eqb-true (suc a) b t in
    and_i (ltb 0 b) (eqb w a) (lt-ltb 0 b (omega arith)) (eq-eqb w a (omega arith)))

-- ---- fields
none-le : (n k : ℕ) → eqb n 0 ≡ true → leb n k ≡ true
none-le n k e = let z : n ≡ 0 = eqb-true n 0 e in le-leb n k (omega arith)

pub right-split : (x : Row) → eqb x.rights 0 || (not (is_end x.kind) && leb x.rights 7) ≡ right_in_range x
unfolding right_in_range all_rights
right-split x = pick (is_end x.kind)
  where
    pick : (b : Bool) → eqb x.rights 0 || (not b && leb x.rights 7) ≡ leb x.rights (cond b 0 7)
    pick true =
        or-false (eqb x.rights 0)
        ∙ bool_eq (eqb x.rights 0) (leb x.rights 0) (none-le x.rights 0)
        (λ h. let l : x.rights ≤ 0 = leb-true x.rights 0 h in eq-eqb x.rights 0 (omega arith))
    pick false =
        bool_eq (eqb x.rights 0 || leb x.rights 7) (leb x.rights 7)
        (λ h. ⊎_elim (none-le x.rights 7) (λ g. g) (or_cases (eqb x.rights 0) (leb x.rights 7) h))
        (or_r (eqb x.rights 0) (leb x.rights 7))

-- the owner of a c-list, by a difference that wraps elsewhere
pub place-wraps : (ps : List Process) (x : Row) (w : ℕ) → w < 2 ^ 32 → (w + 100) % 2 ^ 32 ≡ x.place
    → is_node x.place || ((is_clist x.place && is_listed ps w) || eqb x.place 200) ≡ place_in_range ps x
unfolding place_in_range is_system with_system is_clist between in_clist owner_of processes
place-wraps ps x w h e = ap (λ (b : Bool). is_node x.place || (b || eqb x.place 200)) (pick (is_clist x.place) refl)
  where
    owner : is_clist x.place ≡ true → w ≡ owner_of x.place
    owner c =
        let l₁ : leb 101 x.place ≡ true = search (and_l, and_r) in
        let g₁ : leb x.place 164 ≡ true = search (and_l, and_r) in
        let l : 101 ≤ x.place = leb-true 101 x.place l₁ in
        let g : x.place ≤ 164 = leb-true x.place 164 g₁ in omega arith

    pick : (b : Bool) → is_clist x.place ≡ b → is_clist x.place && is_listed ps w ≡ is_clist x.place && is_listed ps (owner_of x.place)
    pick true c = ap (λ (k : ℕ). is_clist x.place && is_listed ps k) (owner c)
    pick false c = rw c refl

-- ---- sources
pub opening-seen : {x y : Row} {s v : ℕ} {rs : List Row} → Seen x s v y rs → is_opening x ≡ is_opening y
unfolding is_opening
opening-seen h = rw (h.own.place, h.own.kind, h.source-none, h.via-none, h.own.request) refl

-- each shape but the lent copy's has this form, and asks for no request
unborne : (a b c d : Bool) → a && (b && (c && (d && false))) ≡ false
unborne false b c d = refl
unborne true false c d = refl
unborne true true false d = refl
unborne true true true false = refl
unborne true true true true = refl

further : (s a b c d e : Bool) → (s && (a && (b && (c && d)))) && e ≡ s && (a && (b && (c && (d && e))))
further false a b c d e = refl
further true false b c d e = refl
further true true false c d e = refl
further true true true false d e = refl
further true true true true d e = refl

module _ (vs : List Request) (old : List Row) (y : Row) where
  -- what bears a request is a lent copy, or nothing
  shape-lent : (y.request ≡ 0 → ⊥) → shape_right y old && eqb (request_of vs y.request).port y.via ≡ source_right vs y old
  unfolding shape_right has_right_sources is_opening is_registered is_held is_port_end is_copy_over is_lent_copy
  shape-lent h =
      rw (ne_eqb y.request 0 h)
      (rw (
        unborne (is_node y.place) (is_copied y.kind) (eqb y.source 0) (eqb y.via 0),
        unborne (is_node y.place) (is_copied y.kind) (is_node (row_of old y.source).place) (eqb y.via 0),
        unborne (is_clist y.place) (is_copied y.kind) (is_node (row_of old y.source).place) (eqb y.via 0 || is_subdirectory (row_of old y.via).kind),
        unborne (is_end y.kind) (not (is_node y.place)) (is_operation (row_of old y.source).kind) (eqb y.via 0),
      )
      (further (some y.request) (not (is_node y.place)) (is_copied y.kind) (is_copied (row_of old y.source).kind) (is_client (row_of old y.via).kind)
      (eqb (request_of vs y.request).port y.via)))

  shape-own : y.request ≡ 0 → shape_right y old ≡ source_right vs y old
  unfolding shape_right has_right_sources is_copy_over is_lent_copy some
  shape-own z = rw z refl

  pub shape-split : shape_right y old && (eqb y.request 0 || eqb (request_of vs y.request).port y.via) ≡ source_right vs y old
  shape-split = pick (eqb y.request 0) refl
    where
      pick : (b : Bool) → eqb y.request 0 ≡ b → shape_right y old && (b || eqb (request_of vs y.request).port y.via) ≡ source_right vs y old
      pick true e = and-true (shape_right y old) ∙ shape-own (eqb-true y.request 0 e)
      pick false e = shape-lent (eqb-false y.request 0 e)

-- a copy, where the answer about kind, object and operation counts for no end
pub copy-split : (rs : List Row) (y : Row) (same : Bool)
    → (is_end y.kind ≡ false
    → same ≡ (eqb y.kind (source_of rs y).kind && (eqb y.object (source_of rs y).object && eqb y.operation (source_of rs y).operation)))
    → eqb y.source 0 || (is_end y.kind || (same && within y.rights (source_of rs y).rights)) ≡ copy_matches y rs
unfolding matches_source
copy-split rs y same h = ap (λ (b : Bool). eqb y.source 0 || b) (pick (is_end y.kind) refl)
  where
    inner : (a b c d : Bool) → (a && (b && c)) && d ≡ a && (b && (c && d))
    inner false b c d = refl
    inner true false c d = refl
    inner true true c d = refl

    pick : (b : Bool) → is_end y.kind ≡ b
        → is_end y.kind || (same && within y.rights (source_of rs y).rights)
        ≡ is_end y.kind || (eqb y.kind (source_of rs y).kind && (eqb y.object (source_of rs y).object && (eqb y.operation (source_of rs y).operation && within y.rights (source_of rs y).rights)))
    pick true e = rw e refl
    pick false e =
        rw (e, h e)
        (inner (eqb y.kind (source_of rs y).kind) (eqb y.object (source_of rs y).object) (eqb y.operation (source_of rs y).operation)
        (within y.rights (source_of rs y).rights))
