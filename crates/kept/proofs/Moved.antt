-- Rows of which some change their place and nothing else: the clauses that this keeps.
use Prim.Native.Nat.{ℕ}
use mathlib.Core.Bool.{Bool, true, false, not, cond, ◌&&◌, ◌||◌}
use mathlib.Core.List.{List, map}
use mathlib.Core.Path.{◌≡◌, refl, sym, ap, ◌∙◌}
use Rattle.rows.specs.declared.Row.{Row}
use Rattle.rows.specs.declared.Request.{Request}
use Rattle.rows.specs.declared.Process.{Process}
use Rattle.std.specs.Prelude.{if◌then◌else◌}
use Rattle.rows.specs.Lists.{all, some}
use Rattle.rows.specs.Codes.{is_end, is_node}
use Rattle.rows.specs.Tables.{no_row, row_of, request_of}
use Rattle.rows.specs.Sound.{object_in_range, right_in_range, is_paired_with, other_end, end_paired, copy_listed, copies_listed, port_stands, may_be_listed, sourced, has_right_sources, sources_right}
use Rattle.rows.specs.Setters.{with_place}
use Rattle.rows.proofs.Bools.{and_l, and_r, and_i, not_t, all-eq, all-and}
use Rattle.rows.proofs.Keyed.{first-map}
use Rattle.rows.proofs.Lists.{all_map}
use Rattle.kept.proofs.Lists.{all_true}
use Rattle.kept.proofs.Sourced.{Placeless, sourced-map, rows-elsewhere, sources-alike, right-elsewhere}

-- the rows whose numbers pass the test go to place x
unfoldable pub moved : (ℕ → Bool) → ℕ → Row → Row
moved t x r = if t r.number then with_place x r else r

-- a row that may move: it is in no node, and is an end or bears a request's number
unfoldable pub may_move : (ℕ → Bool) → Row → Bool
may_move t r = not (t r.number) || (not (is_node r.place) && (is_end r.kind || some r.request))

-- a reading that does not look at the place
pub moved_same : {A : Type 0} (t : ℕ → Bool) (x : ℕ) (f : Row → A) → ((r : Row) → f (with_place x r) ≡ f r) → (r : Row) → f (moved t x r) ≡ f r
unfolding moved
moved_same {A} t x f h r = pick (t r.number)
  where
    pick : (b : Bool) → f (cond b (with_place x r) r) ≡ f r
    pick true = h r
    pick false = refl

pub moved-number : (t : ℕ → Bool) (x : ℕ) (r : Row) → (moved t x r).number ≡ r.number
moved-number t x r = moved_same t x (λ r. r.number) (λ r. unfold with_place in refl) r

pub moved-stays : (t : ℕ → Bool) (x : ℕ) (r : Row) → t r.number ≡ false → moved t x r ≡ r
unfolding moved
moved-stays t x r e = rw e refl

moved-goes-to : (t : ℕ → Bool) (x : ℕ) (r : Row) → t r.number ≡ true → moved t x r ≡ with_place x r
unfolding moved
moved-goes-to t x r e = rw e refl

pub moved-goes : (t : ℕ → Bool) (x : ℕ) (r : Row) → t r.number ≡ true → (moved t x r).place ≡ x
unfolding moved with_place
moved-goes t x r e = rw e refl

module _ (t : ℕ → Bool) (x : ℕ) (z : t 0 ≡ false) where
  pub row_moved : (rs : List Row) (n : ℕ) → row_of (map (moved t x) rs) n ≡ moved t x (row_of rs n)
  unfolding row_of
  row_moved rs n = first-map (λ r. r.number) no_row (moved t x) (moved-number t x) (unfold moved no_row in rw z refl) rs n

  pub row_same : {A : Type 0} (f : Row → A) → ((r : Row) → f (with_place x r) ≡ f r) → (rs : List Row) (n : ℕ) → f (row_of (map (moved t x) rs) n) ≡ f (row_of rs n)
  row_same f h rs n = ap f (row_moved rs n) ∙ moved_same t x f h (row_of rs n)

  pub kind-same : (rs : List Row) (n : ℕ) → (row_of (map (moved t x) rs) n).kind ≡ (row_of rs n).kind
  kind-same rs n = row_same (λ r. r.kind) (λ r. unfold with_place in refl) rs n

  sources-kept : (r : Row) → (moved t x r).source ≡ r.source
  sources-kept r = moved_same t x (λ r. r.source) (λ r. unfold with_place in refl) r

  vias-kept : (r : Row) → (moved t x r).via ≡ r.via
  vias-kept r = moved_same t x (λ r. r.via) (λ r. unfold with_place in refl) r

  none-moved : moved t x no_row ≡ no_row
  unfolding moved no_row
  none-moved = rw z refl

  -- a clause of rows and their sources that does not look at places
  pub sourced-moved : (F : Row → Row → Row → Bool) → Placeless F → (rs : List Row) → sourced F rs ≡ true → sourced F (map (moved t x) rs) ≡ true
  sourced-moved F h rs e =
      sourced-map (moved t x) (moved-number t x) sources-kept vias-kept none-moved (λ r. true) refl F F
      (λ r s v _ _ _ q. rows-elsewhere (moved t x) (λ f k r. moved_same t x f (k x) r) F h r s v ∙ q) rs (all_true rs) e

  pub objects-moved : (ps : List Process) (rs : List Row) → all (object_in_range ps) (map (moved t x) rs) ≡ all (object_in_range ps) rs
  objects-moved ps rs =
      all_map (object_in_range ps) (moved t x) rs
      ∙ all-eq (λ r. object_in_range ps (moved t x r)) (object_in_range ps) (moved_same t x (object_in_range ps) (λ r. unfold object_in_range with_place in refl)) rs

  pub rights-moved : (rs : List Row) → all right_in_range (map (moved t x) rs) ≡ all right_in_range rs
  rights-moved rs =
      all_map right_in_range (moved t x) rs ∙ all-eq (λ r. right_in_range (moved t x r)) right_in_range (moved_same t x right_in_range (λ r. unfold right_in_range with_place in refl)) rs

  -- an end and the other end of its port
  pub paired-moved : (rs : List Row) (r : Row) → end_paired (map (moved t x) rs) (moved t x r) ≡ end_paired rs r
  paired-moved rs r =
      moved_same t x (end_paired (map (moved t x) rs)) (λ r. unfold end_paired is_paired_with other_end with_place in refl) r
      ∙ (unfold end_paired in ap (λ b. not (is_end r.kind) || b) (row_same (is_paired_with r) (λ s. unfold is_paired_with with_place in refl) rs (other_end r)))

  pub ports-moved : (rs : List Row) (v : Request) → port_stands (map (moved t x) rs) v ≡ port_stands rs v
  unfolding port_stands
  ports-moved rs v = rw (kind-same rs v.port) refl

  pub listed-moved : (rs : List Row) (v : Request) (e : ℕ) → may_be_listed v (row_of (map (moved t x) rs) e) ≡ may_be_listed v (row_of rs e)
  listed-moved rs v e = row_same (may_be_listed v) (λ r. unfold may_be_listed with_place in refl) rs e

  -- ---- sources, where only rows that may move do so, and not to a node
  module _ (away : is_node x ≡ false) where
    node-same : (r : Row) → may_move t r ≡ true → is_node (moved t x r).place ≡ is_node r.place
    unfolding may_move moved with_place
    node-same r m = pick (t r.number) m
      where
        pick : (b : Bool) → not b || (not (is_node r.place) && (is_end r.kind || some r.request)) ≡ true → is_node (cond b (with_place x r) r).place ≡ is_node r.place
        pick true q = away ∙ sym (not_t (is_node r.place) (and_l (not (is_node r.place)) (is_end r.kind || some r.request) q))
        pick false q = refl

    right-moved : (vs vs' : List Request) (r s v : Row) → may_move t r ≡ true → may_move t s ≡ true → (request_of vs' r.request).port ≡ (request_of vs r.request).port
        → has_right_sources vs r s v ≡ true → has_right_sources vs' (moved t x r) (moved t x s) (moved t x v) ≡ true
    unfolding may_move
    right-moved vs vs' r s v m n port e = pick (t r.number) refl m
      where
        kind : (r : Row) → (moved t x r).kind ≡ r.kind
        kind r = moved_same t x (λ r. r.kind) (λ r. unfold with_place in refl) r

        stayed : has_right_sources vs' r (moved t x s) (moved t x v) ≡ true
        stayed = sources-alike vs vs' r s (moved t x s) v (moved t x v) (kind s) (node-same s n) (kind v) port ∙ e

        pick : (b : Bool) → t r.number ≡ b → not b || (not (is_node r.place) && (is_end r.kind || some r.request)) ≡ true
            → has_right_sources vs' (moved t x r) (moved t x s) (moved t x v) ≡ true
        pick true g q =
            rw (moved-goes-to t x r g)
            (right-elsewhere vs' x r (moved t x s) (moved t x v) away
            (not_t (is_node r.place) (and_l (not (is_node r.place)) (is_end r.kind || some r.request) q)) (and_r (not (is_node r.place)) (is_end r.kind || some r.request) q) stayed)
        pick false g q = rw (moved-stays t x r g) stayed

    pub sources-moved : (vs vs' : List Request) (rs : List Row) → all (may_move t) rs ≡ true → ((r : Row) → copy_listed vs r ≡ true → (request_of vs' r.request).port ≡ (request_of vs r.request).port)
        → copies_listed vs rs ≡ true → sources_right vs rs ≡ true → sources_right vs' (map (moved t x) rs) ≡ true
    unfolding sources_right copies_listed
    sources-moved vs vs' rs m h c e =
        sourced-map (moved t x) (moved-number t x) sources-kept vias-kept none-moved (λ r. may_move t r && copy_listed vs r) (unfold may_move copy_listed no_row in rw z refl)
        (has_right_sources vs) (has_right_sources vs')
        (λ r s v p q _ e. right-moved vs vs' r s v (and_l (may_move t r) (copy_listed vs r) p) (and_l (may_move t s) (copy_listed vs s) q) (h r (and_r (may_move t r) (copy_listed vs r) p)) e)
        rs (all-and (may_move t) (copy_listed vs) (λ r. may_move t r && copy_listed vs r) (λ r. and_i (may_move t r) (copy_listed vs r)) rs m c) e
