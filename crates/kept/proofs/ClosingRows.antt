-- The clauses of soundness on rows hold of those that closing leaves: a row that is left has its sources, its other end and its request left.
use Prim.Native.Nat.{ℕ, ◌<◌}
use mathlib.Core.Bool.{Bool, true, false, not, cond, ◌&&◌, ◌||◌}
use mathlib.Core.List.{List, map}
use mathlib.Core.Path.{◌≡◌, refl, sym, ap, ◌∙◌}
use mathlib.Core.Logic.{⊎_elim}
use lib.Dec.{ltb, eqb}
use borrow.Author.Tests.{eqb-false}
use native.Mathlib.Omega.{arith}
use Rattle.rows.specs.declared.Row.{Row}
use Rattle.rows.specs.declared.Request.{Request}
use Rattle.rows.specs.Lists.{member, rises, some}
use Rattle.rows.specs.Codes.{is_end, in_clist}
use Rattle.rows.specs.Tables.{State, no_request, row_of, request_of, lists}
use Rattle.rows.specs.Sound.{requests_rise, object_in_range, objects_in_range, right_in_range, rights_in_range, sources_right, depths_right, copies_match, is_paired_with, other_end, end_paired, ends_paired, copy_listed, copies_listed, has_right_sources, has_right_depth, matches_source, source_of, via_of, sourced}
use Rattle.rows.proofs.Bools.{false_of, clash, and_l, and_i, or_l, pos-some, true-or-false}
use Rattle.rows.proofs.Keyed.{first-none, rises-range, older_of}
use Rattle.tables.proofs.Sound.{RowsSound, Sound}
use Rattle.tables.proofs.SoundFacts.{row_number}
use Rattle.tables.proofs.Standing.{source-lower, via-lower}
use Rattle.rows.proofs.Places.{clist-not-node}
use Rattle.rows.specs.Setters.{with_place}
use Rattle.closing.specs.Closing.{oldest_listing, returned, listed_in, leaves, homed, trimmed, remaining, settled}
use Rattle.closing.proofs.TrimmedLists.{any-older}
use Rattle.closing.specs.vocabulary.Marks.{Stands}
use Rattle.closing.proofs.Facts.{IsOpen, end-at, copy_at, copy-listed, lists-open}
use Rattle.closing.proofs.RemovedRows.{Closed, source_stays, via-stays}
use Rattle.closing.proofs.Lookups.{trimmed-lists, remaining-rises, request-after, returned-keeps, row-after, all_left, each_left, older-before, older-after}
use Rattle.closing.proofs.Processes.{listed_kept}
use Rattle.kept.proofs.Sourced.{Placeless, depth-placeless, copy-placeless, rows-elsewhere, sources-alike, right-elsewhere}
use Rattle.kept.proofs.ClosingPlaces.{places-in-range-kept, listed-end, no-end-same, node_kept}

-- ---- ranges, sizes
module _ (g : List ℕ) (f : Request → Bool) (st : State) (s : Sound st) where
  objects-in-range-kept : objects_in_range (settled g f st).processes (settled g f st).rows ≡ true
  unfolding objects_in_range object_in_range with_place
  objects-in-range-kept =
      unfold settled in all_left g f st (object_in_range st.processes) (object_in_range (map (homed g) st.processes)) s.numbers.rows-rise
      (λ n t k e. returned-keeps (object_in_range (map (homed g) st.processes)) (λ p r. refl) f st.requests (row_of st.rows n) ∙ listed (row_of st.rows n) e) s.rows.objects-in-range
    where
      listed : (r : Row) → object_in_range st.processes r ≡ true → object_in_range (map (homed g) st.processes) r ≡ true
      listed r e = rw (listed_kept g st.processes r.object) e

  rights-in-range-kept : rights_in_range (settled g f st).rows ≡ true
  unfolding rights_in_range right_in_range with_place
  rights-in-range-kept =
      all_left g f st right_in_range right_in_range s.numbers.rows-rise (λ n t k e. returned-keeps right_in_range (λ p r. refl) f st.requests (row_of st.rows n) ∙ e) s.rows.rights-in-range

module _ (g : List ℕ) (f : Request → Bool) (st : State) (s : Sound st) (c : Closed g f st) where
  -- ---- clauses of rows and their sources, which are left with them
  abbrev row : ℕ → Row
  row n = row_of st.rows n

  abbrev back : Row → Row
  back r = returned f st.requests r

  -- the older rows, before and after
  before : ℕ → List Row
  before n = older_of (λ r. r.number) st.rows n

  after : ℕ → List Row
  after n = older_of (λ r. r.number) (settled g f st).rows n

  pub sourced-kept : (F G : Row → Row → Row → Bool)
      → ((n : ℕ) → Stands st n → member n g ≡ false → F (row n) (row (row n).source) (row (row n).via) ≡ true
      → G (back (row n)) (back (row (row n).source)) (back (row (row n).via)) ≡ true)
      → sourced F st.rows ≡ true → sourced G (settled g f st).rows ≡ true
  unfolding sourced before after
  sourced-kept F G h e =
      each_left g f st (λ r rs. F r (source_of rs r) (via_of rs r)) (λ r rs. G r (source_of rs r) (via_of rs r)) s.numbers.rows-rise at_row e
    where
      old : (n m : ℕ) → Stands st n → m < n → row_of (before n) m ≡ row m
      old n m t lt = older-before g f st s.numbers.rows-rise n m t lt

      left : (n m : ℕ) → Stands st n → member n g ≡ false → m < n → member m g ≡ false → row_of (after n) m ≡ back (row m)
      left n m t k lt j = older-after g f st s.numbers.rows-rise n m t k lt j

      at_row : (n : ℕ) → Stands st n → member n g ≡ false → F (row n) (source_of (before n) (row n)) (via_of (before n) (row n)) ≡ true
          → G (back (row n)) (source_of (after n) (back (row n))) (via_of (after n) (back (row n))) ≡ true
      at_row n t k e =
          ap (λ m. G (back (row n)) (row_of (after n) m) (via_of (after n) (back (row n)))) (returned-keeps (λ r. r.source) (λ p r. unfold with_place in refl) f st.requests (row n))
          ∙ ap (λ m. G (back (row n)) (source_of (after n) (row n)) (row_of (after n) m)) (returned-keeps (λ r. r.via) (λ p r. unfold with_place in refl) f st.requests (row n))
          ∙ ap (λ x. G (back (row n)) x (via_of (after n) (row n))) (left n (row n).source t k (source-lower st s.numbers s.rows n t) (source_stays g f st c n t k))
          ∙ ap (λ x. G (back (row n)) (back (row (row n).source)) x) (left n (row n).via t k (via-lower st s.numbers s.rows n t) (via-stays g f st c n t k))
          ∙ h n t k
          (ap (λ x. F (row n) x (row (row n).via)) (sym (old n (row n).source t (source-lower st s.numbers s.rows n t)))
          ∙ ap (λ x. F (row n) (source_of (before n) (row n)) x) (sym (old n (row n).via t (via-lower st s.numbers s.rows n t))) ∙ e)

  placeless-kept : (F : Row → Row → Row → Bool) → Placeless F → sourced F st.rows ≡ true → sourced F (settled g f st).rows ≡ true
  placeless-kept F h =
      sourced-kept F F (λ n t k e. rows-elsewhere back (λ P q r. returned-keeps P q f st.requests r) F h (row n) (row (row n).source) (row (row n).via) ∙ e)

  depths-right-kept : depths_right (settled g f st).rows ≡ true
  unfolding depths_right
  depths-right-kept = placeless-kept has_right_depth depth-placeless s.rows.depths-right

  copies-match-kept : copies_match (settled g f st).rows ≡ true
  unfolding copies_match
  copies-match-kept = placeless-kept matches_source copy-placeless s.rows.copies-match

  -- ---- the request that a row bears
  request-open : (n : ℕ) → Stands st n → some (row_of st.rows n).request ≡ true → IsOpen st (row_of st.rows n).request
  request-open n t h = lists-open st n (row_of st.rows n).request (copy-listed st s n t h)

  -- it is found, trimmed, if it is there
  request-left : (n : ℕ) → Stands st n → member n g ≡ false → some (row_of st.rows n).request ≡ true
      → request_of (remaining f g st.requests) (row_of st.rows n).request
      ≡ trimmed f g (older_of (λ v. v.number) st.requests (row_of st.rows n).request) (request_of st.requests (row_of st.rows n).request)
  unfolding requests_rise
  request-left n t k h = request-after f g st.requests s.numbers.requests-rise (row_of st.rows n).request (request-open n t h) (c.request-stays n t k h)

  -- no request has the number 0
  none-zero : (vs : List Request) → rises (λ v. v.number) vs ≡ true → (q : ℕ) → some q ≡ false → request_of vs q ≡ no_request
  unfolding request_of
  none-zero vs e q h = first-none (λ v. v.number) no_request vs q (false_of _ (λ t. clash (pos-some q (rises-range (λ v. v.number) vs e q t).0) h))

  port-same : (n : ℕ) → Stands st n → member n g ≡ false → (request_of (remaining f g st.requests) (row_of st.rows n).request).port ≡ (request_of st.requests (row_of st.rows n).request).port
  unfolding requests_rise trimmed
  port-same n t k =
      ⊎_elim (λ h. ap (λ v. v.port) (request-left n t k h))
      (λ h. ap (λ v. v.port)
      (none-zero (remaining f g st.requests) (remaining-rises f g st.requests s.numbers.requests-rise) (row_of st.rows n).request h ∙ sym
      (none-zero st.requests s.numbers.requests-rise (row_of st.rows n).request h)))
      (true-or-false (some (row_of st.rows n).request))

  -- ---- (rule S13) each row is one of five
  sources-right-kept : sources_right (settled g f st).requests (settled g f st).rows ≡ true
  unfolding sources_right returned
  sources-right-kept = unfold settled in sourced-kept (has_right_sources st.requests) (has_right_sources left) at_row s.rows.sources-right
    where
      left : List Request
      left = remaining f g st.requests

      kind : (r : Row) → (back r).kind ≡ r.kind
      kind r = returned-keeps (λ r. r.kind) (λ p r. unfold with_place in refl) f st.requests r

      at_row : (n : ℕ) → Stands st n → member n g ≡ false → has_right_sources st.requests (row n) (row (row n).source) (row (row n).via) ≡ true
          → has_right_sources left (back (row n)) (back (row (row n).source)) (back (row (row n).via)) ≡ true
      at_row n t k e =
          ⊎_elim (elsewhere (some w.number))
          (λ h. ap (λ r. has_right_sources left r (back (row (row n).source)) (back (row (row n).via))) (no-end-same g f st s c n t k h) ∙ stays) (true-or-false (is_end (row n).kind))
        where
          w : Request
          w = oldest_listing f (row n).number st.requests

          stays : has_right_sources left (row n) (back (row (row n).source)) (back (row (row n).via)) ≡ true
          stays =
              sources-alike st.requests left (row n) (row (row n).source) (back (row (row n).source)) (row (row n).via) (back (row (row n).via))
              (kind (row (row n).source)) (node_kept g f st s c (row n).source (source_stays g f st c n t k)) (kind (row (row n).via)) (port-same n t k)
              ∙ e

          -- an end, which may be elsewhere
          elsewhere : (b : Bool) → is_end (row n).kind ≡ true
              → has_right_sources left (cond b (with_place (in_clist w.asker) (row n)) (row n)) (back (row (row n).source)) (back (row (row n).via)) ≡ true
          elsewhere true h =
              right-elsewhere left (in_clist w.asker) (row n) (back (row (row n).source)) (back (row (row n).via)) (clist-not-node w.asker) (end-at st s n t h).no_node
              (or_l (is_end (row n).kind) (some (row n).request) h) stays
          elsewhere false h = stays

  -- ---- (rule S17) ends stand in pairs
  ends-paired-kept : ends_paired (settled g f st).rows ≡ true
  unfolding ends_paired end_paired is_paired_with other_end with_place
  ends-paired-kept = all_left g f st (end_paired st.rows) (end_paired (settled g f st).rows) s.numbers.rows-rise at_row s.rows.ends-paired
    where
      at_row : (n : ℕ) → Stands st n → member n g ≡ false → end_paired st.rows (row_of st.rows n) ≡ true → end_paired (settled g f st).rows (returned f st.requests (row_of st.rows n)) ≡ true
      at_row n t k e = returned-keeps (end_paired (settled g f st).rows) (λ p r. refl) f st.requests r ∙ pick (is_end r.kind) refl e
        where
          r : Row
          r = row_of st.rows n

          o : ℕ
          o = other_end r

          pick : (b : Bool) → is_end r.kind ≡ b → not b || is_paired_with r (row_of st.rows o) ≡ true → not b || is_paired_with r (row_of (settled g f st).rows o) ≡ true
          pick true h e =
              ap (is_paired_with r) (row-after g f st o (c.other-end-stays n t h k)) ∙ returned-keeps (is_paired_with r) (λ p x. refl) f st.requests (row_of st.rows o) ∙ e
          pick false h e = refl

  -- ---- (rule S24) a copy is newer than its request, which lists it
  still-listed : (n : ℕ) → Stands st n → member n g ≡ false → some (row_of st.rows n).request ≡ true → lists n (request_of (remaining f g st.requests) (row_of st.rows n).request) ≡ true
  unfolding leaves listed_in
  still-listed n t k h = ap (lists n) (request-left n t k h) ∙ trimmed-lists f g older v n ∙ and_i (lists n v) (not (leaves f g older n)) (copy-listed st s n t h) (ap not stays)
    where
      v : Request
      v = request_of st.requests (row_of st.rows n).request

      older : List Request
      older = older_of (λ v. v.number) st.requests (row_of st.rows n).request

      unlisted : listed_in f older n ≡ false
      unlisted = false_of _ (λ u. clash (listed-end g f st s c n t k (any-older (λ v. v.number) (λ w. f w && lists n w) st.requests (row_of st.rows n).request u)) (copy_at st s n t h).no_end)

      stays : leaves f g older n ≡ false
      stays = ap (λ b. b || listed_in f older n) k ∙ unlisted

  pub copies-listed-kept : copies_listed (settled g f st).requests (settled g f st).rows ≡ true
  unfolding copies_listed copy_listed with_place
  copies-listed-kept = unfold settled in all_left g f st (copy_listed st.requests) (copy_listed (remaining f g st.requests)) s.numbers.rows-rise at_row s.loans.copies-listed
    where
      not-zero-positive : (q : ℕ) → (q ≡ 0 → ⊥) → 0 < q
      not-zero-positive q h = omega arith

      at_row : (n : ℕ) → Stands st n → member n g ≡ false → copy_listed st.requests (row_of st.rows n) ≡ true
          → copy_listed (remaining f g st.requests) (returned f st.requests (row_of st.rows n)) ≡ true
      at_row n t k e = returned-keeps (copy_listed (remaining f g st.requests)) (λ p r. refl) f st.requests r ∙ pick (eqb r.request 0) refl e
        where
          r : Row
          r = row_of st.rows n

          pick : (b : Bool) → eqb r.request 0 ≡ b → b || (ltb r.request r.number && lists r.number (request_of st.requests r.request)) ≡ true
              → b || (ltb r.request r.number && lists r.number (request_of (remaining f g st.requests) r.request)) ≡ true
          pick true h e = refl
          pick false h e =
              and_i (ltb r.request r.number) (lists r.number (request_of (remaining f g st.requests) r.request))
              (and_l (ltb r.request r.number) (lists r.number (request_of st.requests r.request)) e)
              (ap (λ m. lists m (request_of (remaining f g st.requests) r.request)) (row_number st.rows n t) ∙ still-listed n t k
              (pos-some r.request (not-zero-positive r.request (eqb-false r.request 0 h))))

  pub rows-kept : RowsSound (settled g f st).rows (settled g f st).requests (settled g f st).processes
  rows-kept =
      record {
        objects-in-range = objects-in-range-kept g f st s;
        rights-in-range = rights-in-range-kept g f st s;
        places-in-range = places-in-range-kept g f st s c;
        sources-right = sources-right-kept;
        depths-right = depths-right-kept;
        copies-match = copies-match-kept;
        ends-paired = ends-paired-kept;
      }
