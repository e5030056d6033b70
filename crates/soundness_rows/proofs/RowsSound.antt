-- The clauses of a row joined, and of all rows: laws for the functions of src/rows_sound.rt.
use Rattle.std.proofs.Common.{◌≡◌, ℕ, suc, ◌+◌, ◌<◌, ◌≤◌, max, Bool, true, false, not, ◌&&◌, ◌||◌, eqb, ltb, leb, List, [], ◌∷◌, ◌++◌, length, get_or, sym, refl, ap, ◌∙◌, subst, append_assoc, arith}
use Rattle.rows.specs.declared.Row.{Row}
use Rattle.rows.specs.declared.Process.{Process}
use Rattle.rows.specs.Lists.{all, each}
use Rattle.rows.specs.Limits.{greatest_depth}
use Rattle.rows.specs.Codes.{client_end, server_end, is_client, is_server, is_end}
use Rattle.rows.specs.Tables.{State, request_of, lists}
use Rattle.rows.specs.Sound.{source_of, via_of, object_in_range, objects_in_range, right_in_range, rights_in_range, place_in_range, places_in_range, source_right, sources_right, has_right_depth, depth_right, depths_right, copy_matches, copies_match, is_paired_with, end_paired, ends_paired, copy_listed, copies_listed, sourced}
use Rattle.rows.specs.Layout.{raw_row}
use Rattle.rows.specs.vocabulary.Represents.{Represents}
use Rattle.soundness_rows.specs.vocabulary.AtSlot.{AtSlot, PortsNamed}
use Rattle.soundness_rows.specs.vocabulary.Clauses.{own_right, shape_right, depth_next, by_sources, fields_and_sources, all_but_loans, loan_right, loans_right, beside_older, newest_paired, row_sound, all_of_rows}
use Rattle.soundness_rows.specs.vocabulary.Packed.{packed, Packs, PacksRows, Faithful}
use Rattle.soundness_rows.specs.vocabulary.Seen.{Same, SaysOfPacked}
use Rattle.rows.proofs.Bools.{and-true, and-false, or-false}
use Rattle.rows.proofs.KeySlots.{each-cut}
use Rattle.rows.proofs.Slots.{represented-well}
use Rattle.soundness_rows.proofs.PackedRows.{packs-own, ports-own, packed-same}
use Rattle.soundness_rows.proofs.RowClauses.{shape-split}
use Rattle.soundness_rows.proofs.RowPairs.{paired_words, neighbours-paired}
use Rattle.soundness_rows.proofs.RowsSeen.{seen_at, same_at}
use Rattle.soundness_rows.proofs.SlotLoops.{Tested, tested-none, tested-more, tested-all, each-join, each_all}

pub no-ends : (rs : List Row) → length rs ≡ 0 → true ≡ ends_paired rs
unfolding ends_paired all
no-ends [] e = refl
no-ends (y ∷ rs) e = absurd (omega arith)

-- ---- the clauses of a row, in groups
-- o, r, p: fields; h, b: sources, but for the port, and that no request is borne; j: its port; d, g: depth; c: copy; e: pair; l, i: listing
split-loan : (b j l i : Bool) → b || (l && (i && j)) ≡ (b || j) && (b || (l && i))
split-loan true j l i = refl
split-loan false true l i = rw (and-true i) refl
split-loan false false l i = rw (and-false i, and-false l) refl

split-row : (o r p h b j d g c e l i : Bool)
    → ((o && (r && p)) && g) && ((h && (d && c)) && (e && (b || (l && (i && j)))))
    ≡ o && (r && (p && ((h && (b || j)) && ((d && g) && (c && (e && (b || (l && i))))))))
split-row false r p h b j d g c e l i = refl
split-row true false p h b j d g c e l i = refl
split-row true true false h b j d g c e l i = refl
split-row true true true false b j d true c e l i = refl
split-row true true true false b j d false c e l i = refl
split-row true true true true b j d false c e l i = rw (and-false d, and-false (b || j)) refl
split-row true true true true b j false true c e l i = sym (and-false (b || j))
split-row true true true true b j true true false e l i = sym (and-false (b || j))
split-row true true true true b j true true true false l i = sym (and-false (b || j))
split-row true true true true b j true true true true l i = split-loan b j l i

-- the four groups are all clauses
groups : (st : State) (y : Row) (old : List Row)
    → own_right st.processes y && (by_sources y old && (end_paired st.rows y && loan_right st.requests y)) ≡ row_sound st y old
unfolding row_sound own_right by_sources depth_next loan_right has_right_depth copy_listed
groups st y old =
    split-row (object_in_range st.processes y) (right_in_range y) (place_in_range st.processes y) (shape_right y old) (eqb y.request 0)
    (eqb (request_of st.requests y.request).port y.via) (eqb y.depth (suc (max (source_of old y).depth (via_of old y).depth)))
    (leb y.depth greatest_depth) (copy_matches y old) (end_paired st.rows y) (ltb y.request y.number)
    (lists y.number (request_of st.requests y.request))
    ∙ ap (λ (q : Bool). object_in_range st.processes y && (right_in_range y && (place_in_range st.processes y && (q && (depth_right y old && (copy_matches y old && (end_paired st.rows y && copy_listed st.requests y)))))))
    (shape-split st.requests old y)

own_same : (ps : List Process) (x y : Row) → Same x y → own_right ps x ≡ own_right ps y
unfolding own_right object_in_range right_in_range place_in_range
own_same ps x y s = rw (s.number, s.kind, s.object, s.operation, s.rights, s.place, s.depth) refl

-- all rows
pub rows-joined : (st : State) → each (row_sound st) st.rows ≡ all_of_rows st
unfolding row_sound objects_in_range rights_in_range places_in_range sources_right depths_right copies_match ends_paired copies_listed sourced each
rows-joined st =
    each-join (λ y old. object_in_range st.processes y) _ st.rows (each_all (object_in_range st.processes) st.rows)
    (each-join (λ y old. right_in_range y) _ st.rows (each_all right_in_range st.rows)
    (each-join (λ y old. place_in_range st.processes y) _ st.rows (each_all (place_in_range st.processes) st.rows)
    (each-join (source_right st.requests) _ st.rows refl
    (each-join depth_right _ st.rows refl
    (each-join copy_matches _ st.rows refl
    (each-join (λ y old. end_paired st.rows y) (λ y old. copy_listed st.requests y) st.rows (each_all (end_paired st.rows) st.rows)
    (each_all (copy_listed st.requests) st.rows)))))))

each-ext : (F G : Row → List Row → Bool) (rs : List Row) → ((y : Row) (old : List Row) → F y old ≡ G y old) → each F rs ≡ each G rs
unfolding each
each-ext F G [] h = refl
each-ext F G (y ∷ rs) h = λ i. h y rs i && each-ext F G rs h i

-- where the fields of all rows are in range, their words tell what they say, and ends have the objects that their numbers tell
module _ (ps : List Process) (rs : List Row) (few : length ps ≤ 64) (h : all (own_right ps) rs ≡ true) where
  own-cut : (new : List Row) (y : Row) (old : List Row) → rs ≡ new ++ (y ∷ old) → own_right ps y ≡ true
  own-cut new y old e = each-cut (λ z rest. own_right ps z) new y old (each_all (own_right ps) (new ++ (y ∷ old)) ∙ ap (all (own_right ps)) (sym e) ∙ h)

  pub faithful : Faithful rs
  faithful = record { packs = λ new y old e. packs-own ps y few (own-cut new y old e) }

  pub ports-named : PortsNamed rs
  ports-named =
      record {
        client = λ new y old e. (ports-own ps y few (own-cut new y old e)).0;
        server = λ new y old e. (ports-own ps y few (own-cut new y old e)).1;
      }

-- sources count only where all fields are in range
pub fields-then : (a b : Bool) (ps : List Process) (rs : List Row) → a ≡ all (own_right ps) rs → (all (own_right ps) rs ≡ true → b ≡ each by_sources rs)
    → a && b ≡ fields_and_sources ps rs
fields-then a b ps rs ha hb = pick (all (own_right ps) rs) refl
  where
    pick : (q : Bool) → all (own_right ps) rs ≡ q → a && b ≡ all (own_right ps) rs && each by_sources rs
    pick true e = λ i. ha i && hb e i
    pick false e = rw (ha ∙ e) (rw e refl)

-- the groups of all rows; pairs count only where all fields are in range
pub groups-joined : (ps : List Process) (rs : List Row) (a c : Bool) → a ≡ fields_and_sources ps rs → (all (own_right ps) rs ≡ true → c ≡ ends_paired rs) → a && c ≡ all_but_loans ps rs
groups-joined ps rs a c ha hc = pick (all (own_right ps) rs) refl
  where
    pick : (q : Bool) → all (own_right ps) rs ≡ q → a && c ≡ (all (own_right ps) rs && each by_sources rs) && ends_paired rs
    pick true e = λ i. ha i && hc e i
    pick false e = rw ha (rw e refl)

-- with the requests that rows bear they are all clauses of rows
pub loans-joined : (st : State) → all_but_loans st.processes st.rows && loans_right st ≡ all_of_rows st
unfolding ends_paired
loans-joined st = along (all own st.rows) (each by_sources st.rows) (ends_paired st.rows) (loans_right st) ∙ sym split ∙ rows-joined st
  where
    own : Row → Bool
    own = own_right st.processes

    along : (a b c d : Bool) → ((a && b) && c) && d ≡ a && (b && (c && d))
    along true true c d = refl
    along true false c d = refl
    along false b c d = refl

    split : each (row_sound st) st.rows ≡ all own st.rows && (each by_sources st.rows && (ends_paired st.rows && loans_right st))
    split =
        each-ext (row_sound st) (λ y old. own y && (by_sources y old && (end_paired st.rows y && loan_right st.requests y))) st.rows (λ y old. sym (groups st y old))
        ∙ each-join (λ y old. own y) _ st.rows (each_all own st.rows)
        (each-join by_sources _ st.rows refl
        (each-join (λ y old. end_paired st.rows y) (λ y old. loan_right st.requests y) st.rows (each_all (end_paired st.rows) st.rows) (each_all (loan_right st.requests) st.rows)))

module _ {st : State} {t : List ℕ} (rep : Represents t st) where
  -- ---- ends
  pub beside_at : (i : ℕ) (a b : Row) → a ≡ raw_row t i → b ≡ raw_row t (i + 1)
      → AtSlot beside_older st.rows (i + 1) (((eqb a.kind 3 && eqb b.kind 4) || (not (eqb a.kind 3) && not (eqb b.kind 4))) && (not (eqb a.kind 3) || (eqb b.object a.object && eqb b.source a.source)))
  unfolding beside_older is_client is_server client_end server_end is_paired_with is_end
  beside_at i a b da db = record { told = at }
    where
      -- a client end is an end
      port-alone : (c s k o : Bool) → ((c && s) || (not c && not s)) && (not c || o) ≡ (c && (s && ((c || k) && o))) || (not c && not s)
      port-alone true true k o = sym (or-false o)
      port-alone true false k o = refl
      port-alone false true k o = refl
      port-alone false false k o = refl

      at : (new : List Row) (y : Row) (old : List Row) → st.rows ≡ new ++ (y ∷ old) → length old ≡ i + 1
          → ((eqb a.kind 3 && eqb b.kind 4) || (not (eqb a.kind 3) && not (eqb b.kind 4))) && (not (eqb a.kind 3) || (eqb b.object a.object && eqb b.source a.source)) ≡ beside_older y old
      at new y [] e d = absurd (omega arith)
      at new y (z ∷ old) e d =
          let e' : st.rows ≡ (new ++ (y ∷ [])) ++ (z ∷ old) = e ∙ sym (append_assoc new (y ∷ []) (z ∷ old)) in
          let at_b : b ≡ raw_row t (length (z ∷ old)) = db ∙ ap (raw_row t) (sym d) in
          let at_a : a ≡ raw_row t (length old) = da ∙ ap (raw_row t) (omega arith) in
          port-alone (eqb a.kind 3) (eqb b.kind 4) (eqb a.kind 4) (eqb b.object a.object && eqb b.source a.source)
          ∙ rw (paired_words rep new y (z ∷ old) e (new ++ (y ∷ [])) z old e' b a at_b at_a, (same_at rep new y (z ∷ old) e b at_b).kind, (same_at rep (new ++ (y ∷ [])) z old e' a at_a).kind)
          refl

  pub oldest-tested : (x : Row) → x ≡ raw_row t 0 → 0 < length st.rows → Tested beside_older st.rows 1 (not (eqb x.kind 4))
  unfolding beside_older is_server server_end
  oldest-tested x d h =
      subst (λ (b : Bool). Tested beside_older st.rows 1 b) (and-true (not (eqb x.kind 4)))
      (tested-more (not (eqb x.kind 4)) h (tested-none beside_older st.rows) record { told = at })
    where
      at : (new : List Row) (y : Row) (old : List Row) → st.rows ≡ new ++ (y ∷ old) → length old ≡ 0 → not (eqb x.kind 4) ≡ beside_older y old
      at new y [] e l = rw (same_at rep new y [] e x d).kind refl
      at new y (z ∷ old) e l = absurd (omega arith)

  pub newest-tested : (i : ℕ) (x : Row) → x ≡ raw_row t i → suc i ≡ length st.rows → not (eqb x.kind 3) ≡ newest_paired st.rows
  unfolding newest_paired is_client client_end
  newest-tested i x d l = at st.rows refl l
    where
      at : (rs : List Row) → st.rows ≡ rs → suc i ≡ length rs → not (eqb x.kind 3) ≡ newest_paired rs
      at [] e l = absurd (omega arith)
      at (y ∷ old) e l = rw (same_at rep [] y old e x (d ∙ ap (raw_row t) (omega arith))).kind refl

  pub ends-tested : PortsNamed st.rows → (i : ℕ) (right : Bool) (x : Row) → x ≡ raw_row t i → suc i ≡ length st.rows → Tested beside_older st.rows (i + 1) right
      → right && not (eqb x.kind 3) ≡ ends_paired st.rows
  ends-tested named i right x d l q =
      (λ k. tested-all beside_older st.rows right (subst (λ (m : ℕ). Tested beside_older st.rows m right) (let e : i + 1 ≡ length st.rows = omega arith in e) q) k && newest-tested i x d l k)
      ∙ neighbours-paired st.rows (represented-well rep).rows-rise named

  -- ---- the row at slot i, x its words
  module _ (i : ℕ) (x : Row) (at : x ≡ raw_row t i) where
    -- ---- the clauses of one slot
    pub own_at : (ps : List Process) {b : Bool} → b ≡ own_right ps x → AtSlot (λ y old. own_right ps y) st.rows i b
    own_at ps h = record { told = λ new y old e d. h ∙ own_same ps x y (same_at rep new y old e x (at ∙ ap (raw_row t) (sym d))) }

    pub sources-at : (n w s v : ℕ) (l : List ℕ) {b : Bool} → n ≡ length st.rows → Faithful st.rows → PacksRows t n l → i < n → w ≡ get_or l (i + 1) 0
        → s ≡ get_or l x.source 0 → v ≡ get_or l x.via 0 → SaysOfPacked x w s v b by_sources → AtSlot by_sources st.rows i b
    sources-at n w s v l long f p h dw ds dv says =
        record {
          told =
              λ new y old e d.
              let at_y = at ∙ ap (raw_row t) (sym d) in
              let all-packed : PacksRows t (length st.rows) l = subst (λ (k : ℕ). PacksRows t k l) long p in
              let own : packed y ≡ w
              = sym (packed-same x y (same_at rep new y old e x at_y)) ∙ ap packed at ∙ sym (p.at i h) ∙ ap (λ (k : ℕ). get_or l k 0) (omega arith) ∙ sym dw in
              says y old (seen_at rep new y old e x s v l f all-packed at_y ds dv) (subst (λ (k : ℕ). Packs k y) own (f.packs new y old e));
        }
