-- go keeps the tables sound: only the caller's record changes, and not its prime node.
use Prim.Native.Nat.{ℕ, zero, suc, ◌+◌, ◌-◌, ◌<◌}
use mathlib.Core.Bool.{Bool, true, false, ◌&&◌}
use mathlib.Core.List.{List, [], ◌∷◌}
use mathlib.Core.Path.{◌≡◌, refl, ap, ◌∙◌}
use lib.Dec.{eqb}
use lib.ListN.{get_or, set, length-set}
use native.Mathlib.Omega.{arith}
use Rattle.rows.specs.declared.Row.{Row}
use Rattle.rows.specs.declared.Process.{Process}
use Rattle.std.specs.Prelude.{if◌then◌else◌}
use Rattle.rows.specs.Lists.{between, some}
use Rattle.rows.specs.Limits.{nodes}
use Rattle.rows.specs.Codes.{is_subdirectory, in_clist, is_node, owner_of}
use Rattle.rows.specs.Tables.{State, no_process, row_of, process_at, is_listed}
use Rattle.rows.specs.Sound.{records_fit, object_in_range, objects_in_range, place_in_range, places_in_range, record_unused, record_in_range, records_in_range, requesters_listed, process_placed, placed_from, processes_placed}
use Rattle.rows.proofs.Bools.{and_l, and_r, and_i, or_l, or_r, eqb-self, pos-some, all-eq}
use Rattle.tables.proofs.Sound.{Sound}
use Rattle.tables.proofs.SoundFacts.{row_below, listed-range, prime-node, row-object, subdirectory-node}
use Rattle.rows.proofs.Lists.{all_set}
use Rattle.calls.specs.Rules.{with_record}
use Rattle.calls.specs.Calls.{go_home, go_through}
use Rattle.kept.proofs.Allowed.{InHand, GoAllowed}

-- ---- the records with one replaced
prime-set : (xs : List Process) (i : ℕ) (x : Process) → x.prime ≡ (get_or xs i no_process).prime → (j : ℕ) → (get_or (set xs i x) j no_process).prime ≡ (get_or xs j no_process).prime
prime-set [] i x e j = refl
prime-set (y ∷ xs) zero x e zero = e
prime-set (y ∷ xs) zero x e (suc j) = refl
prime-set (y ∷ xs) (suc i) x e zero = refl
prime-set (y ∷ xs) (suc i) x e (suc j) = prime-set xs i x e j

placed-set : (rs : List Row) (xs : List Process) (k i p : ℕ) (x : Process) → p ≡ k + i → placed_from rs k xs ≡ true → process_placed rs p x ≡ true → placed_from rs k (set xs i x) ≡ true
unfolding placed_from
placed-set rs [] k i p x e t h = refl
placed-set rs (y ∷ xs) k zero p x e t h =
    let z : k ≡ p = omega arith in
    and_i (process_placed rs k x) (placed_from rs (suc k) xs) (ap (λ n. process_placed rs n x) z ∙ h) (and_r (process_placed rs k y) (placed_from rs (suc k) xs) t)
placed-set rs (y ∷ xs) k (suc i) p x e t h =
    and_i (process_placed rs k y) (placed_from rs (suc k) (set xs i x)) (and_l (process_placed rs k y) (placed_from rs (suc k) xs) t)
    (placed-set rs xs (suc k) i p x (omega arith) (and_r (process_placed rs k y) (placed_from rs (suc k) xs) t) h)

-- ---- the same processes are listed
module _ (ps qs : List Process) (same : (q : ℕ) → is_listed qs q ≡ is_listed ps q) where
  object-same : (r : Row) → object_in_range qs r ≡ object_in_range ps r
  unfolding object_in_range
  object-same r = rw (same r.object) refl

  place_same : (r : Row) → place_in_range qs r ≡ place_in_range ps r
  unfolding place_in_range
  place_same r = rw (same (owner_of r.place)) refl

-- ---- a record replaced by one that is right, with the same prime node
module _ (st : State) (s : Sound st) (p : ℕ) (l : is_listed st.processes p ≡ true) (x : Process) (e : x.prime ≡ (process_at st.processes p).prime) where
  listed-set : (q : ℕ) → is_listed (set st.processes (p - 1) x) q ≡ is_listed st.processes q
  unfolding is_listed process_at
  listed-set zero = refl
  listed-set (suc j) = ap some (go p (listed-range st s.placed p l).0 e)
    where
      go : (p : ℕ) → 0 < p → x.prime ≡ (process_at st.processes p).prime → (get_or (set st.processes (p - 1) x) j no_process).prime ≡ (get_or st.processes j no_process).prime
      go zero h e = absurd (omega arith)
      go (suc i) h e = let z : suc i - 1 ≡ i = omega arith in rw z (prime-set st.processes i x e j)

  record-kept : is_node x.active ≡ true → process_placed st.rows p x ≡ true → Sound (with_record p x st)
  unfolding with_record objects_in_range places_in_range requesters_listed records_fit record_in_range records_in_range processes_placed between is_node
  record-kept n h =
      let ps = st.processes in
      let qs = set ps (p - 1) x in
      let (lo, hi) = listed-range st s.placed p l in
      record {
        numbers = s.numbers;
        rows =
            record {
              objects-in-range = all-eq (object_in_range qs) (object_in_range ps) (object-same ps qs listed-set) st.rows ∙ s.rows.objects-in-range;
              rights-in-range = s.rows.rights-in-range;
              places-in-range = all-eq (place_in_range qs) (place_in_range ps) (place_same ps qs listed-set) st.rows ∙ s.rows.places-in-range;
              sources-right = s.rows.sources-right;
              depths-right = s.rows.depths-right;
              copies-match = s.rows.copies-match;
              ends-paired = s.rows.ends-paired;
            };
        loans =
            record {
              fetched-in-range = s.loans.fetched-in-range;
              ports-stand = s.loans.ports-stand;
              requesters-listed = all-eq (λ v. is_listed qs v.asker) (λ v. is_listed ps v.asker) (λ v. listed-set v.asker) st.requests ∙ s.loans.requesters-listed;
              items-few = s.loans.items-few;
              items-apart = s.loans.items-apart;
              items-lent = s.loans.items-lent;
              one-per-port = s.loans.one-per-port;
              copies-listed = s.loans.copies-listed;
            };
        holders = s.holders;
        placed =
            record {
              records-fit = rw (length-set ps (p - 1) x) s.placed.records-fit;
              records-in-range =
                  all_set record_in_range ps (p - 1) x s.placed.records-in-range
                  (or_r (record_unused x) _ (and_i (between 1 nodes x.prime) (between 1 nodes x.active) (ap is_node e ∙ prime-node st s.placed p l) n));
              processes-placed = placed-set st.rows ps 1 (p - 1) p x (omega arith) s.placed.processes-placed h;
            };
      }

-- ---- go
module _ (st : State) (s : Sound st) (p : ℕ) (l : is_listed st.processes p ≡ true) where
  home-kept : Sound (go_home st p)
  unfolding go_home process_placed
  home-kept =
      let x = process_at st.processes p in
      let y : Process = record { prime = x.prime; active = x.prime; through = 0 } in
      record-kept st s p l y refl (prime-node st s.placed p l) (or_l (eqb x.prime x.prime) _ (eqb-self x.prime))

  through-kept : (e : ℕ) → InHand st p e → is_subdirectory (row_of st.rows e).kind ≡ true → Sound (go_through st p e)
  unfolding go_through process_placed
  through-kept e h k =
      let r = row_of st.rows e in
      let there = h.there in
      let x : Process = record { prime = (process_at st.processes p).prime; active = r.object; through = e } in
      record-kept st s p l x refl (subdirectory-node st.processes r (row-object st s.rows e there) k)
      (or_r (eqb e 0 && eqb x.active x.prime) _
      (and_i (some e) _ (pos-some e (row_below st s.numbers e there).0) (and_i (is_subdirectory r.kind) _ k (and_i (eqb r.place (in_clist p)) _ h.place (eqb-self r.object)))))

pub go-kept : (st : State) → Sound st → (p e : ℕ) → GoAllowed st p e → Sound (if eqb e 0 then go_home st p else go_through st p e)
go-kept st s p e a = pick (eqb e 0) refl
  where
    pick : (b : Bool) → eqb e 0 ≡ b → Sound (if b then go_home st p else go_through st p e)
    pick true z = home-kept st s p a.caller
    pick false z = through-kept st s p a.caller e (a.row z) (a.subdirectory z)
