-- What a borrower has: one step through a lent row at most; every row of a c-list is its process's own or hangs on a loan that it fetched.
use Prim.Native.Nat.{ℕ, zero, suc, ◌<◌}
use native.Mathlib.Omega.{arith}
use mathlib.Core.Bool.{Bool, true, false, cond, ◌||◌}
use mathlib.Core.List.{List, [], ◌∷◌, map}
use mathlib.Core.Path.{◌≡◌, refl, sym, ap, ◌∙◌}
use mathlib.Core.Logic.{◌⊎◌, inl, inr, ⊎_elim}
use lib.Dec.{eqb}
use Rattle.rows.specs.declared.Row.{Row}
use Rattle.rows.specs.declared.Request.{Request}
use Rattle.std.specs.Prelude.{if◌then◌else◌}
use Rattle.rows.specs.Lists.{filter, any, first_with, rises, member, some}
use Rattle.rows.specs.Codes.{is_operation, is_subdirectory, is_client, is_server, is_end, in_clist, with_system, is_node, is_clist, is_system}
use Rattle.rows.specs.Tables.{State, row_of, request_of, sources, lists, on_loan, is_lent}
use Rattle.rows.specs.Sound.{requests_rise, is_fetched}
use Rattle.rows.proofs.Keyed.{rises-rest}
use Rattle.tables.proofs.Picked.{older-other}
use Rattle.closing.proofs.Facts.{copy-listed, lists-open, request-number}
use Rattle.rows.proofs.Bools.{clash, true_of, or_r, or_cases, some-pos, none-zero, eqb-self, true-or-false}
use Rattle.rows.proofs.Places.{copied-no-end, subdirectory-no-end, clist-not-node}
use Rattle.tables.proofs.Sound.{Sound}
use Rattle.tables.proofs.SoundFacts.{clist-is}
use Rattle.tables.proofs.Standing.{source-lower, via-listed}
use Rattle.text.specs.Opening.{Form}
use Rattle.security.specs.Sessions.{IsRow, IsOpen, Has, Log, fetcher_of, Session}
use Rattle.security.specs.Places.{home_of, listers, whereabouts, Places, WhereEverythingIs}
use Rattle.security.specs.Borrowers.{IsHeldRow, CopiesOf, itself, lent-copy, OfOwn, ThroughLent, OneStepThroughLent, Borrows, Uses, own, borrowed, through-borrowed, Holding, uses, made, serves, lent, WhatAProcessHas, Plain, plain-own, plain-made, plain-serves, WithoutLoans}
use Rattle.security.proofs.Sessions.{session-sound}
use Rattle.security.proofs.Rows.{source-listed, Sort, text-row, registered-row, held-row, end_row, copy, IsHeld, sort-of, source-no-end, operation-no-end, server-no-client, clist-outside, clist-no-system, clist-apart}
use Rattle.security.proofs.Numbers.{source_row}
use Rattle.security.proofs.RowLaws.{every-row}
use Rattle.security.proofs.Rights.{lessens}
use Rattle.security.proofs.PlacesKept.{operation-row, end-source, where-everything-is}
use Rattle.security.proofs.Borne.{borne, borne-law, node-free, lent_is}
use Rattle.security.proofs.Derived.{unlent-law, outside-law, together-law, copy-sourced, free-sources, held-through}

module _ (fs : List Form) (log : Log) (st : State) (x : Session fs log st) where
  s : Sound st
  s = session-sound fs log st x

  abbrev R : ℕ → Row
  R n = row_of st.rows n

  -- ---- held rows and copies
  -- outside the nodes, what is no end is held or a copy
  data Kind (n : ℕ) : Type 0 where
    is_held : IsHeldRow st n → IsHeld (R n) (R (R n).source) (R (R n).via) → Kind n
    is-copy : some (R n).request ≡ true → Kind n

  kind-of : (n : ℕ) → IsRow st n → is_node (R n).place ≡ false → is_end (R n).kind ≡ false → Kind n
  kind-of n t o e = pick (sort-of st s n t)
    where
      pick : Sort st.requests (R n) (R (R n).source) (R (R n).via) → Kind n
      pick (text-row k) = clash k.node o
      pick (registered-row k) = clash k.node o
      pick (held-row k) = is_held (record { stands = t; copied = k.copied; clist = k.clist; source = k.source; unborne = k.request }) k
      pick (end_row k) = clash k.is-end e
      pick (copy k) = is-copy k.bears

  -- the held row that a row is copies of; it is of the same kind
  record Taken (n : ℕ) : Type 0 where
    taken : ℕ
    copies : CopiesOf st.rows n taken
    held : IsHeldRow st taken
    way : IsHeld (R taken) (R (R taken).source) (R (R taken).via)
    same_kind : (R taken).kind ≡ (R n).kind

  taken-from : (k n : ℕ) → n < k → IsRow st n → is_node (R n).place ≡ false → is_end (R n).kind ≡ false → Taken n
  taken-from zero n lt t o e = absurd (omega arith)
  taken-from (suc k) n lt t o e =
      pick (kind-of n t o e)
      (λ b. let h = copy-sourced st s n t b in
      taken-from k (R n).source (let l = source-lower st s.numbers s.rows n t in omega arith) (source_row st s n (R n).source t (source-listed (R n) h)) (every-row fs _ (outside-law fs) log st x n t b) (source-no-end st s n t h))
    where
      pick : Kind n → (some (R n).request ≡ true → Taken (R n).source) → Taken n
      pick (is_held h w) ih = record { taken = n; copies = itself n; held = h; way = w; same_kind = refl }
      pick (is-copy b) ih =
          let y = ih b in
          record { taken = y.taken; copies = lent-copy n y.taken b y.copies; held = y.held; way = y.way; same_kind = y.same_kind ∙ sym (lessens fs log st x n t e (copy-sourced st s n t b)).kind }

  taken_of : (n : ℕ) → IsRow st n → is_node (R n).place ≡ false → is_end (R n).kind ≡ false → Taken n
  taken_of n t o e = taken-from (suc n) n (omega arith) t o e

  -- ---- one step through a lent row at most
  subdirectory-own : (n : ℕ) → IsRow st n → is_node (R n).place ≡ false → is_subdirectory (R n).kind ≡ true → OfOwn st n
  subdirectory-own n t o k =
      let y = taken_of n t o (subdirectory-no-end (R n).kind k) in
      let h = y.taken in
      let kind : is_subdirectory (R h).kind ≡ true = ap is_subdirectory y.same_kind ∙ k in
      record {
        own = h;
        copies = y.copies;
        held = y.held;
        unlent = lent_is st s h (subdirectory-no-end (R h).kind kind) ∙ every-row fs _ (unlent-law fs) log st x h y.held.stands kind y.held.unborne;
      }

  -- a held row is lent just if it was held through a lent row
  held-lent : (h : ℕ) → IsHeldRow st h → borne st h ≡ true → (some (R h).via ≡ true) × (borne st (R h).via ≡ true)
  unfolding some
  held-lent h y b = pick (true-or-false (some (R h).via))
    where
      none : any (borne st) (sources (R h)) ≡ false → borne st h ≡ false
      none z = borne-law st s h y.stands ∙ ap (λ k. some k || any (borne st) (sources (R h))) y.unborne ∙ z

      pick : (some (R h).via ≡ true) ⊎ (some (R h).via ≡ false) → (some (R h).via ≡ true) × (borne st (R h).via ≡ true)
      pick (inl v) =
          (v, true_of (borne st (R h).via) (λ z. clash b (none (free-sources (borne st) (R h) (λ e. node-free st s (R h).source y.source) (λ e. z)))))
      pick (inr v) = clash b (none (free-sources (borne st) (R h) (λ e. node-free st s (R h).source y.source) (λ e. clash e v)))

  -- and that row itself bears a request's number
  lent-bears : (h : ℕ) → IsHeldRow st h → some (R h).via ≡ true → borne st (R h).via ≡ true → some (R (R h).via).request ≡ true
  lent-bears h y v e =
      let there : IsRow st (R h).via = source_row st s h (R h).via y.stands (via-listed (R h) v) in
      let d = (held-through st s h y.stands (copied-no-end (R h).kind y.copied) y.unborne v).kind in
      true_of (some (R (R h).via).request) (λ z. clash e (every-row fs _ (unlent-law fs) log st x (R h).via there d (none-zero (R (R h).via).request z)))

  operation-step : (n : ℕ) → IsRow st n → is_node (R n).place ≡ false → is_operation (R n).kind ≡ true → OfOwn st n ⊎ ThroughLent st n
  operation-step n t o k = pick (true-or-false (borne st h))
    where
      no_end : is_end (R n).kind ≡ false
      no_end = operation-no-end (R n).kind k

      y : Taken n
      y = taken_of n t o no_end

      h : ℕ
      h = y.taken

      through : borne st h ≡ true → ThroughLent st n
      through b =
          let (v, e) = held-lent h y.held b in
          let d : is_subdirectory (R (R h).via).kind ≡ true = ⊎_elim (λ z. let l = some-pos (R h).via v in absurd (omega arith)) (λ d. d) y.way.via in
          let there : IsRow st (R h).via = source_row st s h (R h).via y.held.stands (via-listed (R h) v) in
          let place : (R (R h).via).place ≡ (R h).place = every-row fs _ (together-law fs) log st x h y.held.stands (copied-no-end (R h).kind y.held.copied) y.held.unborne v in
          let outside : is_node (R (R h).via).place ≡ false = ap is_node place ∙ clist-outside (R h).place y.held.clist in
          record {
            taken = h;
            copies = y.copies;
            held = y.held;
            through = v;
            bears = lent-bears h y.held v e;
            subdirectory = d;
            way = subdirectory-own (R h).via there outside d;
          }

      pick : (borne st h ≡ true) ⊎ (borne st h ≡ false) → OfOwn st n ⊎ ThroughLent st n
      pick (inl b) = inr (through b)
      pick (inr b) =
          inl (record { own = h; copies = y.copies; held = y.held; unlent = lent_is st s h (ap is_end y.same_kind ∙ no_end) ∙ b })

-- ==== what a process has
-- the newest request that lists a row is open
newest-open : (n : ℕ) (vs : List Request) → rises (λ v. v.number) vs ≡ true → (v : Request) (ws : List Request) → filter (lists n) vs ≡ v ∷ ws
    → (member v.number (map (λ v. v.number) vs) ≡ true) × (request_of vs v.number ≡ v)
unfolding filter request_of first_with member
newest-open n [] up v ws e = absurd (let z : ◌≡◌ {A = ℕ} 0 1 = cc in omega arith)
newest-open n (w ∷ vs) up v ws e = pick (newest-open n vs (rises-rest (λ v. v.number) w vs up) v ws) (lists n w) e
  where
    pick : (filter (lists n) vs ≡ v ∷ ws → (member v.number (map (λ v. v.number) vs) ≡ true) × (request_of vs v.number ≡ v)) → (b : Bool) → cond b (w ∷ filter (lists n) vs) (filter (lists n) vs) ≡ v ∷ ws
        → (eqb v.number w.number || member v.number (map (λ v. v.number) vs) ≡ true) × (cond (eqb w.number v.number) w (request_of vs v.number) ≡ v)
    pick ih true e = let z : w ≡ v = cc in (rw (← z, eqb-self w.number) refl, rw (← z, eqb-self w.number) refl)
    pick ih false e =
        let (m, f) = ih e in
        (or_r (eqb v.number w.number) _ m, rw (older-other (λ v. v.number) w vs up v.number m) f)

pub client-home : (st : State) (r : Row) → is_client r.kind ≡ true → home_of st r ≡ (row_of st.rows r.source).place
unfolding home_of
client-home st r c = rw c refl

server-home : (st : State) (r : Row) → is_server r.kind ≡ true → home_of st r ≡ in_clist (row_of st.rows r.source).object
unfolding home_of
server-home st r c = rw (server-no-client r.kind c) refl

none-on-loan : (n : ℕ) (vs : List Request) → filter (lists n) vs ≡ [] → any (lists n) vs ≡ false
unfolding filter any
none-on-loan n [] e = refl
none-on-loan n (v ∷ vs) e = pick (none-on-loan n vs) (lists n v) e
  where
    pick : (filter (lists n) vs ≡ [] → any (lists n) vs ≡ false) → (b : Bool) → cond b (v ∷ filter (lists n) vs) (filter (lists n) vs) ≡ [] → b || any (lists n) vs ≡ false
    pick ih true e = absurd (let z : ◌≡◌ {A = ℕ} 0 1 = cc in omega arith)
    pick ih false e = ih e

module _ (fs : List Form) (log : Log) (st : State) (x : Session fs log st) (b : ℕ) (clist : is_clist (in_clist b) ≡ true) where
  so : Sound st
  so = session-sound fs log st x

  abbrev Q : ℕ → Row
  Q n = row_of st.rows n

  at : Places log st
  unfolding WhereEverythingIs
  at = where-everything-is fs log st x

  -- who has what only a fetch puts there has fetched it
  fetched-it : (v : Request) (place : ℕ) → place ≡ in_clist b → place ≡ (if is_fetched v then in_clist (fetcher_of log v.number) else with_system) → (is_fetched v ≡ true) × (fetcher_of log v.number ≡ b)
  fetched-it v place h e = pick (is_fetched v) refl e
    where
      pick : (f : Bool) → is_fetched v ≡ f → place ≡ (if f then in_clist (fetcher_of log v.number) else with_system) → (is_fetched v ≡ true) × (fetcher_of log v.number ≡ b)
      pick true q e = (q, clist-apart (fetcher_of log v.number) b (sym e ∙ h))
      pick false q e = clash (ap is_system (sym h ∙ e) ∙ (unfold is_system in eqb-self with_system)) (clist-no-system (in_clist b) clist)

  -- a copy
  borrowed-copy : (n : ℕ) → IsRow st n → Has st b n → some (Q n).request ≡ true → Borrows log st b (Q n).request
  borrowed-copy n t h y =
      let q = (Q n).request in
      let o : IsOpen st q = lists-open st n q (copy-listed st so n t y) in
      let (f, e) = fetched-it (request_of st.requests q) (Q n).place h (at.copies n t y) in
      record { is_open = o; is-fetched = f; by = ap (fetcher_of log) (sym (request-number st q o)) ∙ e }

  -- what is no end
  uses-it : (n : ℕ) → IsRow st n → Has st b n → is_end (Q n).kind ≡ false → Uses log st b n
  uses-it n t h e = pick (kind-of fs log st x n t (ap is_node h ∙ clist-not-node b) e)
    where
      held : IsHeldRow st n → (borne st n ≡ true) ⊎ (borne st n ≡ false) → Uses log st b n
      held y (inl z) =
          let (v, f) = held-lent fs log st x n y z in
          let there : IsRow st (Q n).via = source_row st so n (Q n).via t (via-listed (Q n) v) in
          let has : Has st b (Q n).via = every-row fs _ (together-law fs) log st x n t e y.unborne v ∙ h in
          let bears = lent-bears fs log st x n y v f in
          through-borrowed (Q n).via (Q (Q n).via).request y refl has bears refl (borrowed-copy (Q n).via there has bears)
      held y (inr z) = own y (lent_is st so n e ∙ z)

      pick : Kind fs log st x n → Uses log st b n
      pick (is_held y w) = held y (true-or-false (borne st n))
      pick (is-copy y) = borrowed (Q n).request y refl (borrowed-copy n t h y)

  -- ends
  end-at-home : (n : ℕ) → IsRow st n → is_end (Q n).kind ≡ true → listers n st.requests ≡ [] → (Q n).place ≡ in_clist b → Holding log st b n
  end-at-home n t k l h = pick (or_cases (is_client (Q n).kind) (is_server (Q n).kind) (unfold is_end in k))
    where
      home : home_of st (Q n) ≡ in_clist b
      home = sym (at.ends n t k ∙ ap (whereabouts log (home_of st (Q n))) l ∙ (unfold whereabouts in refl)) ∙ h

      off : on_loan st.requests n ≡ false
      off = unfold on_loan in none-on-loan n st.requests (unfold listers in l)

      operation : is_operation (Q (Q n).source).kind ≡ true
      operation = (end-source st so n t k).1

      pick : (is_client (Q n).kind ≡ true) ⊎ (is_server (Q n).kind ≡ true) → Holding log st b n
      pick (inl c) =
          let has : Has st b (Q n).source = sym (client-home st (Q n) c) ∙ home in
          made c off has (uses-it (Q n).source (operation-row st.rows (Q n).source operation) has (operation-no-end _ operation))
      pick (inr c) = serves c off (clist-apart _ b (sym (server-home st (Q n) c) ∙ home))

  holding : (n : ℕ) → IsRow st n → Has st b n → Holding log st b n
  holding n t h = pick (true-or-false (is_end (Q n).kind))
    where
      end : is_end (Q n).kind ≡ true → (ls : List Request) → listers n st.requests ≡ ls → Holding log st b n
      end k [] l = end-at-home n t k l h
      end k (v ∷ vs) l =
          let (m, f) = newest-open n st.requests (unfold requests_rise in so.numbers.requests-rise) v vs (unfold listers in l) in
          let (g, e) = fetched-it v (Q n).place h (at.ends n t k ∙ ap (whereabouts log (home_of st (Q n))) l ∙ (unfold whereabouts in refl)) in
          lent v vs k l (record { is_open = m; is-fetched = ap is_fetched f ∙ g; by = e })

      pick : (is_end (Q n).kind ≡ true) ⊎ (is_end (Q n).kind ≡ false) → Holding log st b n
      pick (inl k) = end k (listers n st.requests) refl
      pick (inr k) = uses (uses-it n t h k)

pub what-a-process-has : WhatAProcessHas
unfolding WhatAProcessHas
what-a-process-has fs log st x b n l t h = holding fs log st x b (clist-is st (session-sound fs log st x).placed b l) n t h

-- without a loan that it fetched
pub without-loans : WithoutLoans
unfolding WithoutLoans WhatAProcessHas
without-loans fs log st x b l none n t h = pick (what-a-process-has fs log st x b n l t h)
  where
    plain : (n : ℕ) → Uses log st b n → (IsHeldRow st n) × (is_lent st n ≡ false)
    plain n (own y u) = (y, u)
    plain n (borrowed q z e y) = absurd (none q y)
    plain n (through-borrowed v q y e has z f w) = absurd (none q w)

    pick : Holding log st b n → Plain st b n
    pick (uses u) = let (y, l) = plain n u in plain-own y l
    pick (made c o has u) = let (y, l) = plain (row_of st.rows n).source u in plain-made c o has y l
    pick (serves c o e) = plain-serves c o e
    pick (lent v vs k l y) = absurd (none v.number y)

pub one-step-through-lent : OneStepThroughLent
unfolding OneStepThroughLent
one-step-through-lent fs log st x = record { subdirectories = subdirectory-own fs log st x; operations = operation-step fs log st x }
