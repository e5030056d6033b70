-- The requests that list a row, newest first, and where it is by them: after an ask, a fetch, a closing.
use Prim.Native.Nat.{ℕ}
use mathlib.Core.Bool.{Bool, true, false, not, cond, ◌&&◌, ◌||◌}
use mathlib.Core.List.{List, [], ◌∷◌, map}
use mathlib.Core.Path.{◌≡◌, refl, sym, ap, ◌∙◌}
use lib.Dec.{eqb}
use borrow.Author.Tests.{eqb-true}
use Rattle.rows.specs.declared.Request.{Request}
use Rattle.std.specs.Prelude.{if◌then◌else◌}
use Rattle.rows.specs.Lists.{filter, any, all, each, first_with, rises, member, some}
use Rattle.rows.specs.Codes.{in_clist, with_system}
use Rattle.rows.specs.Tables.{no_request, request_of, lists}
use Rattle.rows.specs.Sound.{is_fetched, older_fetched_by}
use Rattle.rows.proofs.Bools.{clash, false_of, and_l, and_r, or-fl, or-fr, not_t, eqb-sym, eqb-sym-f, and-true, all-mono}
use Rattle.rows.proofs.Keyed.{rises-rest, rises-fresh, all_first}
use Rattle.tables.proofs.Picked.{all-keys, first-here, first-other}
use Rattle.tables.proofs.Awaits.{older-listers}
use Rattle.closing.specs.Closing.{oldest_listing, listed_in, leaves, trimmed, remaining}
use Rattle.closing.proofs.Lookups.{trimmed-lists, oldest-none, oldest-all}
use Rattle.calls.specs.Loans.{now_fetched}
use Rattle.kept.proofs.Loans.{now-lists, now-number, now-same, now-fetched, now-other}
use Rattle.security.specs.Sessions.{Log, nobody, fetcher_of}
use Rattle.security.specs.Places.{listers, whereabouts, Lenders}

-- ---- who fetched
module _ (log : Log) (q p : ℕ) where
  abbrev log' : Log
  log' = record { request = q; process = p } ∷ log

  pub fetched-by : fetcher_of log' q ≡ p
  unfolding fetcher_of
  fetched-by = ap (λ x. x.process) (first-here (λ x. x.request) nobody (record { request = q; process = p }) log)

  pub fetched-else : (n : ℕ) → eqb q n ≡ false → fetcher_of log' n ≡ fetcher_of log n
  unfolding fetcher_of
  fetched-else n h = ap (λ x. x.process) (first-other (λ x. x.request) nobody (record { request = q; process = p }) log n h)

  module _ (home e : ℕ) where
    -- ---- a fetch of q: of what q does not list nothing changes
    pub else-line : (vs : List Request) → all (λ v. not (eqb q v.number && lists e v)) vs ≡ true
        → (whereabouts log' home (listers e (map (now_fetched q) vs)) ≡ whereabouts log home (listers e vs))
        × (Lenders log home (listers e vs) → Lenders log' home (listers e (map (now_fetched q) vs)))
    unfolding all listers filter whereabouts Lenders
    else-line [] a = (refl, λ l. l)
    else-line (v ∷ vs) a =
        rw (now-lists q e v)
        (pick (else-line vs (and_r (not (eqb q v.number && lists e v)) (all (λ v. not (eqb q v.number && lists e v)) vs) a)) (lists e v)
        (not_t (eqb q v.number && lists e v) (and_l (not (eqb q v.number && lists e v)) (all (λ v. not (eqb q v.number && lists e v)) vs) a)) refl)
      where
        older : List Request
        older = filter (lists e) vs

        older' : List Request
        older' = filter (lists e) (map (now_fetched q) vs)

        pick : (whereabouts log' home older' ≡ whereabouts log home older) × (Lenders log home older → Lenders log' home older')
            → (b : Bool) → eqb q v.number && lists e v ≡ false → lists e v ≡ b
            → (whereabouts log' home (cond b (now_fetched q v ∷ older') older') ≡ whereabouts log home (cond b (v ∷ older) older))
            × (Lenders log home (cond b (v ∷ older) older) → Lenders log' home (cond b (now_fetched q v ∷ older') older'))
        pick ih true n l =
            let other : eqb q v.number ≡ false = sym (and-true (eqb q v.number)) ∙ (rw l at n) in
            rw (now-other q v (eqb-sym-f q v.number other))
            (ap (λ x. if is_fetched v then in_clist x else with_system) (fetched-else v.number other), λ k. (k.0 ∙ sym ih.0, ih.1 k.1))
        pick ih false n l = ih

    -- what it lists comes to its fetcher: it is the newest request that lists it, since all others that do are fetched
    pub fetch-line : (vs : List Request) → rises (λ v. v.number) vs ≡ true → each older_fetched_by vs ≡ true → member q (map (λ v. v.number) vs) ≡ true
        → is_fetched (request_of vs q) ≡ false → lists e (request_of vs q) ≡ true
        → (whereabouts log' home (listers e (map (now_fetched q) vs)) ≡ in_clist p)
        × (Lenders log home (listers e vs) → Lenders log' home (listers e (map (now_fetched q) vs)))
    unfolding each request_of first_with member listers filter whereabouts Lenders
    fetch-line [] up o m u l = clash m refl
    fetch-line (w ∷ ws) up o m u l =
        pick (fetch-line ws (rises-rest (λ v. v.number) w ws up) (and_r (older_fetched_by w ws) (each older_fetched_by ws) o)) (eqb w.number q) refl m u l
      where
        found : Request
        found = first_with (λ v. v.number) no_request ws q

        -- no newer request lists it
        newest : member q (map (λ v. v.number) ws) ≡ true → is_fetched found ≡ false → lists e found ≡ true → lists e w ≡ false
        newest m u l =
            false_of (lists e w) λ h.
            clash (all_first (λ v. v.number) no_request (λ x. is_fetched x || not (lists e x)) ws q (older-listers e w ws h (and_l (older_fetched_by w ws) (each older_fetched_by ws) o)) m) (rw (u, l) refl)

        -- the older ones have other numbers
        others : eqb w.number q ≡ true → all (λ v. not (eqb q v.number && lists e v)) ws ≡ true
        others z =
            all-mono (λ v. not (eqb q v.number)) (λ v. not (eqb q v.number && lists e v)) (λ v h. ap (λ b. not (b && lists e v)) (not_t (eqb q v.number) h)) ws
            (all-keys (λ v. v.number) (λ n. not (eqb q n)) ws (λ n t. ap not (false_of (eqb q n) (λ x. clash t (ap (λ k. member k (map (λ v. v.number) ws)) (sym (eqb-true q n x) ∙ sym (eqb-true w.number q z)) ∙ rises-fresh (λ v. v.number) w ws up)))))

        Goal : Type 0
        Goal =
            (whereabouts log' home (listers e (now_fetched q w ∷ map (now_fetched q) ws)) ≡ in_clist p)
            × (Lenders log home (listers e (w ∷ ws)) → Lenders log' home (listers e (now_fetched q w ∷ map (now_fetched q) ws)))

        pick : (member q (map (λ v. v.number) ws) ≡ true → is_fetched found ≡ false → lists e found ≡ true
            → (whereabouts log' home (listers e (map (now_fetched q) ws)) ≡ in_clist p) × (Lenders log home (listers e ws) → Lenders log' home (listers e (map (now_fetched q) ws))))
            → (b : Bool) → eqb w.number q ≡ b → eqb q w.number || member q (map (λ v. v.number) ws) ≡ true → is_fetched (cond b w found) ≡ false → lists e (cond b w found) ≡ true → Goal
        pick ih true z m u l =
            let rest = else-line ws (others z) in
            rw (now-lists q e w, l, now-fetched q w z)
            (ap in_clist (ap (fetcher_of log') (now-number q w ∙ eqb-true w.number q z) ∙ fetched-by), λ k. (ap in_clist (now-same q (λ v. v.asker) (λ k v. refl) w) ∙ k.0 ∙ sym rest.0, rest.1 k.1))
        pick ih false z m u l =
            let t : member q (map (λ v. v.number) ws) ≡ true = rw (eqb-sym q w.number, z) at m in
            rw (now-lists q e w, newest t u l) (ih t u l)

-- ---- a closing: rows g go and the requests that pass f close; of a row that stays
module _ (f : Request → Bool) (g : List ℕ) (e : ℕ) (stays : member e g ≡ false) (log : Log) (home : ℕ) where
  -- an older request that closes takes it off the list
  still-lists : (v : Request) (vs : List Request) → lists e (trimmed f g vs v) ≡ lists e v && not (listed_in f vs e)
  unfolding leaves
  still-lists v vs = trimmed-lists f g vs v e ∙ ap (λ b. lists e v && not (b || listed_in f vs e)) stays

  -- where no closing request lists it, nothing changes
  pub unlisted-line : (vs : List Request) → listed_in f vs e ≡ false → whereabouts log home (listers e (remaining f g vs)) ≡ whereabouts log home (listers e vs)
  unfolding listed_in any remaining listers filter whereabouts
  unlisted-line [] h = refl
  unlisted-line (v ∷ vs) h =
      pick (unlisted-line vs (or-fr (f v && lists e v) (listed_in f vs e) h)) (f v) refl (or-fl (f v && lists e v) (listed_in f vs e) h)
    where
      kept : lists e (trimmed f g vs v) ≡ lists e v
      kept = still-lists v vs ∙ ap (λ b. lists e v && not b) (or-fr (f v && lists e v) (listed_in f vs e) h) ∙ and-true (lists e v)

      older : List Request
      older = filter (lists e) vs

      left : List Request
      left = filter (lists e) (remaining f g vs)

      pick : whereabouts log home left ≡ whereabouts log home older → (b : Bool) → f v ≡ b → b && lists e v ≡ false
          → whereabouts log home (filter (lists e) (cond b (remaining f g vs) (trimmed f g vs v ∷ remaining f g vs))) ≡ whereabouts log home (cond (lists e v) (v ∷ older) older)
      pick ih true q n = rw n ih
      pick ih false q n = rw kept (here (lists e v))
        where
          here : (b : Bool) → whereabouts log home (cond b (trimmed f g vs v ∷ left) left) ≡ whereabouts log home (cond b (v ∷ older) older)
          here true = unfold trimmed is_fetched in refl
          here false = ih

  -- else it goes to the asker of the oldest, who is where the older ones say
  pub closing-line : (vs : List Request) → all (λ v. some v.number) vs ≡ true → Lenders log home (listers e vs)
      → (whereabouts log home (listers e (remaining f g vs)) ≡ (if listed_in f vs e then in_clist (oldest_listing f e vs).asker else whereabouts log home (listers e vs)))
      × Lenders log home (listers e (remaining f g vs))
  unfolding all listed_in any remaining listers filter whereabouts Lenders oldest_listing
  closing-line [] n l = (refl, l)
  closing-line (v ∷ vs) n l = pick (closing-line vs (and_r (some v.number) (all (λ v. some v.number) vs) n)) (lists e v) refl l
    where
      numbered : all (λ v. some v.number) vs ≡ true
      numbered = and_r (some v.number) (all (λ v. some v.number) vs) n

      w : Request
      w = oldest_listing f e vs

      older : List Request
      older = filter (lists e) vs

      left : List Request
      left = filter (lists e) (remaining f g vs)

      here : List Request
      here = cond (f v) (remaining f g vs) (trimmed f g vs v ∷ remaining f g vs)

      Result : List Request → List Request → Bool → Request → Type 0
      Result now before b oldest = (whereabouts log home now ≡ (if b then in_clist oldest.asker else whereabouts log home before)) × Lenders log home now

      -- it is not on the list of v: nothing of v counts
      unlisted : lists e v ≡ false → Result left older (listed_in f vs e) w → Result (filter (lists e) here) older ((f v && false) || listed_in f vs e) (if some w.number then w else (if f v && false then v else w))
      unlisted q ih = go (f v) (some w.number)
        where
          gone : lists e (trimmed f g vs v) ≡ false
          gone = still-lists v vs ∙ ap (λ b. b && not (listed_in f vs e)) q

          go : (a b : Bool) → Result (filter (lists e) (cond a (remaining f g vs) (trimmed f g vs v ∷ remaining f g vs))) older ((a && false) || listed_in f vs e) (cond b w (cond (a && false) v w))
          go true true = ih
          go true false = ih
          go false true = rw gone ih
          go false false = rw gone ih

      pick : (Lenders log home older → Result left older (listed_in f vs e) w) → (b : Bool) → lists e v ≡ b → Lenders log home (cond b (v ∷ older) older)
          → Result (filter (lists e) here) (cond b (v ∷ older) older) ((f v && b) || listed_in f vs e) (if some w.number then w else (if f v && b then v else w))
      pick ih true q l = listed (ih l.1) (listed_in f vs e) refl (f v) refl
        where
          kept : lists e (trimmed f g vs v) ≡ not (listed_in f vs e)
          kept = still-lists v vs ∙ ap (λ b. b && not (listed_in f vs e)) q

          listed : Result left older (listed_in f vs e) w → (b : Bool) → listed_in f vs e ≡ b → (a : Bool) → f v ≡ a
              → Result (filter (lists e) (cond a (remaining f g vs) (trimmed f g vs v ∷ remaining f g vs))) (v ∷ older) ((a && true) || b) (cond (some w.number) w (cond (a && true) v w))
          -- an older request that closes lists it: the newer ones do not count
          listed ih true r true s = rw (oldest-all f e (λ v. some v.number) vs numbered numbered r) (rw r at ih)
          listed ih true r false s = rw (oldest-all f e (λ v. some v.number) vs numbered numbered r, kept, r) (rw r at ih)
          -- v is the oldest that closes: it goes to its asker
          listed ih false r true s = rw (oldest-none f e vs r) (unfold no_request some in ((rw r at ih).0 ∙ sym l.0, ih.1))
          -- v stays
          listed ih false r false s =
              rw (kept, r) (unfold trimmed is_fetched in (refl, (l.0 ∙ sym (rw r at ih).0, ih.1)))
      pick ih false q l = unlisted q (ih l)
