-- Closing, in the tables and in the history: what more is dropped or closed is what is removed.
use Prim.Native.Nat.{ℕ}
use mathlib.Core.Bool.{Bool, true, false, not, cond, ◌&&◌, ◌||◌}
use mathlib.Core.List.{List, [], ◌∷◌, map}
use mathlib.Core.Path.{◌≡◌, refl, sym, ap, ◌∙◌, fun_ext}
use Rattle.rows.specs.declared.Row.{Row}
use Rattle.rows.specs.declared.Request.{Request}
use Rattle.rows.specs.declared.Process.{Process}
use Rattle.std.specs.Prelude.{if◌then◌else◌}
use Rattle.rows.specs.Lists.{filter, all, each, member, some}
use Rattle.rows.specs.Tables.{State, process_at, is_listed, sources, marked}
use Rattle.rows.specs.Sound.{rows_rise}
use Rattle.rows.proofs.Bools.{and_r, and_i}
use Rattle.rows.proofs.Keyed.{keys_filter}
use Rattle.rows.proofs.Lists.{filter-filter}
use Rattle.closing.specs.Closing.{closes, returned, remaining, homed, settled, closing}
use Rattle.rows.specs.Setters.{with_place}
use Rattle.closing.proofs.Lookups.{remaining-keys, returned-keeps}
use Rattle.closing.proofs.Processes.{homed-at, homed-prime}
use Rattle.history.specs.History.{Noted, Loan, History}
use Rattle.history.specs.Notes.{noted, spoiled, survives, sweep, standing, stands, is_closed, open_loans, last_go}
use Rattle.history.proofs.Fit.{Fit}
use Rattle.history.proofs.Inv.{Inv, Open, view, of_request, of_loan, through_now, below}
use Rattle.history.proofs.Sweep.{rising, sourced, sweep-sweep}
use Rattle.history.proofs.Comes.{reached, reached-sweep}
use Rattle.history.proofs.View.{filter-through, map-through, view-rises}

-- ---- marks
view-marked : (f : Row → Bool) (g : Noted → Bool) → ((r : Row) → f r ≡ g (view r)) → (rs : List Row) → marked f rs ≡ reached g (map view rs)
unfolding marked reached view
view-marked f g h [] = refl
view-marked f g h (r ∷ rs) = rw (view-marked f g h rs, h r) refl

-- the sources of what is left are left
sweep-sourced : (f : Noted → Bool) (rs : List Noted) → sourced (sweep f rs) ≡ true
unfolding sweep each
sweep-sourced f [] = refl
sweep-sourced f (r ∷ rs) = pick (sweep-sourced f rs) (survives f (noted (sweep f rs)) r) refl
  where
    pick : sourced (sweep f rs) ≡ true → (b : Bool) → survives f (noted (sweep f rs)) r ≡ b → sourced (cond b (r ∷ sweep f rs) (sweep f rs)) ≡ true
    pick ih true q =
        and_i (all (λ s. member s (noted (sweep f rs))) r.sources) (sourced (sweep f rs)) (unfold survives in and_r (not (f r)) (all (λ s. member s (noted (sweep f rs))) r.sources) q) ih
    pick ih false q = ih

-- ---- what closing leaves as it is
home-view : (f : Request → Bool) (vs : List Request) (r : Row) → view (returned f vs r) ≡ view r
home-view f vs r = returned-keeps view (λ p r. unfold view with_place sources in refl) f vs r

remaining-view : (f : Request → Bool) (g : List ℕ) (p : Open → Bool) → ((v : Request) → not (f v) ≡ p (of_request v)) → (vs : List Request)
    → map of_request (remaining f g vs) ≡ filter p (map of_request vs)
remaining-view f g p h vs = remaining-keys f g of_request (λ is v. unfold of_request in refl) vs ∙ filter-through of_request p (λ v. not (f v)) h vs

-- ---- processes
home-through : (g : List ℕ) (x : Process) → (homed g x).through ≡ (if some x.through && member x.through g then 0 else x.through)
unfolding homed
home-through g x = pick (some x.through && member x.through g)
  where
    pick : (b : Bool) → (cond b (record { prime = x.prime; active = x.prime; through = 0 }) x).through ≡ cond b 0 x.through
    pick true = refl
    pick false = refl

gone-through : (g : List ℕ) (e : ℕ) (a b : Bool) → some e ≡ a → let t = cond (a && b) e 0 in cond (some t && member t g) 0 t ≡ cond (a && (b && not (member e g))) e 0
gone-through g e true true q = rw q (pick (member e g))
  where
    pick : (b : Bool) → cond b 0 e ≡ cond (not b) e 0
    pick true = refl
    pick false = refl
gone-through g e true false q = unfold some in refl
gone-through g e false b q = unfold some in refl

-- ---- rows that fall stand no longer
stands-less : (h h' : History) (g : List ℕ) → standing h' ≡ filter (λ r. not (member r.number g)) (standing h) → (k : ℕ) → stands h' k ≡ stands h k && not (member k g)
unfolding stands noted
stands-less h h' g falls k = ap (λ l. member k (noted l)) falls ∙ keys_filter (λ r. r.number) (λ n. not (member n g)) (standing h) k

-- ---- what falls and what closes, in the history: h' notes no row, request or go more than h; of what stood in h, g falls; of what was open, what `shut` passes closes
pub record Closes (h h' : History) (g : List ℕ) (shut : Open → Bool) : Type 0 where
  pub same_rows : h'.rows ≡ h.rows
  pub same-requests : h'.requests ≡ h.requests
  pub same-went : h'.went ≡ h.went
  pub falls : standing h' ≡ filter (λ r. not (member r.number g)) (standing h)
  pub closes : open_loans h' ≡ filter (λ v. not (shut (of_loan v))) (open_loans h)

-- and in the tables, where the rows g are removed and the requests that pass f are closed
module _ (h h' : History) (st : State) (g : List ℕ) (f : Request → Bool) (shut : Open → Bool) (i : Inv h st) (c : Closes h h' g shut) (sees : (v : Request) → f v ≡ shut (of_request v)) where
  stands-left : (k : ℕ) → stands h' k ≡ stands h k && not (member k g)
  stands-left k = stands-less h h' g c.falls k

  rows_left : map view (settled g f st).rows ≡ standing h'
  unfolding settled
  rows_left =
      map-through view (returned f st.requests) (home-view f st.requests) (filter (λ r. not (member r.number g)) st.rows)
      ∙ filter-through view (λ r. not (member r.number g)) (λ r. not (member r.number g)) (λ r. unfold view in refl) st.rows
      ∙ ap (filter (λ r. not (member r.number g))) i.rows ∙ sym c.falls

  requests-left : map of_request (settled g f st).requests ≡ map of_loan (open_loans h')
  unfolding settled
  requests-left =
      remaining-view f g (λ o. not (shut o)) (λ v. ap not (sees v)) st.requests
      ∙ ap (filter (λ o. not (shut o))) i.requests
      ∙ sym (filter-through of_loan (λ o. not (shut o)) (λ v. not (shut (of_loan v))) (λ v. refl) (open_loans h))
      ∙ ap (map of_loan) (sym c.closes)

  through-left : (p : ℕ) → (if some (through_now h p) && member (through_now h p) g then 0 else through_now h p) ≡ through_now h' p
  unfolding through_now
  through-left p =
      gone-through g (last_go h.went p) (some (last_go h.went p)) (stands h (last_go h.went p)) refl
      ∙ ap (λ b. if some (last_go h.went p) && b then last_go h.went p else 0) (sym (stands-left (last_go h.went p)))
      ∙ ap (λ w. let e = last_go w p in if some e && stands h' e then e else 0) (sym c.same-went)

  homes-left : (p : ℕ) → is_listed (settled g f st).processes p ≡ true → (process_at (settled g f st).processes p).through ≡ through_now h' p
  unfolding settled is_listed
  homes-left p e =
      let at = homed-at g st.processes p in
      let x = process_at st.processes p in
      let l : some x.prime ≡ true = ap some (sym (ap (λ y. y.prime) at ∙ homed-prime g x)) ∙ e in
      ap (λ y. y.through) at ∙ home-through g x
      ∙ ap (λ k. if some k && member k g then 0 else k) (i.through p l)
      ∙ through-left p

  pub settled-keeps : Fit h' → below st.next h'.dropped ≡ true → below st.next h'.closed_ports ≡ true → below st.next h'.closed_requests ≡ true → Inv h' (settled g f st)
  settled-keeps fit db pb cb =
      let n : (settled g f st).next ≡ st.next = unfold settled in refl in
      rw n record {
        fit = fit;
        rows = rows_left;
        requests = requests-left;
        through = homes-left;
        rows-below = rw c.same_rows i.rows-below;
        requests-below = rw c.same-requests i.requests-below;
        dropped-below = db;
        ports-below = pb;
        closed-below = cb;
        went-below = rw c.same-went i.went-below;
      }

-- ---- closing by seeds: h' is h with more dropped or closed, what t holds of, which the tables see as the seed; qs are closed by the call
module _ (h h' : History) (st : State) (t : Noted → Bool) (seed : Row → Bool) (qs : List ℕ) (i : Inv h st) (up : rows_rise st.rows ≡ true)
    (rs : h'.rows ≡ h.rows) (vs : h'.requests ≡ h.requests) (ws : h'.went ≡ h.went)
    (sp : (r : Noted) → spoiled h' r ≡ spoiled h r || t r) (sv : (r : Row) → seed r ≡ t (view r))
    (cl : (v : ℕ) → member v h'.closed_requests ≡ member v qs || member v h.closed_requests) where
  abbrev gone : List ℕ
  gone = marked seed st.rows

  abbrev shuts : Open → Bool
  shuts o = member o.number qs || member o.port gone

  standing-rises : rising (standing h) ≡ true
  standing-rises = ap rising (sym i.rows) ∙ view-rises st.rows ∙ (unfold rows_rise in up)

  seeds-fall : standing h' ≡ filter (λ r. not (member r.number gone)) (standing h)
  unfolding standing
  seeds-fall =
      ap (sweep (spoiled h')) rs ∙ ap (λ t. sweep t h.rows) (fun_ext sp) ∙ sym (sweep-sweep t (spoiled h) h.rows)
      ∙ sym (reached-sweep t (standing h) standing-rises (sweep-sourced (spoiled h) h.rows))
      ∙ ap (λ m. filter (λ r. not (member r.number m)) (standing h)) (sym (view-marked seed t sv st.rows ∙ ap (reached t) i.rows))

  open-left : (v : Loan) → not (is_closed h' v) ≡ not (is_closed h v) && not (member v.number qs || member v.port gone)
  unfolding is_closed
  open-left v = rw (cl v.number, stands-less h h' gone seeds-fall v.port) (pick (member v.number qs) (member v.number h.closed_requests) (stands h v.port) (member v.port gone))
    where
      pick : (a b c d : Bool) → not ((a || b) || not (c && not d)) ≡ not (b || not c) && not (a || d)
      pick true true c d = refl
      pick true false true d = refl
      pick true false false d = refl
      pick false true c d = refl
      pick false false true true = refl
      pick false false true false = refl
      pick false false false d = refl

  seeds-close : Closes h h' gone shuts
  unfolding open_loans of_loan
  seeds-close =
      record {
        same_rows = rs;
        same-requests = vs;
        same-went = ws;
        falls = seeds-fall;
        closes =
            ap (filter (λ v. not (is_closed h' v))) vs
            ∙ sym (filter-filter (λ v. not (member v.number qs || member v.port gone)) (λ v. not (is_closed h v)) (λ v. not (is_closed h' v)) open-left h.requests);
      }

  pub closed-keeps : Fit h' → below st.next h'.dropped ≡ true → below st.next h'.closed_ports ≡ true → below st.next h'.closed_requests ≡ true → Inv h' (closing seed qs st)
  unfolding closing closes of_request
  closed-keeps = settled-keeps h h' st gone (closes qs gone) shuts i seeds-close (λ v. refl)
