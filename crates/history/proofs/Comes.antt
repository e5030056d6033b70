-- Comes from, computed in one pass over the notes, is what the word means; and it is what a sweep takes away.
use Prim.Native.Nat.{ℕ, ◌<◌}
use mathlib.Core.Bool.{Bool, true, false, not, cond, ◌&&◌, ◌||◌}
use mathlib.Core.List.{List, [], ◌∷◌}
use mathlib.Core.Path.{◌≡◌, refl, sym, ap, ◌∙◌, fun_ext}
use mathlib.Core.Logic.{⊎_elim, ◌↔◌}
use lib.Dec.{eqb}
use borrow.Author.Tests.{eqb-true, eq-eqb, ne_eqb}
use native.Mathlib.Omega.{arith}
use Rattle.rows.specs.Lists.{filter, any, all, member, some}
use Rattle.rows.specs.Tables.{mark}
use Rattle.rows.proofs.Bools.{false_of, clash, not_f, or_l, or_r, or-fl, or-fr, or_map, or_cases, pos-some, de-morgan, eqb-sym-f, all-eq-on, all-not, member-here, or-false}
use Rattle.rows.proofs.Keyed.{first-there, keys_filter}
use Rattle.rows.proofs.Lists.{any_at}
use Rattle.history.specs.History.{Noted, History}
use Rattle.history.specs.Notes.{noted, nothing_noted, noted_of, spoiled, survives, sweep, standing, stands, note_revoke}
use Rattle.history.specs.Chains.{IsNoted, IsSource, ComesFrom, bears, by_source}
use Rattle.history.proofs.Fit.{Fit}
use Rattle.history.proofs.Sweep.{rising, sourced, rising-rest, rising-fresh, sourced-rest, sourced-first, sourced-at, sweep-eq}
use Rattle.history.proofs.Gone.{stands-noted, stands-whole, stands-source}
use Rattle.history.proofs.Standing.{Fails, some-fails, by-sources}

-- from the oldest row on: those of which f holds, or that have a source among them
unfoldable pub reached : (Noted → Bool) → List Noted → List ℕ
reached f [] = []
reached f (r ∷ rs) = let m = reached f rs in mark (f r || any (λ s. member s m) r.sources) r.number m

abbrev leaves : List ℕ → List Noted → List Noted
leaves m rs = filter (λ r. not (member r.number m)) rs

mark-sub : (b : Bool) (r : Noted) (m : List ℕ) (rs : List Noted) (s : ℕ) → (member s m ≡ true → member s (noted rs) ≡ true)
    → member s (mark b r.number m) ≡ true → member s (noted (r ∷ rs)) ≡ true
unfolding mark noted member
mark-sub true r m rs s h e = or_map (eqb s r.number) (member s m) (member s (noted rs)) h e
mark-sub false r m rs s h e = or_r (eqb s r.number) (member s (noted rs)) (h e)

reached-sub : (f : Noted → Bool) (rs : List Noted) (s : ℕ) → member s (reached f rs) ≡ true → member s (noted rs) ≡ true
unfolding reached
reached-sub f [] s e = clash e (unfold member in refl)
reached-sub f (r ∷ rs) s e = mark-sub (f r || any (λ s. member s (reached f rs)) r.sources) r (reached f rs) rs s (reached-sub f rs s) e

-- ---- what is not reached is what a sweep leaves
leaves-fresh : (n : ℕ) (m : List ℕ) (rs : List Noted) → member n (noted rs) ≡ false → leaves (n ∷ m) rs ≡ leaves m rs
unfolding filter noted member
leaves-fresh n m [] e = refl
leaves-fresh n m (r ∷ rs) e =
    rw (eqb-sym-f n r.number (or-fl (eqb n r.number) (member n (noted rs)) e), leaves-fresh n m rs (or-fr (eqb n r.number) (member n (noted rs)) e)) refl

leaves-member : (m : List ℕ) (rs : List Noted) (s : ℕ) → member s (noted (leaves m rs)) ≡ member s (noted rs) && not (member s m)
unfolding noted
leaves-member m rs s = keys_filter (λ r. r.number) (λ n. not (member n m)) rs s

survives-leaves : (f : Noted → Bool) (m : List ℕ) (rs : List Noted) (r : Noted) → all (λ s. member s (noted rs)) r.sources ≡ true
    → survives f (noted (leaves m rs)) r ≡ not (f r || any (λ s. member s m) r.sources)
unfolding survives
survives-leaves f m rs r e =
    rw (all-eq-on (λ s. member s (noted rs)) (λ s. member s (noted (leaves m rs))) (λ s. not (member s m)) (λ s t. rw (leaves-member m rs s, t) refl) r.sources e, all-not m r.sources)
    (de-morgan (f r) (any (λ s. member s m) r.sources))

reached-step : (m : List ℕ) (r : Noted) (rs : List Noted) → member r.number m ≡ false → member r.number (noted rs) ≡ false
    → (b : Bool) → leaves (mark b r.number m) (r ∷ rs) ≡ cond (not b) (r ∷ leaves m rs) (leaves m rs)
unfolding mark filter
reached-step m r rs fm fr true = rw (member-here r.number m, leaves-fresh r.number m rs fr) refl
reached-step m r rs fm fr false = rw fm refl

pub reached-sweep : (f : Noted → Bool) (rs : List Noted) → rising rs ≡ true → sourced rs ≡ true → filter (λ r. not (member r.number (reached f rs))) rs ≡ sweep f rs
unfolding reached sweep
reached-sweep f [] u v = unfold filter in refl
reached-sweep f (r ∷ rs) u v =
    let m = reached f rs in
    let fresh : member r.number (noted rs) ≡ false = rising-fresh r rs u in
    rw (← reached-sweep f rs (rising-rest r rs u) (sourced-rest r rs v), survives-leaves f m rs r (sourced-first r rs v))
    (reached-step m r rs (false_of _ (λ t. clash (reached-sub f rs r.number t) fresh)) fresh (f r || any (λ s. member s m) r.sources))

-- ---- a row is reached if f holds of it, or a source of it is reached
reached-left : (f : Noted → Bool) (rs : List Noted) → rising rs ≡ true → sourced rs ≡ true → (n : ℕ) → member n (noted rs) ≡ true
    → member n (noted (sweep f rs)) ≡ not (member n (reached f rs))
reached-left f rs u v n t = rw (← reached-sweep f rs u v, leaves-member (reached f rs) rs n, t) refl

not_same : (a b : Bool) → not a ≡ not b → a ≡ b
not_same true true e = refl
not_same true false e = sym e
not_same false true e = sym e
not_same false false e = refl

reached-eq : (f : Noted → Bool) (rs : List Noted) → rising rs ≡ true → sourced rs ≡ true → (n : ℕ) → member n (noted rs) ≡ true
    → member n (reached f rs) ≡ f (noted_of rs n) || any (λ s. member s (reached f rs)) (noted_of rs n).sources
reached-eq f rs u v n t =
    not_same _ _
    (
    sym (reached-left f rs u v n t) ∙ sweep-eq f rs u v n t
    ∙ ap (λ b. not (f (noted_of rs n)) && b)
    (
    all-eq-on (λ s. member s (noted rs)) (λ s. member s (noted (sweep f rs))) (λ s. not (member s (reached f rs))) (λ s h. reached-left f rs u v s h)
    (noted_of rs n).sources (sourced-at rs v n)
    ∙ all-not (reached f rs) (noted_of rs n).sources
    )
    ∙ de-morgan (f (noted_of rs n)) (any (λ s. member s (reached f rs)) (noted_of rs n).sources)
    )

-- a number of ss that is in m
some_in : (m ss : List ℕ) → any (λ s. member s m) ss ≡ true → Fails (λ s. not (member s m)) ss
some_in m ss e = some-fails (λ s. not (member s m)) ss (all-not m ss ∙ ap not e)

-- ---- the theorem
module _ (h : History) (fit : Fit h) (q : ℕ) (is_number : 0 < q) where
  abbrev bearing : Noted → Bool
  bearing r = eqb r.request q

  bears-noted : (n : ℕ) → (noted_of h.rows n).request ≡ q → IsNoted h n
  unfolding IsNoted noted noted_of nothing_noted
  bears-noted n e = first-there (λ r. r.number) nothing_noted bearing (ne_eqb 0 q (λ z. omega arith)) h.rows n (eq-eqb _ q e)

  has-source : (n s : ℕ) → IsSource h s n → IsNoted h n
  unfolding IsNoted IsSource noted noted_of nothing_noted
  has-source n s i = first-there (λ r. r.number) nothing_noted (λ r. member s r.sources) (unfold member in refl) h.rows n i

  reached-at : (n : ℕ) → IsNoted h n → member n (reached bearing h.rows) ≡ bearing (noted_of h.rows n) || any (λ s. member s (reached bearing h.rows)) (noted_of h.rows n).sources
  unfolding IsNoted
  reached-at n t = reached-eq bearing h.rows fit.rows-rise fit.sources-older n t

  comes : (n : ℕ) → IsNoted h n → member n (reached bearing h.rows) ≡ true → ComesFrom h q n
  unfolding IsSource
  comes = by-sources h (λ n. member n (reached bearing h.rows) ≡ true → ComesFrom h q n) step fit
    where
      step : (n : ℕ) → IsNoted h n → ((s : ℕ) → IsSource h s n → member s (reached bearing h.rows) ≡ true → ComesFrom h q s)
          → member n (reached bearing h.rows) ≡ true → ComesFrom h q n
      step n t ih e =
          ⊎_elim (λ b. bears n is_number (eqb-true _ q b))
          (λ a. let w = some_in (reached bearing h.rows) (noted_of h.rows n).sources a in by_source n w.one w.is (ih w.one w.is (not_f _ w.fails)))
          (or_cases (bearing (noted_of h.rows n)) (any (λ s. member s (reached bearing h.rows)) (noted_of h.rows n).sources) (sym (reached-at n t) ∙ e))

  came : {n : ℕ} → ComesFrom h q n → member n (reached bearing h.rows) ≡ true
  came (bears n p e) = reached-at n (bears-noted n e) ∙ or_l (bearing (noted_of h.rows n)) _ (eq-eqb _ q e)
  came (by_source n s i c) =
      reached-at n (has-source n s i)
      ∙ or_r (bearing (noted_of h.rows n)) _ (any_at (λ s. member s (reached bearing h.rows)) (noted_of h.rows n).sources s (unfold IsSource in i) (came c))

comes-from : (h : History) → Fit h → (q n : ℕ) → 0 < q → (member n (reached (λ r. eqb r.request q) h.rows) ≡ true) ↔ ComesFrom h q n
unfolding IsNoted
comes-from h fit q n p = (λ e. comes h fit q p n (reached-sub (λ r. eqb r.request q) h.rows n e) e, λ c. came h fit q p c)

-- ---- a revoke takes away just what comes from the request
all-eq-in : (f g : ℕ → Bool) (ss : List ℕ) → ((s : ℕ) → member s ss ≡ true → f s ≡ g s) → all f ss ≡ all g ss
unfolding all member
all-eq-in f g [] e = refl
all-eq-in f g (s ∷ ss) e = rw (e s (member-here s ss), all-eq-in f g ss (λ k t. e k (or_r (eqb k s) (member k ss) t))) refl

-- what a revoke spoils more
pub revoke-spoils : (q : ℕ) → 0 < q → (h : History) (r : Noted) → spoiled (note_revoke q h) r ≡ spoiled h r || eqb r.request q
unfolding spoiled note_revoke member
revoke-spoils q p h r =
    bools (member r.number h.dropped) (some r.request) (eqb r.request q) (member r.request h.closed_requests) (some r.port && member r.port h.closed_ports)
    (λ e. pos-some r.request (rw (eqb-true r.request q e) p))
  where
    bools : (d s e m c : Bool) → (e ≡ true → s ≡ true) → d || ((s && (e || m)) || c) ≡ (d || ((s && m) || c)) || e
    bools true s e m c w = refl
    bools false s true m c w = rw (w refl) (sym (or_r (m || c) true refl))
    bools false s false m c w = sym (or-false ((s && m) || c))

module _ (h : History) (fit : Fit h) where
  -- of the rows that stand, those reached are taken by one more sweep
  sweep-standing : (f : Noted → Bool) (n : ℕ) → stands h n ≡ true → member n (noted (sweep (λ x. spoiled h x || f x) h.rows)) ≡ not (member n (reached f h.rows))
  sweep-standing f n t =
      by-sources h (λ n. stands h n ≡ true → member n (noted (sweep (λ x. spoiled h x || f x) h.rows)) ≡ not (member n (reached f h.rows))) step fit n
      (stands-noted h fit n t) t
    where
      step : (n : ℕ) → IsNoted h n → ((s : ℕ) → IsSource h s n → stands h s ≡ true → member s (noted (sweep (λ x. spoiled h x || f x) h.rows)) ≡ not (member s (reached f h.rows)))
          → stands h n ≡ true → member n (noted (sweep (λ x. spoiled h x || f x) h.rows)) ≡ not (member n (reached f h.rows))
      step n t ih e =
          let r = noted_of h.rows n in
          sweep-eq (λ x. spoiled h x || f x) h.rows fit.rows-rise fit.sources-older n (unfold IsNoted in t)
          ∙ ap (λ b. not (b || f r) && all (λ s. member s (noted (sweep (λ x. spoiled h x || f x) h.rows))) r.sources) (stands-whole h fit n e)
          ∙ ap (λ b. not (f r) && b)
          (
          all-eq-in (λ s. member s (noted (sweep (λ x. spoiled h x || f x) h.rows))) (λ s. not (member s (reached f h.rows))) r.sources
          (λ s i. unfold IsSource in ih s i (stands-source h fit n s e i))
          ∙ all-not (reached f h.rows) r.sources
          )
          ∙ de-morgan (f r) (any (λ s. member s (reached f h.rows)) r.sources) ∙ ap not (sym (reached-eq f h.rows fit.rows-rise fit.sources-older n (unfold IsNoted in t)))

  pub revoke-takes : (q n : ℕ) → 0 < q → stands h n ≡ true → (stands (note_revoke q h) n ≡ false) ↔ ComesFrom h q n
  revoke-takes q n p t = (λ e. (comes-from h fit q n p).0 (not_f _ (sym same ∙ e)), λ c. same ∙ ap not ((comes-from h fit q n p).1 c))
    where
      same : stands (note_revoke q h) n ≡ not (member n (reached (λ r. eqb r.request q) h.rows))
      same =
          unfold stands standing note_revoke in
          ap (λ f. member n (noted (sweep f h.rows))) (fun_ext (revoke-spoils q p h)) ∙ sweep-standing (λ r. eqb r.request q) n t
