-- What equal views tell: of every row of the c-list, of the active node, of every request asked.
use Prim.Native.Nat.{ℕ}
use mathlib.Core.Bool.{Bool, true, false, cond, ◌&&◌, ◌||◌}
use mathlib.Core.List.{List, [], ◌∷◌, map, map-map}
use mathlib.Core.Path.{◌≡◌, refl, sym, ap, ◌∙◌}
use lib.Dec.{eqb}
use Rattle.rows.specs.declared.Row.{Row}
use Rattle.rows.specs.Lists.{filter, first_with, member}
use Rattle.rows.specs.Codes.{in_clist, in_node}
use Rattle.rows.specs.Tables.{State, no_row, no_request, row_of, request_of, process_at, numbers}
use Rattle.rows.specs.Sound.{rows_rise, requests_rise}
use Rattle.rows.proofs.Bools.{clash, eqb-sym}
use Rattle.rows.proofs.Agree.{keys_kept}
use Rattle.rows.proofs.Keyed.{first-none}
use Rattle.rows.proofs.Places.{clist-no-row}
use Rattle.tables.proofs.Picked.{first-picked}
use Rattle.tables.proofs.Sound.{Sound}
use Rattle.history.proofs.View.{first-through}
use Rattle.security.specs.Isolation.{SeenRow, seen_row, view}

-- ---- lists with keys
module _ {A : Type 0} (key : A → ℕ) where
  -- what is found does not depend on what stands for none
  first_any : (none none' : A) (xs : List A) (n : ℕ) → member n (map key xs) ≡ true → first_with key none xs n ≡ first_with key none' xs n
  unfolding first_with member
  first_any none none' [] n t = clash t refl
  first_any none none' (x ∷ xs) n t = pick (first_any none none' xs n) (eqb (key x) n) refl t
    where
      pick : (member n (map key xs) ≡ true → first_with key none xs n ≡ first_with key none' xs n) → (b : Bool) → eqb (key x) n ≡ b → eqb n (key x) || member n (map key xs) ≡ true
          → cond b x (first_with key none xs n) ≡ cond b x (first_with key none' xs n)
      pick ih true q t = refl
      pick ih false q t = ih (rw (eqb-sym n (key x), q) at t)

-- ---- the rows that pass a test, which no_row does not
module _ (st : State) (s : Sound st) (Q : Row → Bool) (z : Q no_row ≡ false) where
  picked-key : (e : ℕ) → member e (numbers (filter Q st.rows)) ≡ Q (row_of st.rows e)
  unfolding numbers row_of rows_rise
  picked-key e =
      keys_kept (λ r. r.number) no_row Q st.rows s.numbers.rows-rise e
      ∙ pick (member e (map (λ r. r.number) st.rows)) refl
    where
      pick : (b : Bool) → member e (map (λ r. r.number) st.rows) ≡ b → b && Q (row_of st.rows e) ≡ Q (row_of st.rows e)
      pick true t = refl
      pick false t = sym (ap Q (first-none (λ r. r.number) no_row st.rows e t) ∙ z)

  picked-row : (e : ℕ) → Q (row_of st.rows e) ≡ true → row_of (filter Q st.rows) e ≡ row_of st.rows e
  unfolding numbers row_of rows_rise
  picked-row e t = first-picked (λ r. r.number) no_row Q st.rows s.numbers.rows-rise e (picked-key e ∙ t)

-- the same rows are picked
module _ (st st' : State) (s : Sound st) (s' : Sound st') (Q : Row → Bool) (z : Q no_row ≡ false) (same : filter Q st.rows ≡ filter Q st'.rows) where
  pub picked-alike : (e : ℕ) → Q (row_of st.rows e) ≡ Q (row_of st'.rows e)
  picked-alike e = sym (picked-key st s Q z e) ∙ ap (λ rs. member e (numbers rs)) same ∙ picked-key st' s' Q z e

  pub picked_same : (e : ℕ) → Q (row_of st.rows e) ≡ true → row_of st.rows e ≡ row_of st'.rows e
  picked_same e t = sym (picked-row st s Q z e t) ∙ ap (λ rs. row_of rs e) same ∙ picked-row st' s' Q z e (sym (picked-alike e) ∙ t)

-- ---- the c-list
module _ (st : State) (s : Sound st) (p : ℕ) where
  abbrev mine : Row → Bool
  mine r = eqb r.place (in_clist p)

  seen-keys : (e : ℕ) → member e (map (λ x. x.row.number) (view st p).rows) ≡ mine (row_of st.rows e)
  unfolding view seen_row numbers
  seen-keys e = ap (member e) (map-map (λ x. x.row.number) (seen_row st p) (filter mine st.rows)) ∙ picked-key st s mine (clist-no-row p) e

  seen-found : (none : SeenRow) (e : ℕ) → mine (row_of st.rows e) ≡ true → first_with (λ x. x.row.number) none (view st p).rows e ≡ seen_row st p (row_of st.rows e)
  unfolding view row_of
  seen-found none e t =
      first_any (λ x. x.row.number) none (seen_row st p no_row) (view st p).rows e (seen-keys e ∙ t)
      ∙ first-through (seen_row st p) (λ r. r.number) (λ x. x.row.number) (λ r. unfold seen_row in refl) no_row (seen_row st p no_row) refl (filter mine st.rows) e
      ∙ ap (seen_row st p) (picked-row st s mine (clist-no-row p) e t)

module _ (st st' : State) (s : Sound st) (s' : Sound st') (p : ℕ) (same : view st p ≡ view st' p) where
  pub held-alike : (e : ℕ) → eqb (row_of st.rows e).place (in_clist p) ≡ eqb (row_of st'.rows e).place (in_clist p)
  held-alike e = sym (seen-keys st s p e) ∙ ap (λ v. member e (map (λ x. x.row.number) v.rows)) same ∙ seen-keys st' s' p e

  pub seen_alike : (e : ℕ) → eqb (row_of st.rows e).place (in_clist p) ≡ true → seen_row st p (row_of st.rows e) ≡ seen_row st' p (row_of st'.rows e)
  seen_alike e t =
      let none = seen_row st p no_row in
      sym (seen-found st s p none e t) ∙ ap (λ v. first_with (λ x. x.row.number) none v.rows e) same ∙ seen-found st' s' p none e (sym (held-alike e) ∙ t)

  pub record-alike : process_at st.processes p ≡ process_at st'.processes p
  unfolding view
  record-alike = ap (λ v. v.process) same

  -- ---- the requests that it asked
  asked-key : (x : State) → Sound x → (q : ℕ) → member q (view x p).asked ≡ member q (map (λ v. v.number) x.requests) && eqb (request_of x.requests q).asker p
  unfolding view request_of requests_rise
  asked-key x sx q = keys_kept (λ v. v.number) no_request (λ v. eqb v.asker p) x.requests sx.numbers.requests-rise q

  pub asked-alike : (q : ℕ) → member q (map (λ v. v.number) st.requests) && eqb (request_of st.requests q).asker p
      ≡ member q (map (λ v. v.number) st'.requests) && eqb (request_of st'.requests q).asker p
  asked-alike q = sym (asked-key st s q) ∙ ap (λ v. member q v.asked) same ∙ asked-key st' s' q

  -- ---- the rows of the active node
  pub node_alike : filter (λ r. eqb r.place (in_node (process_at st.processes p).active)) st.rows ≡ filter (λ r. eqb r.place (in_node (process_at st.processes p).active)) st'.rows
  unfolding view
  node_alike = ap (λ v. v.node) same ∙ ap (λ x. filter (λ r. eqb r.place (in_node x.active)) st'.rows) (sym record-alike)
