-- drop, close, revoke and answer keep the invariant.
use Prim.Native.Nat.{ℕ, pred, ◌<◌}
use mathlib.Core.Bool.{Bool, true, false, not, cond, ◌&&◌, ◌||◌}
use mathlib.Core.List.{List, [], ◌∷◌, map}
use mathlib.Core.Path.{◌≡◌, refl, sym, ap, ◌∙◌}
use lib.Dec.{ltb, eqb}
use native.Mathlib.Omega.{arith}
use borrow.Author.Tests.{eqb-true, eq-eqb, ne_eqb, ltb-true}
use Rattle.rows.specs.declared.Row.{Row}
use Rattle.rows.specs.declared.Request.{Request}
use Rattle.rows.specs.Lists.{all, first_with, member, some}
use Rattle.rows.specs.Codes.{is_end}
use Rattle.rows.specs.Tables.{State, no_request, row_of, request_of, open_on, bears}
use Rattle.rows.proofs.Bools.{and_l, and_r, and_i, pos-some, some-pos}
use Rattle.rows.proofs.Keyed.{first_key, first-there, all_first}
use Rattle.tables.proofs.Sound.{Sound}
use Rattle.tables.proofs.SoundFacts.{requests-between}
use Rattle.closing.specs.Closing.{close_request, is_end_of, close_port, is_row, drop_row}
use Rattle.calls.specs.Rules.{asked_of}
use Rattle.kept.proofs.Allowed.{DropAllowed, CloseAllowed, ServerAllowed, RevokeAllowed}
use Rattle.history.specs.History.{Noted, History}
use Rattle.history.specs.Notes.{no_loan, noted_of, spoiled, stands, open_loans, open_request, note_drop, note_close, note_revoke, note_end}
use Rattle.history.proofs.Inv.{Inv, view, of_request, of_loan, no_open}
use Rattle.history.proofs.Keeps.{fit_same}
use Rattle.history.proofs.View.{first-through}
use Rattle.history.proofs.Added.{below-cons}
use Rattle.history.proofs.Closed.{closed-keeps}
use Rattle.history.proofs.Find.{row-stands, row-noted, stands-low, server-port}
use Rattle.history.proofs.Comes.{revoke-spoils}

-- ---- what more is spoiled
drop-spoils : (e : ℕ) (h : History) (r : Noted) → spoiled (note_drop e h) r ≡ spoiled h r || eqb r.number e
unfolding spoiled note_drop member
drop-spoils e h r =
    pick (eqb r.number e) (member r.number h.dropped)
    ((some r.request && member r.request h.closed_requests) || (some r.port && member r.port h.closed_ports))
  where
    pick : (e a b : Bool) → (e || a) || b ≡ (a || b) || e
    pick true true b = refl
    pick true false true = refl
    pick true false false = refl
    pick false true b = refl
    pick false false true = refl
    pick false false false = refl

-- a test that holds only of what is some
or_some : (x e m : Bool) → (e ≡ true → x ≡ true) → x && (e || m) ≡ (x && m) || e
or_some true true true f = refl
or_some true true false f = refl
or_some true false true f = refl
or_some true false false f = refl
or_some false true m f = f refl
or_some false false m f = refl

some-equal : (n k : ℕ) → 0 < k → eqb n k ≡ true → some n ≡ true
some-equal n k lo e = let z : n ≡ k = eqb-true n k e in pos-some n (omega arith)

close-spoils : (c : ℕ) → 0 < c → (h : History) (r : Noted) → spoiled (note_close c h) r ≡ spoiled h r || eqb r.port c
unfolding spoiled note_close member
close-spoils c lo h r =
    rw (or_some (some r.port) (eqb r.port c) (member r.port h.closed_ports) (some-equal r.port c lo))
    (pick (member r.number h.dropped) (some r.request && member r.request h.closed_requests) (some r.port && member r.port h.closed_ports) (eqb r.port c))
  where
    pick : (a b c e : Bool) → a || (b || (c || e)) ≡ (a || (b || c)) || e
    pick true b c e = refl
    pick false true c e = refl
    pick false false c e = refl

-- ---- numbers of open requests
module _ (st : State) (s : Sound st) where
  pub found-there : (key : Request → ℕ) (n : ℕ) → eqb (first_with key no_request st.requests n).number 0 ≡ false → member n (map key st.requests) ≡ true
  unfolding no_request
  found-there key n e = first-there key no_request (λ v. not (eqb v.number 0)) refl st.requests n (ap not e)

  -- what is found by any key
  found-range : (key : Request → ℕ) (n : ℕ) → eqb (first_with key no_request st.requests n).number 0 ≡ false
      → (0 < (first_with key no_request st.requests n).number) × ((first_with key no_request st.requests n).number < st.next)
  found-range key n e =
      let v = first_with key no_request st.requests n in
      let r : some v.number && ltb v.number st.next ≡ true =
      all_first key no_request (λ v. some v.number && ltb v.number st.next) st.requests n (requests-between st s.numbers) (found-there key n e) in
      (some-pos v.number (and_l (some v.number) _ r), ltb-true v.number st.next (and_r (some v.number) _ r))

  pub request-range : (q : ℕ) → eqb (request_of st.requests q).number 0 ≡ false → (0 < q) × (q < st.next)
  unfolding request_of
  request-range q e =
      let n : (request_of st.requests q).number ≡ q = first_key (λ v. v.number) no_request st.requests q (found-there (λ v. v.number) q e) in
      let (lo, hi) = found-range (λ v. v.number) q e in (rw n at lo, rw n at hi)

-- ---- the request open on a port, in the tables and in the history
same-open : (h : History) (st : State) → Inv h st → (c : ℕ) → (open_on st.requests c).number ≡ open_request h c
unfolding open_on open_request of_request of_loan
same-open h st i c =
    ap (λ o. o.number) (sym (first-through of_request (λ v. v.port) (λ o. o.port) (λ v. refl) no_request no_open (unfold no_request no_open in refl) st.requests c))
    ∙ ap (λ os. (first_with (λ o. o.port) no_open os c).number) i.requests
    ∙ ap (λ o. o.number) (first-through of_loan (λ v. v.port) (λ o. o.port) (λ v. refl) no_loan no_open (unfold no_loan no_open in refl) (open_loans h) c)

end_of : (c : ℕ) → 0 < c → (r : Row) → is_end_of c r ≡ eqb (view r).port c
unfolding is_end_of view
end_of c lo r = pick (is_end r.kind)
  where
    pick : (b : Bool) → b && eqb r.object c ≡ eqb (cond b r.object 0) c
    pick true = refl
    pick false = sym (ne_eqb 0 c (λ e. omega arith))

-- what no end is noted as
plain-port : (r : Row) → is_end r.kind ≡ false → (view r).port ≡ 0
unfolding view
plain-port r e = rw e refl

member-one : (v q : ℕ) (ks : List ℕ) → member v (q ∷ ks) ≡ member v (q ∷ []) || member v ks
unfolding member
member-one v q ks = pick (eqb v q)
  where
    pick : (b : Bool) → b || member v ks ≡ (b || false) || member v ks
    pick true = refl
    pick false = refl

module _ (h : History) (st : State) (i : Inv h st) (s : Sound st) where
  -- ---- revoke, answer
  pub revoked-inv : (q : ℕ) → 0 < q → q < st.next → Inv (note_revoke q h) (close_request q st)
  unfolding close_request note_revoke
  revoked-inv q lo hi =
      closed-keeps h (note_revoke q h) st (λ r. eqb r.request q) (bears q) (q ∷ []) i s.numbers.rows-rise refl refl refl
      (unfold note_revoke in revoke-spoils q lo h) (λ r. unfold bears view in refl) (λ v. member-one v q h.closed_requests)
      (fit_same h (note_revoke q h) refl refl refl i.fit.ends-kept i.fit) i.dropped-below i.ports-below (below-cons st.next q h.closed_requests hi i.closed-below)

  pub revoke-inv : (p q : ℕ) → RevokeAllowed st p q → Inv (note_revoke q h) (close_request q st)
  revoke-inv p q a = let (lo, hi) = request-range st s q a.asked in revoked-inv q lo hi

  -- the request that the server of a port sees is closed
  pub served-inv : (p e : ℕ) → ServerAllowed st p e → Inv (note_end e h) (close_request (asked_of st e).number st)
  unfolding note_end asked_of open_on
  served-inv p e a =
      let c = (row_of st.rows e).object in
      let v = open_on st.requests c in
      let same : v.number ≡ open_request h (pred e) = same-open h st i c ∙ ap (open_request h) (server-port st s e a.row.there a.server) in
      let (lo, hi) = found-range st s (λ v. v.port) c (ne_eqb v.number 0 (λ z. let l = some-pos v.number a.asked in omega arith)) in
      rw (← same) (revoked-inv v.number lo hi)

  -- ---- drop
  pub dropped-inv : (p e : ℕ) → DropAllowed st p e → Inv (note_drop e h) (drop_row e st)
  unfolding drop_row note_drop all
  dropped-inv p e a =
      let up : stands h e ≡ true = row-stands h st i e a.row.there in
      let (lo, hi) = stands-low h st i e up in
      let plain : (noted_of h.rows e).port ≡ 0 = ap (λ r. r.port) (row-noted h st i e up) ∙ plain-port (row_of st.rows e) a.no_end in
      closed-keeps h (note_drop e h) st (λ r. eqb r.number e) (is_row e) [] i s.numbers.rows-rise refl refl refl
      (unfold note_drop in drop-spoils e h) (λ r. unfold is_row view in refl) (λ v. unfold member in refl)
      (fit_same h (note_drop e h) refl refl refl (and_i (eqb (noted_of h.rows e).port 0) _ (eq-eqb (noted_of h.rows e).port 0 plain) i.fit.ends-kept) i.fit)
      (below-cons st.next e h.dropped hi i.dropped-below) i.ports-below i.closed-below

  -- ---- close
  pub closed-inv : (p c : ℕ) → CloseAllowed st p c → Inv (note_close c h) (close_port c st)
  unfolding close_port note_close
  closed-inv p c a =
      let (lo, hi) = stands-low h st i c (row-stands h st i c a.row.there) in
      closed-keeps h (note_close c h) st (λ r. eqb r.port c) (is_end_of c) [] i s.numbers.rows-rise refl refl refl
      (unfold note_close in close-spoils c lo h) (end_of c lo) (λ v. unfold member in refl)
      (fit_same h (note_close c h) refl refl refl i.fit.ends-kept i.fit) i.dropped-below (below-cons st.next c h.closed_ports hi i.ports-below) i.closed-below
