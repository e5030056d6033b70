-- go and fetch keep the invariant.
use Prim.Native.Nat.{ℕ, zero, suc, ◌-◌, ◌<◌}
use mathlib.Core.Bool.{Bool, true, false, cond, ◌&&◌}
use mathlib.Core.List.{List, ◌∷◌, map}
use mathlib.Core.Path.{◌≡◌, refl, sym, ap, ◌∙◌}
use lib.Dec.{eqb}
use lib.ListN.{get_or, set}
use lib.Seq.{get_or-set_same, get_or-set_other}
use native.Mathlib.Numerals.{sub-one}
use native.Mathlib.Omega.{arith}
use borrow.Author.Tests.{eqb-true, eqb-false, ne_eqb}
use Rattle.rows.specs.declared.Row.{Row}
use Rattle.rows.specs.declared.Request.{Request}
use Rattle.rows.specs.declared.Process.{Process}
use Rattle.std.specs.Prelude.{if◌then◌else◌}
use Rattle.rows.specs.Lists.{first_with, some}
use Rattle.rows.specs.Codes.{in_clist}
use Rattle.rows.specs.Tables.{State, no_process, process_at, is_listed, sources, lists}
use Rattle.rows.proofs.Bools.{clash, some-pos, none-zero}
use Rattle.tables.proofs.SoundFacts.{listed-has-record}
use Rattle.rows.specs.Setters.{with_place}
use Rattle.calls.specs.Rules.{with_record}
use Rattle.calls.specs.Loans.{handed_to, now_fetched, handed_over}
use Rattle.calls.specs.Calls.{go_home, go_through}
use Rattle.kept.proofs.Allowed.{GoAllowed}
use Rattle.kept.proofs.Moved.{moved, moved_same}
use Rattle.kept.proofs.Loans.{now-same}
use Rattle.history.specs.History.{Went, History}
use Rattle.history.specs.Notes.{spoiled, standing, stands, is_closed, open_loans, went_nowhere, last_go, note_go}
use Rattle.history.proofs.Inv.{Inv, view, of_request, of_loan, through_now}
use Rattle.history.proofs.Keeps.{fit_same, seen-inv}
use Rattle.history.proofs.View.{map-through}
use Rattle.history.proofs.Find.{row-stands, stands-low}

-- ---- the records after one is replaced
record-at : (ps : List Process) (p k : ℕ) (x : Process) → is_listed ps p ≡ true → process_at (set ps (p - 1) x) k ≡ cond (eqb p k) x (process_at ps k)
unfolding process_at
record-at ps zero k x l = clash l (unfold is_listed process_at some no_process in refl)
record-at ps (suc j) zero x l = rw (ne_eqb (suc j) 0 (λ e. omega arith)) refl
record-at ps (suc j) (suc k) x l = rw sub-one (pick (eqb (suc j) (suc k)) refl)
  where
    pick : (b : Bool) → eqb (suc j) (suc k) ≡ b → get_or (set ps j x) k no_process ≡ cond b x (get_or ps k no_process)
    pick true q =
        let e : j ≡ k = (let z = eqb-true (suc j) (suc k) q in omega arith) in
        ap (λ k. get_or (set ps j x) k no_process) (sym e) ∙ get_or-set_same ps j x no_process (listed-has-record ps (suc j) l).1
    pick false q = get_or-set_other ps j k x no_process (λ e. eqb-false (suc j) (suc k) q (ap suc (sym e)))

go-last : (p e : ℕ) (ws : List Went) (k : ℕ) → last_go (record { process = p; through = e } ∷ ws) k ≡ cond (eqb p k) e (last_go ws k)
unfolding last_go first_with
go-last p e ws k = pick (eqb p k)
  where
    pick : (b : Bool) → (cond b (record { process = p; through = e }) (first_with (λ w. w.process) went_nowhere ws k)).through ≡ cond b e (first_with (λ w. w.process) went_nowhere ws k).through
    pick true = refl
    pick false = refl

module _ (h : History) (st : State) (i : Inv h st) where
  -- ---- go
  module _ (p e : ℕ) (x : Process) (l : is_listed st.processes p ≡ true) (to : x.through ≡ e) (good : some e ≡ true → stands h e ≡ true) where
    go-stands : (k : ℕ) → stands (note_go p e h) k ≡ stands h k
    unfolding stands standing spoiled note_go
    go-stands k = refl

    go-loans : open_loans (note_go p e h) ≡ open_loans h
    unfolding open_loans is_closed stands standing spoiled note_go
    go-loans = refl

    go-standing : standing (note_go p e h) ≡ standing h
    unfolding standing spoiled note_go
    go-standing = refl

    gone-to : e ≡ cond (some e && stands h e) e 0
    gone-to = pick (some e) refl
      where
        pick : (b : Bool) → some e ≡ b → e ≡ cond (b && stands h e) e 0
        pick true q = rw (good q) refl
        pick false q = none-zero e q

    go-through : (k : ℕ) → is_listed (set st.processes (p - 1) x) k ≡ true → (process_at (set st.processes (p - 1) x) k).through ≡ through_now (note_go p e h) k
    unfolding through_now is_listed note_go
    go-through k lk =
        let r = record-at st.processes p k x l in
        ap (λ y. y.through) r ∙ pick (eqb p k) (ap (λ y. some y.prime) (sym r) ∙ lk) ∙ sym noted-through
      where
        at : ℕ → ℕ
        at n = cond (some n && stands h n) n 0

        noted-through : through_now (note_go p e h) k ≡ at (cond (eqb p k) e (last_go h.went k))
        noted-through =
            ap (λ n. cond (some n && stands (note_go p e h) n) n 0) (go-last p e h.went k)
            ∙ ap (λ b. cond (some (cond (eqb p k) e (last_go h.went k)) && b) (cond (eqb p k) e (last_go h.went k)) 0) (go-stands (cond (eqb p k) e (last_go h.went k)))

        pick : (b : Bool) → some (cond b x (process_at st.processes k)).prime ≡ true → (cond b x (process_at st.processes k)).through ≡ at (cond b e (last_go h.went k))
        pick true t = to ∙ gone-to
        pick false t = i.through k t

    low : e < st.next
    low = pick (some e) refl
      where
        pick : (b : Bool) → some e ≡ b → e < st.next
        pick true q = (stands-low h st i e (good q)).1
        pick false q = let z = none-zero e q in let b = i.rows-below in omega arith

    go-inv : Inv (note_go p e h) (with_record p x st)
    unfolding note_go with_record
    go-inv =
        record {
          fit = fit_same h (note_go p e h) refl refl refl i.fit.ends-kept i.fit;
          rows = i.rows ∙ sym go-standing;
          requests = i.requests ∙ ap (map of_loan) (sym go-loans);
          through = go-through;
          rows-below = i.rows-below;
          requests-below = i.requests-below;
          dropped-below = i.dropped-below;
          ports-below = i.ports-below;
          closed-below = i.closed-below;
          went-below = λ k. rw (go-last p e h.went k) (pick k (eqb p k));
        }
      where
        pick : (k : ℕ) (b : Bool) → cond b e (last_go h.went k) < st.next
        pick k true = low
        pick k false = i.went-below k

  home-inv : (p e : ℕ) → is_listed st.processes p ≡ true → e ≡ 0 → Inv (note_go p e h) (go_home st p)
  unfolding go_home
  home-inv p e l z = go-inv p e _ l (sym z) (λ t. let lo = some-pos e t in absurd (omega arith))

  through-inv : (p e : ℕ) → is_listed st.processes p ≡ true → stands h e ≡ true → Inv (note_go p e h) (go_through st p e)
  unfolding go_through
  through-inv p e l up = go-inv p e _ l refl (λ t. up)

  pub gone-inv : (p e : ℕ) → GoAllowed st p e → Inv (note_go p e h) (if eqb e 0 then go_home st p else go_through st p e)
  gone-inv p e a = pick (eqb e 0) refl
    where
      pick : (b : Bool) → eqb e 0 ≡ b → Inv (note_go p e h) (if b then go_home st p else go_through st p e)
      pick true q = home-inv p e a.caller (eqb-true e 0 q)
      pick false q = through-inv p e a.caller (row-stands h st i e (a.row q).there)

  -- ---- fetch
  hand-view : (p : ℕ) (v : Request) (r : Row) → view (handed_to p v r) ≡ view r
  unfolding handed_to moved
  hand-view p v r = moved_same (λ n. lists n v) (in_clist p) view (λ r. unfold view with_place sources in refl) r

  fetched-view : (q : ℕ) (v : Request) → of_request (now_fetched q v) ≡ of_request v
  fetched-view q v = now-same q of_request (λ k v. unfold of_request in refl) v

  pub fetched-inv : (p : ℕ) (v : Request) → Inv h (handed_over p v st)
  unfolding handed_over
  fetched-inv p v =
      seen-inv h st (handed_over p v st) (map-through view (handed_to p v) (hand-view p v) st.rows)
      (map-through of_request (now_fetched v.number) (fetched-view v.number) st.requests) refl refl i
