-- Room comes back: a call frees just what it removes; after a revoke of every open request, in any order, nothing is lent.
use Prim.Native.Nat.{ℕ}
use native.Mathlib.Omega.{arith}
use mathlib.Core.Bool.{Bool, true, false, not, ◌&&◌, true≢false}
use mathlib.Core.List.{List, [], ◌∷◌, map}
use mathlib.Core.Path.{◌≡◌, refl, sym, ap, ◌∙◌, subst}
use mathlib.Core.Logic.{⊎_elim}
use lib.ListN.{length, length-map}
use Rattle.rows.specs.declared.Row.{Row}
use Rattle.rows.specs.declared.Request.{Request}
use Rattle.rows.specs.Lists.{filter, any, first_with, rises, member, some}
use Rattle.rows.specs.Codes.{is_end, is_system}
use Rattle.rows.specs.Tables.{State, no_row, no_request, row_of, request_of, is_listed, numbers, sources, on_loan, lent_itself, is_lent}
use Rattle.rows.specs.Sound.{rows_rise, awaits_fetch}
use Rattle.rows.proofs.Bools.{clash, false_of, and-false, not_t, or_cases, eqb-self, pos-some, member-here, member-cases, any_none, true-or-false}
use Rattle.rows.proofs.Agree.{agree-found, agree-map, filter-agree}
use Rattle.rows.proofs.Keyed.{first-none}
use Rattle.tables.proofs.Sound.{Sound, sound-open}
use Rattle.tables.proofs.SoundFacts.{row_number, eq-same}
use Rattle.tables.proofs.Marking.{marked-reaches, marked-least}
use Rattle.closing.specs.Closing.{returned, remaining, settled, closing, close_request}
use Rattle.closing.proofs.Facts.{request-number, copy-listed, lists-open}
use Rattle.closing.proofs.Lookups.{remaining-keys}
use Rattle.calls.specs.declared.Call.{Call}
use Rattle.calls.specs.declared.Call.TheVariants.{Revoke}
use Rattle.calls.specs.Rules.{lowest, refused, judge, asked_of, with_record}
use Rattle.calls.specs.Loans.{handed_to, now_fetched, handed_over}
use Rattle.calls.specs.Calls.{refusals_revoke, refusals, done, perform, caller_of}
use Rattle.kept.proofs.Closing.{close-request-kept}
use Rattle.kept.proofs.Loans.{held-so}
use Rattle.text.specs.declared.Reading.TheVariants.{Asks}
use Rattle.text.specs.Entry.{caller_unlisted, answered}
use Rattle.security.specs.Sessions.{IsRow, IsOpen, Log, logged, EveryStep}
use Rattle.security.specs.Changes.{closed_by, discards, goes, shuts, request_after, fetched_by, takes, Touches}
use Rattle.security.specs.Places.{home_of, listers, whereabouts}
use Rattle.security.specs.Revocation.{Frees, after_calls, revoke_each, AllBack, RoomComesBack}
use Rattle.security.proofs.Sessions.{session-sound}
use Rattle.security.proofs.Rows.{request-low}
use Rattle.security.proofs.Closings.{Closes}
use Rattle.security.proofs.Effects.{Adds, holds, registers, makes, Effect, tells, moves-to, adds, asks, fetches, shuts-off, revoke-effect}
use Rattle.security.proofs.Touches.{Quiet, quiet-goes, quiet-shuts, question-still, touches}
use Rattle.security.proofs.Numbers.{request-below}
use Rattle.security.proofs.Steps.{step-effect}
use Rattle.security.proofs.PlacesKept.{Held, held_kept, session-held}
use Rattle.security.proofs.Revocation.{revoke-answered}

-- ==== what a call frees
-- a test of every row or request that is found
filter-found : {A : Type 0} (key : A → ℕ) (none : A) (f g : A → Bool) (xs : List A) → rises key xs ≡ true
    → ((n : ℕ) → member n (map key xs) ≡ true → f (first_with key none xs n) ≡ g (first_with key none xs n)) → filter f xs ≡ filter g xs
filter-found key none f g xs up h = filter-agree f g xs (agree-found key none f g xs up h)

filter-all : {A : Type 0} (f : A → Bool) → ((x : A) → f x ≡ true) → (xs : List A) → filter f xs ≡ xs
unfolding filter
filter-all f h [] = refl
filter-all f h (x ∷ xs) = rw (h x) (ap (λ l. x ∷ l) (filter-all f h xs))

module _ (st : State) (s : Sound st) where
  -- a quiet call leaves both lists as long as they are
  quiet-frees : (c : Call) (st' : State) → Quiet st c → length st'.rows ≡ length st.rows → length st'.requests ≡ length st.requests → Frees st c st'
  quiet-frees c st' x r v =
      record {
        rows = λ z. r ∙ sym (ap length (filter-all (λ r. not (goes st c r.number)) (λ r. ap not (quiet-goes st c x r.number)) st.rows));
        requests = λ z. v ∙ sym (ap length (filter-all (λ v. not (shuts st c v)) (λ v. ap not (quiet-shuts st c x v)) st.requests));
      }

  closing-frees : (c : Call) (g : List ℕ) (f : Request → Bool) → Closes st c g f → Frees st c (settled g f st)
  unfolding settled rows_rise row_of numbers
  closing-frees c g f x =
      record {
        rows = λ z.
            length-map (filter (λ r. not (member r.number g)) st.rows) (returned f st.requests)
            ∙ ap length (filter-found (λ r. r.number) no_row (λ r. not (member r.number g)) (λ r. not (goes st c r.number)) st.rows s.numbers.rows-rise gone);
        requests = λ z.
            sym (length-map (remaining f g st.requests) (λ v. v.number))
            ∙ ap length (remaining-keys f g (λ v. v.number) (λ is v. refl) st.requests)
            ∙ length-map (filter (λ v. not (f v)) st.requests) (λ v. v.number)
            ∙ ap length (filter-agree (λ v. not (f v)) (λ v. not (shuts st c v)) st.requests (agree-map f (shuts st c) (λ v. not (f v)) (λ v. not (shuts st c v)) (λ v e. ap not e) st.requests x.agrees));
      }
    where
      gone : (n : ℕ) → IsRow st n → not (member (row_of st.rows n).number g) ≡ not (goes st c (row_of st.rows n).number)
      gone n t = ap (λ m. not (member m g)) (row_number st.rows n t) ∙ ap not (x.gone n t) ∙ ap (λ m. not (goes st c m)) (sym (row_number st.rows n t))

  effect-frees : (c : Call) (st' : State) → Effect st c st' → Frees st c st'
  unfolding with_record handed_over takes
  effect-frees c st' (tells c' x) = quiet-frees c st (question-still st c x).quiet refl refl
  effect-frees c st' (moves-to p e a) = quiet-frees c _ (unfold closed_by discards in (record { closes-none = refl; discards-none = λ r. refl })) refl refl
  effect-frees c st' (adds c' rs k a z) = record { rows = λ e. absurd (takes-some c rs a e); requests = λ e. absurd (takes-some c rs a e) }
    where
      takes-some : (c : Call) (rs : List Row) → Adds st c rs → takes st c ≡ 0 → ⊥
      takes-some c rs (holds p s a) e = omega arith
      takes-some c rs (registers p s a) e = omega arith
      takes-some c rs (makes p s a) e = omega arith
  effect-frees c st' (asks p d is a) = record { rows = λ e. absurd (omega arith); requests = λ e. absurd (omega arith) }
  effect-frees c st' (fetches p e a) =
      quiet-frees c _ (unfold closed_by discards in (record { closes-none = refl; discards-none = λ r. refl }))
      (length-map st.rows (handed_to p (asked_of st e))) (length-map st.requests (now_fetched (asked_of st e).number))
  effect-frees c st' (shuts-off c' g f x k) = closing-frees c g f x

pub frees : EveryStep Frees
frees st st' c h k = let s = sound-open st h in effect-frees st s c st' (step-effect st st' c s k)

-- ==== every request is revoked
-- a revoke of what is not open leaves the tables
not-open : (st : State) (p q : ℕ) → (IsOpen st q → ⊥) → (answered st (Asks (Revoke p q))).after ≡ st
unfolding answered judge lowest caller_unlisted caller_of perform refusals refusals_revoke refused request_of no_request
not-open st p q h = rw (first-none (λ v. v.number) no_request st.requests q (false_of _ h)) (pick (some p && not (is_listed st.processes p)))
  where
    pick : (b : Bool) → (judge st ((record { number = 5; holds = b }) ∷ []) (refused st 7)).after ≡ st
    pick true = refl
    pick false = refl

-- what holds while the requests qs are left to revoke, of those asked in the tables st₀
record Left (st₀ st : State) (qs : List ℕ) : Type 0 where
  sound : Sound st
  log : Log
  held : Held log st
  left : (q : ℕ) → IsOpen st q → member q qs ≡ true
  asker : (q : ℕ) → IsOpen st q → (request_of st.requests q).asker ≡ (request_of st₀.requests q).asker

revoked-left : (st₀ st : State) (q : ℕ) (qs : List ℕ) → Left st₀ st (q ∷ qs) → Left st₀ (answered st (Asks (Revoke (request_of st₀.requests q).asker q))).after qs
revoked-left st₀ st q qs l = ⊎_elim taken missed (true-or-false (member q (map (λ v. v.number) st.requests)))
  where
    missed : member q (map (λ v. v.number) st.requests) ≡ false → Left st₀ (answered st (Asks (Revoke (request_of st₀.requests q).asker q))).after qs
    missed u =
        subst (λ z. Left st₀ z qs) (sym (not-open st _ q (λ t. clash t u)))
        (record {
          sound = l.sound;
          log = l.log;
          held = l.held;
          left = λ w t. ⊎_elim (λ z. clash (subst (IsOpen st) z t) u) (λ m. m) (member-cases w q qs (l.left w t));
          asker = l.asker;
        })

    taken : IsOpen st q → Left st₀ (answered st (Asks (Revoke (request_of st₀.requests q).asker q))).after qs
    taken t =
        let p = (request_of st.requests q).asker in
        let c = Revoke p q in
        let h : some q ≡ true = pos-some q (request-low st l.sound q t) in
        let x = revoke-effect st l.sound p q h in
        let s' = close-request-kept st l.sound q h in
        let k = touches st l.sound c (close_request q st) x in
        let is : (answered st (Asks (Revoke (request_of st₀.requests q).asker q))).after ≡ close_request q st =
        ap (λ y. (answered st (Asks (Revoke y q))).after) (sym (l.asker q t)) ∙ ap (λ o. o.after) (revoke-answered st l.sound q t) ∙ (unfold done in refl) in
        subst (λ z. Left st₀ z qs) (sym is)
        (record {
          sound = s';
          log = logged st c l.log;
          held = held_kept st (close_request q st) c l.sound s' x l.log l.held;
          left = λ w u. ⊎_elim (λ z. absurd (not_itself k w u z)) (λ m. m) (member-cases w q qs (l.left w (was-open k s' w u)));
          asker = λ w u. asker-kept k s' w u ∙ l.asker w (was-open k s' w u);
        })
      where
        c : Call
        c = Revoke (request_of st.requests q).asker q

        was-open : Touches st c (close_request q st) → Sound (close_request q st) → (w : ℕ) → IsOpen (close_request q st) w → IsOpen st w
        was-open k s' w u =
            ⊎_elim (λ o. o)
            (λ o. let up : (close_request q st).next ≡ st.next = unfold close_request closing settled in refl in
            let le = k.new-requests w u (λ t. clash t o) in let lt = request-below (close_request q st) s' w u in absurd (omega arith))
            (true-or-false (member w (map (λ v. v.number) st.requests)))

        -- the request itself is closed
        not_itself : Touches st c (close_request q st) → (w : ℕ) → IsOpen (close_request q st) w → w ≡ q → ⊥
        not_itself k w u z =
            let o : IsOpen (close_request q st) q = subst (IsOpen (close_request q st)) z u in
            let shut : shuts st c (request_of st.requests q) ≡ true = unfold shuts closed_by in (rw (pos-some q (request-low st l.sound q t), request-number st q t, eqb-self q) refl) in
            absurd (true≢false (sym o ∙ k.requests q t ∙ ap not shut))

        asker-kept : Touches st c (close_request q st) → Sound (close_request q st) → (w : ℕ) → IsOpen (close_request q st) w → (request_of (close_request q st).requests w).asker ≡ (request_of st.requests w).asker
        asker-kept k s' w u =
            let o = was-open k s' w u in
            ap (λ v. v.asker) (k.requests-kept w o (not_t (shuts st c (request_of st.requests w)) (sym (k.requests w o) ∙ u))) ∙ (unfold request_after fetched_by in refl)

all-revoked : (st₀ : State) (qs : List ℕ) (st : State) → Left st₀ st qs → Left st₀ (after_calls st (revoke_each st₀ qs)) []
unfolding after_calls revoke_each
all-revoked st₀ [] st l = l
all-revoked st₀ (q ∷ qs) st l = all-revoked st₀ qs (answered st (Asks (Revoke (request_of st₀.requests q).asker q))).after (revoked-left st₀ st q qs l)

-- ---- where no request is open
none_open : (vs : List Request) → ((q : ℕ) → member q (map (λ v. v.number) vs) ≡ true → ⊥) → vs ≡ []
none_open [] h = refl
none_open (v ∷ vs) h = absurd (h v.number (member-here v.number (map (λ v. v.number) vs)))

all_back : (st : State) → Sound st → (log : Log) → Held log st → ((q : ℕ) → IsOpen st q → ⊥) → AllBack st
all_back st s log h none =
    record {
      none_open = empty;
      none_lent = unlent;
      none-with-system = λ n t.
          eq-same (is_system (row_of st.rows n).place) (awaits_fetch st.requests n) (held-so st.rows st.requests s.holders.system-holds n t)
          ∙ ap (λ vs. awaits_fetch vs n) empty ∙ (unfold awaits_fetch in refl);
      ends-home = λ n t k. (h.ends n t k).line.at ∙ ap (λ vs. whereabouts log (home_of st (row_of st.rows n)) (listers n vs)) empty ∙ (unfold listers filter whereabouts in refl);
    }
  where
    empty : st.requests ≡ []
    empty = none_open st.requests none

    unborne : (n : ℕ) → IsRow st n → some (row_of st.rows n).request ≡ false
    unborne n t = false_of _ (λ b. none (row_of st.rows n).request (lists-open st n (row_of st.rows n).request (copy-listed st s n t b)))

    itself : (n : ℕ) → IsRow st n → lent_itself st.requests (row_of st.rows n) ≡ false
    itself n t =
        ap (λ vs. lent_itself vs (row_of st.rows n)) empty
        ∙ (unfold lent_itself on_loan any in (rw (unborne n t, and-false (is_end (row_of st.rows n).kind)) refl))

    unlent : (n : ℕ) → is_lent st n ≡ false
    unlent n =
        unfold is_lent rows_rise in
        (sym (marked-reaches (lent_itself st.requests) st.rows s.numbers.rows-rise n)
        ∙ false_of _ (λ m. clash (marked-least (lent_itself st.requests) (λ k. false) st.rows s.numbers.rows-rise
        (λ k t u. ⊎_elim (λ y. clash y (itself k t)) (λ y. clash y (any_none (λ z. false) (λ z. refl) (sources (row_of st.rows k)))) (or_cases (lent_itself st.requests (row_of st.rows k)) _ u)) n m) refl))

pub room-comes-back : RoomComesBack
unfolding RoomComesBack
room-comes-back fs log st x qs h =
    let s = session-sound fs log st x in
    let l = all-revoked st qs st (record { sound = s; log = log; held = session-held fs log st x; left = h; asker = λ q t. refl }) in
    all_back (after_calls st (revoke_each st qs)) l.sound l.log l.held (λ q t. clash (l.left q t) (unfold member in refl))
