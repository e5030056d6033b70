-- Where everything is: an invariant of sessions. Of rows that were there by the kind of effect, of new rows by how they are made.
use Prim.Native.Nat.{ℕ}
use native.Mathlib.Omega.{arith}
use mathlib.Core.Bool.{Bool, true, false, not, cond, ◌&&◌}
use mathlib.Core.List.{List, ◌∷◌, map}
use mathlib.Core.Path.{◌≡◌, refl, sym, ap, ◌∙◌, subst}
use mathlib.Core.Logic.{◌⊎◌, inl, inr, ⊎_elim}
use lib.Dec.{ltb, eqb}
use borrow.Author.Tests.{eqb-true}
use Rattle.rows.specs.declared.Row.{Row}
use Rattle.rows.specs.declared.Request.{Request}
use Rattle.rows.specs.Lists.{filter, any, all, member, some}
use Rattle.rows.specs.Codes.{is_end, in_clist}
use Rattle.rows.specs.Tables.{State, no_request, row_of, request_of, lists}
use Rattle.rows.specs.Setters.{with_place}
use Rattle.rows.specs.Sound.{requests_rise, is_fetched, older_fetched}
use Rattle.rows.proofs.Bools.{clash, false_of, bool_eq, and_l, and_r, all-mono, true-or-false}
use Rattle.tables.proofs.Picked.{all_found}
use Rattle.tables.proofs.Sound.{Sound}
use Rattle.tables.proofs.SoundFacts.{row_number, row_below, requests-between}
use Rattle.closing.specs.Closing.{oldest_listing, returned, listed_in, remaining, settled}
use Rattle.closing.proofs.Facts.{request-number}
use Rattle.closing.proofs.Lookups.{row-after, returned-keeps, returned-same, returned-place, left-not-gone}
use Rattle.calls.specs.declared.Item.{Item}
use Rattle.calls.specs.declared.Call.{Call}
use Rattle.calls.specs.declared.Call.TheVariants.{Ask, Fetch}
use Rattle.calls.specs.Rules.{asked_of, with_new_rows, with_record}
use Rattle.calls.specs.Loans.{items_of, new_request, now_fetched, handed_over}
use Rattle.kept.proofs.Allowed.{AskAllowed, FetchAllowed}
use Rattle.kept.proofs.AskItems.{is_item}
use Rattle.kept.proofs.AskFacts.{asked, lists_named, lists-cases, named-held}
use Rattle.kept.proofs.ClosingPlaces.{listed-end}
use Rattle.kept.proofs.Fetch.{asked-found, asked-there}
use Rattle.security.specs.Sessions.{IsRow, IsOpen, Log, logged}
use Rattle.security.specs.Changes.{place_after}
use Rattle.security.specs.Places.{listers, whereabouts, Lenders}
use Rattle.security.proofs.Effects.{Effect, tells, moves-to, adds, asks, fetches, shuts-off}
use Rattle.security.proofs.Closings.{Closes}
use Rattle.security.proofs.Touches.{question-still, adds-still, item-is}
use Rattle.security.proofs.Moves.{held_by}
use Rattle.security.proofs.Frames.{place-after, same-but-place}
use Rattle.security.proofs.Listers.{else-line, fetch-line, unlisted-line, closing-line}

-- ---- of a row that was there: where it is, and, if it is an end, its line of lenders
pub record Line (log : Log) (home : ℕ) (r : Row) (vs : List Request) : Type 0 where
  pub at : r.place ≡ whereabouts log home vs
  pub lenders : is_end r.kind ≡ true → Lenders log home vs

module _ (st : State) (s : Sound st) (log : Log) (home n : ℕ) (t : IsRow st n) (line : Line log home (row_of st.rows n) (listers n st.requests)) where
  abbrev r : Row
  r = row_of st.rows n

  -- the place and the requests as they were
  same_line : (log' : Log) (r' : Row) (vs : List Request) → log' ≡ log → r'.place ≡ r.place → r'.kind ≡ r.kind → vs ≡ st.requests → Line log' home r' (listers n vs)
  same_line log' r' vs l p k v =
      record {
        at = p ∙ line.at ∙ (λ i. whereabouts (sym l i) home (listers n (sym v i)));
        lenders = λ e. subst (λ z. Lenders z home (listers n vs)) (sym l) (subst (λ z. Lenders log home (listers n z)) (sym v) (line.lenders (sym (ap is_end k) ∙ e)));
      }

  -- ---- ask: an end among the items is lent to the system, by the caller, who had it
  module _ (p c : ℕ) (is : List Item) (a : AskAllowed st p c (items_of is)) where
    abbrev v : Request
    v = asked st p c (items_of is)

    listed-so : lists n v ≡ is_item st (items_of is) n
    listed-so =
        let lt = (row_below st s.numbers n t).1 in
        bool_eq (lists n v) (is_item st (items_of is) n) (λ l. ⊎_elim (λ i. i) (λ x. absurd (omega (arith, x.0))) (lists-cases st s p c (items_of is) a n l)) (lists_named st s p c (items_of is) a n)

    ask-line : (r' : Row) → r'.kind ≡ r.kind → r'.place ≡ place_after st (Ask p c is) r → Line log home r' (listers n (v ∷ st.requests))
    unfolding place_after listers filter new_request
    ask-line r' k z = rw listed-so (pick (is_item st (items_of is) n) refl)
      where
        so : is_item st (items_of is) n ≡ is_end r.kind && any (λ i. eqb i.row r.number) (items_of is)
        so = item-is st s (items_of is) n ∙ ap (λ m. is_end r.kind && any (λ i. eqb i.row m) (items_of is)) (sym (row_number st.rows n t))

        pick : (b : Bool) → is_item st (items_of is) n ≡ b → Line log home r' (cond b (v ∷ filter (lists n) st.requests) (filter (lists n) st.requests))
        pick true q =
            record {
              at = z ∙ (rw (sym so ∙ q) (unfold whereabouts is_fetched in refl));
              lenders = λ e. (unfold Lenders in (sym (held_by st p n (named-held st s p c (items_of is) a n q)) ∙ line.at, line.lenders (sym (ap is_end k) ∙ e)));
            }
        pick false q = record { at = z ∙ (rw (sym so ∙ q) line.at); lenders = λ e. line.lenders (sym (ap is_end k) ∙ e) }

  -- ---- fetch: what the request lists comes to the caller
  module _ (p e : ℕ) (a : FetchAllowed st p e) where
    abbrev w : Request
    w = asked_of st e

    found : request_of st.requests w.number ≡ w
    unfolding requests_rise
    found = asked-found st s.numbers.requests-rise e a.serves.asked

    -- another request, or one that does not list it
    others : lists n w ≡ false → all (λ v. not (eqb w.number v.number && lists n v)) st.requests ≡ true
    unfolding requests_rise request_of
    others l =
        all_found (λ v. v.number) no_request (λ v. not (eqb w.number v.number && lists n v)) st.requests s.numbers.requests-rise
        (λ m o. ap not (false_of _ (λ u. clash (ap (lists n) (same m o u) ∙ and_r (eqb w.number (request_of st.requests m).number) _ u) l)))
      where
        same : (m : ℕ) → IsOpen st m → eqb w.number (request_of st.requests m).number && lists n (request_of st.requests m) ≡ true → w ≡ request_of st.requests m
        same m o u =
            let z : w.number ≡ m = eqb-true w.number _ (and_l (eqb w.number (request_of st.requests m).number) _ u) ∙ request-number st m o in
            sym found ∙ ap (request_of st.requests) z

    fetched-line : (r' : Row) → r'.kind ≡ r.kind → r'.place ≡ place_after st (Fetch p e) r
        → Line (record { request = w.number; process = p } ∷ log) home r' (listers n (map (now_fetched w.number) st.requests))
    unfolding place_after requests_rise older_fetched
    fetched-line r' k z = pick (lists n w) refl
      where
        so : lists r.number w ≡ lists n w
        so = ap (λ m. lists m w) (row_number st.rows n t)

        pick : (b : Bool) → lists n w ≡ b → Line (record { request = w.number; process = p } ∷ log) home r' (listers n (map (now_fetched w.number) st.requests))
        pick true q =
            let x = fetch-line log w.number p home n st.requests s.numbers.requests-rise s.holders.older-fetched (asked-there st e a.serves.asked)
            (ap is_fetched found ∙ a.unfetched) (ap (lists n) found ∙ q) in
            record { at = z ∙ (rw (so ∙ q) (sym x.0)); lenders = λ e. x.1 (line.lenders (sym (ap is_end k) ∙ e)) }
        pick false q =
            let x = else-line log w.number p home n st.requests (others q) in
            record { at = z ∙ (rw (so ∙ q) (line.at ∙ sym x.0)); lenders = λ e. x.1 (line.lenders (sym (ap is_end k) ∙ e)) }

  -- ---- a closing
  module _ (c : Call) (g : List ℕ) (f : Request → Bool) (x : Closes st c g f) (out : member n g ≡ false) where
    numbered : all (λ v. some v.number) st.requests ≡ true
    numbered =
        all-mono (λ v. some v.number && ltb v.number st.next) (λ v. some v.number) (λ v e. and_l (some v.number) (ltb v.number st.next) e) st.requests (requests-between st s.numbers)

    closed-line : Line log home (returned f st.requests r) (listers n (remaining f g st.requests))
    closed-line = pick (true-or-false (listed_in f st.requests n))
      where
        number : r.number ≡ n
        number = row_number st.rows n t

        kind : (returned f st.requests r).kind ≡ r.kind
        kind = returned-keeps (λ r. r.kind) (λ p r. unfold with_place in refl) f st.requests r

        pick : (listed_in f st.requests n ≡ true) ⊎ (listed_in f st.requests n ≡ false) → Line log home (returned f st.requests r) (listers n (remaining f g st.requests))
        pick (inl h) =
            let y = closing-line f g n out log home st.requests numbered (line.lenders (listed-end g f st s x.closed n t out h)) in
            record {
              at =
                  returned-place f st.requests r numbered (ap (listed_in f st.requests) number ∙ h) ∙ ap (λ m. in_clist (oldest_listing f m st.requests).asker) number
                  ∙ sym (y.0 ∙ rw h refl);
              lenders = λ e. y.1;
            }
        pick (inr h) =
            record {
              at =
                  ap (λ r. r.place) (returned-same f st.requests r (ap (listed_in f st.requests) number ∙ h)) ∙ line.at
                  ∙ sym (unlisted-line f g n out log home st.requests h);
              lenders = λ e. (closing-line f g n out log home st.requests numbered (line.lenders (sym (ap is_end kind) ∙ e))).1;
            }

-- ---- by the kind of effect
pub kind-kept : (st st' : State) (c : Call) (s : Sound st) → Effect st c st' → (n : ℕ) → IsRow st n → IsRow st' n → (row_of st'.rows n).kind ≡ (row_of st.rows n).kind
unfolding with_place
kind-kept st st' c s x n t t' = same-but-place st st' c s x n t t' (λ r. r.kind) (λ p r. refl)

pub old-line : (st st' : State) (c : Call) (s : Sound st) → Effect st c st' → (log : Log) (home n : ℕ) → IsRow st n → IsRow st' n
    → Line log home (row_of st.rows n) (listers n st.requests) → Line (logged st c log) home (row_of st'.rows n) (listers n st'.requests)
unfolding logged with_record with_new_rows handed_over
old-line st st' c s (tells c' x) log home n t t' l = rw ((question-still st c x).unlogged log) l
old-line st st' c s (moves-to p e a) log home n t t' l = same_line st s log home n t l log _ _ refl refl refl refl
old-line st st' c s (adds c' rs m a z) log home n t t' l =
    let x = adds c rs m a z in
    same_line st s log home n t l (logged st c log) _ _ ((adds-still st c rs a).unlogged log)
    (place-after st st' c s x n t t' ∙ (adds-still st c rs a).placed (row_of st.rows n)) (kind-kept st st' c s x n t t') refl
old-line st st' c s (asks p d is a) log home n t t' l =
    let x = asks p d is a in
    ask-line st s log home n t l p d is a _ (kind-kept st st' c s x n t t') (place-after st st' c s x n t t')
old-line st st' c s (fetches p e a) log home n t t' l =
    let x = fetches p e a in
    fetched-line st s log home n t l p e a _ (kind-kept st st' c s x n t t') (place-after st st' c s x n t t')
old-line st st' c s (shuts-off c' g f y m) log home n t t' l =
    let out = left-not-gone g f st n t' in
    subst (λ z. Line z home (row_of (settled g f st).rows n) (listers n (settled g f st).requests)) (sym (m.unlogged log))
    (subst (λ z. Line log home z (listers n (settled g f st).requests)) (sym (row-after g f st n out)) (unfold settled in closed-line st s log home n t l c g f y out))
