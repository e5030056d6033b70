-- Calls that close: each is a removal of the rows that go and a closing of the requests that it shuts.
use Prim.Native.Nat.{ℕ}
use mathlib.Core.Bool.{Bool, true, false, not, ◌||◌}
use mathlib.Core.List.{List, [], ◌∷◌}
use mathlib.Core.Path.{◌≡◌, refl, sym, ap, ◌∙◌}
use mathlib.Core.Logic.{◌⊎◌, inl, inr, ⊎_elim}
use lib.Dec.{eqb}
use borrow.Author.Tests.{eqb-true, eq-eqb}
use Rattle.rows.specs.declared.Row.{Row}
use Rattle.rows.specs.declared.Request.{Request}
use Rattle.rows.specs.Lists.{any, member, some}
use Rattle.rows.specs.Codes.{is_end, is_client}
use Rattle.rows.specs.Tables.{State, no_row, no_request, row_of, request_of, open_on, process_at, numbers, sources, marked, bears, comes_from}
use Rattle.rows.specs.Sound.{rows_rise, requests_rise}
use Rattle.rows.proofs.Bools.{clash, false_of, bool_eq, and_l, and_r, and_i, or_cases, or_l, or_r, or-fl, or-false, pos-some, eqb-self, eqb-sym, not_t, or_map}
use Rattle.rows.proofs.Agree.{Agree, agree-found}
use Rattle.rows.proofs.Keyed.{all_first}
use Rattle.rows.proofs.Lists.{none-all}
use Rattle.rows.proofs.Places.{client-is-end}
use Rattle.rows.proofs.RowSources.{client-there as client-row}
use Rattle.rows.specs.vocabulary.Represents.{sources_older}
use Rattle.tables.proofs.Sound.{Sound}
use Rattle.tables.proofs.SoundFacts.{row_number, row_below, row-object, client-object}
use Rattle.tables.proofs.Standing.{sources-older, via-listed}
use Rattle.tables.proofs.Marking.{marked-reaches, marked-closed, marked-least, marked-seed, marked-source}
use Rattle.closing.specs.Closing.{closes, is_end_of, is_row}
use Rattle.closing.proofs.Facts.{copy_at, copy-listed, lists-open, request-number}
use Rattle.closing.proofs.RemovedRows.{Closed, closable-closed}
use Rattle.calls.specs.declared.Call.{Call}
use Rattle.calls.specs.declared.Call.TheVariants.{Drop, Close}
use Rattle.calls.specs.Calls.{in_use}
use Rattle.kept.proofs.Closing.{request-closable, port-closable, row-closable}
use Rattle.kept.proofs.Allowed.{DropAllowed}
use Rattle.kept.proofs.Fetch.{open-there, open-found}
use Rattle.security.specs.Sessions.{IsRow, IsOpen}
use Rattle.security.proofs.Rows.{sources-cases, source-no-end, via-end, open_at, open-key, port-client, source-listed, request-low}
use Rattle.security.specs.Changes.{closed_by, discards, falls, goes, shuts}

-- the rows g are removed: just those that go; the requests that pass f close: just those that the call shuts
pub record Closes (st : State) (c : Call) (g : List ℕ) (f : Request → Bool) : Type 0 where
  pub closed : Closed g f st
  pub gone : (n : ℕ) → IsRow st n → member n g ≡ goes st c n
  pub agrees : Agree f (shuts st c) st.requests

agree-all : {A B : Type 0} (f g : A → B) → ((x : A) → f x ≡ g x) → (xs : List A) → Agree f g xs
agree-all f g h [] = tt
agree-all f g h (x ∷ xs) = (h x, agree-all f g h xs)

any-eq-member : (e : ℕ) (ns : List ℕ) → any (λ x. eqb x e) ns ≡ true → member e ns ≡ true
unfolding any member
any-eq-member e [] t = t
any-eq-member e (n ∷ ns) t = rw (eqb-sym e n) (or_map (eqb n e) (any (λ x. eqb x e) ns) (member e ns) (any-eq-member e ns) t)

pub drop-goes : (st : State) (p e n : ℕ) → goes st (Drop p e) n ≡ true → eqb (row_of st.rows n).number e ≡ true
unfolding goes discards falls closed_by some
drop-goes st p e n g = sym (or-false _) ∙ g

module _ (st : State) (s : Sound st) (c : Call) where
  up : rows_rise st.rows ≡ true
  up = s.numbers.rows-rise

  -- ---- a request: answer, revoke
  module _ (q : ℕ) (h : some q ≡ true) (by : closed_by st c ≡ q) (none : (r : Row) → discards c r ≡ false) where
    abbrev g : List ℕ
    g = marked (bears q) st.rows

    comes : (n : ℕ) → member n g ≡ comes_from st.rows q n
    unfolding comes_from rows_rise
    comes n = marked-reaches (bears q) st.rows up n

    same : (v : Request) → closes (q ∷ []) g v ≡ shuts st c v
    unfolding closes shuts member
    same v = rw (by, h, comes v.port, or-false (eqb v.number q)) refl

    gone-so : (n : ℕ) → member n g ≡ goes st c n
    unfolding goes falls
    gone-so n = comes n ∙ sym (rw (none (row_of st.rows n), by, h) refl)

    pub request-closes : Closes st c g (closes (q ∷ []) g)
    request-closes =
        record {
          closed = closable-closed (bears q) (q ∷ []) st s (request-closable st s q h);
          gone = λ n t. gone-so n;
          agrees = agree-all (closes (q ∷ []) g) (shuts st c) same st.requests;
        }

-- ---- a port: close
module _ (st : State) (s : Sound st) (p k : ℕ) (client : is_client (row_of st.rows k).kind ≡ true) where
  abbrev R : ℕ → Row
  R n = row_of st.rows n

  abbrev c : Call
  c = Close p k

  abbrev ends : List ℕ
  ends = marked (is_end_of k) st.rows

  -- the request open on the port, 0 for none
  abbrev q : ℕ
  q = (open_on st.requests k).number

  rising : rows_rise st.rows ≡ true
  rising = s.numbers.rows-rise

  older : sources_older st.rows ≡ true
  older = sources-older st s.numbers s.rows

  client-there : IsRow st k
  client-there = client-row st.rows k client

  port-of : (n : ℕ) → IsRow st n → is_client (R n).kind ≡ true → (R n).object ≡ n
  port-of n t h = client-object st.processes (R n) (row-object st s.rows n t) h ∙ row_number st.rows n t

  -- a client end is an end of its own port alone
  end_of : (n : ℕ) → IsRow st n → is_client (R n).kind ≡ true → is_end_of k (R n) ≡ eqb n k
  unfolding is_end_of
  end_of n t h = rw (client-is-end (R n).kind h, port-of n t h) refl

  -- an open request is the one on the port just if the port is its own
  same-port : (m : ℕ) → IsOpen st m → (request_of st.requests m).port ≡ k → q ≡ m
  same-port m t e = ap (λ x. (open_on st.requests x).number) (sym e) ∙ ap (λ v. v.number) (open_at st s m t) ∙ request-number st m t

  open-port : some q ≡ true → (IsOpen st q) × ((request_of st.requests q).port ≡ k)
  open-port h = (open-there st.requests k h, ap (λ v. v.port) (open-found st.requests k (unfold requests_rise in s.numbers.requests-rise) h) ∙ open-key st.requests k h)

  -- a copy that bears that request has the client end for its second source, so that it falls with it
  bearer-falls : some q ≡ true → (n : ℕ) → IsRow st n → bears q (R n) ≡ true → member n ends ≡ true
  unfolding bears rows_rise
  bearer-falls h n t b =
      let is : (R n).request ≡ q = eqb-true (R n).request q b in
      let x = copy_at st s n t (ap some is ∙ h) in
      let via : (R n).via ≡ k = sym x.through-port ∙ ap (λ m. (request_of st.requests m).port) is ∙ (open-port h).1 in
      let seed : member k ends ≡ true = marked-seed (is_end_of k) st.rows rising older k client-there (end_of k client-there client ∙ eqb-self k) in
      marked-source (is_end_of k) st.rows rising older n t (R n).via
      (via-listed (R n) (ap some via ∙ pos-some k (row_below st s.numbers k client-there).0)) (ap (λ m. member m ends) via ∙ seed)

  comes-gone : (n : ℕ) → falls st c n ≡ true → member n ends ≡ true
  unfolding falls closed_by comes_from rows_rise
  comes-gone n e =
      let h : some q ≡ true = and_l (some q) _ e in
      marked-least (bears q) (λ m. member m ends) st.rows rising
      (λ m t u. ⊎_elim (bearer-falls h m t) (λ w. marked-closed (is_end_of k) st.rows rising older m t ∙ or_r (is_end_of k (R m)) _ w)
      (or_cases (bears q (R m)) (any (λ x. member x ends) (sources (R m))) u))
      n (marked-reaches (bears q) st.rows rising n ∙ and_r (some q) _ e)

  -- what has a source that goes
  above : (n : ℕ) → IsRow st n → (m : ℕ) → member m (sources (R n)) ≡ true → falls st c m ≡ true → falls st c n ≡ true
  unfolding falls closed_by comes_from rows_rise
  above n t m u e =
      let h : some q ≡ true = and_l (some q) _ e in
      let f : comes_from st.rows q m ≡ true = and_r (some q) _ e in
      and_i (some q) (comes_from st.rows q n) h
      (sym (marked-reaches (bears q) st.rows rising n)
      ∙ marked-source (bears q) st.rows rising older n t m u (marked-reaches (bears q) st.rows rising m ∙ f))

  -- a copy lent over the port bears its request
  over-port : (n : ℕ) → IsRow st n → some (R n).via ≡ true → is_end_of k (R (R n).via) ≡ true → falls st c n ≡ true
  unfolding falls closed_by is_end_of comes_from rows_rise bears
  over-port n t h e =
      let x = via-end st s n t h (and_l (is_end (R (R n).via).kind) _ e) in
      let there : IsRow st (R n).via = client-row st.rows (R n).via x.via in
      let is : (R n).via ≡ k = eqb-true (R n).via k (sym (end_of (R n).via there x.via) ∙ (unfold is_end_of in e)) in
      let m : IsOpen st (R n).request = lists-open st n (R n).request (copy-listed st s n t x.bears) in
      let own : q ≡ (R n).request = same-port (R n).request m (x.port ∙ is) in
      and_i (some q) (comes_from st.rows q n) (ap some own ∙ x.bears)
      (sym (marked-reaches (bears q) st.rows rising n) ∙ marked-seed (bears q) st.rows rising older n t (eq-eqb (R n).request q (sym own)))

  gone-port : (n : ℕ) → IsRow st n → member n ends ≡ goes st c n
  unfolding goes discards is_end_of rows_rise
  gone-port n t = bool_eq (member n ends) (goes st c n) (out n) back
    where
      closed : (m : ℕ) → IsRow st m → is_end_of k (R m) || any (λ x. goes st c x) (sources (R m)) ≡ true → goes st c m ≡ true
      closed m t u = ⊎_elim (λ d. or_l (is_end_of k (R m)) (falls st c m) d) (λ w. or_r (is_end_of k (R m)) (falls st c m) (up (sources-cases (λ x. goes st c x) (R m) w))) (or_cases (is_end_of k (R m)) _ u)
        where
          up : ((some (R m).source ≡ true) × (goes st c (R m).source ≡ true)) ⊎ ((some (R m).via ≡ true) × (goes st c (R m).via ≡ true)) → falls st c m ≡ true
          up (inl (h, x)) =
              ⊎_elim (λ d. clash (and_l (is_end (R (R m).source).kind) _ d) (source-no-end st s m t h)) (above m t (R m).source (source-listed (R m) h))
              (or_cases (is_end_of k (R (R m).source)) (falls st c (R m).source) x)
          up (inr (h, x)) = ⊎_elim (over-port m t h) (above m t (R m).via (via-listed (R m) h)) (or_cases (is_end_of k (R (R m).via)) (falls st c (R m).via) x)

      out : (m : ℕ) → member m ends ≡ true → goes st c m ≡ true
      out = marked-least (is_end_of k) (goes st c) st.rows rising closed

      back : goes st c n ≡ true → member n ends ≡ true
      back x =
          ⊎_elim (λ d. marked-seed (is_end_of k) st.rows rising older n t d) (comes-gone n) (or_cases (is_end_of k (R n)) (falls st c n) x)

  -- the requests that close
  shut-port : (m : ℕ) → IsOpen st m → closes [] ends (request_of st.requests m) ≡ shuts st c (request_of st.requests m)
  unfolding closes member goes discards shuts falls closed_by is_end_of
  shut-port m t = gone-port v.port there ∙ pick (eqb v.port k) refl
    where
      v : Request
      v = request_of st.requests m

      there : IsRow st v.port
      there = client-row st.rows v.port (port-client st s m t)

      number : v.number ≡ m
      number = request-number st m t

      pick : (b : Bool) → eqb v.port k ≡ b → goes st c v.port ≡ shuts st c v
      pick true e =
          let own : q ≡ m = same-port m t (eqb-true v.port k e) in
          let h : some q ≡ true = ap some own ∙ pos-some m (request-low st s m t) in
          rw (client-is-end (R v.port).kind (port-client st s m t), port-of v.port there (port-client st s m t), e, h, number, eq-eqb m q (sym own)) refl
      pick false e =
          let other : eqb v.number q ≡ false = false_of (eqb v.number q) (λ z. differs (eqb-true v.number q z)) in
          rw (client-is-end (R v.port).kind (port-client st s m t), port-of v.port there (port-client st s m t), e, other) refl
        where
          differs : v.number ≡ q → ⊥
          differs z =
              let own : m ≡ q = sym number ∙ z in
              let h : some q ≡ true = ap some (sym own) ∙ pos-some m (request-low st s m t) in
              clash (eq-eqb v.port k (ap (λ x. (request_of st.requests x).port) own ∙ (open-port h).1)) e

  port-agrees : Agree (closes [] ends) (shuts st c) st.requests
  unfolding request_of requests_rise
  port-agrees = agree-found (λ v. v.number) no_request (closes [] ends) (shuts st c) st.requests s.numbers.requests-rise shut-port

  pub port-closes : Closes st c ends (closes [] ends)
  port-closes =
      record {
        closed = closable-closed (is_end_of k) [] st s (port-closable st s k);
        gone = gone-port;
        agrees = port-agrees;
      }

-- ---- a row: drop
module _ (st : State) (s : Sound st) (p e : ℕ) (a : DropAllowed st p e) where
  abbrev dropped : List ℕ
  dropped = marked (is_row e) st.rows

  -- it is no row's source
  unused : (n : ℕ) → IsRow st n → member e (sources (row_of st.rows n)) ≡ false
  unfolding in_use row_of numbers
  unused n t =
      not_t (member e (sources (row_of st.rows n)))
      (all_first (λ r. r.number) no_row (λ r. not (member e (sources r))) st.rows n
      (none-all (λ r. member e (sources r)) st.rows (or-fl (any (λ r. member e (sources r)) st.rows) (eqb (process_at st.processes p).through e) a.unused)) t)

  gone-row : (n : ℕ) → IsRow st n → member n dropped ≡ goes st (Drop p e) n
  unfolding goes discards falls closed_by some is_row rows_rise
  gone-row n t = bool_eq (member n dropped) (eqb (row_of st.rows n).number e || false) (λ m. or_l _ false (out m)) (λ g. seed (sym (or-false _) ∙ g))
    where
      seed : eqb (row_of st.rows n).number e ≡ true → member n dropped ≡ true
      seed g = marked-seed (is_row e) st.rows s.numbers.rows-rise (sources-older st s.numbers s.rows) n t g

      alone : (m : ℕ) → IsRow st m → is_row e (row_of st.rows m) || any (λ x. eqb x e) (sources (row_of st.rows m)) ≡ true → eqb m e ≡ true
      alone m u h =
          ⊎_elim (λ d. ap (λ k. eqb k e) (sym (row_number st.rows m u)) ∙ d) (λ w. clash (any-eq-member e (sources (row_of st.rows m)) w) (unused m u))
          (or_cases (is_row e (row_of st.rows m)) _ h)

      out : member n dropped ≡ true → eqb (row_of st.rows n).number e ≡ true
      out m = ap (λ k. eqb k e) (row_number st.rows n t) ∙ marked-least (is_row e) (λ k. eqb k e) st.rows s.numbers.rows-rise alone n m

  -- no port is dropped
  shut_row : (m : ℕ) → IsOpen st m → closes [] dropped (request_of st.requests m) ≡ shuts st (Drop p e) (request_of st.requests m)
  unfolding closes member shuts closed_by some
  shut_row m t =
      let v = request_of st.requests m in
      let client : is_client (row_of st.rows v.port).kind ≡ true = port-client st s m t in
      let there : IsRow st v.port = client-row st.rows v.port client in
      gone-row v.port there
      ∙ false_of (goes st (Drop p e) v.port) (λ g.
      let is : v.port ≡ e = sym (row_number st.rows v.port there) ∙ eqb-true _ e (drop-goes st p e v.port g) in
      clash (client-is-end _ client) (ap (λ k. is_end (row_of st.rows k).kind) is ∙ a.no_end))

  pub row_closes : Closes st (Drop p e) dropped (closes [] dropped)
  unfolding request_of requests_rise
  row_closes =
      record {
        closed = closable-closed (is_row e) [] st s (row-closable st s e a.no_end);
        gone = gone-row;
        agrees = agree-found (λ v. v.number) no_request (closes [] dropped) (shuts st (Drop p e)) st.requests s.numbers.requests-rise shut_row;
      }
