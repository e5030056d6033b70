-- (rule P16) Where everything is, at all times: an end that no open request lists is at home, a listed one with whoever fetched the newest request
-- that lists it, or with the system; a copy is with whoever fetched its request, or with the system.
-- Ruled out: a kernel that gives an end to the wrong lender, and would be found out only by a later closing; that leaves a fetched copy with the system.
use Rattle.std.specs.Prelude.{ℕ, true, List, [], ◌∷◌, ◌≡◌, if◌then◌else◌}
use Rattle.rows.specs.declared.Row.{Row}
use Rattle.rows.specs.declared.Request.{Request}
use Rattle.rows.specs.Lists.{filter, some}
use Rattle.rows.specs.Codes.{is_client, is_end, in_clist, with_system, is_clist}
use Rattle.rows.specs.Tables.{State, row_of, request_of, lists}
use Rattle.rows.specs.Sound.{is_fetched}
use Rattle.security.specs.Sessions.{IsRow, Log, fetcher_of, EverySession}

-- the home of an end: of a client end where its operation row is, of a server end with the manager that this row names
unfoldable pub home_of : State → Row → ℕ
home_of st r = let o = row_of st.rows r.source in if is_client r.kind then o.place else in_clist o.object

-- the open requests that list row e, newest first
unfoldable pub listers : ℕ → List Request → List Request
listers e vs = filter (lists e) vs

-- where a row with this home is that these requests list, newest first
unfoldable pub whereabouts : Log → ℕ → List Request → ℕ
whereabouts log home [] = home
whereabouts log home (v ∷ vs) = if is_fetched v then in_clist (fetcher_of log v.number) else with_system

-- an end is lent on along a line: each request that lists it was asked by whoever fetched the next older one that does, the oldest one by its home
unfoldable pub Lenders : Log → ℕ → List Request → Type 0
Lenders log home [] = Unit {0}
Lenders log home (v ∷ vs) = (in_clist v.asker ≡ whereabouts log home vs) × Lenders log home vs

-- ==== where everything is
pub record Places (log : Log) (st : State) : Type 0 where
  pub ends : (n : ℕ) → IsRow st n → is_end (row_of st.rows n).kind ≡ true
      → (row_of st.rows n).place ≡ whereabouts log (home_of st (row_of st.rows n)) (listers n st.requests)
  pub homes : (n : ℕ) → IsRow st n → is_end (row_of st.rows n).kind ≡ true → is_clist (home_of st (row_of st.rows n)) ≡ true
  pub lenders : (n : ℕ) → IsRow st n → is_end (row_of st.rows n).kind ≡ true → Lenders log (home_of st (row_of st.rows n)) (listers n st.requests)
  pub copies : (n : ℕ) → IsRow st n → some (row_of st.rows n).request ≡ true →
      let v = request_of st.requests (row_of st.rows n).request in
      (row_of st.rows n).place ≡ (if is_fetched v then in_clist (fetcher_of log v.number) else with_system)

unfoldable pub WhereEverythingIs : Type 0
WhereEverythingIs = EverySession (λ fs log st. Places log st)
