-- (rule P23) Rows of nodes never change and never vanish; every port has both its ends or neither, each with one holder.
-- Ruled out: a kernel that lets a closing take a registered row; that removes one end of a port; that has an end in two places.
use Rattle.std.specs.Prelude.{ℕ, true, [], ◌≡◌, ◌⊎◌}
use Rattle.rows.specs.Codes.{is_node}
use Rattle.rows.specs.Tables.{State, row_of}
use Rattle.history.specs.Demand3.{ends_of, TwoEnds}
use Rattle.security.specs.Sessions.{IsRow, Later, EverySession}

-- a row in a node is there, the same, after any further calls
unfoldable pub NodesStay : Type 0
NodesStay =
    EverySession (λ fs log st. (st' : State) → Later st st' → (n : ℕ) → is_node (row_of st.rows n).place ≡ true →
    IsRow st' n × (row_of st'.rows n ≡ row_of st.rows n))

-- of every port both ends stand, client and server, each with a process or the system; or none
unfoldable pub EndsTogether : Type 0
EndsTogether = EverySession (λ fs log st. (c : ℕ) → TwoEnds st.rows c ⊎ (ends_of c st.rows ≡ []))
