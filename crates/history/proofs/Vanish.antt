-- An accepted revoke takes from the tables just what came from the request.
use Prim.Native.Nat.{ℕ}
use mathlib.Core.Bool.{true, not}
use mathlib.Core.List.{[], ◌∷◌}
use mathlib.Core.Path.{◌≡◌, sym, ◌∙◌}
use mathlib.Core.Logic.{◌↔◌}
use Rattle.rows.specs.Lists.{member}
use Rattle.rows.specs.Tables.{State, numbers, marked, bears}
use Rattle.rows.proofs.Bools.{false_of, clash, and_l, some-pos}
use Rattle.tables.proofs.Sound.{Sound}
use Rattle.closing.specs.Closing.{closes, closing, close_request}
use Rattle.closing.proofs.Lookups.{left-keys}
use Rattle.kept.proofs.Allowed.{RevokeAllowed}
use Rattle.history.specs.History.{History}
use Rattle.history.specs.Notes.{stands, note_revoke}
use Rattle.history.specs.Chains.{ComesFrom}
use Rattle.history.specs.Demand3.{InTables, Vanished}
use Rattle.history.proofs.Inv.{Inv}
use Rattle.history.proofs.Comes.{revoke-takes}
use Rattle.history.proofs.Find.{in-tables}
use Rattle.history.proofs.StepClose.{revoke-inv}

pub revoke-vanished : (h : History) (st : State) → Inv h st → Sound st → (p q : ℕ) → RevokeAllowed st p q → Vanished h st (close_request q st) q
unfolding InTables
revoke-vanished h st i s p q a = record { exactly = exactly; nothing_new = nothing-new }
  where
    after : (n : ℕ) → member n (numbers (close_request q st).rows) ≡ stands (note_revoke q h) n
    after n = in-tables (note_revoke q h) (close_request q st) (revoke-inv h st i s p q a) n

    exactly : (n : ℕ) → member n (numbers st.rows) ≡ true → (member n (numbers (close_request q st).rows) ≡ true → ⊥) ↔ ComesFrom h q n
    exactly n t =
        let takes = revoke-takes h i.fit q n (some-pos q a.number) (sym (in-tables h st i n) ∙ t) in
        (λ out. takes.0 (sym (after n) ∙ false_of _ out), λ c w. clash w (after n ∙ takes.1 c))

    nothing-new : (n : ℕ) → member n (numbers (close_request q st).rows) ≡ true → member n (numbers st.rows) ≡ true
    nothing-new n t =
        let g = marked (bears q) st.rows in
        and_l (member n (numbers st.rows)) (not (member n g)) (sym (left-keys g (closes (q ∷ []) g) st n) ∙ (unfold close_request closing in t))
