-- `new_rows::append_ends`: the client end, then the server end over the rows with it.
use Prim.Native.Nat.{ℕ, suc, ◌≤◌, ◌<◌}
use native.Mathlib.Omega.{arith}
use lib.ListN.{length}
use native.Mathlib.Numerals.{add-one}
use mathlib.Core.List.{◌∷◌}
use mathlib.Core.Path.{ap, sym, subst, ◌∙◌}
use Rattle.rows.specs.declared.Row.{Row}
use Rattle.rows.specs.Lists.{top_of}
use Rattle.rows.specs.Setters.{with_rows}
use Rattle.rows.specs.vocabulary.Represents.{Represents}
use Rattle.calls.specs.Calls.{port_end}
use Rattle.calls.specs.vocabulary.Effects.{client_of}
use Rattle.calls.proofs.NewRows.{client-made, server-made, server-new}
use Rattle.calls.proofs.new_rows.append_ends.Goals as goal

pub append_row-requires : goal.append_row-requires
unfolding port_end
append_row-requires c =
    let made = c.port_end-client.ensures in
    (c.requires.0, omega (arith, c.requires.1), omega (arith, c.requires.2, ap (λ (r : Row). r.source) made), omega (arith, ap (λ (r : Row). r.via) made))

pub append_row-requires-2 : goal.append_row-requires-2
unfolding port_end
append_row-requires-2 c =
    let made = c.port_end-server.ensures in
    (c.append_row.ensures.long, omega (arith, c.requires.1), omega (arith, c.requires.2, ap (λ (r : Row). r.source) made), omega (arith, ap (λ (r : Row). r.via) made))

pub returns : goal.returns
unfolding port_end
returns c =
    let second = c.append_row-2 in
    let server = c.port_end-server in
    let first = c.append_row in
    let client = c.port_end-client in
    let w = c.args.w in record {
      added = (λ st e h new at.
          let one = client-made st w e at client.result client.ensures in
          let low : w.source ≤ length st.rows = omega (arith, c.requires.2, h.1) in
          let mid = subst (λ (r : Row). Represents first.new.t (with_rows (r ∷ st.rows) st)) one
          (first.ensures.represents st h.0 h.1 (subst (λ (n : ℕ). top_of (λ r. r.number) st.rows < n) (sym (ap (λ (r : Row). r.number) client.ensures)) new)) in
          let two = server-made st w e at low server.result server.ensures in
          subst (λ (r : Row). Represents second.new.t (with_rows (r ∷ client_of e w ∷ st.rows) st)) two
          (second.ensures.represents (with_rows (client_of e w ∷ st.rows) st) mid (add-one c.args.n ∙ ap suc h.1)
          (subst (λ (n : ℕ). top_of (λ r. r.number) (client_of e w ∷ st.rows) < n) (sym (ap (λ (r : Row). r.number) server.ensures)) (server-new st w e at))));
      long = second.ensures.long;
    }
