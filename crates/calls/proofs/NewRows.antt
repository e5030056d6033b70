-- A row more: the numbers of its sources from their words, a copy of a row, the two ends of a port.
use Prim.Native.Nat.{ℕ, zero, suc, ◌+◌, ◌<◌, ◌≤◌}
use mathlib.Core.List.{List, [], ◌∷◌}
use mathlib.Core.Path.{◌≡◌, refl, ap, sym, ◌∙◌}
use mathlib.Core.Logic.{inl, inr}
use native.Mathlib.Omega.{arith}
use native.Mathlib.Numerals.{add-one}
use borrow.Author.Tests.{ne_eqb}
use lib.ListN.{length}
use Rattle.rows.specs.declared.Row.{Row}
use Rattle.rows.specs.Lists.{top_of}
use Rattle.rows.specs.Codes.{client_end, server_end}
use Rattle.rows.specs.Tables.{State, row_of}
use Rattle.rows.specs.Setters.{with_sources}
use Rattle.rows.specs.Layout.{row_slot, raw_row}
use Rattle.rows.specs.vocabulary.Represents.{Represents}
use Rattle.rows.specs.vocabulary.Slots.{slotted, number_of_slot, with_source_numbers}
use Rattle.rows.proofs.Bools.{clash}
use Rattle.rows.proofs.RowSources.{Among}
use Rattle.rows.proofs.Slots.{row-none, number-of-row, raw-row}
use Rattle.calls.specs.declared.NewCopy.{NewCopy}
use Rattle.calls.specs.declared.NewPort.{NewPort}
use Rattle.calls.specs.Rules.{copy_of}
use Rattle.calls.specs.Calls.{port_end}
use Rattle.calls.specs.vocabulary.Effects.{client_of, server_of}

-- ---- the row at a source word
pub number-of-none : (rs : List Row) → number_of_slot rs 0 ≡ 0
unfolding number_of_slot
number-of-none [] = refl
number-of-none (r ∷ rs) = rw (ne_eqb (suc (length rs)) 0 (λ e. omega arith)) (number-of-none rs)

pub number-of-word : (rs : List Row) (n w : ℕ) → row_slot rs n ≡ w → Among rs n → number_of_slot rs w ≡ n
number-of-word rs n zero e (inl z) = number-of-none rs ∙ sym z
number-of-word rs n zero e (inr m) = clash m (row-none rs n e)
number-of-word rs n (suc i) e a = number-of-row rs n i e

-- a row more leaves the rows at the words before
pub number-of-older : (r : Row) (rs : List Row) (w : ℕ) → w ≤ length rs → number_of_slot (r ∷ rs) w ≡ number_of_slot rs w
unfolding number_of_slot
number-of-older r rs w h = rw (ne_eqb (suc (length rs)) w (λ e. omega arith)) refl

-- ---- a copy
-- what a copy takes from its row, as the words of the row's slot have it
pub copied-fields : {t : List ℕ} {st : State} → Represents t st → (e i : ℕ) → row_slot st.rows e ≡ suc i → (of : Row) → of ≡ raw_row t i
    → (of.kind ≡ (row_of st.rows e).kind) × (of.object ≡ (row_of st.rows e).object) × (of.operation ≡ (row_of st.rows e).operation)
unfolding slotted with_sources
copied-fields rep e i at of h =
    let same = h ∙ raw-row rep e i at in
    (ap (λ (r : Row). r.kind) same, ap (λ (r : Row). r.object) same, ap (λ (r : Row). r.operation) same)

abbrev pub copy_words : Row → NewCopy → Row
copy_words of w =
    record {
      number = w.number;
      kind = of.kind;
      object = of.object;
      operation = of.operation;
      rights = w.rights;
      place = w.place;
      source = w.source;
      via = w.via;
      depth = w.depth;
      request = w.request;
    }

pub copy-made : (rs : List Row) (r of : Row) (w : NewCopy) → (of.kind ≡ r.kind) × (of.object ≡ r.object) × (of.operation ≡ r.operation)
    → (s v : ℕ) → number_of_slot rs w.source ≡ s → number_of_slot rs w.via ≡ v
    → with_source_numbers rs (copy_words of w) ≡ copy_of r w.number w.rights w.place s v w.depth w.request
unfolding with_source_numbers with_sources copy_of
copy-made rs r of w (kind, object, operation) s v first second =
    λ j.
    record {
      number = w.number;
      kind = kind j;
      object = object j;
      operation = operation j;
      rights = w.rights;
      place = w.place;
      source = first j;
      via = second j;
      depth = w.depth;
      request = w.request;
    }

-- ---- the ends of a port
end-made : (rs : List Row) (kind n c place s e d : ℕ) → number_of_slot rs s ≡ e → with_source_numbers rs (port_end kind n c place s d) ≡ port_end kind n c place e d
unfolding with_source_numbers with_sources port_end
end-made rs kind n c place s e d first =
    λ j.
    record {
      number = n;
      kind = kind;
      object = c;
      operation = 0;
      rights = 0;
      place = place;
      source = first j;
      via = number-of-none rs j;
      depth = d;
      request = 0;
    }

module _ (st : State) (w : NewPort) (e : ℕ) (at : number_of_slot st.rows w.source ≡ e) where
  pub client-made : (row : Row) → row ≡ port_end 3 w.number w.number w.client w.source w.depth → with_source_numbers st.rows row ≡ client_of e w
  unfolding client_end
  client-made row h = ap (with_source_numbers st.rows) h ∙ end-made st.rows 3 w.number w.number w.client w.source e w.depth at

  pub server-made : w.source ≤ length st.rows → (row : Row) → row ≡ port_end 4 (w.number + 1) w.number w.server w.source w.depth
      → with_source_numbers (client_of e w ∷ st.rows) row ≡ server_of e w
  unfolding server_end
  server-made low row h =
      ap (with_source_numbers (client_of e w ∷ st.rows)) (h ∙ ap (λ (n : ℕ). port_end 4 n w.number w.server w.source w.depth) (add-one w.number))
      ∙ end-made (client_of e w ∷ st.rows) 4 (suc w.number) w.number w.server w.source e w.depth (number-of-older (client_of e w) st.rows w.source low ∙ at)

  -- the server end has the greater number
  pub server-new : top_of (λ r. r.number) (client_of e w ∷ st.rows) < w.number + 1
  unfolding top_of port_end
  server-new = omega arith
