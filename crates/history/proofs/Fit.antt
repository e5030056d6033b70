-- What holds of every history of a session, by itself.
use Prim.Native.Nat.{ℕ, suc}
use mathlib.Core.Bool.{Bool, true, false, not, ◌&&◌, ◌||◌}
use mathlib.Core.List.{List, [], ◌∷◌}
use mathlib.Core.Path.{◌≡◌}
use lib.Dec.{eqb}
use Rattle.rows.specs.Lists.{all, each, rises, member, some, same_list}
use Rattle.history.specs.History.{Noted, Loan, History}
use Rattle.history.specs.Notes.{noted, noted_of, loan_of}

unfoldable pub is_empty : List ℕ → Bool
is_empty [] = true
is_empty (n ∷ ns) = false

-- a row without a source is one of the text
unfoldable pub rooted : List ℕ → Noted → Bool
rooted text r = not (is_empty r.sources) || member r.number text

-- a row that bears a request has that request's port for a source, and is no end
unfoldable pub bears_well : List Loan → Noted → Bool
bears_well vs r =
    not (some r.request) || (eqb (loan_of vs r.request).number r.request && (member (loan_of vs r.request).port r.sources && eqb r.port 0))

-- an end's port is that of its client end, n or n - 1, which is noted with the same sources and bears no request
unfoldable pub ends_well : List Noted → Noted → Bool
ends_well rs r =
    let c = noted_of rs r.port in
    not (some r.port)
    || ((eqb r.number r.port || eqb r.number (suc r.port))
    && (eqb c.number r.port && (eqb c.port r.port && (same_list c.sources r.sources && eqb r.request 0))))

-- a request's port is noted
unfoldable pub port_noted : List Noted → Loan → Bool
port_noted rs v = some v.port && eqb (noted_of rs v.port).port v.port

pub record Fit (h : History) : Type 0 where
  pub rows-rise : rises (λ r. r.number) h.rows ≡ true
  pub requests-rise : rises (λ v. v.number) h.requests ≡ true
  -- sources are noted, and older
  pub sources-older : each (λ r rs. all (λ s. member s (noted rs)) r.sources) h.rows ≡ true
  pub rows-rooted : all (rooted h.text) h.rows ≡ true
  pub rows-bear : all (bears_well h.requests) h.rows ≡ true
  pub rows_end : all (ends_well h.rows) h.rows ≡ true
  pub ports-noted : all (port_noted h.rows) h.requests ≡ true
  -- no end was dropped
  pub ends-kept : all (λ n. eqb (noted_of h.rows n).port 0) h.dropped ≡ true
  -- a row of the text is noted
  pub text-noted : all (λ n. member n (noted h.rows)) h.text ≡ true
