-- Sessions fed in parts, with what is printed at each part and at the end: one theorem over a table of them, computed by the prover.
use Rattle.std.specs.Prelude.{ℕ, Bool, ◌&&◌, List, [], ◌∷◌, T, replicate}
use Prim.Native.String.{String}
use Rattle.rows.specs.Lists.{all, same_list, bytes}
use Rattle.rows.specs.Layout.{tables_length, processes_length}
use Rattle.feed.specs.Feeding.{Session, begun, fed, finished}

-- a part of the input, and what is printed at it
pub record Part : Type 0 where
  pub read : List ℕ
  pub printed : List ℕ

infixl 80 ◌⇒◌
unfoldable pub ◌⇒◌ : String → String → Part
r ⇒ w = record { read = bytes r; printed = bytes w }

-- a part of so many small x
unfoldable pub xs : ℕ → Part
xs n = record { read = replicate n 120; printed = [] }

-- a session: its parts, and what is printed at the end of the input
pub record Case : Type 0 where
  pub parts : List Part
  pub end : String

unfoldable pub passes_from : Session → List Part → String → Bool
passes_from s [] end = same_list (finished s.stage s).reply (bytes end)
passes_from s (p ∷ ps) end = let x = fed s p.read in same_list x.printed p.printed && passes_from x.after ps end

unfoldable pub passes : Case → Bool
passes c = passes_from (begun (replicate tables_length 0) (replicate processes_length 0)) c.parts c.end

-- (rules K11, K12) an answer is printed when its line has ended, wherever a part ends; a line begun is a call at the end
unfoldable pub across_parts : Case
across_parts =
    record {
      parts = "(node 1 (op 2 5 7))\n(proc" ⇒ "" ∷ "ess 1 1)\n(process 2 1)\n(open" ⇒ "" ∷ ")\n(1 hold 1)\n(1 po" ⇒ "(ok 0)\n(ok 2)\n" ∷ "" ⇒ "" ∷ "rt 2)" ⇒ "" ∷ "\n" ⇒ "(ok 3)\n" ∷ "(1 close 3)" ⇒ "" ∷ [];
      end = "(no 2)\n";
    }

-- (rules K11, K9) an opening is refused at its first line with 2, 3, 4 or 6, and nothing after it is read
unfoldable pub refused_early : Case
refused_early = record { parts = "(node 1)\n(node 1)" ⇒ "" ∷ "\n" ⇒ "(no 4 2)\n" ∷ "(open)\n(1 go 0)\n" ⇒ "" ∷ []; end = "" }

-- (rules K12, T1) a line that is too long, in parts of any size, is one refusal
unfoldable pub too_long : Case
too_long =
    record { parts = "(open)\n" ⇒ "(ok 0)\n" ∷ xs 255 ∷ "\n" ⇒ "(no 2)\n" ∷ xs 256 ∷ xs 1 ∷ xs 300 ∷ "\n(1 go 0)" ⇒ "(no 2)\n" ∷ "\n" ⇒ "(no 5)\n" ∷ []; end = "" }

-- (rules K11, O11, O12) an opening that the end of the input decides
unfoldable pub without_open : List Case
without_open =
    record { parts = []; end = "(no 2 1)\n" } ∷ record { parts = "(node 1)\n" ⇒ "" ∷ []; end = "(no 2 2)\n" } ∷ record { parts = "(node 1)\n(open)" ⇒ "" ∷ []; end = "(no 2 2)\n" } ∷ []

pub parts-as-they-must : T (all passes (across_parts ∷ refused_early ∷ too_long ∷ without_open))
unfolding passes passes_from ◌⇒◌ xs across_parts refused_early too_long without_open Rattle.rows.specs.Computes.computes Rattle.closing.specs.Computes.computes Rattle.calls.specs.Computes.computes Rattle.text.specs.Computes.computes Rattle.feed.specs.Computes.computes
parts-as-they-must = tt
