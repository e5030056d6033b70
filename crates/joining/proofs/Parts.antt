-- Whatever the parts, what is printed is the join of the whole input.
use Prim.Native.Nat.{ℕ}
use mathlib.Core.List.{List, [], ◌∷◌}
use mathlib.Core.Path.{◌≡◌, refl, sym, ap, ◌∙◌}
use Rattle.history.specs.Kept.{joined}
use Rattle.joining.specs.Written.{join_text, join}
use Rattle.joining.specs.Feeding.{joined_at, Texts, begun, fed, parts_fed, printed_on}
use Rattle.joining.specs.Runs.{EveryPart}
use Rattle.joining.proofs.FedTexts.{fed-joins, fed-append}

parts-fed : (parts : List (List ℕ)) (t : Texts) → parts_fed t parts ≡ fed t (joined parts)
unfolding parts_fed fed joined
parts-fed [] t = refl
parts-fed (part ∷ parts) t = parts-fed parts (fed t part) ∙ sym (fed-append part t (joined parts))

pub every-part : EveryPart
unfolding EveryPart printed_on join
every-part parts = ap join_text (ap (λ (t : Texts). joined_at t.progress) (parts-fed parts begun) ∙ fed-joins (joined parts))
