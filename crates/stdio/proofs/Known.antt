-- Bytes that are read and written one after the other, where they are known.
use Rattle.std.proofs.Common.{ℕ, List, [], ◌++◌, refl, sym, ap, ◌∙◌}
use Rattle.std.proofs.lemmas.List.{append_assoc, append-nil}
use Rattle.std.specs.Prelude.{None, Some, Ok, Err, OnOk}
use Rattle.std.specs.declared.option.Option.{Option}
use Rattle.std.specs.declared.result.Result.{Result}
use Rattle.std.specs.Io.KnownBytes.{Appends, Consumes}

pub appends_none : (w : Option (List ℕ)) → Appends w w []
appends_none None = tt
appends_none (Some xs) = sym (append-nil xs)

pub appends_both : (u v w : Option (List ℕ)) (xs ys : List ℕ) → Appends u v xs → Appends v w ys → Appends u w (xs ++ ys)
appends_both None v w xs ys one two = tt
appends_both (Some a) None w xs ys one two = elim one [ ]
appends_both (Some a) (Some b) None xs ys one two = elim two [ ]
appends_both (Some a) (Some b) (Some c) xs ys one two = two ∙ ap (λ (t : List ℕ). t ++ ys) one ∙ append_assoc a xs ys

pub consumes_none : (w : Option (List ℕ)) → Consumes w w []
consumes_none None = tt
consumes_none (Some xs) = refl

pub consumes_both : (u v w : Option (List ℕ)) (xs ys : List ℕ) → Consumes u v xs → Consumes v w ys → Consumes u w (xs ++ ys)
consumes_both None v w xs ys one two = tt
consumes_both (Some a) None w xs ys one two = elim one [ ]
consumes_both (Some a) (Some b) None xs ys one two = elim two [ ]
consumes_both (Some a) (Some b) (Some c) xs ys one two = one ∙ ap (λ (t : List ℕ). xs ++ t) two ∙ sym (append_assoc xs ys c)

-- what follows of what holds on Ok
pub on_ok : {A E : Type 0} {P Q : Type 0} (r : Result A E) → (P → Q) → OnOk r P → OnOk r Q
on_ok (Ok x) f p = f p
on_ok (Err e) f p = tt
