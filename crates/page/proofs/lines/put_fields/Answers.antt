-- `lines::put_fields` meets its contract: one field after the other over the spaces.
use borrow.Author.Rules.{rules}
use Prim.Native.Nat.{ℕ}
use mathlib.Core.List.{List, [], ◌++◌}
use mathlib.Core.Path.{◌≡◌, refl, ap, ◌∙◌}
use lib.ListN.{length}
use Rattle.text.specs.Answers.{digits_of}
use Rattle.page.specs.Page.{spaces, left_in, right_in, kind_text, place_text, line_of}
use Rattle.page.specs.vocabulary.Columns.{WIDTH, PLACE-COLUMNS}
use Rattle.page.proofs.ColumnLaws.{spaces-long, left-long, right-long, field, field-long, over-spaces, five-joined}
use Rattle.page.proofs.lines.put_fields.Goals as goal

pub slice_bounds-put_right-end : goal.slice_bounds-put_right-end
slice_bounds-put_right-end c = let long = ap length c.requires ∙ spaces-long WIDTH in search rules

pub slice_bounds-put_kind-end : goal.slice_bounds-put_kind-end
slice_bounds-put_kind-end c = let long = ap length c.requires ∙ spaces-long WIDTH in search rules

pub slice_bounds-put_place-end : goal.slice_bounds-put_place-end
slice_bounds-put_place-end c = let long = ap length c.requires ∙ spaces-long WIDTH in search rules

pub put_place-requires : goal.put_place-requires
put_place-requires c = let long = ap length c.requires ∙ spaces-long WIDTH in search rules

pub slice_bounds-put_right-end-2 : goal.slice_bounds-put_right-end-2
slice_bounds-put_right-end-2 c = let long = ap length c.requires ∙ spaces-long WIDTH in search rules

pub slice_bounds-put_right-end-3 : goal.slice_bounds-put_right-end-3
slice_bounds-put_right-end-3 c = let long = ap length c.requires ∙ spaces-long WIDTH in search rules

pub returns : goal.returns
unfolding line_of
returns c =
    let s = c.args.s in
    let number : ℕ → List ℕ = λ w. right_in w (digits_of s.number) in
    let kind : ℕ → List ℕ = λ w. left_in w (kind_text s.kind) in
    let place : ℕ → List ℕ = λ w. left_in PLACE-COLUMNS (place_text s.place) in
    let rights : ℕ → List ℕ = λ w. right_in w (digits_of s.rights) in
    let depth : ℕ → List ℕ = λ w. right_in w (digits_of s.depth) in
    let s₁ = ([] ++ number 10) ++ spaces 1 in
    let s₂ = (s₁ ++ kind 6) ++ spaces 1 in
    let s₃ = (s₂ ++ place 8) ++ spaces 1 in
    let s₄ = (s₃ ++ rights 2) ++ spaces 1 in
    let l₁ : length s₁ ≡ 11 = field-long [] (number 10) 0 10 refl (right-long 10 (digits_of s.number)) in
    let l₂ : length s₂ ≡ 18 = field-long s₁ (kind 6) 11 6 l₁ (left-long 6 (kind_text s.kind)) in
    let l₃ : length s₃ ≡ 27 = field-long s₂ (place 8) 18 8 l₂ (left-long 8 (place_text s.place)) in
    let l₄ : length s₄ ≡ 30 = field-long s₃ (rights 2) 27 2 l₃ (right-long 2 (digits_of s.rights)) in
    let numbered = field number [] _ _ 0 10 53 refl c.requires c.put_right.ensures in
    let kinded = field kind s₁ _ _ 11 6 46 l₁ numbered c.put_kind.ensures in
    let placed = field place s₂ _ _ 18 8 37 l₂ kinded c.put_place.ensures in
    let righted = field rights s₃ _ _ 27 2 34 l₃ placed c.put_right-2.ensures in
    over-spaces depth s₄ _ _ 30 2 32 l₄ righted c.put_right-3.ensures
    ∙ five-joined (number 10) (kind 6) (place 8) (rights 2) (depth 2) (spaces 32) (spaces 1)
