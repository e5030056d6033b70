-- Texts in a reply: the bytes, 0 after them, and their number.
use Rattle.std.specs.Prelude.{ℕ, ◌≡◌, List, [], ◌∷◌, ◌++◌, map, eqb, length, take, drop, if◌then◌else◌}
use Rattle.rows.specs.Lists.{pad, nonzero}
use Rattle.calls.specs.Answers.{Value, num, told_value}
use Rattle.text.specs.declared.Reply.{Reply}
use Rattle.text.specs.Answers.{spaced, ok_text, no_text}
use Rattle.text.specs.vocabulary.Sizes.{REPLY}

unfoldable pub in_reply : List ℕ → Reply
in_reply t = record { bytes = pad 0 REPLY t; length = length t }

-- the bytes o have a text up to n and 0 after it; u have the text t after that, up to m
abbrev pub Puts : List ℕ → ℕ → List ℕ → List ℕ → ℕ → Type 0
Puts o n t u m =
    (before : List ℕ) → record { bytes = o; length = n } ≡ in_reply before → record { bytes = u; length = m } ≡ in_reply (before ++ t)

-- the run `out` has the reply's bytes in front, and n is their number
abbrev pub HandsOut : Reply → List ℕ → List ℕ → ℕ → Type 0
HandsOut r out after n = (n ≡ r.length) × (after ≡ take r.length r.bytes ++ drop r.length out)

-- the text of the numbers that are not 0: themselves of a fetch or a chain, what they tell of a comesall
abbrev pub listed_text : (ℕ → Value) → List ℕ → List ℕ
listed_text value ns = spaced (map value (nonzero ns))

abbrev pub numbers_text : List ℕ → List ℕ
numbers_text = listed_text num

abbrev pub told_text : List ℕ → List ℕ
told_text = listed_text told_value

-- what an opening answers: accepted (0), or the refusal and its line
unfoldable pub opening_text : ℕ → ℕ → List ℕ
opening_text k line = if eqb k 0 then ok_text (num 0 ∷ []) else no_text (k ∷ line ∷ [])
