-- Sizes and bounds of the text, named in contracts as in code (an underscore there is a hyphen here), and that they are those of the definitions.
use Rattle.std.specs.Prelude.{ℕ, suc, ◌≡◌, refl}
use Rattle.rows.specs.Limits.{nodes, greatest_number, most_bytes}
use Rattle.rows.specs.vocabulary.Sizes.{LAST-NEXT}
use Rattle.text.specs.Patterns.{most_groups}
use Rattle.text.specs.Opening.{kept_of_line}

-- the greatest number that is read: it stands for all above it
abbrev pub GREATEST-READ : ℕ
GREATEST-READ = LAST-NEXT

-- what stands for all words of more than 8 letters
abbrev pub LONG-WORD : ℕ
LONG-WORD = 1099511627776

-- groups in brackets of a line
abbrev pub GROUPS : ℕ
GROUPS = 64

-- the greatest node
abbrev pub NODES : ℕ
NODES = 32

-- the bytes kept of a line
abbrev pub KEPT-LINE : ℕ
KEPT-LINE = 257

-- the bytes of a reply: part of the C interface, as no definition has them
abbrev pub REPLY : ℕ
REPLY = 256

-- a space and the digits of a number, at most
abbrev pub VALUE : ℕ
VALUE = 11

-- a space and what is told of a pair
abbrev pub TOLD : ℕ
TOLD = 2

-- ---- they are those of the definitions
pub record TextSizesMeant : Type 0 where
  pub greatest-read : GREATEST-READ ≡ suc greatest_number
  pub groups : GROUPS ≡ most_groups
  pub nodes : NODES ≡ nodes
  pub kept_line : KEPT-LINE ≡ kept_of_line

pub text-sizes-meant : TextSizesMeant
unfolding greatest_number most_groups nodes kept_of_line most_bytes
text-sizes-meant = record { greatest-read = refl; groups = refl; nodes = refl; kept_line = refl }
