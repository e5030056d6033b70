-- A directory: the forms of a text in words, an entry in one of them. Sizes are named as in code (an underscore there is a hyphen here).
use Rattle.std.specs.Prelude.{ℕ, suc, ◌+◌, ◌-◌, ◌*◌, ◌/◌, ◌%◌, ◌≤◌, ◌<◌, true, List, map, ◌≡◌, refl, length, get_or, take, drop}
use Rattle.rows.specs.Lists.{each, some}
use Rattle.rows.specs.Limits.{nodes, processes, most_entries}
use Rattle.rows.specs.vocabulary.Sizes.{PROCESSES}
use Rattle.text.specs.declared.Entry.{Entry}
use Rattle.text.specs.Opening.{Form, prime_of}
use Rattle.text.specs.vocabulary.Sizes.{NODES}
use Rattle.text.proofs.OpeningForms.{form_passed}
use Rattle.joining.specs.Joins.{node_in, entries_of}

-- ---- sizes
abbrev pub NODE-WORDS : ℕ
NODE-WORDS = 18

abbrev pub PRIMES : ℕ
PRIMES = 594

abbrev pub DIRECTORY : ℕ
DIRECTORY = 659

abbrev pub ENTRIES : ℕ
ENTRIES = 16

-- they are those of the definitions: room for each node's entries, and for each process
pub record JoiningSizesMeant : Type 0 where
  pub entries : ENTRIES ≡ most_entries
  pub node : NODE-WORDS ≡ 2 + most_entries
  pub primes : PRIMES ≡ NODE-WORDS * suc nodes
  pub directory : DIRECTORY ≡ PRIMES + suc processes

pub joining-sizes-meant : JoiningSizesMeant
unfolding nodes processes most_entries
joining-sizes-meant = record { entries = refl; node = refl; primes = refl; directory = refl }

-- ---- an entry in a word
-- what has room there
abbrev pub EntryFits : Entry → Type 0
EntryFits e = (e.object < 100) × (e.operation < 256) × (e.rights < 8) × (e.kind < 4)

unfoldable pub entry_code : Entry → ℕ
entry_code e = ((e.object * 256 + e.operation) * 8 + e.rights) * 4 + e.kind

unfoldable pub entry_of : ℕ → Entry
entry_of c = record { kind = c % 4; object = c / 8192; operation = c / 32 % 256; rights = c / 4 % 8 }

-- ---- the forms of a text in words
-- where the words of node n begin, and its codes
abbrev pub node_at : ℕ → ℕ
node_at n = NODE-WORDS * n

abbrev pub codes_at : ℕ → ℕ
codes_at n = NODE-WORDS * n + 2

-- whether the node is given, how many entries it has, and their codes
pub record NodeHeld (w : List ℕ) (fs : List Form) (n : ℕ) : Type 0 where
  pub given : some (get_or w (node_at n) 0) ≡ node_in fs n
  pub few : get_or w (node_at n + 1) 0 ≤ ENTRIES
  pub codes : take (get_or w (node_at n + 1) 0) (drop (codes_at n) w) ≡ map entry_code (entries_of fs n)

-- the words w hold the forms fs, which a first pass took
pub record Held (w : List ℕ) (fs : List Form) : Type 0 where
  pub long : length w ≡ DIRECTORY
  pub passed : each form_passed fs ≡ true
  pub node : (n : ℕ) → n ≤ NODES → NodeHeld w fs n
  pub prime : (p : ℕ) → p ≤ PROCESSES → get_or w (PRIMES + p) 0 ≡ prime_of fs p

-- some forms
pub record IsHeld (w : List ℕ) : Type 0 where
  pub forms : List Form
  pub held : Held w forms

-- what holds of the forms of both texts
abbrev pub OfBoth : List ℕ → List ℕ → (List Form → List Form → Type 0) → Type 0
OfBoth a b P = (fs gs : List Form) → Held a fs → Held b gs → P fs gs

-- r is where the codes of node n end
pub record CodesEnd (w : List ℕ) (n r : ℕ) : Type 0 where
  pub low : codes_at n ≤ r
  pub high : r ≤ codes_at n + ENTRIES
  pub codes : (fs : List Form) → Held w fs → take (r - codes_at n) (drop (codes_at n) w) ≡ map entry_code (entries_of fs n)
