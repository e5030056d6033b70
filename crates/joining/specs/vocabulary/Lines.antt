-- The joined text by slots: one for each node, each process and `(open)`.
use Rattle.std.specs.Prelude.{ℕ, zero, suc, ◌+◌, ◌-◌, ◌*◌, ◌≤◌, ◌<◌, true, false, ◌||◌, List, [], ◌++◌, map, ◌≡◌, refl, ltb, length, take, drop, if◌then◌else◌}
use Rattle.rows.specs.Lists.{all, bytes}
use Rattle.rows.specs.Limits.{nodes, processes}
use Rattle.text.specs.declared.Reply.{Reply}
use Rattle.text.specs.Opening.{Form, node_form, process_form}
use Rattle.text.specs.vocabulary.Replies.{in_reply}
use Rattle.text.specs.vocabulary.Sizes.{REPLY}
use Rattle.joining.specs.declared.Codes.{Codes}
use Rattle.joining.specs.declared.Written.{Written}
use Rattle.joining.specs.Joins.{node_in, process_in, entries_joined, prime_joined, node_crowded}
use Rattle.joining.specs.Written.{entries_text, form_text}
use Rattle.joining.specs.vocabulary.Directories.{ENTRIES, entry_of, Held, OfBoth}

-- ---- sizes
abbrev pub SLOTS : ℕ
SLOTS = 97

-- the bytes of `(node 32`, of an entry at most, and the room that is wanted while an entry is put
abbrev pub HEAD : ℕ
HEAD = 8

abbrev pub ENTRY : ℕ
ENTRY = 14

abbrev pub ENTRY-ROOM : ℕ
ENTRY-ROOM = 22

-- an entry whose object has two digits at most has a code below this
abbrev pub CODE-LIMIT : ℕ
CODE-LIMIT = 819200

-- a slot for each node, each process and `(open)`
pub slots-meant : SLOTS ≡ suc (nodes + processes)
unfolding nodes processes
slots-meant = refl

-- ---- a node's line
abbrev pub codes_in : Codes → List ℕ
codes_in c = take c.count c.codes

-- so many entries, each with room in a line
abbrev pub CodesFit : Codes → Type 0
CodesFit c = (c.count ≤ ENTRIES) × (all (λ x. ltb x CODE-LIMIT) (codes_in c) ≡ true)

abbrev pub codes_text : List ℕ → List ℕ
codes_text cs = entries_text (map entry_of cs)

abbrev pub node_of : ℕ → Codes → Form
node_of n c = node_form n (map entry_of (codes_in c))

-- ---- slots
-- the line of node n of both texts, of process p; nothing where neither text has it
unfoldable pub node_slot : List Form → List Form → ℕ → List ℕ
node_slot fs gs n = if node_in fs n || node_in gs n then form_text (node_form n (entries_joined fs gs n)) else []

unfoldable pub process_slot : List Form → List Form → ℕ → List ℕ
process_slot fs gs p = if process_in fs p || process_in gs p then form_text (process_form p (prime_joined fs gs p)) else []

unfoldable pub slot_text : List Form → List Form → ℕ → List ℕ
slot_text fs gs k =
    if ltb k nodes then node_slot fs gs (suc k)
    else if ltb k (nodes + processes) then process_slot fs gs (suc k - nodes)
    else bytes "(open)\n"

-- n slots from k on
unfoldable pub slots_text : List Form → List Form → ℕ → ℕ → List ℕ
slots_text fs gs k zero = []
slots_text fs gs k (suc n) = slots_text fs gs k n ++ slot_text fs gs (k + n)

-- ---- lines
-- the words hold two texts whose nodes, joined, have room for their entries
pub record Accepted (a b : List ℕ) : Type 0 where
  pub first : List Form
  pub second : List Form
  pub first-held : Held a first
  pub second-held : Held b second
  pub room : node_crowded first second ≡ false

-- r is the text f of the forms of both
abbrev pub LineOf : List ℕ → List ℕ → (List Form → List Form → List ℕ) → Reply → Type 0
LineOf a b f r = OfBoth a b (λ fs gs. r ≡ in_reply (f fs gs)) × (r.length ≤ REPLY)

-- so many bytes, the text, are written to the front of `out`; what stood after them stays
abbrev pub Puts : List ℕ → List ℕ → List ℕ → ℕ → Type 0
Puts text out after n = (n ≡ length text) × (after ≡ text ++ drop (length text) out)

-- the slots from `from` to r.next are written, r.printed bytes
pub record WritesSlots (a b : List ℕ) (from : ℕ) (out : List ℕ) (r : Written) (after : List ℕ) : Type 0 where
  pub low : from ≤ r.next
  pub high : from ≤ SLOTS → r.next ≤ SLOTS
  pub within : r.printed ≤ length out
  pub slots : OfBoth a b (λ fs gs. Puts (slots_text fs gs from (r.next - from)) out after r.printed)
  -- some, if there is room for a reply; all, if there is room for one a slot
  pub some : from < SLOTS → REPLY ≤ length out → from < r.next
  pub all : from ≤ SLOTS → REPLY * (SLOTS - from) ≤ length out → r.next ≡ SLOTS
