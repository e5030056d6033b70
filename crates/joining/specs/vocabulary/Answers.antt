-- What is printed of two texts that were read.
use Rattle.std.specs.Prelude.{ℕ, ◌*◌, ◌≤◌, ◌<◌, List, ◌≡◌, refl, Result, Ok, Err, length}
use Rattle.text.specs.declared.Reply.{Reply}
use Rattle.calls.specs.declared.Answer.TheVariants.{Refused}
use Rattle.text.specs.Answers.{printed}
use Rattle.text.specs.vocabulary.Replies.{in_reply, opening_text}
use Rattle.text.specs.vocabulary.Sizes.{REPLY}
use Rattle.joining.specs.declared.NotJoined.{NotJoined}
use Rattle.joining.specs.declared.NotJoined.TheVariants.{OfText, OfBoth}
use Rattle.joining.specs.declared.Written.{Written}
use Rattle.joining.specs.vocabulary.Lines.{SLOTS, Accepted, Puts, WritesSlots}

-- room for all that may be printed: that of a reply for each slot
abbrev pub JOINED : ℕ
JOINED = 24832

pub joined-meant : JOINED ≡ REPLY * SLOTS
joined-meant = refl

-- `(no k n)` of one text, `(no k)` of both
unfoldable pub refusal_text : NotJoined → List ℕ
refusal_text (OfText k n) = opening_text k n
refusal_text (OfBoth k) = printed (Refused k)

-- r is the text of a refusal
abbrev pub RefusalOf : NotJoined → Reply → Type 0
RefusalOf e r = r ≡ in_reply (refusal_text e)

-- where nothing is refused, the words hold two texts whose nodes have room
abbrev pub Ended : List ℕ → List ℕ → Result Unit NotJoined → Type 0
Ended a b v = v ≡ Ok tt → Accepted a b

pub record WritesAnswer (a b : List ℕ) (v : Result Unit NotJoined) (from : ℕ) (out : List ℕ) (r : Written) (after : List ℕ) : Type 0 where
  pub joined : v ≡ Ok tt → WritesSlots a b from out r after
  pub refused : (e : NotJoined) → v ≡ Err e → (r.next ≡ SLOTS) × Puts (refusal_text e) out after r.printed
  -- it ends, and what is printed has room
  pub on : from < SLOTS → from < r.next
  pub within : r.printed ≤ length out
