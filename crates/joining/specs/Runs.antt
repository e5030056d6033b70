-- What holds of the functions begin, feed, finish and write_answer along any run: from their contracts alone, with nothing between code and claim.
use Rattle.std.specs.Prelude.{ℕ, ◌≤◌, ◌<◌, List, [], ◌∷◌, map, ◌≡◌, Result, length, take}
use Rattle.text.specs.vocabulary.Sizes.{REPLY, KEPT-LINE}
use Rattle.history.specs.Kept.{joined}
use Rattle.joining.specs.declared.Joining.{Joining}
use Rattle.joining.specs.declared.NotJoined.{NotJoined}
use Rattle.joining.specs.declared.Fed.{Fed}
use Rattle.joining.specs.declared.Written.{Written}
use Rattle.joining.specs.Written.{join}
use Rattle.joining.specs.Feeding.{in_first, printed_on}
use Rattle.joining.specs.vocabulary.Lines.{SLOTS}
use Rattle.joining.specs.vocabulary.Reading.{Holds, Ready, ReadyTexts, FeedsTexts, ReadsOn, Finishes}
use Rattle.joining.specs.vocabulary.Answers.{Ended, WritesAnswer}

-- ---- the definitions
-- (rules P40, J10) parts one after the other print what the whole input prints
unfoldable pub EveryPart : Type 0
EveryPart = (parts : List (List ℕ)) → printed_on parts ≡ join (joined parts)

-- ---- a run: the input is read
-- (rule J10) what is kept of the input: `count` bytes of the line begun stand in front of `line`
pub record Kept : Type 0 where
  pub joining : Joining
  pub count : ℕ
  pub line : List ℕ
  pub first : List ℕ
  pub second : List ℕ

-- (rule J10) it meets the contract of the function begin, and no line is begun
abbrev pub Begins : Kept → Type 0
Begins k = Holds (in_first []) k.joining k.first k.second × (k.count ≡ 0) × (length k.line ≡ KEPT-LINE)

-- (rule J10) the part that feed was lent, what it gave, and how it left the line and the words
pub record Feed : Type 0 where
  pub part : List ℕ
  pub result : Fed
  pub line : List ℕ
  pub first : List ℕ
  pub second : List ℕ

-- (rule J10) what is kept then
abbrev pub kept_by : Feed → Kept
kept_by f = record { joining = f.result.joining; count = f.result.line; line = f.line; first = f.first; second = f.second }

-- (rule J10) what the contract of feed asks for
abbrev pub ReadyToFeed : Kept → Type 0
ReadyToFeed k = ReadyTexts k.joining k.count k.line k.first k.second

-- (rule J10) it meets the contract of the function feed
abbrev pub MeetsFeed : Kept → Feed → Type 0
MeetsFeed k f =
    ReadyToFeed k
    → FeedsTexts f.part k.joining k.count k.line k.first k.second f.result f.line f.first f.second
    × ReadyToFeed (kept_by f) × ReadsOn f.part f.result

-- (rule J10) each does, on what the last one left
unfoldable pub Feeds : Kept → List Feed → Type 0
Feeds k [] = Unit {0}
Feeds k (f ∷ fs) = MeetsFeed k f × Feeds (kept_by f) fs

-- (rule J10) what is kept after the last
unfoldable pub kept_after : Kept → List Feed → Kept
kept_after k [] = k
kept_after k (f ∷ fs) = kept_after (kept_by f) fs

-- (rule J10) v meets the contract of the function finish
abbrev pub MeetsFinish : Kept → Result Unit NotJoined → Type 0
MeetsFinish k v = Ready k.joining k.first k.second → Finishes k.joining k.first k.second v

-- ---- a run: the answer is written
-- (rule P40) the output that write_answer was lent, what it gave, and how it left the output
pub record Write : Type 0 where
  pub out : List ℕ
  pub result : Written
  pub after : List ℕ

-- (rule P40) from a slot on it meets the contract of the function write_answer, and the output has room for a reply
abbrev pub MeetsWrite : Kept → Result Unit NotJoined → ℕ → Write → Type 0
MeetsWrite k v from w =
    (REPLY ≤ length w.out)
    × (Ended k.first k.second v → WritesAnswer k.first k.second v from w.out w.result w.after)

-- (rule P40) each does, from the slot that the last one gave, until no slot is left
unfoldable pub Writes : Kept → Result Unit NotJoined → ℕ → List Write → Type 0
Writes k v from [] = SLOTS ≤ from
Writes k v from (w ∷ ws) = (from < SLOTS) × MeetsWrite k v from w × Writes k v w.result.next ws

-- ---- what holds
-- (rule P40) the bytes that were lent to be read; those that were printed
abbrev pub bytes_lent : Feed → List ℕ
bytes_lent f = f.part

abbrev pub bytes_printed : Write → List ℕ
bytes_printed w = take w.result.printed w.after

-- (rule P40) from begin on, any feeds, then finish, then writes until no slot is left: what is printed is the join of what was lent
unfoldable pub EveryJoining : Type 0
EveryJoining =
    (k : Kept) → Begins k → (fs : List Feed) → Feeds k fs → (v : Result Unit NotJoined) → MeetsFinish (kept_after k fs) v
    → (ws : List Write) → Writes (kept_after k fs) v 0 ws → joined (map bytes_printed ws) ≡ join (joined (map bytes_lent fs))
