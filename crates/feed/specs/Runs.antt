-- What holds of the functions begin, feed and finish along any run: from their contracts alone, with nothing between code and claim.
use Rattle.std.specs.Prelude.{ℕ, List, [], ◌∷◌, ◌++◌, map, ◌≡◌, length, take}
use Rattle.rows.specs.vocabulary.Sizes.{IsTables, IsRecords}
use Rattle.rows.specs.Layout.{words_of, records_of, rows_in}
use Rattle.text.specs.Session.{session, session_end}
use Rattle.page.specs.Page.{page, lines_from}
use Rattle.entry.specs.vocabulary.Entries.{Given}
use Rattle.history.specs.Kept.{joined}
use Rattle.feed.specs.declared.Kept.{Kept}
use Rattle.feed.specs.declared.Fed.{Fed}
use Rattle.feed.specs.Feeding.{finished}
use Rattle.feed.specs.vocabulary.Buffers.{KEPT, session_in, bytes_of, Feeds, Begins}

-- ---- a run
-- (rule K12) what a session is kept in
pub record Held : Type 0 where
  pub kept : Kept
  pub buffer : List ℕ
  pub tables : List ℕ
  pub processes : List ℕ

-- (rules K11, K12) what feed was lent, a part from a position on and the output, and what it gave
pub record Feed : Type 0 where
  pub part : List ℕ
  pub from : ℕ
  pub out : List ℕ
  pub result : Fed
  pub written : List ℕ
  pub after : Held

-- (rule K12) it meets the contract of the function feed
abbrev pub Meets : Held → Feed → Type 0
Meets h f =
    Feeds f.part f.from h.kept h.buffer h.tables h.processes f.out
    f.result f.after.buffer f.after.tables f.after.processes f.written
    × (f.after.kept ≡ f.result.kept)

-- (rule K12) each does, on what the last one left
unfoldable pub Runs : Held → List Feed → Type 0
Runs h [] = Unit {0}
Runs h (f ∷ fs) = Meets h f × Runs f.after fs

-- (rule K12) what is held after the last
unfoldable pub held_after : Held → List Feed → Held
held_after h [] = h
held_after h (f ∷ fs) = held_after f.after fs

-- (rules K11, K12) the bytes that were read; those that were printed
abbrev pub bytes_read : Feed → List ℕ
bytes_read f = bytes_of f.part f.from f.result.next

abbrev pub bytes_printed : Feed → List ℕ
bytes_printed f = take f.result.printed f.written

-- ---- what holds
-- all that was printed and what both runs hold, by all that was read
pub record RunsSession (read printed t p : List ℕ) : Type 0 where
  -- (rule P13) what is printed is the session
  pub printed-whole : printed ≡ session read
  -- (rule P35) both runs are those of the session's end
  pub tables_end : t ≡ words_of (session_end read)
  pub processes-end : p ≡ records_of (session_end read).processes
  -- (rule P35) and so is the page that the tables give
  pub page-end : lines_from t 0 (rows_in t) ≡ page (session_end read).rows

-- (rules P13, P35) from begin on, any feeds and then finish
unfoldable pub EveryFeeding : Type 0
EveryFeeding =
    (h : Held) → Begins h.kept → length h.buffer ≡ KEPT → IsTables h.tables → IsRecords h.processes
    → (fs : List Feed) → Runs h fs → (out t p written : List ℕ) (n : ℕ)
    → (let last = held_after h fs in
    Given (finished last.kept.stage (session_in last.kept last.buffer last.tables last.processes)) out t p written n
    → RunsSession (joined (map bytes_read fs)) (joined (map bytes_printed fs) ++ take n written) t p)
