-- Along every run of begin, feed, finish and write_answer all that is printed is the join of all that was lent to be read.
use Prim.Native.Nat.{ℕ, ◌+◌, ◌-◌, ◌≤◌}
use native.Mathlib.Omega.{arith}
use mathlib.Core.Bool.{Bool, true, false}
use mathlib.Core.List.{List, [], ◌∷◌, ◌++◌, map, append-nil}
use mathlib.Core.Path.{◌≡◌, refl, sym, ap, subst, ◌∙◌}
use lib.Dec.{ltb}
use lib.ListN.{length, take, drop}
use lib.Seq.{take_all, take_at}
use borrow.Author.Tests.{ltb-true, ltb-false}
use Rattle.std.specs.Prelude.{Result, Ok, Err}
use Rattle.joining.specs.declared.NotJoined.{NotJoined}
use Rattle.text.specs.Opening.{Form}
use Rattle.text.specs.vocabulary.Sizes.{KEPT-LINE}
use Rattle.history.specs.Kept.{joined}
use Rattle.joining.specs.declared.Fed.{Fed}
use Rattle.joining.specs.Written.{join_text, join}
use Rattle.joining.specs.Feeding.{Progress, joined_at, Texts, begun, fed}
use Rattle.joining.specs.vocabulary.Directories.{Held}
use Rattle.joining.specs.vocabulary.Lines.{SLOTS, Puts, slots_text}
use Rattle.joining.specs.vocabulary.Reading.{Holds, HoldsTexts, ReadsOn, verdict_of}
use Rattle.joining.specs.vocabulary.Answers.{refusal_text, Ended}
use Rattle.joining.specs.Runs.{Kept, Feed, kept_by, Feeds, kept_after, Write, Writes, bytes_lent, bytes_printed, EveryJoining}
use Rattle.joining.proofs.FedTexts.{fed-joins, over-fed, fed-append, begun-held, over-stays, read_all}
use Rattle.joining.proofs.PrintedTexts.{slots-join, slots-printed, refused-printed, ended-accepted}

-- ---- the input
abbrev KeptSo : Texts → Kept → Type 0
KeptSo t k = HoldsTexts t k.joining k.count k.line k.first k.second

-- the bytes of a part that are not read do not matter, whatever follows the part
unread : (part : List ℕ) (r : Fed) (a b : List ℕ) (t : Texts) → ReadsOn part r → Holds (fed t (take r.next part)).progress r.joining a b
    → (ys : List ℕ) → (fed (fed t (take r.next part)) ys).progress ≡ (fed t (part ++ ys)).progress
unread part r a b t on h ys = pick (ltb r.next (length part)) refl ∙ sym (ap (λ (u : Texts). u.progress) (fed-append part t ys))
  where
    pick : (q : Bool) → ltb r.next (length part) ≡ q → (fed (fed t (take r.next part)) ys).progress ≡ (fed (fed t part) ys).progress
    pick true e =
        let front = fed t (take r.next part) in
        let stays = over-stays part r a b front.progress h (on.stops (ltb-true r.next (length part) e)) in
        over-fed ys front front.progress refl stays ∙ sym (over-fed ys (fed t part) front.progress (read_all part r a b t on h) stays)
    pick false e = ap (λ (l : List ℕ). (fed (fed t l) ys).progress) (take_all r.next part (ltb-false r.next (length part) e))

-- after the feeds reading has come as far as after all bytes that were lent
record ReadSo (t : Texts) (k : Kept) (fs : List Feed) : Type 0 where
  texts : Texts
  kept : KeptSo texts (kept_after k fs)
  same : texts.progress ≡ (fed t (joined (map bytes_lent fs))).progress

feeds-read : (fs : List Feed) (k : Kept) (t : Texts) → Feeds k fs → KeptSo t k → length k.line ≡ KEPT-LINE → ReadSo t k fs
unfolding Feeds kept_after fed joined
feeds-read [] k t run h long = record { texts = t; kept = h; same = refl }
feeds-read (f ∷ fs) k t run h long =
    let m = run.0 (record { texts = t; holds = h; long = long }) in
    let here = m.0 t h in
    let rest = feeds-read fs (kept_by f) (fed t (take f.result.next f.part)) run.1 here m.1.long in
    let all = unread f.part f.result f.first f.second t m.2 here.progress (joined (map bytes_lent fs)) in
    record { texts = rest.texts; kept = rest.kept; same = rest.same ∙ all }

-- ---- the answer
front : (text out after : List ℕ) (n : ℕ) → Puts text out after n → take n after ≡ text
front text out after n puts = ap (take n) puts.1 ∙ take_at text (drop (length text) out) n (sym puts.0)

module _ (k : Kept) (v : Result Unit NotJoined) (ended : Ended k.first k.second v) where
  -- a refusal is written at once
  refusal-written : (e : NotJoined) → v ≡ Err e → (ws : List Write) → Writes k v 0 ws → joined (map bytes_printed ws) ≡ refusal_text e
  unfolding Writes joined
  refusal-written e some [] run = absurd (omega arith)
  refusal-written e some (w ∷ []) run =
      let m = (run.1.1 ended).refused e some in
      append-nil (bytes_printed w) ∙ front (refusal_text e) w.out w.after w.result.printed m.1
  refusal-written e some (w ∷ x ∷ ws) run =
      let m = ((run.1.1 ended).refused e some).0 in
      let more = run.2.0 in
      absurd (omega arith)

  -- the joined text is written slot after slot
  slots-written : v ≡ Ok tt → (fs gs : List Form) → Held k.first fs → Held k.second gs
      → (ws : List Write) (from : ℕ) → from ≤ SLOTS → Writes k v from ws → joined (map bytes_printed ws) ≡ slots_text fs gs from (SLOTS - from)
  unfolding Writes joined slots_text
  slots-written none fs gs ha hb [] from h run =
      let z : 0 ≡ SLOTS - from = omega arith in
      ap (slots_text fs gs from) z
  slots-written none fs gs ha hb (w ∷ ws) from h run =
      let m = (run.1.1 ended).joined none in
      let next = w.result.next in
      let low = m.low in
      let high = m.high h in
      let here = front (slots_text fs gs from (next - from)) w.out w.after w.result.printed (m.slots fs gs ha hb) in
      let rest = slots-written none fs gs ha hb ws next high run.2 in
      let there : next ≡ from + (next - from) = omega arith in
      let all : (next - from) + (SLOTS - next) ≡ SLOTS - from = omega arith in
      (λ i. here i ++ rest i) ∙ ap (λ (j : ℕ). slots_text fs gs from (next - from) ++ slots_text fs gs j (SLOTS - next)) there
      ∙ sym (slots-join fs gs from (next - from) (SLOTS - next)) ∙ ap (slots_text fs gs from) all

answer-written : (k : Kept) (p : Progress) → Holds p k.joining k.first k.second → (v : Result Unit NotJoined) → v ≡ verdict_of (joined_at p)
    → (ws : List Write) → Writes k v 0 ws → joined (map bytes_printed ws) ≡ join_text (joined_at p)
answer-written k p h (Ok u) is ws run =
    slots-printed k.first k.second k.joining (λ (l : List ℕ). joined (map bytes_printed ws) ≡ l) p h is
    (λ fs gs ha hb. slots-written k (Ok u) (λ none. ended-accepted k.first k.second k.joining p h is) refl fs gs ha hb ws 0 (omega arith) run)
answer-written k p h (Err e) is ws run =
    refusal-written k (Err e) (λ none. ended-accepted k.first k.second k.joining p h (sym none ∙ is)) e refl ws run ∙ sym (refused-printed k.first k.second k.joining p h e is)

-- ---- the run
pub every-joining : EveryJoining
unfolding EveryJoining join
every-joining k begins fs feeds v finishes ws writes =
    let last = kept_after k fs in
    let start : KeptSo begun k = subst (λ (n : ℕ). HoldsTexts begun k.joining n k.line k.first k.second) (sym begins.1) (begun-held k.joining k.line k.first k.second begins.0) in
    let read = feeds-read fs k begun feeds start begins.2 in
    let p = read.texts.progress in
    let h = read.kept.progress in
    let is = finishes (record { progress = p; holds = h }) p h in
    answer-written last p h v is ws writes ∙ ap join_text (ap joined_at read.same ∙ fed-joins (joined (map bytes_lent fs)))
