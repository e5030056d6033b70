-- Laws of a session in its buffer: a byte kept, lines counted, an opening decided, and the stage after it.
use Prim.Native.Nat.{ℕ, ◌+◌, ◌-◌, ◌≤◌, ◌<◌}
use native.Mathlib.Omega.{arith}
use mathlib.Core.Bool.{Bool, true, false, cond}
use mathlib.Core.List.{List, [], ◌∷◌, ◌++◌}
use mathlib.Core.Path.{◌≡◌, refl, ap, ◌∙◌}
use lib.Dec.{ltb}
use lib.ListN.{length, take, drop, get_or, length-append, length-drop, drop_of_length-le}
use lib.Seq.{length-take-le, take-append-le, take-take, take_at, drop_at}
use Rattle.rows.specs.Lists.{same_list, bytes}
use Rattle.rows.specs.Layout.{right_lengths, cleared_tables, cleared_processes}
use Rattle.rows.proofs.LayoutColumns.{list_same}
use Rattle.text.specs.declared.Given.{Given}
use Rattle.text.specs.declared.Refused.{Refused}
use Rattle.std.specs.Prelude.{Ok, Err}
use Rattle.text.specs.Opening.{FirstPass, read_to, stopped_by, Opening, opens, refused_at, lines_of, opening_of, cut}
use Rattle.calls.specs.Answers.{num}
use Rattle.text.specs.Answers.{ok_text, no_text}
use Rattle.text.specs.Entry.{Replied, reply_with, opened_by, open_entry}
use Rattle.text.specs.vocabulary.Sizes.{KEPT-LINE}
use Rattle.text.specs.vocabulary.Openings.{first_line, Ends}
use Rattle.text.proofs.OpeningLaws.{line-split, line-some}
use Rattle.feed.specs.declared.Stage.TheVariants.{Calls, Over}
use Rattle.feed.specs.declared.Kept.{Kept}
use Rattle.feed.specs.Feeding.{goes_on, stage_after}
use Rattle.feed.specs.vocabulary.Buffers.{session_in, Stands, HasRoom, KeepsByte}

-- ---- what stands in the buffer has its length
pub text-long : (k : Kept) (b : List ℕ) → Stands k b → length (take k.text b) ≡ k.text
text-long k b stands = length-take-le k.text b (omega arith)

pub line-long : (k : Kept) (b : List ℕ) → Stands k b → length (take k.line (drop k.text b)) ≡ k.line
line-long k b stands = let m = length-drop k.text b in length-take-le k.line (drop k.text b) (omega arith)

-- ---- a byte is kept of the line begun, which stands after the text
pub byte-kept : (c : ℕ) (k : Kept) (b u : List ℕ) (m n : ℕ) → HasRoom k b → m ≡ length b - k.text → length u ≡ m → n ≤ KEPT-LINE
    → take n u ≡ cut (take k.line (take m (drop k.text b)) ++ (c ∷ []))
    → KeepsByte c k b (record { stage = k.stage; text = k.text; line = n }) (take k.text b ++ (u ++ drop m (drop k.text b)))
unfolding session_in
byte-kept c k b u m n room all same short kept =
    let before = length-take-le k.text b (omega arith) in
    let left = length-drop k.text b in
    let rest : List ℕ = drop m (drop k.text b) in
    let line : take n (drop k.text (take k.text b ++ (u ++ rest))) ≡ cut (take k.line (drop k.text b) ++ (c ∷ [])) =
    ap (take n) (drop_at (take k.text b) (u ++ rest) k.text before) ∙ take-append-le n u rest (omega arith) ∙ kept
    ∙ ap (λ (l : List ℕ). cut (l ++ (c ∷ []))) (take-take k.line m (drop k.text b) (omega arith)) in
    record {
      session = λ t p i. record {
        stage = k.stage;
        text = take_at (take k.text b) (u ++ rest) k.text before i;
        line = line i;
        tables = t;
        processes = p;
      };
      stands = let x = length-append (take k.text b) (u ++ rest) in let y = length-append u rest in omega arith;
    }

-- ---- lines are counted: those before a position, then those left
pub record Counting (text : List ℕ) (at n : ℕ) : Type 0 where
  pub few : n ≤ at
  pub left : n + length (lines_of (drop at text)) ≡ length (lines_of text)

pub counting-starts : (text : List ℕ) → Counting text 0 0
counting-starts text = record { few = omega arith; left = omega arith }

pub counting-goes-on : (text : List ℕ) (at n : ℕ) → Counting text at n → at < length text → (next : ℕ) → next ≡ at + first_line (drop at text) → Counting text next (n + 1)
counting-goes-on text at n k h next e =
    let some = line-some text at h in
    let split = ap length (line-split text at h) in
    record { few = omega arith; left = rw e (omega arith) }

pub counting-ends : (text : List ℕ) (at n : ℕ) → Counting text at n → length text ≤ at → n ≡ length (lines_of text)
unfolding lines_of
counting-ends text at n k h = let none = ap (λ l. length (lines_of l)) (drop_of_length-le text h) in omega arith

-- ---- an opening waits, or is decided
pub pass-ended : (x : FirstPass) (g : Given) (n : ℕ) → Ends x (Ok g) → false ≡ goes_on x n
unfolding Ends goes_on
pass-ended (read_to fs rest) g n e = refl
pass-ended (stopped_by k m) g n e = absurd e

pub pass-waits : (x : FirstPass) (r : Refused) (n : ℕ) → Ends x (Err r) → ltb n r.line ≡ goes_on x n
unfolding Ends goes_on
pass-waits (read_to fs rest) r n e = absurd e
pass-waits (stopped_by k m) r n e = ap (ltb n) e.1

-- ---- the stage after a reply, by its second byte
unfoldable pub told_by : List ℕ → List ℕ → Type 0
told_by reply rest =
    (get_or (reply ++ rest) 1 0 ≡ 111 → Calls ≡ stage_after reply) × ((get_or (reply ++ rest) 1 0 ≡ 111 → ⊥) → Over ≡ stage_after reply)

second-ok : (rest : List ℕ) → get_or (ok_text (num 0 ∷ []) ++ rest) 1 0 ≡ 111
unfolding ok_text bytes
second-ok rest = refl

told-ok : (rest : List ℕ) → told_by (ok_text (num 0 ∷ [])) rest
unfolding told_by stage_after
told-ok rest = (λ e. rw (list_same (ok_text (num 0 ∷ []))), λ other. absurd (other (second-ok rest)))

told-no : (ns rest : List ℕ) → told_by (no_text ns) rest
unfolding told_by stage_after no_text ok_text bytes same_list
told-no ns rest = (λ e. absurd (let z : ◌≡◌ {A = ℕ} 110 111 = e in omega arith), λ other. refl)

pub told-opening : (t p text rest : List ℕ) → told_by (open_entry t p text).reply rest
unfolding open_entry opened_by reply_with
told-opening t p text rest = pick (right_lengths t p)
  where
    by : (v : Opening) → told_by (opened_by v).reply rest
    by (opens fs ls) = told-ok rest
    by (refused_at k n) = told-no (k ∷ n ∷ []) rest

    cleared : Replied
    cleared = record { reply = no_text (1 ∷ 0 ∷ []); tables = cleared_tables t; processes = cleared_processes p }

    pick : (x : Bool) → told_by (cond x (opened_by (opening_of (lines_of text))) cleared).reply rest
    pick true = by (opening_of (lines_of text))
    pick false = told-no (1 ∷ 0 ∷ []) rest
