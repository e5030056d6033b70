-- Replies are short: each text that an entry point answers has room in a reply of 256 bytes.
use Prim.Native.Nat.{ℕ, zero, suc, ◌+◌, ◌*◌, ◌/◌, ◌%◌, ◌≤◌}
use native.Mathlib.Omega.{arith}
use mathlib.Core.Bool.{Bool, true, false, cond}
use mathlib.Core.List.{List, [], ◌∷◌, ◌++◌, map}
use mathlib.Core.Path.{◌≡◌, refl}
use lib.Dec.{ltb, eqb}
use lib.ListN.{length, length-append, length-map}
use Rattle.rows.specs.Lists.{bytes}
use Rattle.rows.specs.Limits.{most_pairs}
use Rattle.rows.specs.Layout.{state_of, right_lengths, sound_words, cleared_tables, cleared_processes}
use Rattle.calls.specs.declared.Answer.{Answer}
use Rattle.calls.specs.Answers.{Value, num, dash, refusal_of, values_of}
use Rattle.text.specs.Answers.{decimal, digits_of, value_text, spaced, ok_text, no_text, printed}
use Rattle.text.specs.Opening.{Opening, opens, refused_at, lines_of, opening_of}
use Rattle.text.specs.Entry.{call_on, call_entry, open_entry, opened_by, reply_of, reply_with}
use Rattle.text.specs.vocabulary.Sizes.{REPLY}
use Rattle.text.proofs.AnswersBack.{few-values}

-- ---- numbers
decimal-short : (d n : ℕ) → length (decimal d n) ≤ d
unfolding decimal
decimal-short zero n = omega arith
decimal-short (suc d) n = pick (decimal-short d (n / 10)) (ltb n 10)
  where
    pick : length (decimal d (n / 10)) ≤ d → (b : Bool) → length (cond b ((48 + n) ∷ []) (decimal d (n / 10) ++ ((48 + n % 10) ∷ []))) ≤ suc d
    pick h true = omega arith
    pick h false = omega (arith, h, length-append (decimal d (n / 10)) ((48 + n % 10) ∷ []))

value-short : (v : Value) → length (value_text v) ≤ 10
unfolding value_text digits_of bytes
value-short (num n) = decimal-short 10 n
value-short dash = omega arith

spaced-short : (vs : List Value) → length (spaced vs) ≤ 11 * length vs
unfolding spaced
spaced-short [] = omega arith
spaced-short (v ∷ vs) = omega (arith, value-short v, spaced-short vs, length-append (value_text v) (spaced vs))

-- ---- texts
-- what stands around the values: `(ok` or `(no`, and the bracket and line feed after them
framed-short : (w e : List ℕ) (vs : List Value) → length w ≡ 3 → length e ≡ 2 → length vs ≤ most_pairs → length (w ++ (spaced vs ++ e)) ≤ REPLY
unfolding most_pairs
framed-short w e vs hw he h =
    omega (arith, hw, he, h, spaced-short vs, length-append w (spaced vs ++ e), length-append (spaced vs) e)

pub ok-short : (vs : List Value) → length vs ≤ most_pairs → length (ok_text vs) ≤ REPLY
unfolding ok_text bytes
ok-short vs h = framed-short (bytes "(ok") (bytes ")\n") vs refl refl h

pub no_short : (ns : List ℕ) → length ns ≤ 2 → length (no_text ns) ≤ REPLY
unfolding no_text bytes most_pairs
no_short ns h = framed-short (bytes "(no") (bytes ")\n") (map num ns) refl refl (omega (arith, length-map ns num))

-- ---- answers
pub printed-short : (a : Answer) → length (printed a) ≤ REPLY
unfolding printed
printed-short a = pick (eqb (refusal_of a) 0)
  where
    pick : (b : Bool) → length (cond b (ok_text (values_of a)) (no_text (refusal_of a ∷ []))) ≤ REPLY
    pick true = ok-short (values_of a) (few-values a)
    pick false = no_short (refusal_of a ∷ []) (omega arith)

-- ---- the entry points
pub call-short : (t p line : List ℕ) → length (call_entry t p line).reply ≤ REPLY
unfolding call_entry reply_of reply_with
call-short t p line = pick (sound_words t p)
  where
    pick : (b : Bool) → length (cond b (reply_of (call_on (state_of t p) line)) (record { reply = no_text (1 ∷ []); tables = t; processes = p })).reply ≤ REPLY
    pick true = printed-short (call_on (state_of t p) line).answer
    pick false = no_short (1 ∷ []) (omega arith)

opening-short : (o : Opening) → length (opened_by o).reply ≤ REPLY
unfolding opened_by reply_with most_pairs
opening-short (opens fs rest) = ok-short (num 0 ∷ []) (omega arith)
opening-short (refused_at k n) = no_short (k ∷ n ∷ []) (omega arith)

pub open-short : (t p text : List ℕ) → length (open_entry t p text).reply ≤ REPLY
unfolding open_entry
open-short t p text = pick (right_lengths t p)
  where
    pick : (b : Bool)
        → length (cond b (opened_by (opening_of (lines_of text))) (record { reply = no_text (1 ∷ 0 ∷ []); tables = cleared_tables t; processes = cleared_processes p })).reply ≤ REPLY
    pick true = opening-short (opening_of (lines_of text))
    pick false = no_short (1 ∷ 0 ∷ []) (omega arith)
