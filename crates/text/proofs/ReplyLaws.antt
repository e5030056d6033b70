-- Laws of replies: one byte more, one text after another, the digits of a number, a whole answer.
use Prim.Native.Nat.{ℕ, ◌<◌, ◌≤◌, ◌+◌, zero, suc, ◌-◌, ◌/◌, ◌%◌}
use native.Mathlib.Numerals.{add-one}
use native.Mathlib.Nat.{lt_irrefl, not-suc-le-zero, le_of_suc-le-suc}
use native.Mathlib.Decide.{dec_lt}
use native.Mathlib.Omega.{arith}
use mathlib.Core.Bool.{Bool, true, false, ◌&&◌}
use mathlib.Core.List.{List, ◌++◌, ◌∷◌, [], map, map-append, append-nil, append_assoc}
use mathlib.Core.Path.{◌≡◌, sym, ◌∙◌, ap, refl}
use lib.Dec.{leb, ltb}
use lib.ListN.{length, set, length-append, length-set, length-drop, take, get_or, drop}
use lib.Seq.{take-suc, take_all}
use borrow.Author.Tests.{lt-ltb, le-ltb, le-leb, ltb-true, leb-true}
use mir.Val.{bool_byte}
use Rattle.rows.proofs.Bools.{clash, and_l, and_r, and_i}
use Rattle.rows.proofs.Lists.{filter-append}
use Rattle.std.specs.Prelude.{if◌then◌else◌}
use Rattle.rows.specs.Lists.{pad, nonzero, filter, some}
use Rattle.calls.specs.Answers.{Value, num}
use Rattle.text.specs.Answers.{decimal, value_text, spaced, digits_of}
use Rattle.text.specs.vocabulary.Replies.{in_reply, Puts, listed_text}
use Rattle.text.specs.vocabulary.Sizes.{REPLY, VALUE}
use Rattle.text.specs.declared.Reply.{Reply}
use Rattle.changes.proofs.Put.{set-pad-end}

-- ---- texts in a reply
puts-byte : (o : List ℕ) (n b : ℕ) → n < REPLY → Puts o n (b ∷ []) (set o n b) (n + 1)
unfolding in_reply
puts-byte o n b h t e =
    let q : n ≡ length t = ap (λ (r : Reply). r.length) e in
    let m : length (t ++ (b ∷ [])) ≡ length t + 1 = length-append t (b ∷ []) in
    let put : record { bytes = set (pad 0 REPLY t) (length t) b; length = length t + 1 } ≡ in_reply (t ++ (b ∷ [])) =
    λ j. record { bytes = set-pad-end REPLY t b (omega arith) j; length = sym m j } in
    ap (λ (r : Reply). record { bytes = set r.bytes r.length b; length = r.length + 1 }) e ∙ put

pub puts_none : (o : List ℕ) (n : ℕ) → Puts o n [] o n
puts_none o n before e = e ∙ ap in_reply (sym (append-nil before))

pub puts_then : {o u w : List ℕ} {n m k : ℕ} (a b : List ℕ) → Puts o n a u m → Puts u m b w k → Puts o n (a ++ b) w k
puts_then a b f g before e = g (before ++ a) (f before e) ∙ ap in_reply (append_assoc before a b)

pub puts-as : {o u : List ℕ} {n m : ℕ} (a b : List ℕ) → a ≡ b → Puts o n a u m → Puts o n b u m
puts-as a b e f before is = f before is ∙ ap (λ (t : List ℕ). in_reply (before ++ t)) e

pub puts-more : (o u : List ℕ) (n : ℕ) (t : List ℕ) (k : ℕ) → k < length t → n + k < REPLY → Puts o n (take k t) u (n + k)
    → Puts o n (take (k + 1) t) (set u (n + k) (get_or t k 0)) (n + (k + 1))
puts-more o u n t k h room f =
    let b = get_or t k 0 in
    let w = set u (n + k) b in
    let more : Puts o n (take k t ++ (b ∷ [])) w (n + k + 1) = puts_then (take k t) (b ∷ []) f (puts-byte u (n + k) b room) in
    let there : n + k + 1 ≡ n + (k + 1) = omega arith in
    puts-as (take k t ++ (b ∷ [])) (take (k + 1) t) (sym (rw add-one (take-suc t k 0 h))) (rw there at more)

-- ---- the digits of a number
pub decimal-more : (d n : ℕ) → 10 ≤ n → decimal (suc d) n ≡ decimal d (n / 10) ++ ((48 + n % 10) ∷ [])
unfolding decimal
decimal-more d n h = rw (le-ltb n 10 h)

pub decimal-one : (d n : ℕ) → n < 10 → decimal (suc d) n ≡ (48 + n % 10) ∷ []
unfolding decimal
decimal-one d n h = let r : n % 10 ≡ n = omega arith in rw (lt-ltb n 10 h, r) refl

-- the first digit that is printed: nothing is left before it, or no room
decimal-first : (d n : ℕ) → leb 10 n && ltb 1 (suc d) ≡ false → decimal (suc d) n ≡ (48 + n % 10) ∷ []
unfolding decimal
decimal-first zero n none = elim (dec_lt n 10) [ yes h ↦ decimal-one 0 n h | no h ↦ decimal-more 0 n (omega arith) ]
decimal-first (suc d) n none = elim (dec_lt n 10) [
  | yes h ↦ decimal-one (suc d) n h
  | no h ↦ clash (and_i (leb 10 n) (ltb 1 (suc (suc d))) (le-leb 10 n (omega arith)) (lt-ltb 1 (suc (suc d)) (omega arith))) none
]

pub drop-stored : (l : List ℕ) (i x : ℕ) → i < length l → drop i (set l i x) ≡ x ∷ drop (suc i) l
drop-stored [] i x h = absurd (not-suc-le-zero h)
drop-stored (y ∷ l) zero x h = refl
drop-stored (y ∷ l) (suc i) x h = drop-stored l i x (le_of_suc-le-suc h)

-- one digit more, before those at the end of a run
pub digit-more : (i n : ℕ) (l t : List ℕ) → leb 10 n && ltb 1 i ≡ true → i < length l → decimal i n ++ drop (suc i) l ≡ t
    → decimal (i - 1) (n / 10) ++ drop (suc (i - 1)) (set l i (48 + n % 10)) ≡ t
digit-more zero n l t more h e = absurd (lt_irrefl 0 (omega (arith, ltb-true 1 0 (and_r (leb 10 n) false more))))
digit-more (suc j) n l t more h e =
    let q : suc j - 1 ≡ j = omega arith in
    let b = 48 + n % 10 in
    let whole : decimal (suc j) n ≡ decimal j (n / 10) ++ (b ∷ []) = decimal-more j n (leb-true 10 n (and_l (leb 10 n) (ltb 1 (suc j)) more)) in
    rw (q, drop-stored l (suc j) b h)
    (sym (append_assoc (decimal j (n / 10)) (b ∷ []) (drop (suc (suc j)) l)) ∙ ap (λ (x : List ℕ). x ++ drop (suc (suc j)) l) (sym whole) ∙ e)

-- the first digit, and a space before it
pub value-whole : (i left n : ℕ) (l : List ℕ) → length l ≡ VALUE → 0 < i → i < VALUE → leb 10 left && ltb 1 i ≡ false → decimal i left ++ drop (suc i) l ≡ decimal 10 n
    → take (VALUE - (i - 1)) (drop (i - 1) (set (set l i (48 + left % 10)) (i - 1) 32)) ≡ spaced (num n ∷ [])
unfolding spaced value_text digits_of
value-whole zero left n l long some h none e = absurd (lt_irrefl 0 some)
value-whole (suc i) left n l long some h none e =
    let b = 48 + left % 10 in
    let m = set l (suc i) b in
    let w = set m i 32 in
    let q : suc i - 1 ≡ i = omega arith in
    let same : length m ≡ length l = length-set l (suc i) b in
    let digits : drop (suc i) m ≡ decimal 10 n =
    drop-stored l (suc i) b (omega arith) ∙ ap (λ (x : List ℕ). x ++ drop (suc (suc i)) l) (sym (decimal-first i left none)) ∙ e in
    let put : drop i w ≡ 32 ∷ (decimal 10 n ++ []) = drop-stored m i 32 (omega arith) ∙ ap (λ (x : List ℕ). 32 ∷ x) (digits ∙ sym (append-nil (decimal 10 n))) in
    rw q (take_all (VALUE - i) (drop i w) (omega (arith, length-drop i w, length-set m i 32)) ∙ put)

-- ---- values
pub spaced-append : (vs ws : List Value) → spaced (vs ++ ws) ≡ spaced vs ++ spaced ws
unfolding spaced
spaced-append [] ws = refl
spaced-append (v ∷ vs) ws = rw (spaced-append vs ws, append_assoc)

-- values in two parts, then the end
pub two-parts : (vs ws : List Value) (e : List ℕ) → spaced vs ++ (spaced ws ++ e) ≡ spaced (vs ++ ws) ++ e
two-parts vs ws e = rw (spaced-append vs ws, append_assoc) refl

-- the listed ones of two lists, of four numbers, of four lists, one after the other; of three lists, then the end
module _ (value : ℕ → Value) where
  pub listed-append : (ms ns : List ℕ) → listed_text value (ms ++ ns) ≡ listed_text value ms ++ listed_text value ns
  unfolding nonzero
  listed-append ms ns = rw (filter-append some ms ns, map-append value (filter some ms) (filter some ns)) (spaced-append (map value (filter some ms)) (map value (filter some ns)))

  pub four-lists : (ks ls ms ns : List ℕ)
      → listed_text value (ks ++ (ls ++ (ms ++ ns))) ≡ listed_text value ks ++ (listed_text value ls ++ (listed_text value ms ++ listed_text value ns))
  four-lists ks ls ms ns = rw (listed-append ks (ls ++ (ms ++ ns)), listed-append ls (ms ++ ns), listed-append ms ns) refl

  pub four-listed : (a b c d : ℕ)
      → listed_text value (a ∷ b ∷ c ∷ d ∷ [])
      ≡ listed_text value (a ∷ []) ++ (listed_text value (b ∷ []) ++ (listed_text value (c ∷ []) ++ listed_text value (d ∷ [])))
  four-listed a b c d = four-lists (a ∷ []) (b ∷ []) (c ∷ []) (d ∷ [])

  pub three-listed : (ks ms ns e : List ℕ)
      → listed_text value ks ++ (listed_text value ms ++ (listed_text value ns ++ e)) ≡ listed_text value (ks ++ (ms ++ ns)) ++ e
  three-listed ks ms ns e = rw (listed-append ks (ms ++ ns), listed-append ms ns, append_assoc, append_assoc) refl

-- a bool as a number
pub told-number : (b : Bool) → bool_byte b ≡ (if b then 1 else 0)
told-number true = refl
told-number false = refl
