-- A reply handed out: a run whose first bytes are replaced one after the other.
use Prim.Native.Nat.{ℕ, suc, ◌+◌, ◌<◌, ◌≤◌}
use native.Mathlib.Omega.{arith}
use native.Mathlib.Numerals.{add-one}
use mathlib.Core.List.{List, ◌++◌}
use mathlib.Core.Path.{◌≡◌, ap, sym, ◌∙◌}
use lib.ListN.{length, get_or, set, take, drop}
use lib.Seq.{drop-cons, set_at, append_snoc, take-suc, length-take-le, length_front}
use Rattle.text.specs.declared.Reply.{Reply}
use Rattle.text.specs.vocabulary.Replies.{in_reply, HandsOut}
use Rattle.text.specs.vocabulary.Sizes.{REPLY}
use Rattle.text.proofs.GroupLaws.{take-pad}

-- the run with the first i bytes of another
abbrev pub handed : List ℕ → List ℕ → ℕ → List ℕ
handed bytes out i = take i bytes ++ drop i out

pub handed-long : (bytes out : List ℕ) (i : ℕ) → i ≤ length bytes → i ≤ length out → length (handed bytes out i) ≡ length out
handed-long bytes out i h k =
    length_front out (take i bytes) i (length-take-le i bytes h ∙ sym (length-take-le i out k))

pub handed-more : (bytes out : List ℕ) (i : ℕ) → i < length bytes → i < length out → set (handed bytes out i) i (get_or bytes i 0) ≡ handed bytes out (i + 1)
handed-more bytes out i h k =
    let b : ℕ = get_or bytes i 0 in
    rw (add-one i)
    (ap (λ (r : List ℕ). set (take i bytes ++ r) i b) (drop-cons out i 0 k)
    ∙ set_at (take i bytes) (get_or out i 0) (drop (suc i) out) b i (length-take-le i bytes (omega arith))
    ∙ sym (append_snoc (take i bytes) b (drop (suc i) out))
    ∙ ap (λ (r : List ℕ). r ++ drop (suc i) out) (sym (take-suc bytes i 0 h)))

-- ---- the reply of a text
pub reply-long : (text : List ℕ) (r : Reply) → r ≡ in_reply text → r.length ≡ length text
unfolding in_reply
reply-long text r is = ap (λ (x : Reply). x.length) is

pub reply-fits : (text : List ℕ) (r : Reply) → length text ≤ REPLY → r ≡ in_reply text → r.length ≤ REPLY
reply-fits text r short is = rw (reply-long text r is) short

pub text-handed : (text : List ℕ) (r : Reply) → length text ≤ REPLY → r ≡ in_reply text → (out after : List ℕ) (n : ℕ) → HandsOut r out after n
    → (n ≡ length text) × (after ≡ text ++ drop (length text) out)
unfolding in_reply
text-handed text r short is out after n (count, bytes) =
    let long : r.length ≡ length text = reply-long text r is in
    let front : take (length text) r.bytes ≡ text = ap (λ (x : Reply). take (length text) x.bytes) is ∙ take-pad REPLY text short in
    (count ∙ long, bytes ∙ ap (λ (k : ℕ). take k r.bytes ++ drop k out) long ∙ ap (λ (l : List ℕ). l ++ drop (length text) out) front)
