-- What is printed of two texts: the slots one after the other are the joined text; a refusal's text; all of it from the first slot on.
use Prim.Native.Nat.{ℕ, zero, suc, ◌+◌, ◌-◌, ◌≤◌, ◌<◌}
use native.Mathlib.Omega.{arith}
use mathlib.Core.Bool.{Bool, true, false, cond, ◌||◌}
use mathlib.Core.List.{List, [], ◌∷◌, ◌++◌, map, append_assoc, append-nil}
use mathlib.Core.Path.{◌≡◌, refl, sym, ap, subst, ◌∙◌}
use lib.Dec.{eqb}
use lib.ListN.{length}
use borrow.Author.Tests.{eqb-true, eqb-false, ne_eqb}
use Rattle.rows.specs.Lists.{filter, bytes}
use Rattle.rows.specs.Limits.{nodes, processes, most_pairs}
use Rattle.calls.specs.declared.Answer.TheVariants.{Refused}
use Rattle.calls.specs.Answers.{refusal_of}
use Rattle.std.specs.Prelude.{Result, Ok, Err}
use Rattle.calls.specs.Answers.{num}
use Rattle.text.specs.Answers.{ok_text, no_text, printed}
use Rattle.text.specs.Opening.{Form, node_form, process_form}
use Rattle.text.specs.vocabulary.Replies.{opening_text}
use Rattle.text.specs.vocabulary.Sizes.{REPLY}
use Rattle.text.proofs.ShortReplies.{ok-short, no_short, printed-short}
use Rattle.joining.specs.declared.Joining.{Joining}
use Rattle.joining.specs.declared.NotJoined.{NotJoined}
use Rattle.joining.specs.declared.NotJoined.TheVariants.{OfText, OfBoth}
use Rattle.joining.specs.declared.Written.{Written}
use Rattle.joining.specs.Joins.{joins, refused_text, refused_both, node_in, process_in, entries_joined, prime_joined, numbers_from, nodes_joined, processes_joined, forms_joined, join_refusal, joined_by}
use Rattle.joining.specs.Written.{form_text, text_of, join_text}
use Rattle.joining.specs.Feeding.{Progress, in_first, in_second, both_read, refused_in, joined_at}
use Rattle.joining.specs.vocabulary.Directories.{Held}
use Rattle.joining.specs.vocabulary.Lines.{SLOTS, Puts, node_slot, process_slot, slot_text, slots_text, Accepted, WritesSlots}
use Rattle.joining.specs.vocabulary.Reading.{Holds, verdict_of}
use Rattle.joining.specs.vocabulary.Answers.{JOINED, refusal_text, WritesAnswer}
use Rattle.joining.proofs.ListedNames.{refuses-nothing}
use Rattle.joining.proofs.SlotLines.{slot-node, slot-process, slot-last}

-- ---- the text of a refusal
text-one : (k n : ℕ) → (k ≡ 0 → ⊥) → no_text (k ∷ n ∷ []) ≡ refusal_text (OfText k n)
unfolding refusal_text opening_text
text-one k n some = rw (ne_eqb k 0 some) refl

text-both : (k : ℕ) → (k ≡ 0 → ⊥) → no_text (k ∷ []) ≡ refusal_text (OfBoth k)
unfolding refusal_text printed refusal_of
text-both k some = rw (ne_eqb k 0 some) refl

pub refusal-short : (e : NotJoined) → length (refusal_text e) ≤ REPLY
unfolding refusal_text opening_text most_pairs
refusal-short (OfText k n) = pick (eqb k 0)
  where
    pick : (b : Bool) → length (cond b (ok_text (num 0 ∷ [])) (no_text (k ∷ n ∷ []))) ≤ REPLY
    pick true = ok-short (num 0 ∷ []) (omega arith)
    pick false = no_short (k ∷ n ∷ []) (omega arith)
refusal-short (OfBoth k) = printed-short (Refused k)

-- a verdict that is a refusal
not-joined : NotJoined → Result Unit NotJoined → NotJoined
not-joined d (Ok u) = d
not-joined d (Err e) = e

pub same-refusal : (f e : NotJoined) → ◌≡◌ {A = Result Unit NotJoined} (Err f) (Err e) → f ≡ e
unfolding not-joined
same-refusal f e is = ap (not-joined f) is

pub no-refusal : {A : Type 0} (e : NotJoined) → ◌≡◌ {A = Result Unit NotJoined} (Ok tt) (Err e) → A
no-refusal e is = absurd (let z : ◌≡◌ {A = ℕ} 0 1 = cc in omega arith)

-- ---- slots one after the other, from the front
joined_slots : (ℕ → List ℕ) → ℕ → ℕ → List ℕ
joined_slots s k zero = []
joined_slots s k (suc n) = s k ++ joined_slots s (suc k) n

slots-split : (s : ℕ → List ℕ) (n m k : ℕ) → joined_slots s k (n + m) ≡ joined_slots s k n ++ joined_slots s (k + n) m
unfolding joined_slots
slots-split s zero m k =
    let all : 0 + m ≡ m = omega arith in
    let same : k ≡ k + 0 = omega arith in
    λ i. joined_slots s (same i) (all i)
slots-split s (suc n) m k =
    let all : suc n + m ≡ suc (n + m) = omega arith in
    let next : suc k + n ≡ k + suc n = omega arith in
    ap (joined_slots s k) all ∙ ap (λ (l : List ℕ). s k ++ l) (slots-split s n m (suc k) ∙ ap (λ (j : ℕ). joined_slots s (suc k) n ++ joined_slots s j m) next)
    ∙ sym (append_assoc (s k) (joined_slots s (suc k) n) (joined_slots s (k + suc n) m))

one-slot : (s : ℕ → List ℕ) (k : ℕ) → joined_slots s k 1 ≡ s k
unfolding joined_slots
one-slot s k = append-nil (s k)

slots-front : (fs gs : List Form) (k n : ℕ) → slots_text fs gs k n ≡ joined_slots (slot_text fs gs) k n
unfolding slots_text joined_slots
slots-front fs gs k zero = refl
slots-front fs gs k (suc n) =
    let s = slot_text fs gs in
    let more : n + 1 ≡ suc n = omega arith in
    ap (λ (l : List ℕ). l ++ s (k + n)) (slots-front fs gs k n) ∙ ap (λ (l : List ℕ). joined_slots s k n ++ l) (sym (one-slot s (k + n)))
    ∙ sym (slots-split s n 1 k) ∙ ap (joined_slots s k) more

pub slots-join : (fs gs : List Form) (k n m : ℕ) → slots_text fs gs k (n + m) ≡ slots_text fs gs k n ++ slots_text fs gs (k + n) m
slots-join fs gs k n m =
    slots-front fs gs k (n + m) ∙ slots-split (slot_text fs gs) n m k ∙ sym (λ i. slots-front fs gs k n i ++ slots-front fs gs (k + n) m i)

-- ---- forms one after the other
lines_text : List Form → List ℕ
lines_text [] = []
lines_text (f ∷ fs) = form_text f ++ lines_text fs

lines-append : (fs gs : List Form) → lines_text (fs ++ gs) ≡ lines_text fs ++ lines_text gs
unfolding lines_text
lines-append [] gs = refl
lines-append (f ∷ fs) gs = ap (λ (l : List ℕ). form_text f ++ l) (lines-append fs gs) ∙ sym (append_assoc (form_text f) (lines_text fs) (lines_text gs))

text-lines : (fs : List Form) → text_of fs ≡ lines_text fs ++ bytes "(open)\n"
unfolding text_of lines_text
text-lines [] = refl
text-lines (f ∷ fs) = ap (λ (l : List ℕ). form_text f ++ l) (text-lines fs) ∙ sym (append_assoc (form_text f) (lines_text fs) (bytes "(open)\n"))

-- slots that have the lines of the numbers that are given
given-slots : (s : ℕ → List ℕ) (given : ℕ → Bool) (f : ℕ → Form) (n k a : ℕ)
    → ((i : ℕ) → i < n → s (k + i) ≡ cond (given (a + i)) (form_text (f (a + i))) [])
    → joined_slots s k n ≡ lines_text (map f (filter given (numbers_from a n)))
unfolding joined_slots lines_text numbers_from filter
given-slots s given f zero k a is = refl
given-slots s given f (suc n) k a is =
    let here : k + 0 ≡ k = omega arith in
    let same : a + 0 ≡ a = omega arith in
    let first : s k ≡ cond (given a) (form_text (f a)) [] = ap s (sym here) ∙ is 0 (omega arith) ∙ ap (λ (j : ℕ). cond (given j) (form_text (f j)) []) same in
    let later = given-slots s given f n (suc k) (suc a) (λ i h. next i (is (suc i) (omega arith))) in
    (λ i. first i ++ later i) ∙ pick (given a)
  where
    next : (i : ℕ) → s (k + suc i) ≡ cond (given (a + suc i)) (form_text (f (a + suc i))) [] → s (suc k + i) ≡ cond (given (suc a + i)) (form_text (f (suc a + i))) []
    next i e =
        let x : suc k + i ≡ k + suc i = omega arith in
        let y : a + suc i ≡ suc a + i = omega arith in
        ap s x ∙ e ∙ ap (λ (j : ℕ). cond (given j) (form_text (f j)) []) y

    pick : (b : Bool) → cond b (form_text (f a)) [] ++ lines_text (map f (filter given (numbers_from (suc a) n)))
        ≡ lines_text (map f (cond b (a ∷ filter given (numbers_from (suc a) n)) (filter given (numbers_from (suc a) n))))
    pick true = refl
    pick false = refl

-- ---- the joined text
module _ (fs gs : List Form) where
  node-slots : joined_slots (slot_text fs gs) 0 nodes ≡ lines_text (nodes_joined fs gs)
  unfolding nodes_joined node_slot nodes
  node-slots =
      given-slots (slot_text fs gs) (λ n. node_in fs n || node_in gs n) (λ n. node_form n (entries_joined fs gs n)) nodes 0 1
      (λ i h. slot-node fs gs (0 + i) (omega arith) ∙ ap (node_slot fs gs) (let e : 0 + i + 1 ≡ 1 + i = omega arith in e))

  process-slots : joined_slots (slot_text fs gs) nodes processes ≡ lines_text (processes_joined fs gs)
  unfolding processes_joined process_slot nodes processes
  process-slots =
      given-slots (slot_text fs gs) (λ p. process_in fs p || process_in gs p) (λ p. process_form p (prime_joined fs gs p)) processes nodes 1
      (λ i h. slot-process fs gs (32 + i) (omega arith) (omega arith) ∙ ap (process_slot fs gs) (let e : 32 + i + 1 - 32 ≡ 1 + i = omega arith in e))

  pub slots-all : slots_text fs gs 0 SLOTS ≡ text_of (forms_joined fs gs)
  unfolding forms_joined nodes processes
  slots-all =
      let s = slot_text fs gs in
      let end : List ℕ = bytes "(open)\n" in
      let last : joined_slots s 96 1 ≡ end = one-slot s 96 ∙ slot-last fs gs 96 (omega arith) in
      slots-front fs gs 0 SLOTS ∙ slots-split s 32 65 0 ∙ ap (λ (l : List ℕ). joined_slots s 0 32 ++ l) (slots-split s 64 1 32)
      ∙ (λ i. node-slots i ++ (process-slots i ++ last i))
      ∙ sym (append_assoc (lines_text (nodes_joined fs gs)) (lines_text (processes_joined fs gs)) end)
      ∙ ap (λ (l : List ℕ). l ++ end) (sym (lines-append (nodes_joined fs gs) (processes_joined fs gs)))
      ∙ sym (text-lines (nodes_joined fs gs ++ processes_joined fs gs))

-- ---- the verdict tells what is printed
pub puts-as : (t u : List ℕ) → t ≡ u → (out after : List ℕ) (n : ℕ) → Puts t out after n → Puts u out after n
puts-as t u e out after n = subst (λ (l : List ℕ). Puts l out after n) e

-- nothing of both texts is refused, so the joined text is printed
nothing-refused : (fs gs : List Form) → Ok tt ≡ verdict_of (joined_by fs gs) → (join_refusal fs gs ≡ 0) × (joined_by fs gs ≡ joins (forms_joined fs gs))
unfolding joined_by verdict_of
nothing-refused fs gs none = pick (eqb (join_refusal fs gs) 0) refl none
  where
    pick : (q : Bool) → eqb (join_refusal fs gs) 0 ≡ q → Ok tt ≡ verdict_of (cond q (joins (forms_joined fs gs)) (refused_both (join_refusal fs gs)))
        → (join_refusal fs gs ≡ 0) × (cond q (joins (forms_joined fs gs)) (refused_both (join_refusal fs gs)) ≡ joins (forms_joined fs gs))
    pick true e n = (eqb-true (join_refusal fs gs) 0 e, refl)
    pick false e n = absurd (let z : ◌≡◌ {A = ℕ} 0 1 = cc in omega arith)

-- a refusal is printed as its verdict says
module _ (a b : List ℕ) (j : Joining) where
  one-printed : (k n : ℕ) → (k ≡ 0 → ⊥) → (e : NotJoined) → Err e ≡ verdict_of (refused_text k n) → join_text (refused_text k n) ≡ refusal_text e
  unfolding join_text verdict_of not-joined
  one-printed k n some e is = text-one k n some ∙ ap refusal_text (sym (ap (not-joined e) is))

  both-printed : (fs gs : List Form) (e : NotJoined) → Err e ≡ verdict_of (joined_by fs gs) → join_text (joined_by fs gs) ≡ refusal_text e
  unfolding joined_by join_text verdict_of not-joined
  both-printed fs gs e is = pick (eqb (join_refusal fs gs) 0) refl is
    where
      pick : (q : Bool) → eqb (join_refusal fs gs) 0 ≡ q → Err e ≡ verdict_of (cond q (joins (forms_joined fs gs)) (refused_both (join_refusal fs gs)))
          → join_text (cond q (joins (forms_joined fs gs)) (refused_both (join_refusal fs gs))) ≡ refusal_text e
      pick true z is = absurd (let z : ◌≡◌ {A = ℕ} 0 1 = cc in omega arith)
      pick false z is = text-both (join_refusal fs gs) (eqb-false (join_refusal fs gs) 0 z) ∙ ap refusal_text (sym (ap (not-joined e) is))

  pub refused-printed : (p : Progress) → Holds p j a b → (e : NotJoined) → Err e ≡ verdict_of (joined_at p) → join_text (joined_at p) ≡ refusal_text e
  unfolding Holds joined_at
  refused-printed (in_first fs) h e is = one-printed 2 (suc (length fs)) (λ z. omega arith) e is
  refused-printed (in_second fs gs) h e is = one-printed 2 (suc (length gs)) (λ z. omega arith) e is
  refused-printed (refused_in k n) h e is = one-printed k n (λ z. let some = h.3 in omega arith) e is
  refused-printed (both_read fs gs) h e is = both-printed fs gs e is

  -- the words hold what is written if nothing is refused
  pub ended-accepted : (p : Progress) → Holds p j a b → Ok tt ≡ verdict_of (joined_at p) → Accepted a b
  unfolding Holds joined_at verdict_of
  ended-accepted (in_first fs) h none = absurd (let z : ◌≡◌ {A = ℕ} 0 1 = cc in omega arith)
  ended-accepted (in_second fs gs) h none = absurd (let z : ◌≡◌ {A = ℕ} 0 1 = cc in omega arith)
  ended-accepted (refused_in k n) h none = absurd (let z : ◌≡◌ {A = ℕ} 0 1 = cc in omega arith)
  ended-accepted (both_read fs gs) h none =
      let k = refuses-nothing fs gs (nothing-refused fs gs none).0 in
      record { first = fs; second = gs; first-held = h.2; second-held = h.3; room = k.1 }

  -- where nothing is refused, all slots one after the other are printed
  pub slots-printed : (Is : List ℕ → Type 0) (p : Progress) → Holds p j a b → Ok tt ≡ verdict_of (joined_at p)
      → ((fs gs : List Form) → Held a fs → Held b gs → Is (slots_text fs gs 0 SLOTS)) → Is (join_text (joined_at p))
  unfolding Holds joined_at join_text verdict_of
  slots-printed Is (in_first fs) h none is = absurd (let z : ◌≡◌ {A = ℕ} 0 1 = cc in omega arith)
  slots-printed Is (in_second fs gs) h none is = absurd (let z : ◌≡◌ {A = ℕ} 0 1 = cc in omega arith)
  slots-printed Is (refused_in k n) h none is = absurd (let z : ◌≡◌ {A = ℕ} 0 1 = cc in omega arith)
  slots-printed Is (both_read fs gs) h none is =
      let text : slots_text fs gs 0 SLOTS ≡ join_text (joined_by fs gs) = slots-all fs gs ∙ sym (ap join_text (nothing-refused fs gs none).1) in
      subst Is text (is fs gs h.2 h.3)

  -- with room for all of it, what is written from the first slot on is what is printed
  module _ (out after : List ℕ) (r : Written) (room : JOINED ≤ length out) where
    slots-put : (fs gs : List Form) → Held a fs → Held b gs → WritesSlots a b 0 out r after → Puts (slots_text fs gs 0 SLOTS) out after r.printed
    slots-put fs gs ha hb w =
        let all : r.next - 0 ≡ SLOTS = let e = w.all (omega arith) (omega arith) in omega arith in
        puts-as _ _ (ap (slots_text fs gs 0) all) out after r.printed (w.slots fs gs ha hb)

    pub answer-put : (p : Progress) → Holds p j a b → (v : Result Unit NotJoined) → v ≡ verdict_of (joined_at p) → WritesAnswer a b v 0 out r after → Puts (join_text (joined_at p)) out after r.printed
    answer-put p h (Ok u) is w =
        slots-printed (λ (l : List ℕ). Puts l out after r.printed) p h is (λ fs gs ha hb. slots-put fs gs ha hb (w.joined refl))
    answer-put p h (Err e) is w =
        puts-as _ _ (sym (refused-printed p h e is)) out after r.printed (w.refused e refl).1
