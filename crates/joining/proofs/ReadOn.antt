-- How far reading has come: at the end of a line, of a part, of the input.
use Prim.Native.Nat.{ℕ, suc, ◌+◌, ◌≤◌, ◌<◌}
use native.Mathlib.Numerals.{add-one}
use native.Mathlib.Omega.{arith}
use mathlib.Core.Bool.{Bool, true, false, cond}
use mathlib.Core.List.{List, [], ◌∷◌, ◌++◌}
use mathlib.Core.Path.{◌≡◌, refl, sym, ap, subst, ◌∙◌}
use lib.Dec.{eqb}
use lib.ListN.{length, take, get_or}
use lib.Seq.{take-suc}
use borrow.Author.Tests.{eqb-true, eqb-false, eq-eqb, ne_eqb}
use Rattle.rows.specs.Limits.{nodes, processes}
use Rattle.rows.proofs.Bools.{clash}
use Rattle.text.specs.declared.Given.{Given}
use Rattle.calls.specs.declared.Refusal.{Refusal}
use Rattle.calls.specs.Answers.{refusal_number}
use Rattle.calls.specs.vocabulary.Performs.{refusal_in}
use Rattle.calls.proofs.Judging.{refusal-some}
use Rattle.text.proofs.PassLaws.{going-on, ending, refusing}
use Rattle.std.specs.Prelude.{Option, Some, None, Ok, Err}
use Rattle.text.specs.Opening.{Form, Line, last_line, form_line, bad_line, cut, line_of, form_refusal}
use Rattle.text.specs.vocabulary.Openings.{Step, RefusedWith, FormSteps, Gives, Steps}
use Rattle.text.specs.vocabulary.Sizes.{KEPT-LINE}
use Rattle.text.proofs.OpeningCount.{forms-few}
use Rattle.joining.specs.declared.Stage.{Stage}
use Rattle.joining.specs.declared.Stage.TheVariants.{First, Second, Over}
use Rattle.joining.specs.declared.Joining.{Joining}
use Rattle.joining.specs.declared.NotJoined.TheVariants.{OfText, OfBoth}
use Rattle.joining.specs.Joins.{join_refusal, joined_by}
use Rattle.joining.specs.Feeding.{Progress, in_first, in_second, both_read, refused_in, after_line, line_fed, joined_at, Texts, byte_fed, fed}
use Rattle.joining.specs.vocabulary.Directories.{Held, IsHeld, OfBoth as BothOf}
use Rattle.joining.specs.vocabulary.Lines.{SLOTS}
use Rattle.joining.specs.vocabulary.Reading.{goes_on, LineHeld, is_going, SecondBegins, BothRead, AfterLine, Holds, HeldGiven, HoldsTexts, verdict_of}

-- ---- the stage tells how far reading has come
going-first : (j : Joining) → j.stage ≡ First → is_going j.stage ≡ true
unfolding is_going
going-first j e = ap is_going e

going-second : (j : Joining) → j.stage ≡ Second → is_going j.stage ≡ true
unfolding is_going
going-second j e = ap is_going e

not_going : (j : Joining) → j.stage ≡ Over → is_going j.stage ≡ false
unfolding is_going
not_going j e = ap is_going e

-- ---- the end of the input
module _ (j : Joining) (a b : List ℕ) where
  pub verdict-going : (p : Progress) → Holds p j a b → is_going j.stage ≡ true → Err (OfText 2 j.number) ≡ verdict_of (joined_at p)
  unfolding Holds verdict_of joined_at
  verdict-going (in_first fs) h going = λ i. Err (OfText 2 (h.1 i))
  verdict-going (in_second fs gs) h going = λ i. Err (OfText 2 (h.1 i))
  verdict-going (both_read fs gs) h going = clash going (not_going j h.0)
  verdict-going (refused_in k n) h going = clash going (not_going j h.0)

  pub verdict-refused : (p : Progress) → Holds p j a b → is_going j.stage ≡ false → (m : ℕ) → j.refusal ≡ Some m
      → Err (OfText m j.number) ≡ verdict_of (joined_at p)
  unfolding Holds verdict_of joined_at
  verdict-refused (in_first fs) h over m some = clash (going-first j h.0) over
  verdict-refused (in_second fs gs) h over m some = clash (going-second j h.0) over
  verdict-refused (both_read fs gs) h over m some = absurd (let q : ◌≡◌ {A = Option ℕ} None (Some m) = sym h.1 ∙ some in let z : ◌≡◌ {A = ℕ} 0 1 = cc in omega arith)
  verdict-refused (refused_in k n) h over m some =
      let q : ◌≡◌ {A = Option ℕ} (Some m) (Some k) = sym some ∙ h.1 in
      let same : m ≡ k = cc in
      λ i. Err (OfText (same i) (h.2 i))

  pub both-held : (p : Progress) → Holds p j a b → is_going j.stage ≡ false → j.refusal ≡ None → IsHeld a × IsHeld b
  unfolding Holds
  both-held (in_first fs) h over none = clash (going-first j h.0) over
  both-held (in_second fs gs) h over none = clash (going-second j h.0) over
  both-held (both_read fs gs) h over none = (record { forms = fs; held = h.2 }, record { forms = gs; held = h.3 })
  both-held (refused_in k n) h over none = absurd (let q : ◌≡◌ {A = Option ℕ} None (Some k) = sym none ∙ h.1 in let z : ◌≡◌ {A = ℕ} 0 1 = cc in omega arith)

  -- both texts were read
  read-both : (p : Progress) → Holds p j a b → is_going j.stage ≡ false → j.refusal ≡ None → (Is : Progress → Type 0)
      → ((fs gs : List Form) → Held a fs → Held b gs → Is (both_read fs gs)) → Is p
  unfolding Holds
  read-both (in_first fs) h over none Is both = clash (going-first j h.0) over
  read-both (in_second fs gs) h over none Is both = clash (going-second j h.0) over
  read-both (both_read fs gs) h over none Is both = both fs gs h.2 h.3
  read-both (refused_in k n) h over none Is both = absurd (let q : ◌≡◌ {A = Option ℕ} None (Some k) = sym none ∙ h.1 in let z : ◌≡◌ {A = ℕ} 0 1 = cc in omega arith)

  pub verdict-joined : (p : Progress) → Holds p j a b → is_going j.stage ≡ false → j.refusal ≡ None → BothOf a b (λ fs gs. 0 ≡ join_refusal fs gs)
      → Ok tt ≡ verdict_of (joined_at p)
  unfolding verdict_of joined_at joined_by
  verdict-joined p h over none is =
      read-both p h over none (λ q. Ok tt ≡ verdict_of (joined_at q))
      (λ fs gs ha hb. let z = is fs gs ha hb in rw (eq-eqb (join_refusal fs gs) 0 (sym z)) refl)

  pub verdict-both : (p : Progress) → Holds p j a b → is_going j.stage ≡ false → j.refusal ≡ None → (k : ℕ) → (k ≡ 0 → ⊥) → BothOf a b (λ fs gs. k ≡ join_refusal fs gs)
      → Err (OfBoth k) ≡ verdict_of (joined_at p)
  unfolding verdict_of joined_at joined_by
  verdict-both p h over none k some is =
      read-both p h over none (λ q. Err (OfBoth k) ≡ verdict_of (joined_at q))
      (λ fs gs ha hb. let z = is fs gs ha hb in rw (← z, ne_eqb k 0 some) refl)

-- ---- after a line of a text
given_or : Given → Step → Given
given_or d (Ok (Some g)) = g
given_or d (Ok None) = d
given_or d (Err e) = d

module _ (g : Stage) (number : ℕ) (before : Given) (x : Step) (ended : Joining) where
  pub after-taken : (given : Given) → x ≡ Ok (Some given) → AfterLine g number before x ended (record { stage = g; refusal = None; number = number + 1; given = given })
  unfolding goes_on given_or
  after-taken given is =
      record {
        taken = λ h e. (refl, refl, ap (given_or given) (sym is ∙ e));
        last = λ e. clash (ap goes_on is) (ap goes_on e);
        refused = λ r e. clash (ap goes_on is) (ap goes_on e);
      }

  pub after-last : x ≡ Ok None → AfterLine g number before x ended ended
  unfolding goes_on
  after-last is =
      record {
        taken = λ h e. clash (ap goes_on e) (ap goes_on is);
        last = λ e. refl;
        refused = λ r e. absurd (let q : ◌≡◌ {A = Step} (Ok None) (Err r) = sym is ∙ e in let z : ◌≡◌ {A = ℕ} 0 1 = cc in omega arith);
      }

  pub after-refused : (r : Refusal) → x ≡ Err r → AfterLine g number before x ended (record { stage = Over; refusal = Some (refusal_number r); number = number; given = before })
  unfolding goes_on
  after-refused r is =
      record {
        taken = λ h e. clash (ap goes_on e) (ap goes_on is);
        last = λ e. absurd (let q : ◌≡◌ {A = Step} (Ok None) (Err r) = sym e ∙ is in let z : ◌≡◌ {A = ℕ} 0 1 = cc in omega arith);
        refused = λ k e. (refl, ap (λ (y : Step). Some (refusal_in y)) (sym is ∙ e), refl, refl);
      }

-- ---- a line has ended
-- a line's number: one more than the forms before it
number_small : (fs : List Form) (w : List ℕ) → Held w fs → suc (length fs) ≤ SLOTS
unfolding nodes processes
number_small fs w h = let few = forms-few fs h.passed in omega arith

-- by what the line is, over any text
module _ (H : Progress → Type 0) (go : List Form → Progress) (end : Progress) (g : Stage) (fs : List Form) (number : ℕ) (before : Given) (x : Step) (ended r : Joining) (u : List ℕ)
    (counted : number ≡ suc (length fs)) (after : AfterLine g number before x ended r)
    (on-taken : (f : Form) → r.stage ≡ g → r.number ≡ suc (length (f ∷ fs)) → Gives r.given (f ∷ fs) → Held u (f ∷ fs) → H (go (f ∷ fs)))
    (on-last : r ≡ ended → Held u fs → H end)
    (on-refused : (k : ℕ) → r.stage ≡ Over → r.refusal ≡ Some k → r.number ≡ suc (length fs) → 0 < k → Held u fs → H (refused_in k (suc (length fs)))) where
  refused-line : (k : ℕ) → RefusedWith k x → Held u fs → H (refused_in k (suc (length fs)))
  refused-line k stops held =
      let e = refusing k x stops in
      let o = after.refused e.refusal e.is in
      let z : k ≡ 0 → ⊥ = λ q. refusal-some e.refusal (e.number ∙ q) in
      on-refused k o.0 (o.1 ∙ ap (λ (m : ℕ). Some m) e.number) (o.2 ∙ counted) (omega arith) held

  form-read : (f : Form) → FormSteps fs f x → (goes_on x ≡ true → Held u (f ∷ fs)) × (goes_on x ≡ false → Held u fs) → (b : Bool) → eqb (form_refusal fs f) 0 ≡ b
      → H (cond b (go (f ∷ fs)) (refused_in (form_refusal fs f) (suc (length fs))))
  unfolding goes_on
  form-read f s held true e =
      let t = going-on (f ∷ fs) x (s.taken (eqb-true (form_refusal fs f) 0 e)) in
      let o = after.taken t.given t.is in
      on-taken f o.0 (o.1 ∙ rw add-one (ap suc counted)) (subst (λ (k : Given). Gives k (f ∷ fs)) (sym o.2) t.gives) (held.0 (ap goes_on t.is))
  form-read f s held false e =
      let t = s.refused (eqb-false (form_refusal fs f) 0 e) in
      refused-line (form_refusal fs f) t (held.1 (ap goes_on (refusing (form_refusal fs f) x t).is))

  line-read : (l : Line) → Steps fs l x → LineHeld fs l x u → H (after_line go end fs l)
  unfolding Steps LineHeld after_line
  line-read last_line s held = on-last (after.last (ending x s)) held
  line-read bad_line s held = refused-line 2 s held
  line-read (form_line f) s held = form-read f s held (eqb (form_refusal fs f) 0) refl

module _ (j : Joining) (a b : List ℕ) where
  -- what is read into the first directory, at the first stage
  pub first-given : (p : Progress) → Holds p j a b → j.stage ≡ First → HeldGiven a j.given × (j.number ≤ SLOTS)
  unfolding Holds
  first-given (in_first fs) h e = let k = number_small fs a h.3 in let n = h.1 in (record { forms = fs; held = h.3; gives = h.2 }, omega arith)
  first-given (in_second fs gs) h e = absurd (let q : First ≡ Second = sym e ∙ h.0 in let z : ◌≡◌ {A = ℕ} 0 1 = cc in omega arith)
  first-given (both_read fs gs) h e = clash (going-first j e) (not_going j h.0)
  first-given (refused_in k n) h e = clash (going-first j e) (not_going j h.0)

  pub second-given : (p : Progress) → Holds p j a b → j.stage ≡ Second → HeldGiven b j.given × (j.number ≤ SLOTS)
  unfolding Holds
  second-given (in_first fs) h e = absurd (let q : First ≡ Second = sym h.0 ∙ e in let z : ◌≡◌ {A = ℕ} 0 1 = cc in omega arith)
  second-given (in_second fs gs) h e = let k = number_small gs b h.4 in let n = h.1 in (record { forms = gs; held = h.4; gives = h.2 }, omega arith)
  second-given (both_read fs gs) h e = clash (going-second j e) (not_going j h.0)
  second-given (refused_in k n) h e = clash (going-second j e) (not_going j h.0)

  module _ (s : List ℕ) (x : Step) (u : List ℕ) (r ended : Joining) where
    pub first-line : (p : Progress) → Holds p j a b → j.stage ≡ First → ((fs : List Form) → Held a fs → Gives j.given fs → Steps fs (line_of s) x × LineHeld fs (line_of s) x u)
        → SecondBegins ended → AfterLine First j.number j.given x ended r → Holds (line_fed p s) r u b
    unfolding Holds line_fed
    first-line (in_first fs) h e reads begins after =
        let read = reads fs h.3 h.2 in
        line-read (λ q. Holds q r u b) in_first (in_second fs []) First fs j.number j.given x ended r u h.1 after
        (λ f stage number given held. (stage, number, given, held, h.4))
        (λ is held. (ap (λ (k : Joining). k.stage) is ∙ begins.0, ap (λ (k : Joining). k.number) is ∙ begins.1, subst (λ (k : Joining). Gives k.given []) (sym is) begins.2, held, h.4))
        (λ k stage refusal number some held. (stage, refusal, number, some, omega arith, held.long, h.4.long))
        (line_of s) read.0 read.1
    first-line (in_second fs gs) h e reads begins after = absurd (let q : First ≡ Second = sym e ∙ h.0 in let z : ◌≡◌ {A = ℕ} 0 1 = cc in omega arith)
    first-line (both_read fs gs) h e reads begins after = clash (going-first j e) (not_going j h.0)
    first-line (refused_in k n) h e reads begins after = clash (going-first j e) (not_going j h.0)

    pub second-line : (p : Progress) → Holds p j a b → j.stage ≡ Second → ((gs : List Form) → Held b gs → Gives j.given gs → Steps gs (line_of s) x × LineHeld gs (line_of s) x u)
        → BothRead ended → AfterLine Second j.number j.given x ended r → Holds (line_fed p s) r a u
    unfolding Holds line_fed
    second-line (in_first fs) h e reads both after = absurd (let q : First ≡ Second = sym h.0 ∙ e in let z : ◌≡◌ {A = ℕ} 0 1 = cc in omega arith)
    second-line (in_second fs gs) h e reads both after =
        let read = reads gs h.4 h.2 in
        line-read (λ q. Holds q r a u) (in_second fs) (both_read fs gs) Second gs j.number j.given x ended r u h.1 after
        (λ f stage number given held. (stage, number, given, h.3, held))
        (λ is held. (ap (λ (k : Joining). k.stage) is ∙ both.0, ap (λ (k : Joining). k.refusal) is ∙ both.1, h.3, held))
        (λ k stage refusal number some held. (stage, refusal, number, some, omega arith, h.3.long, held.long))
        (line_of s) read.0 read.1
    second-line (both_read fs gs) h e reads both after = clash (going-second j e) (not_going j h.0)
    second-line (refused_in k n) h e reads both after = clash (going-second j e) (not_going j h.0)

  pub over-line : (s : List ℕ) (p : Progress) → Holds p j a b → j.stage ≡ Over → Holds (line_fed p s) j a b
  unfolding Holds line_fed
  over-line s (in_first fs) h e = clash (going-first j h.0) (not_going j e)
  over-line s (in_second fs gs) h e = clash (going-second j h.0) (not_going j e)
  over-line s (both_read fs gs) h e = h
  over-line s (refused_in k n) h e = h

-- ---- bytes
fed-snoc : (t : Texts) (bs : List ℕ) (b : ℕ) → fed t (bs ++ (b ∷ [])) ≡ byte_fed (fed t bs) b
unfolding fed
fed-snoc t [] b = refl
fed-snoc t (c ∷ bs) b = fed-snoc (byte_fed t c) bs b

fed-more : (t : Texts) (part : List ℕ) (i : ℕ) → i < length part → fed t (take (i + 1) part) ≡ byte_fed (fed t (take i part)) (get_or part i 0)
fed-more t part i h =
    let more : take (i + 1) part ≡ take i part ++ (get_or part i 0 ∷ []) = rw add-one (take-suc part i 0 h) in
    ap (fed t) more ∙ fed-snoc t (take i part) (get_or part i 0)

-- what has been fed of a part: each state that was held has moved on by these bytes
pub record Feeding (part : List ℕ) (j : Joining) (n : ℕ) (line a b : List ℕ) (i : ℕ) (here : Joining) (kept : ℕ) (now x y : List ℕ) : Type 0 where
  pub holds : (t : Texts) → HoldsTexts t j n line a b → HoldsTexts (fed t (take i part)) here kept now x y

pub feeding-starts : (part : List ℕ) (j : Joining) (n : ℕ) (line a b : List ℕ) → Feeding part j n line a b 0 j n line a b
unfolding fed
feeding-starts part j n line a b = record { holds = λ t h. h }

module _ (part : List ℕ) (j : Joining) (n : ℕ) (line a b : List ℕ) (i : ℕ) (here : Joining) (kept : ℕ) (now x y : List ℕ)
    (k : Feeding part j n line a b i here kept now x y) (some : i < length part) (r : ℕ) (after : List ℕ)
    (kept-now : take r after ≡ cut (take kept now ++ (get_or part i 0 ∷ []))) (short : r ≤ KEPT-LINE) where
  -- a byte of a line
  pub feeding-byte : (get_or part i 0 ≡ 10 → ⊥) → Feeding part j n line a b (i + 1) here r after x y
  unfolding byte_fed
  feeding-byte other =
      record {
        holds = λ t h.
            let s = k.holds t h in
            rw (fed-more t part i some, ne_eqb (get_or part i 0) 10 other)
            (record { progress = s.progress; kept = ap (λ (l : List ℕ). cut (l ++ (get_or part i 0 ∷ []))) s.kept ∙ sym kept-now; short = short });
      }

  -- a line feed
  pub feeding-line : get_or part i 0 ≡ 10 → (next : Joining) (u v : List ℕ) → ((p : Progress) → Holds p here x y → Holds (line_fed p (take r after)) next u v)
      → Feeding part j n line a b (i + 1) next 0 after u v
  unfolding byte_fed
  feeding-line feed next u v moves =
      record {
        holds = λ t h.
            let s = k.holds t h in
            let l = cut ((fed t (take i part)).line ++ (get_or part i 0 ∷ [])) in
            let same : take r after ≡ l = kept-now ∙ ap (λ (m : List ℕ). cut (m ++ (get_or part i 0 ∷ []))) (sym s.kept) in
            let is : fed t (take (i + 1) part) ≡ record { progress = line_fed (fed t (take i part)).progress l; line = [] } = fed-more t part i some ∙ (rw (eq-eqb (get_or part i 0) 10 feed) refl) in
            rw is
            (record {
              progress = subst (λ (m : List ℕ). Holds (line_fed (fed t (take i part)).progress m) next u v) same (moves (fed t (take i part)).progress s.progress);
              kept = refl;
              short = omega arith;
            });
      }

-- reading is over
pub over-told : (j : Joining) → is_going j.stage ≡ false → j.stage ≡ Over
unfolding is_going
over-told j e = pick j.stage e
  where
    pick : (g : Stage) → is_going g ≡ false → g ≡ Over
    pick First q = clash refl q
    pick Second q = clash refl q
    pick Over q = refl
