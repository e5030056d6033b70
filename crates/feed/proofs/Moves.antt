-- Laws of steps in buffers: a line that has ended at each stage, a byte, bytes one after the other.
use Prim.Native.Nat.{ℕ, ◌+◌, ◌-◌}
use native.Mathlib.Omega.{arith}
use mathlib.Core.Bool.{true, false, cond}
use mathlib.Core.List.{List, [], ◌++◌}
use mathlib.Core.Path.{◌≡◌, refl, sym, ap, subst, ◌∙◌}
use lib.Dec.{eqb}
use lib.ListN.{length, take, drop}
use lib.Seq.{take-add}
use borrow.Author.Tests.{eq-eqb, ne_eqb}
use Rattle.text.specs.Entry.{Replied, open_entry, call_entry}
use Rattle.entry.specs.vocabulary.Entries.{Given}
use Rattle.feed.specs.declared.Stage.{Stage}
use Rattle.feed.specs.declared.Stage.TheVariants.{Opening, Calls, Over}
use Rattle.feed.specs.declared.Kept.{Kept}
use Rattle.feed.specs.declared.Moved.{Moved}
use Rattle.feed.specs.Feeding.{Session, with_line, silent, undecided, opened, opening_line, call_line, line_fed, byte_fed, unsaid, finished}
use Rattle.feed.specs.vocabulary.Buffers.{session_in, Stands, KeepsByte, with_byte, Writes, StageOf, Takes, at_line_start, Moves, line_ended}
use Rattle.feed.proofs.Buffers.{line-long}

-- ---- a reply
pub given-writes : (o : Replied) (out u v after : List ℕ) (n : ℕ) → Given o out u v after n → Writes o.reply out after n
given-writes o out u v after n e = (e.0, e.1 ∙ ap (λ m. o.reply ++ drop m out) (sym e.0))

-- ---- a line has ended
module _ (k : Kept) (b t p out : List ℕ) (stands : Stands k b) where
  abbrev s : Session
  s = session_in k b t p

  -- the opening with the line that has ended stands in front
  pub text-in : take (k.text + k.line) b ≡ s.text ++ s.line
  unfolding session_in
  text-in = take-add k.text k.line b

  pub line-in : take ((k.text + k.line) - k.text) (drop k.text b) ≡ s.line
  unfolding session_in
  line-in = let e : (k.text + k.line) - k.text ≡ k.line = omega arith in rw e

  -- the opening waits
  pub opening-waits : undecided (take (k.text + k.line) b) ≡ true → Moves (λ x. opening_line x x.line) k b t p out (at_line_start Opening (k.text + k.line) 0) b t p out
  unfolding opening_line silent session_in
  opening-waits w =
      rw (sym (ap undecided text-in) ∙ w)
      (record {
        session = λ i. record { stage = Opening; text = text-in i; line = []; tables = t; processes = p };
        stands = omega arith;
        writes = (refl, refl);
      })

  -- it is decided
  pub opening-decided : (u v after : List ℕ) (n : ℕ) (g : Stage) → undecided (take (k.text + k.line) b) ≡ false
      → Given (open_entry t p (take (k.text + k.line) b)) out u v after n → StageOf after g
      → Moves (λ x. opening_line x x.line) k b t p out (at_line_start g 0 n) b u v after
  unfolding opening_line opened session_in
  opening-decided u v after n g w e stage =
      let o = open_entry t p (take (k.text + k.line) b) in
      rw (sym (ap undecided text-in) ∙ w, ← text-in)
      (record {
        session = λ i. record { stage = stage t p (take (k.text + k.line) b) (drop (length o.reply) out) e.1 i; text = []; line = []; tables = e.2 i; processes = e.3 i };
        stands = omega arith;
        writes = given-writes o out u v after n e;
      })

  -- a call
  pub call-answered : (u v after : List ℕ) (n : ℕ) → Given (call_entry t p (take ((k.text + k.line) - k.text) (drop k.text b))) out u v after n
      → Moves (λ x. call_line x x.line) k b t p out (at_line_start Calls 0 n) b u v after
  unfolding call_line session_in
  call-answered u v after n e =
      let o = call_entry t p (take ((k.text + k.line) - k.text) (drop k.text b)) in
      rw (← line-in)
      (record {
        session = λ i. record { stage = Calls; text = []; line = []; tables = e.2 i; processes = e.3 i };
        stands = omega arith;
        writes = given-writes o out u v after n e;
      })

  -- by the stage
  pub ended-opening : k.stage ≡ Opening → (r : Moved) (u v after : List ℕ) → Moves (λ x. opening_line x x.line) k b t p out r b u v after → Moves line_ended k b t p out r b u v after
  unfolding line_fed session_in
  ended-opening e r u v after m = subst (λ g. Takes (line_fed g s s.line) r.kept b u v out after r.printed) (sym e) m

  pub ended-calls : k.stage ≡ Calls → (r : Moved) (u v after : List ℕ) → Moves (λ x. call_line x x.line) k b t p out r b u v after → Moves line_ended k b t p out r b u v after
  unfolding line_fed session_in
  ended-calls e r u v after m = subst (λ g. Takes (line_fed g s s.line) r.kept b u v out after r.printed) (sym e) m

  pub ended-over : k.stage ≡ Over → Moves line_ended k b t p out (at_line_start Over 0 0) b t p out
  unfolding line_fed session_in silent
  ended-over e = rw e (record { session = refl; stands = omega arith; writes = (refl, refl) })

  -- the input has ended
  pub finish-opening : k.stage ≡ Opening → (u v after : List ℕ) (n : ℕ) → Given (open_entry t p (take (k.text + k.line) b)) out u v after n
      → Given (finished k.stage s) out u v after n
  unfolding finished session_in
  finish-opening e u v after n g =
      subst (λ x. Given (finished x s) out u v after n) (sym e) (subst (λ l. Given (open_entry t p l) out u v after n) text-in g)

  finish-calls : (o : Replied) (u v after : List ℕ) (n : ℕ) → k.stage ≡ Calls → cond (eqb (length s.line) 0) (unsaid s) (call_entry t p s.line) ≡ o
      → Given o out u v after n → Given (finished k.stage s) out u v after n
  unfolding finished session_in
  finish-calls o u v after n e is g =
      subst (λ x. Given (finished x s) out u v after n) (sym e) (subst (λ w. Given w out u v after n) (sym is) g)

  pub finish-none : k.stage ≡ Calls → k.text ≡ k.text + k.line → Given (finished k.stage s) out t p out 0
  unfolding session_in unsaid
  finish-none e none =
      let long = line-long k b stands in
      finish-calls (unsaid s) t p out 0 e (rw (eq-eqb (length s.line) 0 (omega arith))) (refl, refl, refl, refl)

  pub finish-call : k.stage ≡ Calls → (k.text ≡ k.text + k.line → ⊥) → (u v after : List ℕ) (n : ℕ)
      → Given (call_entry t p (take ((k.text + k.line) - k.text) (drop k.text b))) out u v after n → Given (finished k.stage s) out u v after n
  unfolding session_in
  finish-call e some u v after n g =
      let long = line-long k b stands in
      finish-calls (call_entry t p s.line) u v after n e (rw (ne_eqb (length s.line) 0 (omega arith)))
      (subst (λ l. Given (call_entry t p l) out u v after n) line-in g)

  pub finish-over : k.stage ≡ Over → Given (finished k.stage s) out t p out 0
  unfolding finished unsaid session_in
  finish-over e = subst (λ x. Given (finished x s) out t p out 0) (sym e) (refl, refl, refl, refl)

-- ---- a byte
-- what a line does when it has ended is told by the line that is handed over
line-handed : (g : Stage) (x : Session) (l m : List ℕ) → line_fed g (with_line m x) l ≡ line_fed g x l
unfolding line_fed opening_line opened call_line
line-handed Opening x l m = refl
line-handed Calls x l m = refl
line-handed Over x l m = refl

module _ (c : ℕ) (k : Kept) (b t p out : List ℕ) (r : Kept) (a : List ℕ) (kept : KeepsByte c k b r a) where
  pub byte-silent : (c ≡ 10 → ⊥) → Moves (λ x. byte_fed x c) k b t p out (record { kept = r; printed = 0 }) a t p out
  unfolding byte_fed silent
  byte-silent other = rw (ne_eqb c 10 other) (record { session = kept.session t p; stands = kept.stands; writes = (refl, refl) })

  pub byte-ends : c ≡ 10 → (m : Moved) (u v after : List ℕ) → Moves line_ended r a t p out m a u v after → Moves (λ x. byte_fed x c) k b t p out m a u v after
  unfolding byte_fed
  byte-ends e m u v after done =
      let x = session_in k b t p in
      let l = (with_byte c x).line in
      let moved = subst (λ y. Takes (line_ended y) m.kept a u v out after m.printed) (kept.session t p) done in
      rw (eq-eqb c 10 e) (subst (λ y. Takes y m.kept a u v out after m.printed) (line-handed x.stage x l l) moved)
