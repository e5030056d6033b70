-- Laws of a part that is fed byte by byte into a buffer, and of sessions that parts have led to.
use Prim.Native.Nat.{ℕ, suc, ◌+◌, ◌-◌, ◌≤◌, ◌<◌}
use native.Mathlib.Omega.{arith}
use mathlib.Core.Bool.{true}
use mathlib.Core.List.{List, [], ◌∷◌, ◌++◌, append_assoc, append-nil}
use mathlib.Core.Path.{◌≡◌, refl, sym, ap, subst, ◌∙◌}
use native.Mathlib.Decide.{dec_lt}
use lib.ListN.{length, take, drop, get_or, length-append, length-drop, drop_of_length-le}
use lib.Seq.{length-take-le, take_all, take-suc, take_at, drop_at, drop-drop, get_or-drop}
use lib.Dec.{eqb}
use borrow.Author.Tests.{eq-eqb}
use Rattle.rows.specs.Layout.{right_lengths, tables_length, processes_length}
use Rattle.rows.specs.vocabulary.Sizes.{IsTables, IsRecords, sizes-meant}
use Rattle.rows.proofs.Bools.{and_i}
use Rattle.text.specs.Opening.{kept_of_line}
use Rattle.text.specs.vocabulary.Sizes.{REPLY, text-sizes-meant}
use Rattle.feed.specs.declared.Stage.TheVariants.{Opening}
use Rattle.feed.specs.declared.Kept.{Kept}
use Rattle.feed.specs.declared.Moved.{Moved}
use Rattle.feed.specs.Feeding.{Session, begun, Step, silent, followed, byte_fed, fed, parts_fed}
use Rattle.feed.specs.Prints.{most_text}
use Rattle.feed.specs.vocabulary.Buffers.{KEPT, feed-sizes-meant, session_in, Stands, HasRoom, Reached, Ready, Writes, Takes, Moves, bytes_of, Begins}
use Rattle.feed.proofs.Prints.{prints}
use Rattle.feed.proofs.Buffers.{text-long, line-long}

-- ---- bytes one after the other
fed-snoc : (bs : List ℕ) (s : Session) (b : ℕ) → fed s (bs ++ (b ∷ [])) ≡ followed (fed s bs) (byte_fed (fed s bs).after b)
unfolding fed followed silent
fed-snoc [] s b = let x = byte_fed s b in λ i. record { printed = append-nil x.printed i; after = x.after }
fed-snoc (c ∷ bs) s b =
    let x = byte_fed s c in
    let y = fed x.after bs in
    let z = byte_fed y.after b in
    ap (followed x) (fed-snoc bs x.after b) ∙ (λ i. record { printed = sym (append_assoc x.printed y.printed z.printed) i; after = z.after })

bytes-more : (part : List ℕ) (at i : ℕ) → at ≤ i → i < length part → bytes_of part at (i + 1) ≡ bytes_of part at i ++ (get_or part i 0 ∷ [])
bytes-more part at i low h =
    let m = length-drop at part in
    let e : (i + 1) - at ≡ suc (i - at) = omega arith in
    let there : at + (i - at) ≡ i = omega arith in
    ap (λ n. take n (drop at part)) e ∙ take-suc (drop at part) (i - at) 0 (omega arith)
    ∙ ap (λ (x : ℕ). bytes_of part at i ++ (x ∷ [])) (get_or-drop at part (i - at) 0 ∙ ap (λ j. get_or part j 0) there)

-- ---- a session that parts have led to, and other bytes
parts-snoc : (parts : List (List ℕ)) (s : Session) (bs : List ℕ) → (parts_fed s (parts ++ (bs ∷ []))).after ≡ (fed (parts_fed s parts).after bs).after
unfolding parts_fed followed silent
parts-snoc [] s bs = refl
parts-snoc (part ∷ parts) s bs = parts-snoc parts (fed s part).after bs

pub reached-fed : (s : Session) (bs : List ℕ) → Reached s → Reached (fed s bs).after
reached-fed s bs r =
    record {
      tables = r.tables;
      processes = r.processes;
      fits = r.fits;
      parts = r.parts ++ (bs ∷ []);
      is = ap (λ x. (fed x bs).after) r.is ∙ sym (parts-snoc r.parts (begun r.tables r.processes) bs);
    }

-- a session begins
pub lengths-right : (t p : List ℕ) → IsTables t → IsRecords p → right_lengths t p ≡ true
unfolding right_lengths
lengths-right t p tables processes =
    and_i (eqb (length t) tables_length) (eqb (length p) processes_length)
    (eq-eqb (length t) tables_length (tables ∙ sizes-meant.tables)) (eq-eqb (length p) processes_length (processes ∙ sizes-meant.records))

pub begin-ready : (k : Kept) → k ≡ record { stage = Opening; text = 0; line = 0 } → Begins k
unfolding session_in parts_fed silent begun
begin-ready k e b t p long tables processes =
    rw e (
      refl,
      record { long = long; stands = omega arith; reached = record { tables = t; processes = p; fits = lengths-right t p tables processes; parts = []; is = refl } },
    )

-- its buffer has room for a whole line
pub reached-room : (k : Kept) (b t p : List ℕ) → length b ≡ KEPT → Stands k b → Reached (session_in k b t p) → HasRoom k b
unfolding session_in
reached-room k b t p long stands r =
    let all = prints.reads r.tables r.processes r.fits r.parts in
    let text = subst (λ s. length s.text ≤ most_text) (sym r.is) all.text-kept in
    let line = subst (λ s. length s.line ≤ kept_of_line) (sym r.is) all.line_kept in
    let text-here = text-long k b stands in
    let line-here = line-long k b stands in
    let size = text-sizes-meant.kept_line in
    let sizes = feed-sizes-meant.kept in
    (omega arith, omega arith)

-- ---- steps one after the other
-- where the second writes after the first
followed-takes : (x y : Step) (k r : Kept) (b t p a u v out after w z : List ℕ) (n m : ℕ) → Takes x k b t p out after n → Takes y r a u v (drop n after) w m
    → z ≡ take n after ++ w → Takes (followed x y) r a u v out z (n + m)
unfolding followed
followed-takes x y k r b t p a u v out after w z n m first second joins =
    let e = first.writes in
    let f = second.writes in
    let front : take n after ≡ x.printed = ap (take n) e.1 ∙ take_at x.printed (drop n out) n (sym e.0) in
    let rest : drop n after ≡ drop n out = ap (drop n) e.1 ∙ drop_at x.printed (drop n out) n (sym e.0) in
    let long = length-append x.printed y.printed in
    record {
      session = second.session;
      stands = second.stands;
      writes = (
        omega arith,
        joins ∙ ap (λ l. l ++ w) front ∙ ap (λ l. x.printed ++ l) (f.1 ∙ ap (λ l. y.printed ++ drop m l) rest ∙ ap (λ l. y.printed ++ l) (drop-drop m n out))
            ∙ sym (append_assoc x.printed y.printed (drop (n + m) out)),
      );
    }

-- ---- a part: the bytes read so far
pub record Feeding (part : List ℕ) (at : ℕ) (k : Kept) (b t p out : List ℕ) (here : Kept) (a u v after : List ℕ) (i n : ℕ) : Type 0 where
  pub low : at ≤ i
  pub high : i ≤ length part
  pub takes : Takes (fed (session_in k b t p) (bytes_of part at i)) here a u v out after n

pub feeding-starts : (part : List ℕ) (at : ℕ) (k : Kept) (b t p out : List ℕ) → at ≤ length part → Stands k b → Feeding part at k b t p out k b t p out at 0
unfolding fed silent
feeding-starts part at k b t p out h stands =
    let e : at - at ≡ 0 = omega arith in
    record { low = omega arith; high = h; takes = rw e (record { session = refl; stands = stands; writes = (refl, refl) }) }

-- what is written stands in the buffer
pub writes-within : (text out after : List ℕ) (n : ℕ) → Writes text out after n → length after ≡ length out → n ≤ length after
writes-within text out after n w same =
    let long = ap length w.1 in
    let parts = length-append text (drop n out) in
    let left = length-drop n out in
    omega arith

module _ (part : List ℕ) (at : ℕ) (k : Kept) (b t p out : List ℕ) (here : Kept) (a u v after : List ℕ) (i n : ℕ) (f : Feeding part at k b t p out here a u v after i n) where
  -- the session under way is one that parts have led to
  pub feeding-ready : Ready k b t p → length a ≡ length b → Ready here a u v
  feeding-ready r same =
      record {
        long = same ∙ r.long;
        stands = f.takes.stands;
        reached = subst Reached (sym f.takes.session) (reached-fed (session_in k b t p) (bytes_of part at i) r.reached);
      }

  -- what the next byte prints to the rest of the buffer stands in it
  pub feeding-within : n ≤ length after → (x : Step) (m : Moved) (e y z w : List ℕ)
      → Takes x m.kept e y z (take (length after - n) (drop n after)) w m.printed
      → length w ≡ length (take (length after - n) (drop n after)) → n + m.printed ≤ length after
  feeding-within within x m e y z w moves same =
      let rest = take (length after - n) (drop n after) in
      let left = length-drop n after in
      let long = length-take-le (length after - n) (drop n after) (omega arith) in
      let short = writes-within x.printed rest w m.printed moves.writes same in
      omega arith

  -- one byte more, printed to the rest of the buffer
  pub feeding-goes-on : i < length part → n ≤ length after → (m : Moved) (e x y w : List ℕ)
      → Moves (λ s. byte_fed s (get_or part i 0)) here a u v (take (length after - n) (drop n after)) m e x y w
      → Feeding part at k b t p out m.kept e x y (take n after ++ (w ++ drop (length after - n) (drop n after))) (i + 1) (n + m.printed)
  feeding-goes-on h within m e x y w moves =
      let s = session_in k b t p in
      let bs = bytes_of part at i in
      let left = length-drop n after in
      let whole : take (length after - n) (drop n after) ≡ drop n after = take_all (length after - n) (drop n after) (omega arith) in
      let none : drop (length after - n) (drop n after) ≡ [] = drop_of_length-le (drop n after) {i = length after - n} (omega arith) in
      let second : Takes (byte_fed (fed s bs).after (get_or part i 0)) m.kept e x y (drop n after) w m.printed =
      subst (λ q. Takes (byte_fed q (get_or part i 0)) m.kept e x y (drop n after) w m.printed) f.takes.session
      (subst (λ l. Takes (byte_fed (session_in here a u v) (get_or part i 0)) m.kept e x y l w m.printed) whole moves) in
      let both = followed-takes (fed s bs) (byte_fed (fed s bs).after (get_or part i 0)) here m.kept a u v e x y out after w (take n after ++ (w ++ drop (length after - n) (drop n after))) n m.printed
      f.takes second (ap (λ l. take n after ++ l) (ap (λ l. w ++ l) none ∙ append-nil w)) in
      let low = f.low in
      record {
        low = omega arith;
        high = omega arith;
        takes = subst (λ q. Takes q m.kept e x y out (take n after ++ (w ++ drop (length after - n) (drop n after))) (n + m.printed))
            (sym (ap (fed s) (bytes-more part at i f.low h) ∙ fed-snoc bs s (get_or part i 0))) both;
      }

  -- where nothing was read, nothing is printed; so some byte is read if there is room
  nothing-printed : at ≡ i → n ≡ 0
  unfolding fed silent
  nothing-printed e =
      let z : i - at ≡ 0 = omega arith in
      let none : bytes_of part at i ≡ [] = ap (λ j. take j (drop at part)) z in
      f.takes.writes.0 ∙ ap (λ bs. length (fed (session_in k b t p) bs).printed) none

  pub feeding-full : length after - n < REPLY → REPLY ≤ length after → at < i
  feeding-full full room = elim (dec_lt at i) [ yes h ↦ h | no h ↦ absurd (let low = f.low in let z = nothing-printed (omega arith) in omega arith) ]
