-- A session that is fed piece by piece, and its end: what is written is the session of all that was read.
use Rattle.std.proofs.Common.{ℕ, Bool, true, false, cond, List, [], ◌∷◌, ◌++◌, ◌≡◌, ◌⊎◌, ◌≤◌, ◌+◌, ◌-◌, refl, sym, ap, ◌∙◌, subst, arith, take, drop, inl, inr}
use Rattle.std.proofs.lemmas.List.{append_assoc, append-nil}
use Rattle.std.specs.declared.option.Option.{Option}
use Rattle.std.specs.Io.KnownBytes.{Appends, Consumes, IsAtEnd}
use Rattle.std.proofs.Math.Seq.{take-append_seam, take-add}
use lib.Dec.{eqb}
use Rattle.rows.specs.Layout.{right_lengths}
use Rattle.text.specs.Opening.{cut}
use Rattle.text.specs.Session.{session, session_end}
use Rattle.history.specs.Kept.{joined}
use Rattle.entry.specs.vocabulary.Entries.{Given}
use Rattle.feed.specs.declared.Stage.TheVariants.{Over}
use Rattle.feed.specs.declared.Stage.{Stage}
use Rattle.feed.specs.declared.Kept.{Kept}
use Rattle.feed.specs.Feeding.{Session, Step, begun, silent, followed, line_fed, byte_fed, fed, parts_fed, unsaid, finished, ended_on, printed_on}
use Rattle.feed.specs.vocabulary.Buffers.{session_in, Writes, Takes, bytes_of}
use Rattle.feed.proofs.Prints.{prints}
use Rattle.feed.proofs.Moves.{given-writes}
use Rattle.stdio.specs.Sessions.{Answers, IsOver, Whole}
use Rattle.stdio.proofs.Known.{appends_none, appends_both, consumes_none, consumes_both}

-- ---- pieces one after the other
fed-append : (xs ys : List ℕ) (s : Session) → fed s (xs ++ ys) ≡ followed (fed s xs) (fed (fed s xs).after ys)
unfolding fed followed silent
fed-append [] ys s = refl
fed-append (b ∷ xs) ys s =
    let x = byte_fed s b in
    let y = fed x.after xs in
    let z = fed y.after ys in
    ap (followed x) (fed-append xs ys x.after) ∙ (λ i. record { printed = sym (append_assoc x.printed y.printed z.printed) i; after = z.after })

pub answers_none : (s : Session) (w : Option (List ℕ)) → Answers [] s w s w
unfolding fed silent
answers_none s w = record { after = refl; written = appends_none w }

pub answers_both : (xs ys : List ℕ) (s m u : Session) (w x v : Option (List ℕ)) → Answers xs s w m x → Answers ys m x u v → Answers (xs ++ ys) s w u v
unfolding followed
answers_both xs ys s m u w x v one two =
    let e = fed-append xs ys s in
    let here : Answers ys (fed s xs).after x u v = subst (λ (n : Session). Answers ys n x u v) one.after two in
    record {
      after = here.after ∙ sym (ap (λ (y : Step). y.after) e);
      written = subst (λ (y : Step). Appends w v y.printed) (sym e) (appends_both w x v (fed s xs).printed (fed (fed s xs).after ys).printed one.written here.written);
    }

-- the front of a part and the piece after it are the front up to the piece's end
front_and_piece : (at next : ℕ) (xs : List ℕ) → at ≤ next → take at xs ++ bytes_of xs at next ≡ take next xs
front_and_piece at next xs before =
    sym (take-add at (next - at) xs) ∙ ap (λ (n : ℕ). take n xs) (let e : at + (next - at) ≡ next = omega (arith, before) in e)

-- what stands in front of a buffer into which a text was written
pub front_written : (text out after : List ℕ) (n : ℕ) → Writes text out after n → take n after ≡ text
front_written text out after n (long, is) = ap (take n) is ∙ ap (λ (m : ℕ). take m (text ++ drop n out)) long ∙ take-append_seam text (drop n out)

pub piece_answered :
    (part : List ℕ) (at next : ℕ) (s m : Session) (kept : Kept) (b t p out after : List ℕ) (n : ℕ) (w x v : Option (List ℕ))
    → at ≤ next → Answers (take at part) s w m x → Takes (fed m (bytes_of part at next)) kept b t p out after n → Appends x v (take n after)
    → Answers (take next part) s w (session_in kept b t p) v
piece_answered part at next s m kept b t p out after n w x v before so took put =
    let text = (fed m (bytes_of part at next)).printed in
    let said : Appends x v text = subst (λ (l : List ℕ). Appends x v l) (front_written text out after n took.writes) put in
    subst (λ (l : List ℕ). Answers l s w (session_in kept b t p) v) (front_and_piece at next part before)
    (answers_both (take at part) (bytes_of part at next) s m (session_in kept b t p) w x v so (record { after = took.session; written = said }))

-- ---- what is read so far
-- some bytes are read and answered: the bytes r that are left become q
pub record SoFar (s : Session) (r w : Option (List ℕ)) (u : Session) (q v : Option (List ℕ)) : Type 0 where
  pub bytes : List ℕ
  pub read : Consumes r q bytes
  pub answers : Answers bytes s w u v

pub far_none : (s : Session) (r w : Option (List ℕ)) → SoFar s r w s r w
far_none s r w = record { bytes = []; read = consumes_none r; answers = answers_none s w }

pub far_more : (part : List ℕ) (s m u : Session) (r w q x l v : Option (List ℕ)) → SoFar s r w m q x → Consumes q l part → Answers part m x u v → SoFar s r w u l v
far_more part s m u r w q x l v so read put =
    record {
      bytes = so.bytes ++ part;
      read = consumes_both r q l so.bytes part so.read read;
      answers = answers_both so.bytes part s m u w x v so.answers put;
    }

-- ---- the end
-- all that is printed of these bytes
abbrev printed_of : Session → List ℕ
printed_of u = (finished u.stage u).reply

said_of : (t p : List ℕ) → right_lengths t p ≡ true → (bytes : List ℕ)
    → (fed (begun t p) bytes).printed ++ printed_of (fed (begun t p) bytes).after ≡ session bytes
unfolding printed_on ended_on parts_fed followed silent joined
said_of t p fits bytes =
    let x = fed (begun t p) bytes in
    ap (λ (l : List ℕ). l ++ printed_of x.after) (sym (append-nil x.printed)) ∙ prints.whole t p fits (bytes ∷ []) ∙ ap session (append-nil bytes)

-- a session that is over prints nothing more
abbrev over : List ℕ → List ℕ → List ℕ → List ℕ → Session
over text line t p = record { stage = Over; text = text; line = line; tables = t; processes = p }

abbrev Silent : Step → Type 0
Silent x = (x.printed ≡ []) × (x.after.stage ≡ Over)

over-fed : (rest text line t p : List ℕ) → Silent (fed (over text line t p) rest)
unfolding fed silent followed byte_fed line_fed
over-fed [] text line t p = (refl, refl)
over-fed (b ∷ rest) text line t p = pick (λ v l. over-fed rest v l t p) (eqb b 10)
  where
    next : Bool → Step
    next x = cond x (silent (over [] [] t p)) (silent (over text (cut (line ++ (b ∷ []))) t p))

    pick : ((v l : List ℕ) → Silent (fed (over v l t p) rest)) → (x : Bool) → Silent (followed (next x) (fed (next x).after rest))
    pick ih true = ih [] []
    pick ih false = ih text (cut (line ++ (b ∷ [])))

over-on : (rest : List ℕ) (u : Session) → u.stage ≡ Over → Silent (fed u rest)
over-on rest u e =
    subst (λ (g : Stage). Silent (fed (record { stage = g; text = u.text; line = u.line; tables = u.tables; processes = u.processes }) rest)) (sym e)
    (over-fed rest u.text u.line u.tables u.processes)

over-said : (u : Session) → u.stage ≡ Over → printed_of u ≡ []
unfolding finished unsaid
over-said u e = rw e refl

stays_over : (t p : List ℕ) → right_lengths t p ≡ true → (bytes : List ℕ) → (fed (begun t p) bytes).after.stage ≡ Over → IsOver bytes
unfolding followed
stays_over t p fits bytes over rest =
    let x = fed (begun t p) bytes in
    let y = fed x.after rest in
    let on = over-on rest x.after over in
    let both : fed (begun t p) (bytes ++ rest) ≡ followed x y = fed-append bytes rest (begun t p) in
    sym (said_of t p fits (bytes ++ rest))
    ∙ ap (λ (z : Step). z.printed ++ printed_of z.after) both
    ∙ ap (λ (l : List ℕ). (x.printed ++ l) ++ printed_of y.after) on.0
    ∙ ap (λ (l : List ℕ). (x.printed ++ []) ++ l) (over-said y.after on.1)
    ∙ append-nil (x.printed ++ [])
    ∙ ap (λ (l : List ℕ). x.printed ++ l) (sym (over-said x.after over))
    ∙ said_of t p fits bytes

-- what is printed at the end is written, and both runs are left
module _ (t p : List ℕ) (fits : right_lengths t p ≡ true) (r w : Option (List ℕ)) (u : Session) (q v : Option (List ℕ)) (so : SoFar (begun t p) r w u q v) where
  whole : (l z : Option (List ℕ)) (a b : List ℕ) → Consumes q l [] → IsAtEnd l ⊎ IsOver so.bytes → Appends v z (printed_of u)
      → a ≡ (finished u.stage u).tables → b ≡ (finished u.stage u).processes → Whole r w l z a b
  unfolding ended_on parts_fed followed silent joined
  whole l z a b read ended put tables processes =
      let x = fed (begun t p) so.bytes in
      let ends = prints.ends t p fits (so.bytes ∷ []) in
      let all = append-nil so.bytes in
      let there : finished u.stage u ≡ finished x.after.stage x.after = ap (λ (s : Session). finished s.stage s) so.answers.after in
      record {
        input = so.bytes;
        read = subst (λ (i : List ℕ). Consumes r l i) all (consumes_both r q l so.bytes [] so.read read);
        ended = ended;
        written = subst (λ (i : List ℕ). Appends w z i) (ap (λ (s : Session). x.printed ++ printed_of s) so.answers.after ∙ said_of t p fits so.bytes)
            (appends_both w v z x.printed (printed_of u) so.answers.written put);
        tables_end = tables ∙ ap (λ o. o.tables) there ∙ ends.0 ∙ ap (λ (i : List ℕ). Rattle.rows.specs.Layout.words_of (session_end i)) all;
        processes-end = processes ∙ ap (λ o. o.processes) there ∙ ends.1 ∙ ap (λ (i : List ℕ). Rattle.rows.specs.Layout.records_of (session_end i).processes) all;
      }

  -- the input has ended
  pub ended-whole : (l z : Option (List ℕ)) (out a b after : List ℕ) (n : ℕ) → Consumes q l [] → IsAtEnd l → Given (finished u.stage u) out a b after n
      → Appends v z (take n after) → Whole r w l z a b
  ended-whole l z out a b after n read end given put =
      let text = printed_of u in
      let said : Appends v z text = subst (λ (i : List ℕ). Appends v z i) (front_written text out after n (given-writes (finished u.stage u) out a b after n given)) put in
      whole l z a b read (inl end) said given.2 given.3

  -- the session is over
  pub over-whole : u.stage ≡ Over → Whole r w q v u.tables u.processes
  unfolding finished unsaid
  over-whole e =
      let over = stays_over t p fits so.bytes (sym (ap (λ (s : Session). s.stage) so.answers.after) ∙ e) in
      whole q v u.tables u.processes (consumes_none q) (inr over) (rw e (appends_none v)) (rw e refl) (rw e refl)
