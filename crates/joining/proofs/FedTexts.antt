-- Two texts fed byte by byte are joined as the whole input is, however it is cut into parts.
use Prim.Native.Nat.{ℕ, zero, suc, ◌≤◌, ◌<◌}
use native.Mathlib.Omega.{arith}
use mathlib.Core.Bool.{Bool, true, false, not, cond, ◌&&◌}
use mathlib.Core.List.{List, [], ◌∷◌, ◌++◌, map, append-nil}
use mathlib.Core.Path.{◌≡◌, refl, sym, ap, subst, ◌∙◌}
use lib.Dec.{eqb, ltb}
use lib.ListN.{length, get_or, take, drop, take-append-drop}
use lib.Seq.{take_all}
use borrow.Author.Tests.{eqb-true, eqb-false, ltb-true, ltb-false, eq-eqb}
use Rattle.rows.specs.Lists.{all, bytes}
use Rattle.rows.specs.Limits.{most_bytes}
use Rattle.rows.proofs.Bools.{clash, and_l, and_r, and-rf, not_t}
use Rattle.text.specs.declared.Read.{Read}
use Rattle.text.specs.Patterns.{began, bad, passed, itself, piece, pieces, form, whole, most_groups}
use Rattle.text.specs.Opening.{Form, Line, last_line, form_line, bad_line, FirstPass, read_to, stopped_by, lines_of, kept_of_line, cut, entries_from, node_line, process_line, open_line, line_of, form_refusal, first_pass}
use Rattle.text.proofs.PassLaws.{by_line, by-line, form-taken, form-refused}
use Rattle.text.proofs.Lines.{plain, plain_byte, plain-one, line-ends}
use Rattle.text.proofs.KeptLines.{cut-length, line-cut, plain-kept, line-goes-on}
use Rattle.joining.specs.declared.Stage.TheVariants.{First, Second, Over}
use Rattle.joining.specs.declared.Joining.{Joining}
use Rattle.joining.specs.declared.Fed.{Fed}
use Rattle.joining.specs.Joins.{Joined, refused_text, joined_by, after_second, after_first, join_of}
use Rattle.joining.specs.Written.{join_text, join}
use Rattle.joining.specs.Feeding.{Progress, in_first, in_second, both_read, refused_in, after_line, line_fed, joined_at, Texts, begun, byte_fed, fed}
use Rattle.joining.specs.vocabulary.Reading.{Holds, HoldsTexts, ReadsOn}

-- ---- a line without its line feed is bad
no-feed : (l : List ℕ) → plain l ≡ true → (i : ℕ) → i < length l → get_or l i 0 ≡ 10 → ⊥
unfolding plain all
no-feed [] e i h q = omega arith
no-feed (b ∷ l) e zero h q = clash (eq-eqb b 10 q) (not_t (eqb b 10) (and_l (not (eqb b 10)) (plain l) e))
no-feed (b ∷ l) e (suc i) h q = no-feed l (and_r (not (eqb b 10)) (plain l) e) i (omega arith) q

pieces-snoc : (s : List ℕ) (r : Read) (ps : List ℕ) (p : ℕ) → pieces s r (ps ++ (p ∷ [])) ≡ piece s (pieces s r ps) p
unfolding pieces
pieces-snoc s r [] p = refl
pieces-snoc s r (q ∷ ps) p = pieces-snoc s (piece s r q) ps p

feed-missing : (s : List ℕ) → plain s ≡ true → (x : Read) → (piece s x 10).good ≡ false
unfolding piece itself bad passed
feed-missing s e x = pick x.good refl (ltb x.next (length s) && eqb (get_or s x.next 0) 10) refl
  where
    pick : (g : Bool) → x.good ≡ g → (t : Bool) → ltb x.next (length s) && eqb (get_or s x.next 0) 10 ≡ t → (cond (not g) x (cond t (passed x) bad)).good ≡ false
    pick false q t r = q
    pick true q true r =
        absurd (no-feed s e x.next (ltb-true x.next (length s) (and_l (ltb x.next (length s)) (eqb (get_or s x.next 0) 10) r))
        (eqb-true (get_or s x.next 0) 10 (and_r (ltb x.next (length s)) (eqb (get_or s x.next 0) 10) r)))
    pick true q false r = refl

not-whole : (s : List ℕ) → plain s ≡ true → (i : ℕ) (ps : List ℕ) → whole s (pieces s (began i) (ps ++ (10 ∷ []))) ≡ false
unfolding whole
not-whole s e i ps = rw (ap (λ (r : Read). r.good) (pieces-snoc s (began i) ps 10) ∙ feed-missing s e (pieces s (began i) ps)) refl

pub plain-bad : (s : List ℕ) → plain s ≡ true → line_of s ≡ bad_line
unfolding line_of node_line process_line open_line form bytes
plain-bad s e =
    let f = form s 0 "(node #" in
    let g = entries_from most_groups s f.next in
    rw (not-whole s e g.next (41 ∷ []), not-whole s e 0 (40 ∷ 112 ∷ 114 ∷ 111 ∷ 99 ∷ 101 ∷ 115 ∷ 115 ∷ 32 ∷ 35 ∷ 32 ∷ 35 ∷ 41 ∷ []), not-whole s e 0 (40 ∷ 111 ∷ 112 ∷ 101 ∷ 110 ∷ 41 ∷ []), and-rf f.good false refl)
    (pick (ltb (suc most_bytes) (length s)))
  where
    pick : (b : Bool) → cond b bad_line bad_line ≡ bad_line
    pick true = refl
    pick false = refl

-- ---- what is joined if lines follow
unfoldable left : Progress → List (List ℕ) → Joined
left (in_first fs) ls = after_first (first_pass fs (suc (length fs)) ls)
left (in_second fs gs) ls = after_second fs (first_pass gs (suc (length gs)) ls)
left (both_read fs gs) ls = joined_by fs gs
left (refused_in k n) ls = refused_text k n

-- no line follows
left-none : (p : Progress) → left p [] ≡ joined_at p
unfolding left joined_at first_pass after_first after_second
left-none (in_first fs) = refl
left-none (in_second fs gs) = refl
left-none (both_read fs gs) = refl
left-none (refused_in k n) = refl

-- a line more, by what it is, over any text
module _ (go : List Form → Progress) (end : Progress) (fs : List Form) (after : FirstPass → Joined) (ls : List (List ℕ))
    (on-taken : (f : Form) → after (first_pass (f ∷ fs) (suc (suc (length fs))) ls) ≡ left (go (f ∷ fs)) ls)
    (on-last : after (read_to fs ls) ≡ left end ls)
    (on-refused : (k n : ℕ) → after (stopped_by k n) ≡ refused_text k n) where
  by_form : (f : Form) (b : Bool) → eqb (form_refusal fs f) 0 ≡ b
      → after (by_line fs (suc (length fs)) ls (form_line f)) ≡ left (cond b (go (f ∷ fs)) (refused_in (form_refusal fs f) (suc (length fs)))) ls
  unfolding left
  by_form f true e = ap after (form-taken fs (suc (length fs)) ls f (eqb-true (form_refusal fs f) 0 e)) ∙ on-taken f
  by_form f false e = ap after (form-refused fs (suc (length fs)) ls f (eqb-false (form_refusal fs f) 0 e)) ∙ on-refused (form_refusal fs f) (suc (length fs))

  one_line : (l : List ℕ) → after (first_pass fs (suc (length fs)) (l ∷ ls)) ≡ left (after_line go end fs (line_of l)) ls
  unfolding by_line after_line left
  one_line l = ap after (by-line fs (suc (length fs)) l ls) ∙ pick (line_of l)
    where
      pick : (x : Line) → after (by_line fs (suc (length fs)) ls x) ≡ left (after_line go end fs x) ls
      pick last_line = on-last
      pick bad_line = on-refused 2 (suc (length fs))
      pick (form_line f) = by_form f (eqb (form_refusal fs f) 0) refl

left-more : (p : Progress) (l : List ℕ) (ls : List (List ℕ)) → left p (l ∷ ls) ≡ left (line_fed p l) ls
unfolding left line_fed after_first after_second
left-more (in_first fs) l ls = one_line in_first (in_second fs []) fs after_first ls (λ f. refl) refl (λ k n. refl) l
left-more (in_second fs gs) l ls = one_line (in_second fs) (both_read fs gs) gs (after_second fs) ls (λ f. refl) refl (λ k n. refl) l
left-more (both_read fs gs) l ls = refl
left-more (refused_in k n) l ls = refl

-- ---- bytes
-- the line begun has no line feed, and what is kept of it has room
record Under (t : Texts) : Type 0 where
  plain-line : plain t.line ≡ true
  short-line : length t.line ≤ kept_of_line

begun-under : Under begun
unfolding begun plain all kept_of_line
begun-under = record { plain-line = refl; short-line = omega arith }

-- what is joined if the bytes y follow
abbrev left_of : Texts → List ℕ → Joined
left_of t y = left t.progress (map cut (lines_of (t.line ++ y)))

record Does (t : Texts) (b : ℕ) (u : Texts) : Type 0 where
  under : Under u
  same : (y : List ℕ) → left_of u y ≡ left_of t (b ∷ y)

byte-does : (t : Texts) (b : ℕ) → Under t → Does t b (byte_fed t b)
unfolding byte_fed plain all kept_of_line
byte-does t b u = pick (eqb b 10) refl
  where
    line : ℕ → List ℕ
    line c = cut (t.line ++ (c ∷ []))

    Goal : Bool → ℕ → Type 0
    Goal q c = Does t c (cond q (record { progress = line_fed t.progress (cut (t.line ++ (c ∷ []))); line = [] }) (record { progress = t.progress; line = cut (t.line ++ (c ∷ [])) }))

    ended : Goal true 10
    ended =
        record {
          under = record { plain-line = refl; short-line = omega arith };
          same = λ y. sym (ap (λ (ls : List (List ℕ)). left t.progress (map cut ls)) (line-ends t.line y u.plain-line) ∙ left-more t.progress (cut (t.line ++ (10 ∷ []))) (map cut (lines_of y)));
        }

    pick : (q : Bool) → eqb b 10 ≡ q → Goal q b
    pick true e = subst (Goal true) (sym (eqb-true b 10 e)) ended
    pick false e =
        record {
          under = record { plain-line = plain-kept t.line (b ∷ []) u.plain-line (plain_byte b (ap not e)); short-line = cut-length (t.line ++ (b ∷ [])) };
          same = λ y. ap (left t.progress) (line-goes-on t.line y b u.plain-line u.short-line (ap not e));
        }

fed-under : (bs : List ℕ) (t : Texts) → Under t → Under (fed t bs)
unfolding fed
fed-under [] t u = u
fed-under (b ∷ bs) t u = fed-under bs (byte_fed t b) (byte-does t b u).under

fed-left : (bs : List ℕ) (t : Texts) → Under t → (y : List ℕ) → left_of (fed t bs) y ≡ left_of t (bs ++ y)
unfolding fed
fed-left [] t u y = refl
fed-left (b ∷ bs) t u y = fed-left bs (byte_fed t b) (byte-does t b u).under y ∙ (byte-does t b u).same (bs ++ y)

-- ---- the end of the input: a line begun is bad
bad-line : (p : Progress) (l : List ℕ) → line_of l ≡ bad_line → joined_at (line_fed p l) ≡ joined_at p
unfolding line_fed after_line joined_at
bad-line (in_first fs) l e = rw e refl
bad-line (in_second fs gs) l e = rw e refl
bad-line (both_read fs gs) l e = refl
bad-line (refused_in k n) l e = refl

end-left : (t : Texts) → Under t → left_of t [] ≡ joined_at t.progress
unfolding lines_of
end-left t u = ap (λ (l : List ℕ). left t.progress (map cut (lines_of l))) (append-nil t.line) ∙ pick t.line u.plain-line u.short-line
  where
    pick : (l : List ℕ) → plain l ≡ true → length l ≤ kept_of_line → left t.progress (map cut (lines_of l)) ≡ joined_at t.progress
    pick [] e h = left-none t.progress
    pick (b ∷ l) e h =
        ap (λ (ls : List (List ℕ)). left t.progress (map cut ls)) (plain-one (b ∷ l) e (omega arith))
        ∙ left-more t.progress (cut (b ∷ l)) [] ∙ left-none (line_fed t.progress (cut (b ∷ l)))
        ∙ bad-line t.progress (cut (b ∷ l)) (line-cut (b ∷ l) ∙ plain-bad (b ∷ l) e)

-- ---- lines that are cut are read as they are
unfoldable cut-read : FirstPass → FirstPass
cut-read (read_to fs rest) = read_to fs (map cut rest)
cut-read (stopped_by k n) = stopped_by k n

pass-cut : (ls : List (List ℕ)) (fs : List Form) (n : ℕ) → first_pass fs n (map cut ls) ≡ cut-read (first_pass fs n ls)
unfolding first_pass cut-read by_line
pass-cut [] fs n = refl
pass-cut (l ∷ ls) fs n =
    by-line fs n (cut l) (map cut ls) ∙ ap (by_line fs n (map cut ls)) (line-cut l) ∙ pick (line_of l) (λ f. pass-cut ls (f ∷ fs) (suc n)) ∙ ap cut-read (sym (by-line fs n l ls))
  where
    pick : (x : Line) → ((f : Form) → first_pass (f ∷ fs) (suc n) (map cut ls) ≡ cut-read (first_pass (f ∷ fs) (suc n) ls))
        → by_line fs n (map cut ls) x ≡ cut-read (by_line fs n ls x)
    pick last_line ih = refl
    pick bad_line ih = refl
    pick (form_line f) ih = taken (eqb (form_refusal fs f) 0) refl
      where
        taken : (b : Bool) → eqb (form_refusal fs f) 0 ≡ b → by_line fs n (map cut ls) (form_line f) ≡ cut-read (by_line fs n ls (form_line f))
        taken true e =
            let q = eqb-true (form_refusal fs f) 0 e in
            form-taken fs n (map cut ls) f q ∙ ih f ∙ ap cut-read (sym (form-taken fs n ls f q))
        taken false e =
            let q = eqb-false (form_refusal fs f) 0 e in
            form-refused fs n (map cut ls) f q ∙ ap cut-read (sym (form-refused fs n ls f q))

second-cut : (fs : List Form) (x : FirstPass) → after_second fs (cut-read x) ≡ after_second fs x
unfolding after_second cut-read
second-cut fs (read_to gs rest) = refl
second-cut fs (stopped_by k n) = refl

first-cut : (x : FirstPass) → after_first (cut-read x) ≡ after_first x
unfolding after_first cut-read
first-cut (read_to fs rest) = ap (after_second fs) (pass-cut rest [] 1) ∙ second-cut fs (first_pass [] 1 rest)
first-cut (stopped_by k n) = refl

-- ---- all bytes
pub fed-joins : (bs : List ℕ) → joined_at (fed begun bs).progress ≡ join_of (lines_of bs)
unfolding begun left join_of
fed-joins bs =
    sym (end-left (fed begun bs) (fed-under bs begun begun-under)) ∙ fed-left bs begun begun-under [] ∙ ap (λ (l : List ℕ). left_of begun l) (append-nil bs)
    ∙ ap after_first (pass-cut (lines_of bs) [] 1) ∙ first-cut (first_pass [] 1 (lines_of bs))

-- once reading is over, what follows does not matter
pub over-fed : (bs : List ℕ) (t : Texts) (p : Progress) → t.progress ≡ p → ((l : List ℕ) → line_fed p l ≡ p) → (fed t bs).progress ≡ p
unfolding fed byte_fed
over-fed [] t p e stays = e
over-fed (b ∷ bs) t p e stays = over-fed bs (byte_fed t b) p (pick (eqb b 10)) stays
  where
    pick : (q : Bool) → (cond {A = Texts} q (record { progress = line_fed t.progress (cut (t.line ++ (b ∷ []))); line = [] }) (record { progress = t.progress; line = cut (t.line ++ (b ∷ [])) })).progress ≡ p
    pick true = ap (λ (x : Progress). line_fed x (cut (t.line ++ (b ∷ [])))) e ∙ stays (cut (t.line ++ (b ∷ [])))
    pick false = e

pub fed-append : (xs : List ℕ) (t : Texts) (ys : List ℕ) → fed t (xs ++ ys) ≡ fed (fed t xs) ys
unfolding fed
fed-append [] t ys = refl
fed-append (x ∷ xs) t ys = fed-append xs (byte_fed t x) ys

-- ---- as code reads
pub begun-held : (j : Joining) (line a b : List ℕ) → Holds (in_first []) j a b → HoldsTexts begun j 0 line a b
unfolding begun
begun-held j line a b h = record { progress = h; kept = refl; short = omega arith }

module _ (part : List ℕ) (r : Fed) (a b : List ℕ) where
  pub over-stays : (p : Progress) → Holds p r.joining a b → r.joining.stage ≡ Over → (l : List ℕ) → line_fed p l ≡ p
  unfolding Holds line_fed
  over-stays (in_first fs) h e l = absurd (let q : First ≡ Over = sym h.0 ∙ e in let z : ◌≡◌ {A = ℕ} 0 1 = cc in omega arith)
  over-stays (in_second fs gs) h e l = absurd (let q : Second ≡ Over = sym h.0 ∙ e in let z : ◌≡◌ {A = ℕ} 0 1 = cc in omega arith)
  over-stays (both_read fs gs) h e l = refl
  over-stays (refused_in k n) h e l = refl

  -- the bytes of a part that are not read do not matter
  pub read_all : (t : Texts) → ReadsOn part r → Holds (fed t (take r.next part)).progress r.joining a b → (fed t part).progress ≡ (fed t (take r.next part)).progress
  read_all t on h = pick (ltb r.next (length part)) refl
    where
      pick : (q : Bool) → ltb r.next (length part) ≡ q → (fed t part).progress ≡ (fed t (take r.next part)).progress
      pick true e =
          let front = take r.next part in
          let stays = over-stays (fed t front).progress h (on.stops (ltb-true r.next (length part) e)) in
          ap (λ (l : List ℕ). (fed t l).progress) (sym (take-append-drop r.next part)) ∙ ap (λ (u : Texts). u.progress) (fed-append front t (drop r.next part))
          ∙ over-fed (drop r.next part) (fed t front) (fed t front).progress refl stays
      pick false e = ap (λ (l : List ℕ). (fed t l).progress) (sym (take_all r.next part (ltb-false r.next (length part) e)))

  pub text-joined : ReadsOn part r → Holds (fed begun (take r.next part)).progress r.joining a b → join_text (joined_at (fed begun (take r.next part)).progress) ≡ join part
  unfolding join
  text-joined on h = ap join_text (ap joined_at (sym (read_all begun on h)) ∙ fed-joins part)
