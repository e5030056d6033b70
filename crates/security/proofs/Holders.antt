-- Who has each row, by the history: where the tables have it is where the notes say.
use Prim.Native.Nat.{ℕ}
use mathlib.Core.Bool.{Bool, true, false, cond, ◌&&◌, ◌||◌}
use mathlib.Core.List.{List, [], ◌∷◌, ◌++◌}
use mathlib.Core.Path.{◌≡◌, refl, sym, ap, ◌∙◌, subst}
use lib.Dec.{eqb}
use Rattle.rows.specs.declared.Row.{Row}
use Rattle.rows.specs.declared.Request.{Request}
use Rattle.std.specs.Prelude.{if◌then◌else◌}
use Rattle.rows.specs.Lists.{filter, all, first_with, member, some}
use Rattle.rows.specs.Codes.{is_end, in_clist, with_system}
use Rattle.rows.specs.Tables.{State, no_request, row_of, request_of, lists}
use Rattle.rows.specs.Sound.{requests_rise, is_fetched, same}
use Rattle.rows.proofs.Bools.{clash, false_of, and_l, and_r, and_i, pos-some, eqb-sym}
use Rattle.tables.proofs.Picked.{all_found}
use Rattle.tables.proofs.Sound.{Sound}
use Rattle.tables.proofs.SoundFacts.{same-eq, eq-same}
use Rattle.closing.proofs.Facts.{copy-listed, lists-open, request-number}
use Rattle.text.specs.Opening.{Form}
use Rattle.calls.specs.Answers.{num}
use Rattle.text.specs.Answers.{printed, ok_text}
use Rattle.text.specs.Entry.{Replied, call_on, reply_with, call_entry, open_entry, state_opened}
use Rattle.calls.specs.Calls.{effect}
use Rattle.history.specs.History.{OnLoan, History}
use Rattle.history.specs.Reading.{begun, accepts, note_line, history_after}
use Rattle.history.specs.Demand3.{lent_after, replies_to, InTables}
use Rattle.history.proofs.Inv.{Inv, Lends, view, ends_listed, loans_in}
use Rattle.history.proofs.Find.{row-stands, row-noted}
use Rattle.history.proofs.Loans.{block, end-listed}
use Rattle.history.proofs.Returns.{listed-end}
use Rattle.history.proofs.KeptCalls.{effect-kept}
use Rattle.history.proofs.Kept.{opened-as, call-on-words}
use Rattle.history.proofs.Start.{begun-inv, begun-lends}
use Rattle.history.proofs.Demand3.{step}
use Rattle.security.specs.Sessions.{IsRow, IsOpen, Log, fetcher_of, Session, opened, note_fetch, fetches_after}
use Rattle.security.specs.Places.{home_of, listers, whereabouts, Places, WhereEverythingIs}
use Rattle.security.specs.Holders.{Homes, homed_of, form_homes, forms_in, forms_of, note_homes, reading_homes, line_homes, homes_after, no_loan_of, lent_by, with_fetcher, place_said, WhoHasWhat}
use Rattle.security.proofs.Lines.{Heard, refuses, allows, heard}
use Rattle.security.proofs.Sessions.{session-sound}
use Rattle.security.proofs.Entries.{line-session, state-in}
use Rattle.security.proofs.Effects.{effect_of}
use Rattle.security.proofs.Rows.{request-low}
use Rattle.security.proofs.PlacesKept.{session-held, where-everything-is}
use Rattle.security.proofs.Logged.{Logged, session-logged}
use Rattle.security.proofs.Homes.{home_now, Right, opened-right, session-primes, right_kept, value}

-- ---- the newest loan of an end
block-first : (q n : ℕ) (es : List ℕ) (os : List OnLoan)
    → (first_with (λ o. o.lent) no_loan_of (block q es ++ os) n).request ≡ (if member n es then q else (first_with (λ o. o.lent) no_loan_of os n).request)
unfolding first_with member
block-first q n [] os = refl
block-first q n (e ∷ es) os = rw (eqb-sym n e) (pick (eqb e n) (member n es) (block-first q n es os))
  where
    older : OnLoan
    older = first_with (λ o. o.lent) no_loan_of (block q es ++ os) n

    pick : (a b : Bool) → older.request ≡ (if b then q else (first_with (λ o. o.lent) no_loan_of os n).request)
        → (if a then record { request = q; lent = e } else older).request ≡ (if a || b then q else (first_with (λ o. o.lent) no_loan_of os n).request)
    pick true b ih = refl
    pick false b ih = ih

-- of a request: it has a number, and its mark is what the log says
abbrev told : Log → Request → Bool
told log v = some v.number && same (is_fetched v) (some (fetcher_of log v.number))

module _ (rs : List Row) (n : ℕ) where
  abbrev newest : List Request → ℕ
  newest vs = (first_with (λ o. o.lent) no_loan_of (loans_in rs vs) n).request

  newest-place : (log : Log) (home : ℕ) → is_end (row_of rs n).kind ≡ true → (vs : List Request) → all (told log) vs ≡ true
      → whereabouts log home (listers n vs) ≡ (if some (newest vs) then with_fetcher log (newest vs) else home)
  unfolding listers filter whereabouts loans_in all with_fetcher
  newest-place log home k [] a = unfold first_with no_loan_of some in refl
  newest-place log home k (v ∷ vs) a =
      pick (lists n v) refl (newest-place log home k vs (and_r (told log v) (all (told log) vs) a)) ∙ ap (λ q. if some q then with_fetcher log q else home) (sym found)
    where
      found : newest (v ∷ vs) ≡ (if lists n v then v.number else newest vs)
      found = block-first v.number n (ends_listed rs v) (loans_in rs vs) ∙ ap (λ b. if b then v.number else newest vs) (end-listed rs n k v)

      pick : (b : Bool) → lists n v ≡ b → whereabouts log home (filter (lists n) vs) ≡ (if some (newest vs) then with_fetcher log (newest vs) else home)
          → whereabouts log home (cond b (v ∷ filter (lists n) vs) (filter (lists n) vs))
          ≡ (let q = (if b then v.number else newest vs) in if some q then with_fetcher log q else home)
      pick true l ih =
          let t = and_l (told log v) (all (told log) vs) a in
          let m = eq-same (is_fetched v) (some (fetcher_of log v.number)) (and_r (some v.number) _ t) in
          rw (and_l (some v.number) _ t, m) refl
      pick false l ih = ih

  -- what is no end is on no loan
  none-newest : is_end (row_of rs n).kind ≡ false → (vs : List Request) → newest vs ≡ 0
  unfolding loans_in
  none-newest k [] = unfold first_with no_loan_of in refl
  none-newest k (v ∷ vs) =
      block-first v.number n (ends_listed rs v) (loans_in rs vs)
      ∙ ap (λ b. if b then v.number else newest vs) (false_of (member n (ends_listed rs v)) (λ t. clash (listed-end rs n v t) k))
      ∙ none-newest k vs

-- ---- where the tables have a row
module _ (h : History) (log : Log) (hs : Homes) (st : State) (i : Inv h st) (l : Lends h st) (s : Sound st) (places : Places log st) (marks : Logged log st) (r : Right hs st) where
  all_told : all (told log) st.requests ≡ true
  unfolding requests_rise request_of
  all_told =
      all_found (λ v. v.number) no_request (told log) st.requests s.numbers.requests-rise
      (λ q t. let e : (request_of st.requests q).number ≡ q = request-number st q t in
      and_i _ _ (ap some e ∙ pos-some q (request-low st s q t)) (same-eq _ _ (marks.marks q t ∙ ap (λ k. some (fetcher_of log k)) (sym e))))

  -- q is the request that row n bears, k the newest that has it on loan
  said : ℕ → ℕ → ℕ → ℕ
  said n q k = let m = (if some q then q else k) in if some m then with_fetcher log m else (homed_of hs n).home

  said-so : (n : ℕ) → IsRow st n → place_said h log hs n ≡ said n (row_of st.rows n).request (newest st.rows n st.requests)
  unfolding place_said lent_by said view
  said-so n t =
      ap (λ q. said n q (first_with (λ o. o.lent) no_loan_of h.loans n).request) (ap (λ y. y.request) (row-noted h st i n (row-stands h st i n t)))
      ∙ ap (λ os. said n (row_of st.rows n).request (first_with (λ o. o.lent) no_loan_of os n).request) (sym l.lends)

  copy-place : (n : ℕ) → IsRow st n → some (row_of st.rows n).request ≡ true → (row_of st.rows n).place ≡ with_fetcher log (row_of st.rows n).request
  unfolding with_fetcher
  copy-place n t b =
      let q = (row_of st.rows n).request in
      let o : IsOpen st q = lists-open st n q (copy-listed st s n t b) in
      places.copies n t b
      ∙ ap (λ k. if is_fetched (request_of st.requests q) then in_clist (fetcher_of log k) else with_system) (request-number st q o)
      ∙ ap (λ y. if y then in_clist (fetcher_of log q) else with_system) (marks.marks q o)

  other_place : (n : ℕ) → IsRow st n → some (row_of st.rows n).request ≡ false → (b : Bool) → is_end (row_of st.rows n).kind ≡ b
      → (row_of st.rows n).place ≡ (let k = newest st.rows n st.requests in if some k then with_fetcher log k else (homed_of hs n).home)
  unfolding home_now some
  other_place n t u true k =
      places.ends n t k
      ∙ newest-place st.rows n log (home_of st (row_of st.rows n)) k st.requests all_told
      ∙ ap (λ y. let k = newest st.rows n st.requests in if some k then with_fetcher log k else y)
      (sym (r.homes n t u ∙ ap (λ b. if b then home_of st (row_of st.rows n) else (row_of st.rows n).place) k))
  other_place n t u false k =
      sym (ap (λ m. if some m then with_fetcher log m else (homed_of hs n).home) (none-newest st.rows n k st.requests)
      ∙ r.homes n t u ∙ ap (λ b. if b then home_of st (row_of st.rows n) else (row_of st.rows n).place) k)

  has-what : (n : ℕ) → IsRow st n → (row_of st.rows n).place ≡ place_said h log hs n
  unfolding said
  has-what n t = pick (some (row_of st.rows n).request) refl ∙ sym (said-so n t)
    where
      pick : (b : Bool) → some (row_of st.rows n).request ≡ b → (row_of st.rows n).place ≡ said n (row_of st.rows n).request (newest st.rows n st.requests)
      pick true b = copy-place n t b ∙ (rw (b, b) refl)
      pick false b = other_place n t b (is_end (row_of st.rows n).kind) refl ∙ (rw b refl)

-- ---- a line
module _ (fs : List Form) (h : History) (log : Log) (hs : Homes) (st : State) (i : Inv h st) (x : Session fs log st) (r : Right hs st) (line : List ℕ) where
  line-right : Right (line_homes fs h line (printed (call_on st line).answer) hs) (call_on st line).after
  unfolding line_homes reading_homes accepts
  line-right = pick (heard st s line)
    where
      s : Sound st
      s = session-sound fs log st x

      at : (hs' : Homes) (st' : State) → line_homes fs h line (printed (call_on st line).answer) hs ≡ hs' → (call_on st line).after ≡ st' → Right hs' st'
          → Right (line_homes fs h line (printed (call_on st line).answer) hs) (call_on st line).after
      at hs' st' a b y = subst (λ k. Right k (call_on st line).after) (sym a) (subst (Right hs') (sym b) y)

      pick : Heard st line → Right (line_homes fs h line (printed (call_on st line).answer) hs) (call_on st line).after
      pick (refuses z u) = at hs st (rw z refl) u r
      pick (allows c e z a o g) =
          at (note_homes fs h c (value st c) hs) (effect st c).after (rw (g.good, g.value, e) refl) (ap (λ y. y.after) o)
          (right_kept fs h st i s (session-primes fs log st x) hs r log (session-held fs log st x) (effect st c).after (effect-kept st s c a) c (effect_of st s c a))

-- ---- all lines, on words
record Along (fs : List Form) (h : History) (log : Log) (hs : Homes) (w : Replied) : Type 0 where
  reply : List ℕ
  st : State
  is : w ≡ reply_with reply st
  session : Session fs log st
  inv : Inv h st
  lends : Lends h st
  right : Right hs st

along-call : (fs : List Form) (h : History) (log : Log) (hs : Homes) (w : Replied) → Along fs h log hs w → (line : List ℕ) →
    let w' = call_entry w.tables w.processes line in
    Along fs (note_line h line w'.reply) (note_fetch log line w'.reply) (line_homes fs h line w'.reply hs) w'
unfolding reply_with
along-call fs h log hs w a line =
    let s = session-sound fs log a.st a.session in
    let o = call_on a.st line in
    let q : call_entry w.tables w.processes line ≡ reply_with (printed o.answer) o.after =
    ap (λ x. call_entry x.tables x.processes line) a.is ∙ call-on-words a.reply a.st s line in
    let k = step h a.st s a.inv a.lends line in
    let reply = sym (ap (λ x. x.reply) q) in
    record {
      reply = printed o.answer;
      st = o.after;
      is = q;
      session = subst (λ y. Session fs (note_fetch log line y) o.after) reply (line-session a.st s log line fs a.session);
      inv = subst (λ y. Inv (note_line h line y) o.after) reply k.inv;
      lends = subst (λ y. Lends (note_line h line y) o.after) reply k.lends;
      right = subst (λ y. Right (line_homes fs h line y hs) o.after) reply (line-right fs h log hs a.st a.inv a.session a.right line);
    }

along-lines : (fs : List Form) (h : History) (log : Log) (hs : Homes) (w : Replied) → Along fs h log hs w → (ls : List (List ℕ))
    → Along fs (history_after h ls (replies_to w ls)) (fetches_after log ls (replies_to w ls)) (homes_after fs h hs ls (replies_to w ls)) (lent_after w ls)
unfolding history_after fetches_after homes_after replies_to lent_after
along-lines fs h log hs w a [] = a
along-lines fs h log hs w a (l ∷ ls) =
    let w' = call_entry w.tables w.processes l in
    along-lines fs (note_line h l w'.reply) (note_fetch log l w'.reply) (line_homes fs h l w'.reply hs) w' (along-call fs h log hs w a l) ls

-- ==== who has what
along-opening : (t p text : List ℕ) → accepts (open_entry t p text).reply ≡ true → Along (forms_of text) (begun text) [] (form_homes (forms_of text)) (open_entry t p text)
unfolding forms_of forms_in
along-opening t p text acc =
    let o = opened-as t p text acc in
    subst (λ fs. Along fs (begun text) [] (form_homes fs) (open_entry t p text)) (sym (ap forms_in o.reads))
    (record {
      reply = ok_text (num 0 ∷ []);
      st = state_opened o.forms;
      is = o.is;
      session = opened text o.rest o.reads;
      inv = begun-inv text o.forms o.rest o.reads;
      lends = begun-lends text o.forms o.rest o.reads;
      right = opened-right text o.rest o.forms o.reads;
    })

pub who-has-what : WhoHasWhat
unfolding WhoHasWhat InTables WhereEverythingIs
who-has-what t p text acc lines =
    let opened = open_entry t p text in
    let replies = replies_to opened lines in
    let h = history_after (begun text) lines replies in
    let log = fetches_after [] lines replies in
    let hs = homes_after (forms_of text) (begun text) (form_homes (forms_of text)) lines replies in
    let a : Along (forms_of text) h log hs (lent_after opened lines) = along-lines (forms_of text) (begun text) [] (form_homes (forms_of text)) opened (along-opening t p text acc) lines in
    let x = a.session in
    let s = session-sound (forms_of text) log a.st x in
    subst (λ y. (n : ℕ) → IsRow y n → (row_of y.rows n).place ≡ place_said h log hs n) (sym (state-in (lent_after opened lines) a.reply a.st s a.is))
    (has-what h log hs a.st a.inv a.lends s (where-everything-is (forms_of text) log a.st x) (session-logged (forms_of text) log a.st x) a.right)
