-- What `chain` answers is the first chain by the history, and rights never grow along it (rule P31).
use Prim.Native.Nat.{ℕ, ◌/◌, ◌%◌}
use native.Mathlib.Omega.{arith}
use mathlib.Core.Bool.{true, false, ◌&&◌}
use mathlib.Core.List.{List, [], ◌∷◌, ◌++◌}
use mathlib.Core.Path.{◌≡◌, refl, sym, ap, subst, ◌∙◌}
use mathlib.Core.Logic.{◌⊎◌, inl, inr, ⊎_elim, ◌↔◌}
use lib.Dec.{leb, eqb}
use borrow.Author.Tests.{eqb-true, ne_eqb, leb-true, le-leb}
use Rattle.rows.specs.declared.Row.{Row}
use Rattle.rows.specs.Lists.{filter, member, some, nonzero, between}
use Rattle.rows.specs.Limits.{greatest_depth}
use Rattle.rows.specs.Codes.{is_end, is_node, is_copied, is_operation, is_subdirectory, operation, subdirectory, within}
use Rattle.rows.specs.Tables.{State, no_row, row_of, numbers, sources, first_chain}
use Rattle.rows.specs.Sound.{is_opening, is_registered, is_held, is_port_end, is_lent_copy, right_in_range, matches_source, source_of, via_of}
use Rattle.rows.proofs.Bools.{clash, and_l, and_r, and_i, true-or-false, pos-some, some-pos}
use Rattle.rows.proofs.Keyed.{all_first, first-none}
use Rattle.rows.proofs.RowSources.{Shape, opening, registered, held, port-end, lent-copy, shape-sources}
use Rattle.tables.proofs.Sound.{Sound}
use Rattle.tables.proofs.SoundFacts.{row_number, row_below, row-right}
use Rattle.tables.proofs.Standing.{standing-shape, standing-copy, depth_falls}
use Rattle.tables.proofs.FirstChain.{chain-none, chain-step, by-source, chain_length}
use Rattle.calls.specs.declared.Call.{Call}
use Rattle.calls.specs.Answers.{refusal_of}
use Rattle.calls.specs.Rules.{lowest, judge}
use Rattle.calls.specs.Calls.{refusals, refusals_chain, chained_answer, effect, perform, caller_of}
use Rattle.text.specs.declared.Reading.TheVariants.{Asks}
use Rattle.text.specs.CallLines.{reading_of}
use Rattle.text.specs.Answers.{printed}
use Rattle.text.specs.ReadBack.{Answered, answered_by, numbers_in, saying}
use Rattle.text.specs.Entry.{Replied, caller_unlisted, answered, open_entry, call_entry}
use Rattle.text.proofs.AnswersBack.{answer-read}
use Rattle.history.specs.History.{Noted, History}
use Rattle.history.specs.Notes.{nothing_noted, noted_of, noted, first_only}
use Rattle.history.specs.Chains.{IsText, IsNoted, Stands}
use Rattle.history.specs.FirstChains.{Neighbours, first_of, last_of, IsFirstSource, Narrows, FirstChain}
use Rattle.history.specs.Reading.{begun, accepts}
use Rattle.history.specs.Demand3.{state_in}
use Rattle.history.specs.Promises.{Accepted, after_lines, told_by, after_line, rows_lent}
use Rattle.history.proofs.Fit.{rooted, is_empty}
use Rattle.history.proofs.Inv.{Inv, view}
use Rattle.history.proofs.Find.{in-tables, row-stands, row-noted}
use Rattle.history.proofs.Gone.{stands-noted}
use Rattle.history.proofs.FirstChains.{chain-valued, chain-in-range, chain-some, chain_first, numbers-back, row-found-there}
use Rattle.history.proofs.Standing.{stands-chains}
use Rattle.history.proofs.Allowed.{Allowed}
use Rattle.history.proofs.Answered.{read-accepted}
use Rattle.history.proofs.Demand3.{Along, along-lines, along-opening, state-in, answered-as, taken_as}

-- ---- one number more at the end of a list
last_snoc : (ns : List ℕ) (n : ℕ) → last_of (ns ++ (n ∷ [])) ≡ n
unfolding last_of
last_snoc [] n = refl
last_snoc (m ∷ []) n = refl
last_snoc (m ∷ k ∷ ns) n = last_snoc (k ∷ ns) n

neighbours-snoc : (P : ℕ → ℕ → Type 0) (m : ℕ) (ns : List ℕ) (n : ℕ) → Neighbours P (m ∷ ns) → P (last_of (m ∷ ns)) n → Neighbours P ((m ∷ ns) ++ (n ∷ []))
unfolding Neighbours last_of
neighbours-snoc P m [] n h p = (p, tt)
neighbours-snoc P m (k ∷ ns) n h p = (h.0, neighbours-snoc P k ns n h.1 p)

-- a chain that has a row
record Whole (h : History) (rows : List Row) (e : ℕ) (ns : List ℕ) : Type 0 where
  first : ℕ
  rest : List ℕ
  is : ns ≡ first ∷ rest
  text : IsText h first
  sources : Neighbours (IsFirstSource h) (first ∷ rest)
  last : last_of (first ∷ rest) ≡ e
  rights : Neighbours (λ a b. Narrows (row_of rows a) (row_of rows b)) (first ∷ rest)

whole-text : (h : History) (rows : List Row) (e : ℕ) → IsText h e → Whole h rows e (e ∷ [])
unfolding Neighbours last_of
whole-text h rows e t = record { first = e; rest = []; is = refl; text = t; sources = tt; last = refl; rights = tt }

whole-snoc : (h : History) (rows : List Row) (s e : ℕ) (ns : List ℕ) → Whole h rows s ns → IsFirstSource h s e → Narrows (row_of rows s) (row_of rows e)
    → Whole h rows e (ns ++ (e ∷ []))
whole-snoc h rows s e ns w source narrows =
    record {
      first = w.first;
      rest = w.rest ++ (e ∷ []);
      is = ap (λ (l : List ℕ). l ++ (e ∷ [])) w.is;
      text = w.text;
      sources = neighbours-snoc (IsFirstSource h) w.first w.rest e w.sources (subst (λ (k : ℕ). IsFirstSource h k e) (sym w.last) source);
      last = last_snoc (w.first ∷ w.rest) e;
      rights = neighbours-snoc _ w.first w.rest e w.rights (subst (λ (k : ℕ). Narrows (row_of rows k) (row_of rows e)) (sym w.last) narrows);
    }

-- ---- a row and its first source
no-right : (r s : ℕ) → r ≡ 0 → within r s ≡ true
unfolding within
no-right r s z =
    and_i (leb (r % 2) (s % 2)) _ (le-leb (r % 2) (s % 2) (omega arith))
    (and_i (leb (r / 2 % 2) (s / 2 % 2)) _ (le-leb (r / 2 % 2) (s / 2 % 2) (omega arith)) (le-leb (r / 4 % 2) (s / 4 % 2) (omega arith)))

module _ (h : History) (st : State) (i : Inv h st) (s : Sound st) (e : ℕ) (t : member e (numbers st.rows) ≡ true) where
  abbrev row : Row
  row = row_of st.rows e

  -- of a copy its own clause tells it; an end has no right
  copy-narrows : is_end row.kind ≡ false → some row.source ≡ true → Narrows (row_of st.rows row.source) row
  unfolding matches_source
  copy-narrows k h =
      let o = row_of st.rows row.source in
      let pos = some-pos row.source h in
      let none : eqb row.source 0 ≡ false = ne_eqb row.source 0 (λ z. omega arith) in
      let copy : eqb row.kind o.kind && (eqb row.object o.object && (eqb row.operation o.operation && within row.rights o.rights)) ≡ true
      = rw (none, k) at (standing-copy st s.numbers s.rows e t) in
      record {
        rights = search (and_l, and_r);
        names = λ _. (
          eqb-true row.kind o.kind (search and_l),
          eqb-true row.object o.object (search (and_l, and_r)),
          eqb-true row.operation o.operation (search (and_l, and_r)),
        );
      }

  end-narrows : is_end row.kind ≡ true → (o : Row) → Narrows o row
  unfolding right_in_range
  end-narrows k o =
      let none : leb row.rights 0 ≡ true = rw k at (row-right st s.rows e t) in
      let few = leb-true row.rights 0 none in
      record { rights = no-right row.rights o.rights (omega arith); names = λ q. clash k q }

  narrows : some row.source ≡ true → Narrows (row_of st.rows row.source) row
  narrows h = elim (true-or-false (is_end row.kind)) [ inl k ↦ end-narrows k (row_of st.rows row.source) | inr k ↦ copy-narrows k h ]

  as-noted : noted_of h.rows e ≡ view row
  as-noted = row-noted h st i e (row-stands h st i e t)

  first-source : some row.source ≡ true → IsFirstSource h row.source e
  unfolding IsFirstSource view sources nonzero filter first_only
  first-source h = rw (as-noted, h) refl

  -- a row whose first source does not stand is a row of the text
  module _ (none : member row.source (numbers st.rows) ≡ false) where
    no-row : row_of st.rows row.source ≡ no_row
    unfolding row_of numbers
    no-row = first-none (λ r. r.number) no_row st.rows row.source none

    no_source : row.source ≡ 0
    no_source = ⊎_elim (λ z. z) (λ u. clash u none) (shape-sources st.requests row st.rows (standing-shape st s.numbers s.rows e t)).0

    no-via : row.via ≡ 0
    unfolding is_opening is_registered is_held is_port_end is_lent_copy no_row is_node is_copied is_operation is_subdirectory between operation subdirectory
    no-via = pick (standing-shape st s.numbers s.rows e t)
      where
        pick : Shape st.requests row (source_of st.rows row) (via_of st.rows row) → row.via ≡ 0
        pick (opening q) = let v : eqb row.via 0 ≡ true = search (and_l, and_r) in eqb-true row.via 0 v
        pick (registered q) = let v : eqb row.via 0 ≡ true = search (and_l, and_r) in eqb-true row.via 0 v
        pick (held q) = let n : is_node (row_of st.rows row.source).place ≡ true = search (and_l, and_r) in clash n (rw no-row refl)
        pick (port-end q) = let v : eqb row.via 0 ≡ true = search (and_l, and_r) in eqb-true row.via 0 v
        pick (lent-copy q) = let c : is_copied (row_of st.rows row.source).kind ≡ true = search (and_l, and_r) in clash c (rw no-row refl)

    text-row : IsText h e
    unfolding IsText rooted view sources nonzero filter some is_empty IsNoted noted noted_of
    text-row =
        let root : rooted h.text (noted_of h.rows e) ≡ true
        = all_first (λ r. r.number) nothing_noted (rooted h.text) h.rows e i.fit.rows-rooted (stands-noted h i.fit e (row-stands h st i e t)) in
        let own : rooted h.text (view row) ≡ true = subst (λ (r : Noted). rooted h.text r ≡ true) as-noted root in
        rw (no_source, no-via, row_number st.rows e t) at own

-- ---- all rows
module _ (h : History) (st : State) (i : Inv h st) (s : Sound st) where
  whole : (e : ℕ) → member e (numbers st.rows) ≡ true → Whole h st.rows e (first_chain st.rows e)
  whole =
      by-source st s (λ e. member e (numbers st.rows) ≡ true → Whole h st.rows e (first_chain st.rows e)) (λ e n t. clash t n)
      (λ e u older t. at e t older (true-or-false (member (row_of st.rows e).source (numbers st.rows))))
    where
      at : (e : ℕ) → member e (numbers st.rows) ≡ true →
          let from = (row_of st.rows e).source in
          (member from (numbers st.rows) ≡ true → Whole h st.rows from (first_chain st.rows from))
          → (member from (numbers st.rows) ≡ true) ⊎ (member from (numbers st.rows) ≡ false)
          → Whole h st.rows e (first_chain st.rows e)
      at e t older (inl u) =
          let from = (row_of st.rows e).source in
          let there = pos-some from (row_below st s.numbers from u).0 in
          rw (chain-step st s e t)
          (whole-snoc h st.rows from e (first_chain st.rows from) (older u) (first-source h st i s e t there) (narrows h st i s e t there))
      at e t older (inr n) =
          rw (chain-step st s e t, chain-none st.rows (row_of st.rows e).source n) (whole-text h st.rows e (text-row h st i s e t n))

  pub first-chain : (e : ℕ) → member e (numbers st.rows) ≡ true → FirstChain h st.rows e (first_chain st.rows e)
  unfolding first_of greatest_depth
  first-chain e t =
      let (a, b, deep) = depth_falls st s.numbers s.rows e t in
      let w = whole e t in
      let short = chain_length st s e in
      record {
        from-text = rw w.is w.text;
        sources = rw w.is w.sources;
        to_row = rw w.is w.last;
        not-longer = short;
        twelve = omega arith;
        rights = rw w.is w.rights;
      }

-- ---- on words: a line `(chain e)` after any lines
module _ (h : History) (w : Replied) (a : Along h w) (line : List ℕ) (e : ℕ) (r : reading_of line ≡ Asks (Call.Chain e)) where
  abbrev reply : List ℕ
  reply = (call_entry w.tables w.processes line).reply

  abbrev chain : List ℕ
  chain = first_chain a.st.rows e

  module _ (t : member e (numbers a.st.rows) ≡ true) where
    -- nothing refuses it
    chained : (answered a.st (Asks (Call.Chain e))).answer ≡ chained_answer chain
    unfolding answered caller_unlisted caller_of some perform judge lowest refusals refusals_chain effect
    chained = rw (ne_eqb (row_of a.st.rows e).number 0 (λ z. omega (arith, (row_below a.st a.sound.numbers e t).0, row_number a.st.rows e t))) refl

    replied : reply ≡ printed (chained_answer chain)
    replied = answered-as h w a line (Call.Chain e) r ∙ ap printed chained

    pub reply-accepts : accepts reply ≡ true
    reply-accepts =
        ap accepts replied
        ∙ (read-accepted (chained_answer chain) (unfold refusal_of chained_answer in refl) (chain-some a.st a.sound e t) (chain_first a.st a.sound e t)).good

    reply-values : numbers_in (answered_by reply).values ≡ chain
    unfolding saying
    reply-values =
        ap (λ (x : List ℕ). numbers_in (answered_by x).values) replied
        ∙ ap (λ (x : Answered). numbers_in x.values) (answer-read (chained_answer chain) (chain-in-range a.st a.sound e t))
        ∙ ap numbers_in (chain-valued a.st a.sound e t)
        ∙ numbers-back chain

    pub reply-chain : FirstChain h (state_in w).rows e (numbers_in (answered_by reply).values)
    reply-chain = rw (reply-values, state-in w a.reply a.st a.sound a.is) (first-chain h a.st a.inv a.sound e t)

  pub accepted-there : accepts reply ≡ true → member e (numbers a.st.rows) ≡ true
  unfolding Allowed
  accepted-there acc = row-found-there a.st e (taken_as h w a line (Call.Chain e) r acc).allows.row

module _ (t p text : List ℕ) (ok : Accepted t p text) (lines : List (List ℕ)) (line : List ℕ) (e : ℕ) (r : reading_of line ≡ Asks (Call.Chain e)) where
  abbrev w : Replied
  w = after_lines t p text lines

  along : Along (told_by t p text lines) w
  along = along-lines (begun text) (open_entry t p text) (along-opening t p text ok) lines

  pub chain-told : accepts (after_line w line).reply ≡ true → FirstChain (told_by t p text lines) (rows_lent w) e (numbers_in (answered_by (after_line w line).reply).values)
  chain-told acc = reply-chain _ w along line e r (accepted-there _ w along line e r acc)

  pub chain-accepted : (accepts (after_line w line).reply ≡ true) ↔ Stands (told_by t p text lines) e
  chain-accepted =
      let h = told_by t p text lines in
      let i = along.inv in (
        λ acc. (stands-chains h i.fit e).0 (row-stands h along.st i e (accepted-there h w along line e r acc)),
        λ k. reply-accepts h w along line e r (in-tables h along.st i e ∙ (stands-chains h i.fit e).1 k),
      )
