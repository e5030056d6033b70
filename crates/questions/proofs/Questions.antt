-- The questions that go back along the sources: what a row's words say of it, one step back on sound tables, and the depth that falls.
use Prim.Native.Nat.{ℕ, zero, suc, ◌+◌, ◌-◌, ◌<◌, ◌≤◌, zero-le, suc-le-suc}
use mathlib.Core.Bool.{Bool, true, false, ◌&&◌, ◌||◌}
use mathlib.Core.List.{List, [], ◌∷◌}
use mathlib.Core.Path.{◌≡◌, refl, ap, sym, ◌∙◌}
use native.Mathlib.Numerals.{add-one}
use native.Mathlib.Omega.{arith}
use borrow.Author.Tests.{eqb-true, eq-eqb, ne_eqb}
use lib.Dec.{eqb}
use lib.ListN.{get_or}
use Rattle.rows.specs.declared.Row.{Row}
use Rattle.rows.specs.Lists.{filter, any, member, some, nonzero}
use Rattle.rows.specs.Codes.{operation, subdirectory, client_end, is_operation, is_subdirectory, is_client, is_end, is_copied}
use Rattle.rows.specs.Tables.{State, row_of, numbers, sources, reaches, marked, bears, comes_from, on_loan, lent_itself, is_lent}
use Rattle.rows.specs.Sound.{rows_rise, sound, is_opening, is_registered, is_held, is_port_end, is_lent_copy, source_of, via_of}
use Rattle.rows.specs.vocabulary.Sizes.{ROWS, SOURCE, VIA, REQUEST}
use Rattle.rows.specs.vocabulary.Represents.{Represents}
use Rattle.rows.specs.Layout.{row_slot}
use Rattle.questions.specs.vocabulary.Questions.{RowAt, DepthWithin, OnLoan, sourceless, touches, Touched, Reaches, ViaReaches, PortReaches}
use Rattle.rows.proofs.Bools.{false_of, clash, and_l, and_r, or_r, or-false, some-pos, pos-some, any-eq}
use Rattle.rows.proofs.Keyed.{rises-range}
use Rattle.tables.proofs.Sound.{Sound, sound-open}
use Rattle.rows.proofs.RowSources.{Shape, opening, registered, held, port-end, lent-copy}
use Rattle.tables.proofs.Marking.{marked-stands, marked-reaches, marked-closed}
use Rattle.tables.proofs.Standing.{standing-shape, sources-older, depth_falls}
use Rattle.rows.proofs.Slots.{slot-le, slot-there, represented-well, row-found, row-words, source-of, via-of}

-- where the numbers and the kinds start
abbrev pub NUMBER : ℕ
NUMBER = 0

abbrev KIND : ℕ
KIND = ROWS

-- ---- what is asked of the row in slot i, in its words
module _ (t : List ℕ) (i q : ℕ) where
  pub touched-bears : (q ≡ 0 → ⊥) → Touched t i q (eqb (get_or t (REQUEST + i) 0) q)
  unfolding Touched touches bears
  touched-bears h st n rep e = rw (pos-some q (omega arith), (row-words rep n i e).request) refl

  -- lent itself, where q is 0
  lent-itself : (r : Bool) → q ≡ 0 → ((st : State) (n : ℕ) → Represents t st → RowAt i n st → r ≡ lent_itself st.requests (row_of st.rows n))
      → Touched t i q r
  unfolding Touched touches some
  lent-itself r z h st n rep e = rw z (h st n rep e)

  pub touched-bearing : q ≡ 0 → (get_or t (REQUEST + i) 0 ≡ 0 → ⊥) → Touched t i q true
  unfolding lent_itself
  touched-bearing z h =
      lent-itself true z
      (λ st n rep e.
      let r = row_of st.rows n in
      let w = (row-words rep n i e).request in
      sym (or_r (is_end r.kind && on_loan st.requests r.number) (some r.request) (pos-some r.request (omega arith))))

  -- not bearing a request: an end on loan
  no-request : (r : Bool) → q ≡ 0 → get_or t (REQUEST + i) 0 ≡ 0
      → ((st : State) (n : ℕ) → Represents t st → RowAt i n st
      → r ≡ is_end (get_or t (KIND + i) 0) && on_loan st.requests (row_of st.rows n).number)
      → Touched t i q r
  unfolding lent_itself some
  no-request r z h d =
      lent-itself r z
      (λ st n rep e.
      let w = row-words rep n i e in
      let none : (row_of st.rows n).request ≡ 0 = sym w.request ∙ h in
      rw (none, ← w.kind) (d st n rep e ∙ sym (or-false (is_end (get_or t (KIND + i) 0) && on_loan st.requests (row_of st.rows n).number))))

  pub touched-loan : (r : Bool) → q ≡ 0 → get_or t (REQUEST + i) 0 ≡ 0 → is_end (get_or t (KIND + i) 0) ≡ true
      → OnLoan t (get_or t (NUMBER + i) 0) r → Touched t i q r
  unfolding numbers
  touched-loan r z h k d =
      no-request r z h
      (λ st n rep e.
      let (there, own, lt) = row-found st.rows n i e in
      let pos = (rises-range (λ r. r.number) st.rows (represented-well rep).rows-rise n there).0 in
      let number : get_or t (NUMBER + i) 0 ≡ (row_of st.rows n).number
      = ap (λ (j : ℕ). get_or t j 0) (omega arith) ∙ (row-words rep n i e).number in
      rw k (d st rep (pos-some (get_or t (NUMBER + i) 0) (omega arith)) ∙ ap (on_loan st.requests) number))

  pub touched-other : q ≡ 0 → get_or t (REQUEST + i) 0 ≡ 0 → is_end (get_or t (KIND + i) 0) ≡ false → Touched t i q false
  touched-other z h k = no-request false z h (λ st n rep e. rw k refl)

-- ---- one step back
zero-some : some 0 ≡ false
unfolding some
zero-some = refl

any-nonzero : (P : ℕ → Bool) → P 0 ≡ false → (a : ℕ) (ns : List ℕ) → any P (nonzero (a ∷ ns)) ≡ P a || any P (nonzero ns)
unfolding any nonzero filter
any-nonzero P z zero ns = rw (zero-some, z) refl
any-nonzero P z (suc a) ns = rw (pos-some (suc a) (suc-le-suc zero-le)) refl

any-sources : (P : ℕ → Bool) → P 0 ≡ false → (r : Row) → any P (sources r) ≡ P r.source || P r.via
unfolding sources any nonzero filter
any-sources P z r =
    any-nonzero P z r.source (r.via ∷ [])
    ∙ ap (λ (b : Bool). P r.source || b) (any-nonzero P z r.via [] ∙ or-false (P r.via))

-- an end is no copy
no_copy : (k : ℕ) → is_client k ≡ true → is_copied k ≡ true → ⊥
unfolding is_client is_copied is_operation is_subdirectory client_end operation subdirectory
no_copy k e c = let z = eqb-true k 3 e in clash c (rw z refl)

module _ (st : State) (s : Sound st) where
  -- a row that is not there is not reached
  pub reaches-none : (f : Row → Bool) (n : ℕ) → member n (numbers st.rows) ≡ false → reaches f st.rows n ≡ false
  unfolding rows_rise
  reaches-none f n h =
      false_of (reaches f st.rows n) (λ e. clash (marked-stands f st.rows n (marked-reaches f st.rows s.numbers.rows-rise n ∙ e)) h)

  zero-none : member 0 (numbers st.rows) ≡ false
  unfolding rows_rise numbers
  zero-none =
      false_of (member 0 (numbers st.rows)) (λ e. let (lo, hi) = rises-range (λ r. r.number) st.rows s.numbers.rows-rise 0 e in omega arith)

  reaches-zero : (f : Row → Bool) → reaches f st.rows 0 ≡ false
  reaches-zero f = reaches-none f 0 zero-none

  -- a row is reached if it passes or one of its sources is reached
  pub reaches_step : (f : Row → Bool) (n : ℕ) → member n (numbers st.rows) ≡ true
      → reaches f st.rows n
      ≡ f (row_of st.rows n) || (reaches f st.rows (row_of st.rows n).source || reaches f st.rows (row_of st.rows n).via)
  unfolding rows_rise
  reaches_step f n h =
      let rs = st.rows in
      let r = row_of rs n in
      sym (marked-reaches f rs s.numbers.rows-rise n)
      ∙ marked-closed f rs s.numbers.rows-rise (sources-older st s.numbers s.rows) n h
      ∙ ap (λ (b : Bool). f r || b)
      (any-eq (λ m. member m (marked f rs)) (λ m. reaches f rs m) (marked-reaches f rs s.numbers.rows-rise) (sources r)
      ∙ any-sources (λ m. reaches f rs m) (reaches-zero f) r)

  module _ (n : ℕ) (t : member n (numbers st.rows) ≡ true) where
    -- a client end has one source, its operation row
    pub client-via : is_client (row_of st.rows n).kind ≡ true → (row_of st.rows n).via ≡ 0
    unfolding is_opening is_registered is_held is_port_end is_lent_copy
    client-via k = pick (standing-shape st s.numbers s.rows n t)
      where
        r : Row
        r = row_of st.rows n

        pick : Shape st.requests r (source_of st.rows r) (via_of st.rows r) → r.via ≡ 0
        pick (opening e) = let c : is_copied r.kind ≡ true = search (and_l, and_r) in absurd (no_copy r.kind k c)
        pick (registered e) = let c : is_copied r.kind ≡ true = search (and_l, and_r) in absurd (no_copy r.kind k c)
        pick (held e) = let c : is_copied r.kind ≡ true = search (and_l, and_r) in absurd (no_copy r.kind k c)
        pick (port-end e) = let z : eqb r.via 0 ≡ true = search (and_l, and_r) in eqb-true r.via 0 z
        pick (lent-copy e) = let c : is_copied r.kind ≡ true = search (and_l, and_r) in absurd (no_copy r.kind k c)

    -- what bears a request is a copy, with the port it was lent over under it
    pub copy-port : ((row_of st.rows n).request ≡ 0 → ⊥) → is_client (row_of st.rows (row_of st.rows n).via).kind ≡ true
    unfolding is_opening is_registered is_held is_port_end is_lent_copy
    copy-port h = pick (standing-shape st s.numbers s.rows n t)
      where
        r : Row
        r = row_of st.rows n

        none : eqb r.request 0 ≡ true → is_client (row_of st.rows r.via).kind ≡ true
        none z = absurd (h (eqb-true r.request 0 z))

        pick : Shape st.requests r (source_of st.rows r) (via_of st.rows r) → is_client (row_of st.rows r.via).kind ≡ true
        pick (opening e) = let z : eqb r.request 0 ≡ true = search (and_l, and_r) in none z
        pick (registered e) = let z : eqb r.request 0 ≡ true = search (and_l, and_r) in none z
        pick (held e) = let z : eqb r.request 0 ≡ true = search (and_l, and_r) in none z
        pick (port-end e) = let z : eqb r.request 0 ≡ true = search (and_l, and_r) in none z
        pick (lent-copy e) = search (and_l, and_r)

-- ---- a step of the questions over the words: the row at source word s, in slot i
module _ (t : List ℕ) (s d : ℕ) where
  -- no row, or none so near
  pub not_there : (0 < d → 0 < s → s ≤ ROWS → ⊥) → (st : State) (n : ℕ) → sound st ≡ true → Represents t st → row_slot st.rows n ≡ s → DepthWithin d n st
      → member n (numbers st.rows) ≡ false
  unfolding row_slot numbers
  not_there h st n so rep e deep =
      false_of (member n (numbers st.rows))
      (λ there.
      let whole = sound-open st so in
      let (a, b, c) = depth_falls st whole.numbers whole.rows n there in
      let first = slot-there (λ r. r.number) st.rows n there in
      let last = slot-le (λ r. r.number) st.rows n in
      let fit = (represented-well rep).rows-fit in
      h (omega arith) (omega arith) (omega arith))

module _ (t : List ℕ) (s q d : ℕ) where
  pub question-none : (0 < d → 0 < s → s ≤ ROWS → ⊥) → Reaches t s q d false
  unfolding Reaches
  question-none h st n so rep e deep = sym (reaches-none st (sound-open st so) (touches st q) n (not_there t s d h st n so rep e deep))

  pub row-port : (r : Bool) → Reaches t s q d r → PortReaches t s q d r
  unfolding Reaches PortReaches
  row-port r h st n so rep e deep client = h st n so rep e deep

module _ (t : List ℕ) (i q d : ℕ) where
  -- the row itself
  module _ (st : State) (n : ℕ) (so : sound st ≡ true) (rep : Represents t st) (e : RowAt i n st) (deep : DepthWithin d n st) where
    whole : Sound st
    whole = sound-open st so

    there : member n (numbers st.rows) ≡ true
    there = (row-found st.rows n i e).0

    step : reaches (touches st q) st.rows n
        ≡ touches st q (row_of st.rows n)
        || (reaches (touches st q) st.rows (row_of st.rows n).source || reaches (touches st q) st.rows (row_of st.rows n).via)
    step = reaches_step st whole (touches st q) n there

    itself : (r : Bool) → Touched t i q r → r ≡ touches st q (row_of st.rows n)
    unfolding Touched
    itself r h = h st n rep e

    source : (r : Bool) → Reaches t (get_or t (SOURCE + i) 0) q (d - 1) r → r ≡ reaches (touches st q) st.rows (row_of st.rows n).source
    unfolding Reaches
    source r h =
        let (a, b, c) = depth_falls st whole.numbers whole.rows n there in
        h st (row_of st.rows n).source so rep
        (sym ((row-words rep n i e).source ∙ (source-of st (represented-well rep) n i e).0)) (omega arith)

    via : (r : Bool) → ViaReaches t i q d r → r ≡ reaches (touches st q) st.rows (row_of st.rows n).via
    unfolding ViaReaches
    via r h = h st n so rep e deep

    via-slot : row_slot st.rows (row_of st.rows n).via ≡ get_or t (VIA + i) 0
    via-slot = sym ((row-words rep n i e).via ∙ (via-of st (represented-well rep) n i e).0)

  -- the second source: none, a row, a port under a copy
  pub via-row : (r : Bool) → Reaches t (get_or t (VIA + i) 0) q (d - 1) r → ViaReaches t i q d r
  unfolding Reaches ViaReaches
  via-row r h st n so rep e deep =
      let (a, b, c) = depth_falls st (whole st n so rep e deep).numbers (whole st n so rep e deep).rows n (there st n so rep e deep) in
      h st (row_of st.rows n).via so rep (via-slot st n so rep e deep) (omega arith)

  pub via-none : get_or t (VIA + i) 0 ≡ 0 → ViaReaches t i q d false
  via-none z = via-row false (question-none t (get_or t (VIA + i) 0) q (d - 1) (λ x y w. omega arith))

  pub via-port : (get_or t (REQUEST + i) 0 ≡ 0 → ⊥) → (r : Bool) → PortReaches t (get_or t (VIA + i) 0) q (d - 1) r → ViaReaches t i q d r
  unfolding PortReaches ViaReaches
  via-port bears r h st n so rep e deep =
      let (a, b, c) = depth_falls st (whole st n so rep e deep).numbers (whole st n so rep e deep).rows n (there st n so rep e deep) in
      h st (row_of st.rows n).via so rep (via-slot st n so rep e deep) (omega arith)
      (copy-port st (whole st n so rep e deep) n (there st n so rep e deep) (λ z. bears ((row-words rep n i e).request ∙ z)))

  module _ (s : ℕ) (at : s ≡ suc i) where
    pub question-touched : Touched t i q true → Reaches t s q d true
    unfolding Reaches
    question-touched h st n so rep e deep = sym (step st n so rep (e ∙ at) deep ∙ rw (← itself st n so rep (e ∙ at) deep true h) refl)

    pub question-via : Touched t i q false → ViaReaches t i q d true → Reaches t s q d true
    unfolding Reaches
    question-via h g st n so rep e deep =
        sym
        (step st n so rep (e ∙ at) deep
        ∙ rw (← itself st n so rep (e ∙ at) deep false h, ← via st n so rep (e ∙ at) deep true g)
        (or_r (reaches (touches st q) st.rows (row_of st.rows n).source) true refl))

    -- the first source decides
    pub question-source : Touched t i q false → ViaReaches t i q d false
        → (r : Bool) → Reaches t (get_or t (SOURCE + i) 0) q (d - 1) r → Reaches t s q d r
    unfolding Reaches
    question-source h g r k st n so rep e deep =
        sym
        (step st n so rep (e ∙ at) deep
        ∙ rw (← itself st n so rep (e ∙ at) deep false h, ← via st n so rep (e ∙ at) deep false g)
        (or-false (reaches (touches st q) st.rows (row_of st.rows n).source) ∙ sym (source st n so rep (e ∙ at) deep r k)))

    -- a row that has no source answers itself
    pub question-alone : sourceless t i ≡ true → (r : Bool) → Touched t i q r → Reaches t s q d r
    question-alone z true h = question-touched h
    question-alone z false h =
        let no_source = eqb-true (get_or t (SOURCE + i) 0) 0 (and_l (eqb (get_or t (SOURCE + i) 0) 0) (eqb (get_or t (VIA + i) 0) 0) z) in
        let no-via = eqb-true (get_or t (VIA + i) 0) 0 (and_r (eqb (get_or t (SOURCE + i) 0) 0) (eqb (get_or t (VIA + i) 0) 0) z) in
        question-source h (via-none no-via) false (question-none t (get_or t (SOURCE + i) 0) q (d - 1) (λ x y w. omega arith))

    pub port-source : Touched t i q false → (r : Bool) → Reaches t (get_or t (SOURCE + i) 0) q (d - 1) r → PortReaches t s q d r
    unfolding PortReaches
    port-source h r g st n so rep e deep client =
        sym
        (step st n so rep (e ∙ at) deep
        ∙ rw (
          ← itself st n so rep (e ∙ at) deep false h,
          client-via st (whole st n so rep (e ∙ at) deep) n (there st n so rep (e ∙ at) deep) client,
          reaches-zero st (whole st n so rep (e ∙ at) deep) (touches st q),
        )
        (or-false (reaches (touches st q) st.rows (row_of st.rows n).source) ∙ sym (source st n so rep (e ∙ at) deep r g)))

-- ---- the two questions
module _ (t : List ℕ) (e : ℕ) (st : State) (n : ℕ) (so : sound st ≡ true) (rep : Represents t st) (at : RowAt e n st) where
  -- twelve steps suffice
  asked : (r : Bool) (q : ℕ) → Reaches t (e + 1) q 12 r → r ≡ reaches (touches st q) st.rows n
  unfolding Reaches
  asked r q h = h st n so rep (at ∙ sym (add-one e)) (depth_falls st (sound-open st so).numbers (sound-open st so).rows n (row-found st.rows n e at).0).2

  module _ (q : ℕ) (pos : some q ≡ true) where
    pub comes-answer : (r : Bool) → Reaches t (e + 1) q 12 r → r ≡ comes_from st.rows q n
    unfolding comes_from touches
    comes-answer r h = asked r q h ∙ ap (λ (f : Row → Bool). reaches f st.rows n) (λ i x. bears-only x i)
      where
        bears-only : (x : Row) → touches st q x ≡ bears q x
        bears-only x = rw pos refl

    bearing : (r : Bool) → eqb (get_or t (REQUEST + e) 0) q ≡ r → Touched t e q r
    bearing r h = rw h at (touched-bears t e q (λ z. let p : 0 < q = some-pos q pos in omega arith))

    -- a row that bears the request itself
    pub comes-bearing : get_or t (REQUEST + e) 0 ≡ q → true ≡ comes_from st.rows q n
    comes-bearing h = comes-answer true (question-touched t e q 12 (e + 1) (add-one e) (bearing true (eq-eqb (get_or t (REQUEST + e) 0) q h)))

    -- a row that has no source and bears another or none
    pub comes-first : (get_or t (REQUEST + e) 0 ≡ q → ⊥) → sourceless t e ≡ true → false ≡ comes_from st.rows q n
    comes-first h z = comes-answer false (question-alone t e q 12 (e + 1) (add-one e) z false (bearing false (ne_eqb (get_or t (REQUEST + e) 0) q h)))

  pub lent-answer : (r : Bool) → Reaches t (e + 1) 0 12 r → r ≡ is_lent st n
  unfolding is_lent touches some
  lent-answer r h = asked r 0 h

  pub lent-first : sourceless t e ≡ true → (r : Bool) → Touched t e 0 r → r ≡ is_lent st n
  lent-first z r h = lent-answer r (question-alone t e 0 12 (e + 1) (add-one e) z r h)
