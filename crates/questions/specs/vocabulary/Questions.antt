-- What the questions answer, over the lent words: of every state that the words t represent (and that is sound, where the answer needs it).
use Rattle.std.specs.Prelude.{ℕ, suc, ◌+◌, ◌≤◌, Bool, true, ◌&&◌, List, ◌++◌, ◌≡◌, eqb, length, get_or, drop, if◌then◌else◌}
use Rattle.rows.specs.declared.Row.{Row}
use Rattle.rows.specs.Lists.{some}
use Rattle.rows.specs.Codes.{is_client}
use Rattle.rows.specs.Tables.{State, row_of, reaches, bears, lent_itself, on_loan, comes_from, is_lent, first_chain}
use Rattle.rows.specs.Sound.{sound}
use Rattle.rows.specs.vocabulary.Sizes.{SOURCE, VIA}
use Rattle.rows.specs.vocabulary.Represents.{Represents}
use Rattle.rows.specs.Layout.{row_slot}

-- the row numbered n is in slot i
abbrev pub RowAt : ℕ → ℕ → State → Type 0
RowAt i n st = row_slot st.rows n ≡ suc i

-- its depth is d at most
abbrev pub DepthWithin : ℕ → ℕ → State → Type 0
DepthWithin d n st = (row_of st.rows n).depth ≤ d

-- ---- the questions that other crates ask
-- r says whether an open request lists the end e
abbrev pub OnLoan : List ℕ → ℕ → Bool → Type 0
OnLoan t e r = (st : State) → Represents t st → some e ≡ true → r ≡ on_loan st.requests e

-- r says whether the row in slot i comes from request q
abbrev pub Comes : List ℕ → ℕ → ℕ → Bool → Type 0
Comes t i q r = (st : State) (n : ℕ) → sound st ≡ true → Represents t st → RowAt i n st → some q ≡ true → r ≡ comes_from st.rows q n

-- r says whether the row in slot i is lent
abbrev pub Lent : List ℕ → ℕ → Bool → Type 0
Lent t i r = (st : State) (n : ℕ) → sound st ≡ true → Represents t st → RowAt i n st → r ≡ is_lent st n

-- ---- how they are answered
-- neither source word of slot i names a row
abbrev pub sourceless : List ℕ → ℕ → Bool
sourceless t i = eqb (get_or t (SOURCE + i) 0) 0 && eqb (get_or t (VIA + i) 0) 0

-- what a question asks of a row itself: for a request's number, whether it bears it; for 0, whether it is lent itself
unfoldable pub touches : State → ℕ → Row → Bool
touches st q r = if some q then bears q r else lent_itself st.requests r

-- r is that of the row in slot i
unfoldable pub Touched : List ℕ → ℕ → ℕ → Bool → Type 0
Touched t i q r = (st : State) (n : ℕ) → Represents t st → RowAt i n st → r ≡ touches st q (row_of st.rows n)

-- r says whether the row at a source word s (its slot plus 1, 0 for none), of depth d at most, or a row that it comes from, is touched
unfoldable pub Reaches : List ℕ → ℕ → ℕ → ℕ → Bool → Type 0
Reaches t s q d r =
    (st : State) (n : ℕ) → sound st ≡ true → Represents t st → row_slot st.rows n ≡ s → DepthWithin d n st
    → r ≡ reaches (touches st q) st.rows n

-- the same of the second source of the row in slot i, which is of depth d at most
unfoldable pub ViaReaches : List ℕ → ℕ → ℕ → ℕ → Bool → Type 0
ViaReaches t i q d r =
    (st : State) (n : ℕ) → sound st ≡ true → Represents t st → RowAt i n st → DepthWithin d n st
    → r ≡ reaches (touches st q) st.rows (row_of st.rows n).via

-- the same of a port, by its client end
unfoldable pub PortReaches : List ℕ → ℕ → ℕ → ℕ → Bool → Type 0
PortReaches t c q d r =
    (st : State) (n : ℕ) → sound st ≡ true → Represents t st → row_slot st.rows n ≡ c → DepthWithin d n st
    → is_client (row_of st.rows n).kind ≡ true → r ≡ reaches (touches st q) st.rows n

-- ---- the first chain
-- ns stands in front of the words that were there, and r is how many numbers it has
abbrev pub Written : List ℕ → List ℕ → List ℕ → ℕ → Type 0
Written ns before after r = (after ≡ ns ++ drop (length ns) before) × (r ≡ length ns)

-- the first chain of the row at a source word s, of depth d at most, is written
unfoldable pub WritesChain : List ℕ → ℕ → ℕ → List ℕ → List ℕ → ℕ → Type 0
WritesChain t s d before after r =
    (st : State) (e : ℕ) → sound st ≡ true → Represents t st → row_slot st.rows e ≡ s → DepthWithin d e st
    → Written (first_chain st.rows e) before after r
