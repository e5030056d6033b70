-- A sound state is represented by words and is read back from them; sound words are those of the state that is read from them.
use Prim.Native.Nat.{ℕ, ◌*◌, ◌≤◌}
use mathlib.Core.Bool.{true, ◌&&◌}
use mathlib.Core.List.{List}
use mathlib.Core.Path.{◌≡◌, refl, ap, ◌∙◌}
use borrow.Author.Tests.{eqb-true, eq-eqb, leb-true}
use lib.Dec.{eqb}
use lib.ListN.{length}
use Rattle.rows.specs.Lists.{same_list, each}
use Rattle.rows.specs.Limits.{processes, row_slots, request_slots}
use Rattle.rows.specs.Tables.{State}
use Rattle.rows.specs.Sound.{rows_rise, requests_rise, rows_fit, requests_fit, records_fit, sources_right, items_few, sourced}
use Rattle.rows.specs.Layout.{tables_length, processes_length, words_of, records_of, rows_in, requests_in, rows_to, requests_to, state_of, right_lengths, sound_words}
use Rattle.rows.specs.vocabulary.Represents.{laid_well, Represents}
use Rattle.rows.proofs.Bools.{and_l, and_r}
use Rattle.tables.proofs.Sound.{Sound, sound-close}
use Rattle.tables.proofs.Standing.{sources-older}
use Rattle.rows.proofs.LayoutColumns.{same-list, list_same}
use Rattle.rows.proofs.LayoutRows.{rows_back}
use Rattle.rows.proofs.LayoutRequests.{requests-back, records-back, length-records, records-words}
use Rattle.rows.proofs.RepresentedWords.{long-words, row_at, request-at, next-at, rows-in, requests-in}

pub sound-represents : (st : State) → Sound st → Represents (words_of st) st
unfolding laid_well
sound-represents st s =
    record { well = rw (s.numbers.rows-rise, s.numbers.requests-rise, s.numbers.rows-fit, s.numbers.requests-fit, s.loans.items-few) (sources-older st s.numbers s.rows); words = refl }

module _ (st : State) (s : Sound st) where
  few-rows : length st.rows ≤ row_slots
  unfolding rows_fit
  few-rows = leb-true (length st.rows) row_slots s.numbers.rows-fit

  few-requests : length st.requests ≤ request_slots
  unfolding requests_fit
  few-requests = leb-true (length st.requests) request_slots s.numbers.requests-fit

  long-processes : length (records_of st.processes) ≡ processes_length
  unfolding records_fit processes_length
  long-processes = length-records st.processes ∙ ap (λ (n : ℕ). 3 * n) (eqb-true (length st.processes) processes s.placed.records-fit)

  -- ---- read back
  rows-read : rows_to (words_of st) (rows_in (words_of st)) (rows_in (words_of st)) ≡ st.rows
  unfolding rows_rise sources_right each sourced
  rows-read =
      rw (rows-in st few-rows few-requests s.numbers.rows-rise)
      (rows_back (words_of st) st.rows few-rows (row_at st few-rows few-requests) st.requests s.numbers.rows-rise s.rows.sources-right)

  requests-read : requests_to (words_of st) (requests_in (words_of st)) ≡ st.requests
  unfolding requests_rise items_few
  requests-read =
      rw (requests-in st few-rows few-requests s.numbers.requests-rise) (requests-back (words_of st) st.requests few-requests (request-at st few-rows few-requests) s.loans.items-few)

  pub state-words : state_of (words_of st) (records_of st.processes) ≡ st
  unfolding state_of
  state-words = λ j. record { rows = rows-read j; requests = requests-read j; processes = records-back st.processes j; next = next-at st few-rows few-requests j }

  pub sound-words : sound_words (words_of st) (records_of st.processes) ≡ true
  unfolding sound_words right_lengths
  sound-words =
      rw (state-words, list_same (words_of st), sound-close st s)
      (rw (eq-eqb (length (words_of st)) tables_length (long-words st few-rows few-requests), eq-eqb (length (records_of st.processes)) processes_length long-processes) refl)

pub words-state : (t p : List ℕ) → sound_words t p ≡ true → (words_of (state_of t p) ≡ t) × (records_of (state_of t p).processes ≡ p)
unfolding sound_words right_lengths state_of processes_length
words-state t p e =
    let lengths : eqb (length t) tables_length && eqb (length p) (3 * processes) ≡ true = search and_l in
    let same : same_list (words_of (state_of t p)) t ≡ true = search (and_l, and_r) in
    (same-list (words_of (state_of t p)) t same, records-words processes p (eqb-true (length p) (3 * processes) (and_r (eqb (length t) tables_length) (eqb (length p) (3 * processes)) lengths)))
