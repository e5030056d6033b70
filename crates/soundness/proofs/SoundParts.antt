-- Soundness as the code tests it: first that the words are laid, then the clauses group by group.
use Prim.Native.Nat.{ℕ}
use mathlib.Core.Bool.{Bool, true, false, not, ◌&&◌}
use mathlib.Core.List.{List}
use mathlib.Core.Path.{◌≡◌, refl, ap, sym, subst, ◌∙◌}
use borrow.Author.Tests.{eq-eqb, ne_eqb}
use lib.ListN.{length}
use Rattle.rows.specs.Lists.{each, same_list}
use Rattle.rows.specs.Limits.{processes, row_slots, request_slots}
use Rattle.rows.specs.Tables.{State}
use Rattle.rows.specs.Sound.{rows_rise, requests_rise, numbers_apart, below_next, next_in_range, rows_fit, requests_fit, records_fit, objects_in_range, rights_in_range, places_in_range, fetched_in_range, sources_right, depths_right, copies_match, records_in_range, ends_paired, ports_stand, requesters_listed, items_few, items_apart, items_lent, one_per_port, copies_listed, older_fetched, system_holds, processes_placed, sound}
use Rattle.rows.specs.Layout.{row_columns, request_columns, requests_at, next_at, tables_length, processes_length, words_of, records_in, rows_in, requests_in, state_of, right_lengths, sound_words}
use Rattle.rows.specs.vocabulary.Represents.{laid_well, Represents, sources_older}
use Rattle.soundness.specs.vocabulary.Laid.{Decides, RowsLaid, RequestsLaid}
use Rattle.soundness_rows.specs.vocabulary.Clauses.{by_sources, all_but_loans, loans_right}
use Rattle.soundness_loans.specs.vocabulary.Clauses.{items_right, copies_seen, all_of_holders}
use Rattle.rows.proofs.Bools.{false_of, clash, bool_eq, and_l, and_r, and_i, not_t, not_f}
use Rattle.tables.proofs.Sound.{Numbers, RowsSound, LoansSound, Sound, sound-open, sound-close}
use Rattle.rows.proofs.LayoutColumns.{list_same}
use Rattle.tables.proofs.Words.{words-state, sound-represents}
use Rattle.rows.proofs.ProcessRecords.{length-in}
use Rattle.soundness_rows.proofs.RowsSound.{loans-joined}
use Rattle.soundness.proofs.CopiesListed.{items-listed, copies-lent, copies-seen, items-lent}
use Rattle.soundness.proofs.LaidWords.{laid-represents, represented-rows-laid, represented-requests-laid}

-- ---- the groups
abbrev pub of_next : State → Bool
of_next st = next_in_range st.next && below_next st.next st.rows st.requests

abbrev pub of_rows : State → Bool
of_rows st =
    objects_in_range st.processes st.rows
    && (rights_in_range st.rows &&
    (places_in_range st.processes st.rows &&
    (sources_right st.requests st.rows && (depths_right st.rows && (copies_match st.rows && (ends_paired st.rows && copies_listed st.requests st.rows))))))

abbrev pub of_requests : State → Bool
of_requests st =
    numbers_apart st.rows st.requests &&
    (fetched_in_range st.requests &&
    (ports_stand st.rows st.requests && (requesters_listed st.processes st.requests && (items_apart st.requests && one_per_port st.requests))))

abbrev pub of_holders : State → Bool
of_holders st = items_lent st.rows st.requests && (older_fetched st.requests && system_holds st.requests st.rows)

-- each follows from soundness
module _ (st : State) (e : sound st ≡ true) where
  sound-next : of_next st ≡ true
  sound-next = let s = sound-open st e in rw (s.numbers.next-in-range, s.numbers.below-next) refl

  sound-rows : of_rows st ≡ true
  sound-rows =
      let s = sound-open st e in
      let r = s.rows in
      rw (r.objects-in-range, r.rights-in-range, r.places-in-range, r.sources-right, r.depths-right, r.copies-match, r.ends-paired, s.loans.copies-listed) refl

  sound-requests : of_requests st ≡ true
  sound-requests =
      let s = sound-open st e in
      rw (s.numbers.numbers-apart, s.loans.fetched-in-range, s.loans.ports-stand, s.loans.requesters-listed, s.loans.items-apart, s.loans.one-per-port) refl

  sound-holders : of_holders st ≡ true
  sound-holders = let s = sound-open st e in rw (s.loans.items-lent, s.holders.older-fetched, s.holders.system-holds) refl

-- and soundness from all of them, part by part
module _ (st : State) {t : List ℕ} (rep : Represents t st) (rows : of_rows st ≡ true) (requests : of_requests st ≡ true)
    (holders : of_holders st ≡ true) where
  abbrev Laid : Type 0
  Laid = rows_rise st.rows && (requests_rise st.requests && (rows_fit st.rows && (requests_fit st.requests && (items_few st.requests && sources_older st.rows)))) ≡ true

  laid : Laid
  unfolding laid_well
  laid = rep.well

  all-numbers : of_next st ≡ true → Numbers st.next st.rows st.requests
  all-numbers next =
      let well : Laid = laid in
      record {
        rows-rise = search and_l;
        requests-rise = search (and_l, and_r);
        numbers-apart = search and_l;
        below-next = search (and_l, and_r);
        next-in-range = search and_l;
        rows-fit = search (and_l, and_r);
        requests-fit = search (and_l, and_r);
      }

  all-rows : RowsSound st.rows st.requests st.processes
  all-rows =
      let later : depths_right st.rows && (copies_match st.rows && (ends_paired st.rows && copies_listed st.requests st.rows)) ≡ true = search and_r in
      record {
        objects-in-range = search and_l;
        rights-in-range = search (and_l, and_r);
        places-in-range = search (and_l, and_r);
        sources-right = search (and_l, and_r);
        depths-right = search and_l;
        copies-match = search (and_l, and_r);
        ends-paired = search (and_l, and_r);
      }

  all-loans : LoansSound st.rows st.requests st.processes
  all-loans =
      let well : Laid = laid in
      let later : depths_right st.rows && (copies_match st.rows && (ends_paired st.rows && copies_listed st.requests st.rows)) ≡ true = search and_r in
      record {
        fetched-in-range = search (and_l, and_r);
        ports-stand = search (and_l, and_r);
        requesters-listed = search (and_l, and_r);
        items-few = search (and_l, and_r);
        items-apart = search (and_l, and_r);
        items-lent = search (and_l, and_r);
        one-per-port = search (and_l, and_r);
        copies-listed = search (and_l, and_r);
      }

  all-parts : records_fit st.processes ≡ true → of_next st ≡ true → records_in_range st.processes ≡ true → processes_placed st.rows st.processes ≡ true → Sound st
  all-parts fit next records placed =
      record {
        numbers = all-numbers next;
        rows = all-rows;
        loans = all-loans;
        holders = record { older-fetched = search (and_l, and_r); system-holds = search (and_l, and_r) };
        placed = record { records-fit = fit; records-in-range = records; processes-placed = placed };
      }

-- the tests of the groups
module _ (st : State) {t : List ℕ} (rep : Represents t st) where
  abbrev alone : Bool
  alone = all_but_loans st.processes st.rows

  -- rows but for the requests that they bear, and items and holders with those requests, are rows and holders; and back
  loans-told : alone ≡ true → all_of_holders st ≡ true → (of_rows st ≡ true) × (of_holders st ≡ true)
  loans-told rows holders =
      let right : items_right st.rows st.requests ≡ true = search and_l in
      let older : older_fetched st.requests ≡ true = search (and_l, and_r) in
      let system : system_holds st.requests st.rows ≡ true = search (and_l, and_r) in
      let seen : copies_seen st.requests st.rows ≡ true = search (and_l, and_r) in
      let sources : each by_sources st.rows ≡ true = search (and_l, and_r) in
      let loans = copies-lent rep right sources seen in
      (sym (loans-joined st) ∙ and_i alone (loans_right st) rows loans, rw (items-listed rep right, older, system) refl)

  loans-back : of_rows st ≡ true → of_holders st ≡ true → (alone ≡ true) × (all_of_holders st ≡ true)
  loans-back rows holders =
      let both : alone && loans_right st ≡ true = loans-joined st ∙ rows in
      let loans : loans_right st ≡ true = and_r alone (loans_right st) both in
      let older : older_fetched st.requests ≡ true = search (and_l, and_r) in
      let system : system_holds st.requests st.rows ≡ true = search (and_l, and_r) in
      let items : items_lent st.rows st.requests ≡ true = search and_l in
      (and_l alone (loans_right st) both, rw (items-lent rep loans items, older, system, copies-seen rep loans) refl)

  pub groups-sound : records_fit st.processes ≡ true → (rows requests holders placed : Bool) → rows ≡ alone → requests ≡ of_requests st
      → holders ≡ all_of_holders st → placed ≡ processes_placed st.rows st.processes
      → of_next st ≡ true → records_in_range st.processes ≡ true → rows && (requests && (holders && placed)) ≡ sound st
  groups-sound fit rows requests holders placed er eq eh ep next records = bool_eq (rows && (requests && (holders && placed))) (sound st) forth back
    where
      forth : rows && (requests && (holders && placed)) ≡ true → sound st ≡ true
      forth e =
          let q : of_requests st ≡ true = sym eq ∙ and_l requests (holders && placed) (and_r rows (requests && (holders && placed)) e) in
          let rest : holders && placed ≡ true = and_r requests (holders && placed) (and_r rows (requests && (holders && placed)) e) in
          let (told, held) = loans-told (sym er ∙ and_l rows (requests && (holders && placed)) e) (sym eh ∙ and_l holders placed rest) in
          sound-close st (all-parts st rep told q held fit next records (sym ep ∙ and_r holders placed rest))

      back : sound st ≡ true → rows && (requests && (holders && placed)) ≡ true
      back e =
          let (rest, held) = loans-back (sound-rows st e) (sound-holders st e) in
          rw (er ∙ rest, eq ∙ sound-requests st e, eh ∙ held, ep ∙ (sound-open st e).placed.processes-placed) refl

-- the plain clauses come first
pub clauses-sound : (st : State) (next records tables : Bool) → next ≡ of_next st → records ≡ records_in_range st.processes
    → (of_next st ≡ true → records_in_range st.processes ≡ true → tables ≡ sound st) → next && (records && tables) ≡ sound st
clauses-sound st next records tables en er et =
    bool_eq (next && (records && tables)) (sound st)
    (λ e.
    let rest : records && tables ≡ true = and_r next (records && tables) e in
    sym (et (sym en ∙ and_l next (records && tables) e) (sym er ∙ and_l records tables rest)) ∙ and_r records tables rest)
    (λ e. rw (en ∙ sound-next st e, er ∙ (sound-open st e).placed.records-in-range, et (sound-next st e) (sound-open st e).placed.records-in-range ∙ e) refl)

pub records-fit : (st : State) (p : List ℕ) → length p ≡ 192 → st.processes ≡ records_in p → records_fit st.processes ≡ true
unfolding records_fit processes
records-fit st p long e = eq-eqb (length st.processes) 64 (ap length e ∙ length-in 64 p long)

-- ---- the words
module _ (t p : List ℕ) where
  pub tables-short : (length t ≡ 11265 → ⊥) → false ≡ sound_words t p
  unfolding sound_words right_lengths tables_length next_at requests_at row_columns request_columns row_slots request_slots
  tables-short h = rw (ne_eqb (length t) 11265 h) refl

  pub records-short : length t ≡ 11265 → (length p ≡ 192 → ⊥) → false ≡ sound_words t p
  unfolding sound_words right_lengths tables_length next_at requests_at row_columns request_columns row_slots request_slots processes_length processes
  records-short e h = rw (eq-eqb (length t) 11265 e, ne_eqb (length p) 192 h) refl

  -- sound words hold the state read from them
  pub sound-words-rep : sound_words t p ≡ true → Represents t (state_of t p)
  unfolding sound_words
  sound-words-rep e =
      let s : sound (state_of t p) ≡ true = search and_r in
      subst (λ (l : List ℕ). Represents l (state_of t p)) (words-state t p e).0 (sound-represents (state_of t p) (sound-open (state_of t p) s))

  -- so tests that tell whether rows and requests are laid refuse where one fails
  module _ (n m : ℕ) (a b : Bool) (en : n ≡ rows_in t) (em : m ≡ requests_in t) (rows : Decides a (RowsLaid t n)) (requests : Decides b (RequestsLaid t m)) where
    pub not-laid : not (a && b) ≡ true → false ≡ sound_words t p
    not-laid h =
        sym (false_of (sound_words t p)
        (λ s.
        let rep = sound-words-rep s in
        clash (and_i a b (rows.says (rw en (represented-rows-laid t p rep))) (requests.says (rw em (represented-requests-laid t p rep)))) (not_t (a && b) h)))

    -- and where none fails, the words represent the state read from them
    pub decided-represents : length t ≡ 11265 → not (a && b) ≡ false → Represents t (state_of t p)
    decided-represents long h =
        let both : a && b ≡ true = not_f (a && b) h in
        laid-represents t p (subst (λ (k : ℕ). RowsLaid t k) en (rows.holds (and_l a b both))) (subst (λ (k : ℕ). RequestsLaid t k) em (requests.holds (and_r a b both))) long

  -- where the words represent the state read from them, its clauses decide
  pub laid-sound : length t ≡ 11265 → length p ≡ 192 → Represents t (state_of t p) → sound (state_of t p) ≡ sound_words t p
  unfolding sound_words right_lengths tables_length next_at requests_at row_columns request_columns row_slots request_slots processes_length processes
  laid-sound et ep rep =
      let same : same_list (words_of (state_of t p)) t ≡ true = subst (λ (l : List ℕ). same_list (words_of (state_of t p)) l ≡ true) (sym rep.words) (list_same (words_of (state_of t p))) in
      rw (eq-eqb (length t) 11265 et, eq-eqb (length p) 192 ep, same) refl
