-- Soundness as a record: a field for each part, each part a record over the lists that it reads with a field for each clause.
use Prim.Native.Nat.{ℕ, zero, suc}
use mathlib.Core.Bool.{Bool, true}
use mathlib.Core.List.{List, [], ◌∷◌}
use mathlib.Core.Path.{◌≡◌, refl}
use Rattle.rows.specs.declared.Row.{Row}
use Rattle.rows.specs.declared.Request.{Request}
use Rattle.rows.specs.declared.Process.{Process}
use Rattle.rows.specs.Lists.{all}
use Rattle.rows.specs.Tables.{State}
use Rattle.rows.specs.Sound.{rows_rise, requests_rise, numbers_apart, below_next, next_in_range, rows_fit, requests_fit, records_fit, objects_in_range, rights_in_range, places_in_range, fetched_in_range, sources_right, depths_right, copies_match, records_in_range, ends_paired, ports_stand, requesters_listed, items_few, items_apart, items_lent, one_per_port, copies_listed, older_fetched, system_holds, processes_placed, number_clauses, row_clauses, loan_clauses, holder_clauses, process_clauses, every, parts, sound}
use Rattle.rows.proofs.Bools.{and_l, and_r}

pub record Numbers (next : ℕ) (rows : List Row) (requests : List Request) : Type 0 where
  pub rows-rise : rows_rise rows ≡ true
  pub requests-rise : requests_rise requests ≡ true
  pub numbers-apart : numbers_apart rows requests ≡ true
  pub below-next : below_next next rows requests ≡ true
  pub next-in-range : next_in_range next ≡ true
  pub rows-fit : rows_fit rows ≡ true
  pub requests-fit : requests_fit requests ≡ true

pub record RowsSound (rows : List Row) (requests : List Request) (ps : List Process) : Type 0 where
  pub objects-in-range : objects_in_range ps rows ≡ true
  pub rights-in-range : rights_in_range rows ≡ true
  pub places-in-range : places_in_range ps rows ≡ true
  pub sources-right : sources_right requests rows ≡ true
  pub depths-right : depths_right rows ≡ true
  pub copies-match : copies_match rows ≡ true
  pub ends-paired : ends_paired rows ≡ true

pub record LoansSound (rows : List Row) (requests : List Request) (ps : List Process) : Type 0 where
  pub fetched-in-range : fetched_in_range requests ≡ true
  pub ports-stand : ports_stand rows requests ≡ true
  pub requesters-listed : requesters_listed ps requests ≡ true
  pub items-few : items_few requests ≡ true
  pub items-apart : items_apart requests ≡ true
  pub items-lent : items_lent rows requests ≡ true
  pub one-per-port : one_per_port requests ≡ true
  pub copies-listed : copies_listed requests rows ≡ true

pub record HoldersSound (rows : List Row) (requests : List Request) : Type 0 where
  pub older-fetched : older_fetched requests ≡ true
  pub system-holds : system_holds requests rows ≡ true

pub record ProcessesSound (rows : List Row) (ps : List Process) : Type 0 where
  pub records-fit : records_fit ps ≡ true
  pub records-in-range : records_in_range ps ≡ true
  pub processes-placed : processes_placed rows ps ≡ true

pub record Sound (st : State) : Type 0 where
  pub numbers : Numbers st.next st.rows st.requests
  pub rows : RowsSound st.rows st.requests st.processes
  pub loans : LoansSound st.rows st.requests st.processes
  pub holders : HoldersSound st.rows st.requests
  pub placed : ProcessesSound st.rows st.processes

-- the clause in a slot of a part
unfoldable clause_at : List Bool → ℕ → Bool
clause_at [] i = true
clause_at (b ∷ bs) zero = b
clause_at (b ∷ bs) (suc i) = clause_at bs i

-- holds where the part does
clause : (bs : List Bool) → every bs ≡ true → (i : ℕ) → clause_at bs i ≡ true
unfolding every all clause_at
clause [] e i = refl
clause (b ∷ bs) e zero = and_l b (every bs) e
clause (b ∷ bs) e (suc i) = clause bs (and_r b (every bs) e) i

module _ (rows : List Row) (requests : List Request) (ps : List Process) where
  numbers-open : (next : ℕ) → every (number_clauses next rows requests) ≡ true → Numbers next rows requests
  unfolding number_clauses clause_at
  numbers-open next e =
      let at = clause (number_clauses next rows requests) e in
      record { rows-rise = at 0; requests-rise = at 1; numbers-apart = at 2; below-next = at 3; next-in-range = at 4; rows-fit = at 5; requests-fit = at 6 }

  rows-open : every (row_clauses rows requests ps) ≡ true → RowsSound rows requests ps
  unfolding row_clauses clause_at
  rows-open e =
      let at = clause (row_clauses rows requests ps) e in
      record { objects-in-range = at 0; rights-in-range = at 1; places-in-range = at 2; sources-right = at 3; depths-right = at 4; copies-match = at 5; ends-paired = at 6 }

  loans-open : every (loan_clauses rows requests ps) ≡ true → LoansSound rows requests ps
  unfolding loan_clauses clause_at
  loans-open e =
      let at = clause (loan_clauses rows requests ps) e in
      record {
        fetched-in-range = at 0;
        ports-stand = at 1;
        requesters-listed = at 2;
        items-few = at 3;
        items-apart = at 4;
        items-lent = at 5;
        one-per-port = at 6;
        copies-listed = at 7;
      }

  holders-open : every (holder_clauses rows requests) ≡ true → HoldersSound rows requests
  unfolding holder_clauses clause_at
  holders-open e = let at = clause (holder_clauses rows requests) e in record { older-fetched = at 0; system-holds = at 1 }

  processes-open : every (process_clauses rows ps) ≡ true → ProcessesSound rows ps
  unfolding process_clauses clause_at
  processes-open e = let at = clause (process_clauses rows ps) e in record { records-fit = at 0; records-in-range = at 1; processes-placed = at 2 }

  numbers-close : (next : ℕ) → Numbers next rows requests → every (number_clauses next rows requests) ≡ true
  unfolding number_clauses every all
  numbers-close next s = rw (s.rows-rise, s.requests-rise, s.numbers-apart, s.below-next, s.next-in-range, s.rows-fit, s.requests-fit) refl

  rows-close : RowsSound rows requests ps → every (row_clauses rows requests ps) ≡ true
  unfolding row_clauses every all
  rows-close s =
      rw (s.objects-in-range, s.rights-in-range, s.places-in-range, s.sources-right, s.depths-right, s.copies-match, s.ends-paired) refl

  loans-close : LoansSound rows requests ps → every (loan_clauses rows requests ps) ≡ true
  unfolding loan_clauses every all
  loans-close s =
      rw (s.fetched-in-range, s.ports-stand, s.requesters-listed, s.items-few, s.items-apart, s.items-lent, s.one-per-port, s.copies-listed) refl

  holders-close : HoldersSound rows requests → every (holder_clauses rows requests) ≡ true
  unfolding holder_clauses every all
  holders-close s = rw (s.older-fetched, s.system-holds) refl

  processes-close : ProcessesSound rows ps → every (process_clauses rows ps) ≡ true
  unfolding process_clauses every all
  processes-close s = rw (s.records-fit, s.records-in-range, s.processes-placed) refl

pub sound-open : (st : State) → sound st ≡ true → Sound st
unfolding sound parts clause_at
sound-open st e =
    let at = clause (parts st) e in
    let rows = st.rows in
    let requests = st.requests in
    let ps = st.processes in
    record {
      numbers = numbers-open rows requests ps st.next (at 0);
      rows = rows-open rows requests ps (at 1);
      loans = loans-open rows requests ps (at 2);
      holders = holders-open rows requests ps (at 3);
      placed = processes-open rows requests ps (at 4);
    }

pub sound-close : (st : State) → Sound st → sound st ≡ true
unfolding sound parts every all
sound-close st s =
    let rows = st.rows in
    let requests = st.requests in
    let ps = st.processes in
    rw (
      numbers-close rows requests ps st.next s.numbers,
      rows-close rows requests ps s.rows,
      loans-close rows requests ps
          s.loans,
      holders-close rows requests ps s.holders,
      processes-close rows requests ps s.placed,
    ) refl
