-- The state that forms open, node by node and process by process: the entries that a form gives its node, the prime node that it gives its process.
use Prim.Native.Nat.{ℕ, zero, suc}
use mathlib.Core.Bool.{Bool, true, false, cond, ◌&&◌}
use mathlib.Core.List.{List, [], ◌∷◌, ◌++◌, map, map-append, reverse, reverse-cons, append_assoc, append-nil}
use mathlib.Core.Path.{◌≡◌, refl, sym, ap, ◌∙◌}
use lib.Dec.{eqb}
use borrow.Author.Tests.{eqb-true}
use Rattle.rows.specs.declared.Row.{Row}
use Rattle.rows.specs.declared.Process.{Process}
use Rattle.rows.specs.Lists.{filter, each}
use Rattle.rows.specs.Codes.{in_node}
use Rattle.rows.specs.Tables.{no_process, empty, process_at}
use Rattle.rows.specs.Sound.{record_unused, record_in_range}
use Rattle.rows.proofs.Bools.{and_l, and_r}
use Rattle.rows.proofs.Lists.{all_get_d}
use Rattle.text.specs.declared.Entry.{Entry}
use Rattle.text.specs.Opening.{Form, node_form, process_form, entry_row, with_entries, with_form, opened_from, prime_of}
use Rattle.text.proofs.OpeningForms.{form_passed, node-passed}
use Rattle.text.proofs.OpeningRecords.{is_home, opened-home, prime-opened}
use Rattle.joining.specs.Joins.{node_in, entries_of}
use Rattle.joining.specs.Opened.{row_entry, entries_at}
use Rattle.joining.specs.Promises.{starts_in}
use Rattle.joining.proofs.FormFacts.{first-passed, older-passed}
use Rattle.joining.proofs.ListedNames.{no-entries}

-- ---- rows
-- the entries of the rows in node n, the oldest first
module _ (n : ℕ) where
  here : Row → Bool
  here r = eqb r.place (in_node n)

  found : List Row → List Entry
  found rs = map row_entry (reverse (filter here rs))

  one_found : (k m : ℕ) (e : Entry) (rs : List Row) → found (entry_row k m e ∷ rs) ≡ found rs ++ cond (eqb m n) (e ∷ []) []
  unfolding found here filter entry_row in_node row_entry
  one_found k m e rs = pick (eqb m n)
    where
      pick : (b : Bool) → map row_entry (reverse (cond b (entry_row k m e ∷ filter here rs) (filter here rs))) ≡ map row_entry (reverse (filter here rs)) ++ cond b (e ∷ []) []
      pick true = ap (map row_entry) (reverse-cons (entry_row k m e) (filter here rs)) ∙ map-append row_entry (reverse (filter here rs)) (entry_row k m e ∷ [])
      pick false = sym (append-nil (map row_entry (reverse (filter here rs))))

  all_found : (es : List Entry) (k m : ℕ) (rs : List Row) → found (with_entries k m es rs) ≡ found rs ++ cond (eqb m n) es []
  unfolding with_entries
  all_found [] k m rs = sym (append-nil (found rs)) ∙ ap (λ (l : List Entry). found rs ++ l) (pick (eqb m n))
    where
      pick : (b : Bool) → ◌≡◌ {A = List Entry} [] (cond b [] [])
      pick true = refl
      pick false = refl
  all_found (e ∷ es) k m rs =
      all_found es (suc k) m (entry_row k m e ∷ rs) ∙ ap (λ (l : List Entry). l ++ cond (eqb m n) es []) (one_found k m e rs)
      ∙ append_assoc (found rs) (cond (eqb m n) (e ∷ []) []) (cond (eqb m n) es []) ∙ ap (λ (l : List Entry). found rs ++ l) (pick (eqb m n))
    where
      pick : (b : Bool) → cond b (e ∷ []) [] ++ cond b es [] ≡ cond b (e ∷ es) []
      pick true = refl
      pick false = refl

  forms-found : (fs : List Form) → each form_passed fs ≡ true → found (opened_from empty fs).rows ≡ entries_of fs n
  unfolding opened_from with_form empty found filter entries_of node_in
  forms-found [] p = refl
  forms-found (node_form m es ∷ fs) p =
      let new = (node-passed fs m es (first-passed (node_form m es) fs p)).fresh in
      all_found es (opened_from empty fs).next m (opened_from empty fs).rows ∙ ap (λ (l : List Entry). l ++ cond (eqb m n) es []) (forms-found fs (older-passed (node_form m es) fs p))
      ∙ pick (eqb m n) refl (no-entries fs m new)
    where
      pick : (b : Bool) → eqb m n ≡ b → entries_of fs m ≡ [] → entries_of fs n ++ cond b es [] ≡ cond b es (entries_of fs n)
      pick true e none = ap (λ (l : List Entry). l ++ es) (ap (entries_of fs) (sym (eqb-true m n e)) ∙ none)
      pick false e none = append-nil (entries_of fs n)
  forms-found (process_form q m ∷ fs) p = forms-found fs (older-passed (process_form q m) fs p)

pub entries-opened : (fs : List Form) → each form_passed fs ≡ true → (n : ℕ) → entries_at (opened_from empty fs) n ≡ entries_of fs n
unfolding entries_at found here
entries-opened fs p n = forms-found n fs p

-- ---- processes
at_home : (x : Process) → is_home x ≡ true → x ≡ starts_in x.prime
unfolding is_home
at_home x h =
    let places = and_r (record_in_range x) (eqb x.through 0 && eqb x.active x.prime) h in
    let through = eqb-true x.through 0 (and_l (eqb x.through 0) (eqb x.active x.prime) places) in
    let active = eqb-true x.active x.prime (and_r (eqb x.through 0) (eqb x.active x.prime) places) in
    λ i. record { prime = x.prime; active = active i; through = through i }

pub process-opened : (fs : List Form) → each form_passed fs ≡ true → (p : ℕ) → process_at (opened_from empty fs).processes p ≡ starts_in (prime_of fs p)
unfolding process_at no_process is_home record_in_range record_unused
process-opened fs e p = at_home (process_at (opened_from empty fs).processes p) (home p) ∙ ap starts_in (prime-opened fs e p)
  where
    home : (p : ℕ) → is_home (process_at (opened_from empty fs).processes p) ≡ true
    home zero = refl
    home (suc i) = all_get_d is_home (opened_from empty fs).processes (opened-home fs e) i no_process refl
