-- Two opening texts joined (docs/MANUAL.md, chapter 16): what is refused, and the forms of the joined text in their order.
use Rattle.std.specs.Prelude.{ℕ, zero, suc, Bool, not, ◌&&◌, ◌||◌, List, [], ◌∷◌, ◌++◌, map, ltb, eqb, length, if◌then◌else◌}
use Rattle.rows.specs.Lists.{any, all, filter}
use Rattle.rows.specs.Limits.{nodes, processes, most_entries}
use Rattle.calls.specs.Rules.{◌when◌, lowest}
use Rattle.text.specs.declared.Entry.{Entry}
use Rattle.text.specs.Opening.{Form, node_form, process_form, FirstPass, read_to, stopped_by, first_pass, gives_node, gives_process, form_listed, prime_of}

-- ---- what the forms of a text say of a node, of a process
-- (rule J4) whether a form gives node n; its entries, none where no form gives it
unfoldable pub node_in : List Form → ℕ → Bool
node_in fs n = any (gives_node n) fs

unfoldable pub entries_of : List Form → ℕ → List Entry
entries_of [] n = []
entries_of (node_form m es ∷ fs) n = if eqb m n then es else entries_of fs n
entries_of (process_form p m ∷ fs) n = entries_of fs n

-- (rule J5) whether a form gives process p; its prime node is prime_of, 0 where no form gives it
unfoldable pub process_in : List Form → ℕ → Bool
process_in fs p = any (gives_process p) fs

-- ---- the entries of a joined node
-- (rule J4) equal entries: the same kind, process or node, operation and rights
unfoldable pub same_entry : Entry → Entry → Bool
same_entry d e =
    eqb d.kind e.kind && (eqb d.object e.object && (eqb d.operation e.operation && eqb d.rights e.rights))

-- (rule J4) after what is written the others in order, leaving out each that is the same as one already written
module _ {A : Type 0} (same : A → A → Bool) where
  unfoldable pub with_new : List A → A → List A
  with_new written x = if any (same x) written then written else written ++ (x ∷ [])

  unfoldable pub with_all_new : List A → List A → List A
  with_all_new written [] = written
  with_all_new written (x ∷ xs) = with_all_new (with_new written x) xs

-- (rule J4) the first text's entries, then the second's that are new; a node of the second text alone keeps its entries
unfoldable pub entries_joined : List Form → List Form → ℕ → List Entry
entries_joined fs gs n =
    if node_in fs n then with_all_new same_entry (entries_of fs n) (entries_of gs n) else entries_of gs n

-- (rule J5) the first text's prime node, or the second's
unfoldable pub prime_joined : List Form → List Form → ℕ → ℕ
prime_joined fs gs p = if process_in fs p then prime_of fs p else prime_of gs p

-- ---- the forms of the joined text
-- (rule J3) n numbers from a on
unfoldable pub numbers_from : ℕ → ℕ → List ℕ
numbers_from a zero = []
numbers_from a (suc n) = a ∷ numbers_from (suc a) n

-- (rules J3, J4) the nodes of either text, in rising number
unfoldable pub nodes_joined : List Form → List Form → List Form
nodes_joined fs gs =
    map (λ n. node_form n (entries_joined fs gs n)) (filter (λ n. node_in fs n || node_in gs n) (numbers_from 1 nodes))

-- (rules J3, J5) the processes of either text, in rising number
unfoldable pub processes_joined : List Form → List Form → List Form
processes_joined fs gs =
    map (λ p. process_form p (prime_joined fs gs p)) (filter (λ p. process_in fs p || process_in gs p) (numbers_from 1 processes))

-- (rule J3) nodes first
unfoldable pub forms_joined : List Form → List Form → List Form
forms_joined fs gs = nodes_joined fs gs ++ processes_joined fs gs

-- ---- refusals
-- (rule J7) 5: a form of either text names a process or a node that no form of either gives
unfoldable pub name_missing : List Form → List Form → Bool
name_missing fs gs = not (all (form_listed (fs ++ gs)) (fs ++ gs))

-- (rule J8) 6: a joined node has more than 16 entries
unfoldable pub node_crowded : List Form → List Form → Bool
node_crowded fs gs = any (λ n. ltb most_entries (length (entries_joined fs gs n))) (numbers_from 1 nodes)

-- (rule J9) 20: a process of both texts has two different prime nodes
unfoldable pub primes_differ : List Form → List Form → Bool
primes_differ fs gs =
    any (λ p. process_in fs p && (process_in gs p && not (eqb (prime_of fs p) (prime_of gs p)))) (numbers_from 1 processes)

-- (rule J6) 5 before 6, 6 before 20; 0 for none
unfoldable pub join_refusal : List Form → List Form → ℕ
join_refusal fs gs = lowest (5 when name_missing fs gs ∷ 6 when node_crowded fs gs ∷ 20 when primes_differ fs gs ∷ [])

-- ---- two texts, one after the other
-- (rules J2, J6) the forms of the joined text in their order; or a text's own refusal with its line; or one of both texts
pub data Joined : Type 0 where
  joins : List Form → Joined
  refused_text : ℕ → ℕ → Joined
  refused_both : ℕ → Joined

unfoldable pub joined_by : List Form → List Form → Joined
joined_by fs gs = let k = join_refusal fs gs in if eqb k 0 then joins (forms_joined fs gs) else refused_both k

-- (rules J1, J6) a text's own 2, 3, 4 or 6, at its line in that text; what follows the second `(open)` is not read
unfoldable pub after_second : List Form → FirstPass → Joined
after_second fs (read_to gs rest) = joined_by fs gs
after_second fs (stopped_by k n) = refused_text k n

-- (rules J1, J6) the first text's first; the second begins after the first's `(open)`, and its lines count from 1
unfoldable pub after_first : FirstPass → Joined
after_first (read_to fs rest) = after_second fs (first_pass [] 1 rest)
after_first (stopped_by k n) = refused_text k n

unfoldable pub join_of : List (List ℕ) → Joined
join_of ls = after_first (first_pass [] 1 ls)
