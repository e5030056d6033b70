-- The entries of a joined node and their codes: what is new among entries is new among codes; all have room.
use Prim.Native.Nat.{ℕ}
use mathlib.Core.Bool.{Bool, true, false, cond, ◌&&◌, ◌||◌}
use mathlib.Core.List.{List, [], ◌∷◌, ◌++◌, map, map-append}
use mathlib.Core.Path.{◌≡◌, refl, sym, ap, ◌∙◌}
use lib.Dec.{eqb, ltb}
use Rattle.rows.specs.Lists.{any, all, each}
use Rattle.rows.proofs.Bools.{and_l, and_r, and_i, all-and}
use Rattle.text.specs.declared.Entry.{Entry}
use Rattle.text.specs.Opening.{Form, entry_ranged, prime_of}
use Rattle.text.proofs.OpeningForms.{entry_shaped, form_passed}
use Rattle.joining.specs.Joins.{node_in, process_in, entries_of, same_entry, with_new, with_all_new, entries_joined, prime_joined}
use Rattle.joining.specs.vocabulary.Directories.{EntryFits, entry_code, entry_of, Held}
use Rattle.joining.specs.vocabulary.Merged.{in_codes}
use Rattle.joining.proofs.EntryCodes.{code-back, ranged-fits, same_code}
use Rattle.joining.proofs.FormFacts.{entries-good}
use Rattle.joining.proofs.HeldForms.{prime-told}
use Rattle.joining.proofs.NewEntries.{new-all, all-new-all}

-- ---- entries in range and of the right shape
unfoldable pub entry_good : Entry → Bool
entry_good e = entry_ranged e && entry_shaped e

pub good-fits : (e : Entry) → entry_good e ≡ true → EntryFits e
unfolding entry_good
good-fits e h = ranged-fits e (and_l (entry_ranged e) (entry_shaped e) h) (and_r (entry_ranged e) (entry_shaped e) h)

pub passed-good : (fs : List Form) → each form_passed fs ≡ true → (n : ℕ) → all entry_good (entries_of fs n) ≡ true
unfolding entry_good
passed-good fs e n =
    let k = entries-good fs e n in
    all-and entry_ranged entry_shaped entry_good (λ e r s. and_i (entry_ranged e) (entry_shaped e) r s) (entries_of fs n) k.ranged k.shaped

-- they are read back from their codes
pub codes-back : (es : List Entry) → all entry_good es ≡ true → map entry_of (map entry_code es) ≡ es
unfolding all
codes-back [] g = refl
codes-back (e ∷ es) g =
    let here = code-back e (good-fits e (and_l (entry_good e) (all entry_good es) g)) in
    let older = codes-back es (and_r (entry_good e) (all entry_good es) g) in
    λ i. here i ∷ older i

-- ---- what is new
same-any : (e : Entry) → entry_good e ≡ true → (w : List Entry) → all entry_good w ≡ true → any (same_entry e) w ≡ any (eqb (entry_code e)) (map entry_code w)
unfolding any all
same-any e g [] all-good = refl
same-any e g (d ∷ w) all-good =
    let here = same_code e d (good-fits e g) (good-fits d (and_l (entry_good d) (all entry_good w) all-good)) in
    rw (here, same-any e g w (and_r (entry_good d) (all entry_good w) all-good)) refl

module _ (w : List Entry) (e : Entry) (gw : all entry_good w ≡ true) (ge : entry_good e ≡ true) where
  new-codes : map entry_code (with_new same_entry w e) ≡ with_new eqb (map entry_code w) (entry_code e)
  unfolding with_new
  new-codes = rw (same-any e ge w gw) (pick (any (eqb (entry_code e)) (map entry_code w)))
    where
      pick : (b : Bool) → map entry_code (cond b w (w ++ (e ∷ []))) ≡ cond b (map entry_code w) (map entry_code w ++ (entry_code e ∷ []))
      pick true = refl
      pick false = map-append entry_code w (e ∷ [])

all-new-codes : (w es : List Entry) → all entry_good w ≡ true → all entry_good es ≡ true → map entry_code (with_all_new same_entry w es) ≡ with_all_new eqb (map entry_code w) (map entry_code es)
unfolding with_all_new all
all-new-codes w [] gw ge = refl
all-new-codes w (e ∷ es) gw ge =
    let here = and_l (entry_good e) (all entry_good es) ge in
    all-new-codes (with_new same_entry w e) es (new-all same_entry entry_good w e gw here) (and_r (entry_good e) (all entry_good es) ge)
    ∙ ap (λ (cs : List ℕ). with_all_new eqb cs (map entry_code es)) (new-codes w e gw here)

-- ---- a node of both texts
pub joined-good : (fs gs : List Form) → each form_passed fs ≡ true → each form_passed gs ≡ true → (n : ℕ) → all entry_good (entries_joined fs gs n) ≡ true
unfolding entries_joined
joined-good fs gs pf pg n = pick (node_in fs n)
  where
    pick : (given : Bool) → all entry_good (cond given (with_all_new same_entry (entries_of fs n) (entries_of gs n)) (entries_of gs n)) ≡ true
    pick true = all-new-all same_entry entry_good (entries_of gs n) (entries_of fs n) (passed-good fs pf n) (passed-good gs pg n)
    pick false = passed-good gs pg n

module _ (fs gs : List Form) (pf : each form_passed fs ≡ true) (pg : each form_passed gs ≡ true) (n : ℕ) where
  pub merged-both : (cs ds : List ℕ) → true ≡ node_in fs n → cs ≡ map entry_code (entries_of fs n) → ds ≡ map entry_code (entries_of gs n)
      → in_codes (with_all_new eqb cs ds) ≡ in_codes (map entry_code (entries_joined fs gs n))
  unfolding entries_joined
  merged-both cs ds given c d =
      ap in_codes ((λ i. with_all_new eqb (c i) (d i)) ∙ sym (all-new-codes (entries_of fs n) (entries_of gs n) (passed-good fs pf n) (passed-good gs pg n)) ∙ (rw (sym given) refl))

  pub merged-second : (ds : List ℕ) → false ≡ node_in fs n → ds ≡ map entry_code (entries_of gs n) → in_codes ds ≡ in_codes (map entry_code (entries_joined fs gs n))
  unfolding entries_joined
  merged-second ds none d = ap in_codes (d ∙ (rw (sym none) refl))

-- ---- a process of both texts
module _ (a : List ℕ) (fs gs : List Form) (ha : Held a fs) (p n : ℕ) (is : n ≡ prime_of fs p) where
  pub prime-first : ltb 0 n ≡ true → n ≡ prime_joined fs gs p
  unfolding prime_joined
  prime-first given = is ∙ (rw (sym (prime-told a fs ha p n is) ∙ given) refl)

  pub prime-second : ltb 0 n ≡ false → (m : ℕ) → m ≡ prime_of gs p → m ≡ prime_joined fs gs p
  unfolding prime_joined
  prime-second none m e = e ∙ (rw (sym (prime-told a fs ha p n is) ∙ none) refl)

-- it is given if it has a prime node
pub joined-given : (a b : List ℕ) (fs gs : List Form) → Held a fs → Held b gs → (p n : ℕ) → n ≡ prime_joined fs gs p → ltb 0 n ≡ process_in fs p || process_in gs p
unfolding prime_joined
joined-given a b fs gs ha hb p n e = ap (ltb 0) e ∙ pick (process_in fs p) refl
  where
    pick : (x : Bool) → process_in fs p ≡ x → ltb 0 (cond x (prime_of fs p) (prime_of gs p)) ≡ x || process_in gs p
    pick true q = prime-told a fs ha p (prime_of fs p) refl ∙ q
    pick false q = prime-told b gs hb p (prime_of gs p) refl
