-- The entries of a node form stored one after the other: their codes, then what stood there.
use Prim.Native.Nat.{ℕ, suc, ◌+◌, ◌-◌, ◌≤◌, ◌<◌}
use native.Mathlib.Numerals.{add-one}
use native.Mathlib.Omega.{arith}
use mathlib.Core.Bool.{Bool, true, false, cond}
use mathlib.Core.List.{List, [], ◌∷◌, ◌++◌, map, map-append, append_assoc, append-nil}
use mathlib.Core.Path.{◌≡◌, refl, sym, ap, ◌∙◌}
use lib.ListN.{length, get_or, set, take, drop, length-append, length-map, take-append-drop}
use lib.Seq.{drop-cons, set_at, append_snoc, length-take-le}
use Rattle.rows.specs.Lists.{all}
use Rattle.rows.specs.Codes.{operation, subdirectory, is_operation, is_subdirectory}
use Rattle.rows.proofs.Bools.{and_l, and_r}
use Rattle.text.specs.declared.Entry.{Entry}
use Rattle.text.specs.declared.Read.{Read}
use Rattle.std.specs.Prelude.{Option, Some, None}
use Rattle.text.specs.Patterns.{form}
use Rattle.text.specs.Opening.{Entries, operation_entry, subdirectory_entry, add_entry, entries_from, entry_ranged}
use Rattle.text.specs.vocabulary.Openings.{entry_read, entries_here}
use Rattle.text.specs.vocabulary.Sizes.{GROUPS}
use Rattle.text.proofs.OpeningForms.{entry_shaped}
use Rattle.text.proofs.OpeningLaws.{from_more, from-none}
use Rattle.joining.specs.vocabulary.Directories.{ENTRIES, EntryFits, entry_code}
use Rattle.joining.specs.vocabulary.Reading.{EntriesFit, StoresCodes}
use Rattle.joining.proofs.EntryCodes.{ranged-fits}

-- an entry that is read has the right shape
all_shaped : Option (Entry × ℕ) → Bool
all_shaped None = true
all_shaped (Some x) = entry_shaped x.0

read-shaped : (s : List ℕ) (i : ℕ) → all_shaped (entry_read s i) ≡ true
unfolding all_shaped entry_read entry_shaped operation_entry subdirectory_entry is_operation is_subdirectory operation subdirectory
read-shaped s i = pick o.good d.good
  where
    o : Read
    o = form s i " (op # # #)"

    d : Read
    d = form s i " (dir # #)"

    pick : (a b : Bool) → all_shaped (cond a (Some (operation_entry o, o.next)) (cond b (Some (subdirectory_entry d, d.next)) None)) ≡ true
    pick true b = refl
    pick false true = refl
    pick false false = refl

-- ---- those stored, then those left
pub record Storing (w : List ℕ) (at : ℕ) (s : List ℕ) (from i n : ℕ) (u : List ℕ) : Type 0 where
  pub read : List Entry
  pub count : length read ≡ n
  pub whole : entries_here s from ≡ read ++ (entries_from (GROUPS - n) s i).entries
  pub stored : u ≡ take at w ++ (map entry_code read ++ drop (at + n) w)

pub storing-starts : (w : List ℕ) (at : ℕ) (s : List ℕ) (from : ℕ) → Storing w at s from from 0 w
storing-starts w at s from =
    let all_left : GROUPS - 0 ≡ GROUPS = omega arith in
    let there : at + 0 ≡ at = omega arith in
    record {
      read = [];
      count = refl;
      whole = rw all_left refl;
      stored = sym (ap (λ (k : ℕ). take at w ++ drop k w) there ∙ take-append-drop at w);
    }

all_first : (f : Entry → Bool) (xs : List Entry) (y : Entry) (ys : List Entry) → all f (xs ++ (y ∷ ys)) ≡ true → f y ≡ true
unfolding all
all_first f [] y ys e = and_l (f y) (all f ys) e
all_first f (x ∷ xs) y ys e = all_first f xs y ys (and_r (f x) (all f (xs ++ (y ∷ ys))) e)

module _ (w : List ℕ) (at : ℕ) (s : List ℕ) (from i n : ℕ) (u : List ℕ) (k : Storing w at s from i n u) (room : at + ENTRIES ≤ length w) (fit : EntriesFit s from) where
  -- no entry follows
  pub storing-stops : entry_read s i ≡ None → StoresCodes w at s from u n
  storing-stops none =
      let last : entries_here s from ≡ k.read =
      k.whole ∙ ap (λ (x : Entries). k.read ++ x.entries) (from-none (GROUPS - n) s i none) ∙ append-nil k.read in
      (sym k.count ∙ ap length (sym last), k.stored ∙ ap (λ (es : List Entry). take at w ++ (map entry_code es ++ drop (at + n) w)) (sym last))

  module _ (e : Entry) (next : ℕ) (is : entry_read s i ≡ Some (e, next)) (small : n < ENTRIES) where
    rest : List Entry
    rest = (entries_from (GROUPS - (n + 1)) s next).entries

    one_more : entries_here s from ≡ k.read ++ (e ∷ rest)
    unfolding rest add_entry
    one_more =
        let q : GROUPS - n ≡ suc (GROUPS - (n + 1)) = omega arith in
        k.whole ∙ ap (λ (m : ℕ). k.read ++ (entries_from m s i).entries) q ∙ ap (λ (x : Entries). k.read ++ x.entries) (from_more (GROUPS - (n + 1)) s i e next is)

    pub entry-fits : EntryFits e
    unfolding all_shaped
    entry-fits =
        ranged-fits e (all_first entry_ranged k.read e rest (ap (all entry_ranged) (sym one_more) ∙ fit.1))
        (ap all_shaped (sym is) ∙ read-shaped s i)

    pub storing-goes-on : Storing w at s from next (n + 1) (set u (at + n) (entry_code e))
    unfolding rest
    storing-goes-on =
        let c = entry_code e in
        let cs = map entry_code k.read in
        let size : length cs ≡ n = length-map k.read entry_code ∙ k.count in
        let before = length-take-le at w (omega arith) in
        let long : length (take at w ++ cs) ≡ at + n = length-append (take at w) cs ∙ (λ j. before j + size j) in
        let one-on : at + n + 1 ≡ at + (n + 1) = omega arith in
        let put : set (take at w ++ (cs ++ drop (at + n) w)) (at + n) c ≡ take at w ++ ((cs ++ (c ∷ [])) ++ drop (at + (n + 1)) w) =
        ap (λ (l : List ℕ). set l (at + n) c) (sym (append_assoc (take at w) cs (drop (at + n) w)) ∙ ap (λ (l : List ℕ). (take at w ++ cs) ++ l) (drop-cons w (at + n) 0 (omega arith)))
        ∙ set_at (take at w ++ cs) (get_or w (at + n) 0) (drop (suc (at + n)) w) c (at + n) long
        ∙ append_assoc (take at w) cs (c ∷ drop (suc (at + n)) w)
        ∙ ap (λ (l : List ℕ). take at w ++ l) (sym (append_snoc cs c (drop (suc (at + n)) w)))
        ∙ ap (λ (m : ℕ). take at w ++ ((cs ++ (c ∷ [])) ++ drop m w)) (sym (add-one (at + n)) ∙ one-on) in
        record {
          read = k.read ++ (e ∷ []);
          count = length-append k.read (e ∷ []) ∙ ap (λ (m : ℕ). m + 1) k.count;
          whole = one_more ∙ sym (append_snoc k.read e (entries_from (GROUPS - (n + 1)) s next).entries);
          stored = ap (λ (l : List ℕ). set l (at + n) c) k.stored ∙ put
              ∙ ap (λ (l : List ℕ). take at w ++ (l ++ drop (at + (n + 1)) w)) (sym (map-append entry_code k.read (e ∷ [])));
        }

-- there is no room for more
none_left : (es : List Entry) → length es ≡ 0 → es ≡ []
none_left [] e = refl
none_left (x ∷ es) e = absurd (omega arith)

pub storing-ends : (w : List ℕ) (at : ℕ) (s : List ℕ) (from i n : ℕ) (u : List ℕ) → Storing w at s from i n u → EntriesFit s from → ENTRIES ≤ n → StoresCodes w at s from u n
storing-ends w at s from i n u k fit h =
    let more = (entries_from (GROUPS - n) s i).entries in
    let size = ap length k.whole ∙ length-append k.read more in
    let c = k.count in
    let few = fit.0 in
    let last : entries_here s from ≡ k.read = k.whole ∙ ap (λ (es : List Entry). k.read ++ es) (none_left more (omega arith)) ∙ append-nil k.read in
    (sym k.count ∙ ap length (sym last), k.stored ∙ ap (λ (es : List Entry). take at w ++ (map entry_code es ++ drop (at + n) w)) (sym last))
