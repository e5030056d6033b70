-- An accepted opening begins the history and the tables alike.
use Prim.Native.Nat.{ℕ, zero, suc}
use native.Mathlib.Omega.{arith}
use mathlib.Core.Bool.{Bool, true, false, ◌&&◌}
use mathlib.Core.List.{List, [], ◌∷◌, map}
use mathlib.Core.Path.{◌≡◌, refl, sym, ap, ◌∙◌, subst}
use lib.Dec.{ltb, eqb}
use lib.ListN.{get_or}
use borrow.Author.Tests.{eqb-true, lt-ltb}
use Rattle.rows.specs.declared.Process.{Process}
use Rattle.rows.specs.Lists.{filter, all, each, top_of, rises, member, some}
use Rattle.rows.specs.Tables.{empty, no_process, process_at}
use Rattle.rows.specs.Sound.{record_in_range, record_unused}
use Rattle.rows.proofs.Bools.{and_l, and_r, and_i, member-here, member-there}
use Rattle.rows.proofs.Lists.{all-of-member, all_get_d}
use Rattle.text.specs.Opening.{Form, opens, opening_of, lines_of, opened_from}
use Rattle.text.specs.Entry.{state_opened}
use Rattle.text.proofs.OpeningForms.{opening-good}
use Rattle.text.proofs.OpeningRecords.{is_home, opened-home}
use Rattle.text.proofs.Opening.{opened-requests}
use Rattle.history.specs.History.{Noted}
use Rattle.history.specs.Notes.{noted, spoiled, survives, sweep, standing, open_loans, last_go, went_nowhere}
use Rattle.history.specs.Reading.{entry_count, down_from, text_rows, begun_with, begun_by, begun}
use Rattle.history.proofs.Fit.{Fit, rooted, is_empty, bears_well, ends_well}
use Rattle.history.proofs.Inv.{Inv, Lends, below, through_now, loans_in}
use Rattle.history.proofs.Begun.{opened-next, begun-rows}

-- ---- the notes of the text
text-noted : (ns : List ℕ) → noted (text_rows ns) ≡ ns
unfolding noted text_rows
text-noted [] = refl
text-noted (n ∷ ns) = ap (λ l. n ∷ l) (text-noted ns)

-- a test that passes on every row of the text
text-all : (P : Noted → Bool) → ((n : ℕ) → P (record { number = n; sources = []; request = 0; port = 0 }) ≡ true) → (ns : List ℕ) → all P (text_rows ns) ≡ true
unfolding all text_rows
text-all P h [] = refl
text-all P h (n ∷ ns) = rw (h n) (text-all P h ns)

text-older : (ns : List ℕ) → each (λ r rs. all (λ s. member s (noted rs)) r.sources) (text_rows ns) ≡ true
unfolding each all text_rows
text-older [] = refl
text-older (n ∷ ns) = text-older ns

-- no row of the text falls
text-stands : (f : Noted → Bool) → ((n : ℕ) → f (record { number = n; sources = []; request = 0; port = 0 }) ≡ false) → (ns : List ℕ) → sweep f (text_rows ns) ≡ text_rows ns
unfolding sweep survives all text_rows
text-stands f h [] = refl
text-stands f h (n ∷ ns) = rw (h n) (ap (λ l. record { number = n; sources = []; request = 0; port = 0 } ∷ l) (text-stands f h ns))

text-top : (k : ℕ) → top_of (λ (r : Noted). r.number) (text_rows (down_from k)) ≡ k
unfolding top_of text_rows down_from
text-top zero = refl
text-top (suc k) = refl

text-rises : (k : ℕ) → rises (λ (r : Noted). r.number) (text_rows (down_from k)) ≡ true
unfolding rises text_rows down_from
text-rises zero = refl
text-rises (suc k) = rw (text-top k) (and_i (ltb k (suc k)) _ (lt-ltb k (suc k) (omega arith)) (text-rises k))

text-rooted : (ns ms : List ℕ) → ((n : ℕ) → member n ns ≡ true → member n ms ≡ true) → all (rooted ms) (text_rows ns) ≡ true
unfolding all text_rows rooted is_empty
text-rooted [] ms h = refl
text-rooted (n ∷ ns) ms h = and_i (member n ms) _ (h n (member-here n ns)) (text-rooted ns ms (λ k t. h k (member-there k n ns t)))

begun-fit : (k : ℕ) → Fit (begun_with (down_from k))
unfolding begun_with all each rises bears_well ends_well some
begun-fit k =
    record {
      rows-rise = text-rises k;
      requests-rise = refl;
      sources-older = text-older (down_from k);
      rows-rooted = text-rooted (down_from k) (down_from k) (λ n t. t);
      rows-bear = text-all (bears_well []) (λ n. refl) (down_from k);
      rows_end = text-all (ends_well (text_rows (down_from k))) (λ n. refl) (down_from k);
      ports-noted = refl;
      ends-kept = refl;
      text-noted = rw (text-noted (down_from k)) (all-of-member (λ n. member n (down_from k)) (down_from k) (λ n t. t));
    }

-- ---- the tables opened
home-through : (x : Process) → is_home x ≡ true → x.through ≡ 0
unfolding is_home
home-through x h = eqb-true x.through 0 (and_l (eqb x.through 0) (eqb x.active x.prime) (and_r (record_in_range x) (eqb x.through 0 && eqb x.active x.prime) h))

home_at : (ps : List Process) (p : ℕ) → all is_home ps ≡ true → (process_at ps p).through ≡ 0
unfolding process_at no_process is_home record_in_range record_unused
home_at ps zero e = refl
home_at ps (suc i) e = home-through (get_or ps i no_process) (all_get_d is_home ps e i no_process refl)

-- ---- both
module _ (text : List ℕ) (fs : List Form) (rest : List (List ℕ)) (e : opening_of (lines_of text) ≡ opens fs rest) where
  begun-is : begun text ≡ begun_with (down_from (entry_count fs))
  unfolding begun begun_by
  begun-is = rw e refl

  with-rows : Inv (begun_with (down_from (entry_count fs))) (state_opened fs)
  unfolding begun_with standing spoiled open_loans filter below all top_of through_now last_go went_nowhere Rattle.rows.specs.Lists.first_with some state_opened member
  with-rows =
      record {
        fit = begun-fit (entry_count fs);
        rows = begun-rows (lines_of text) rest fs e ∙ sym (text-stands _ (λ n. refl) (down_from (entry_count fs)));
        requests = ap (map _) (opened-requests fs);
        through = λ p l. home_at (opened_from empty fs).processes p (opened-home fs (opening-good (lines_of text) rest fs e).passed);
        rows-below = let n = opened-next fs in let k = text-top (entry_count fs) in omega arith;
        requests-below = let n = opened-next fs in omega arith;
        dropped-below = refl;
        ports-below = refl;
        closed-below = refl;
        went-below = λ p. let n = opened-next fs in omega arith;
      }

  pub begun-inv : Inv (begun text) (state_opened fs)
  begun-inv = subst (λ h. Inv h (state_opened fs)) (sym begun-is) with-rows

  pub begun-lends : Lends (begun text) (state_opened fs)
  begun-lends =
      subst (λ h. Lends h (state_opened fs)) (sym begun-is)
      (record { lends = unfold state_opened begun_with loans_in in (ap (λ vs. loans_in (opened_from empty fs).rows vs) (opened-requests fs)) })
