-- What the exported call says: the call of its words, the words of its answer, and both runs after it.
use Rattle.std.specs.Prelude.{ℕ, suc, ◌+◌, Bool, true, ◌||◌, List, [], ◌∷◌, ◌++◌, ◌≡◌, leb, eqb, get_or, replicate, if◌then◌else◌}
use Rattle.rows.specs.Lists.{between}
use Rattle.rows.specs.Tables.{State}
use Rattle.rows.specs.Sound.{sound}
use Rattle.rows.specs.Layout.{records_in}
use Rattle.rows.specs.vocabulary.Represents.{Represents}
use Rattle.rows.specs.vocabulary.Sizes.{PROCESSES, IsTables, IsRecords}
use Rattle.calls.specs.declared.Item.{Item}
use Rattle.calls.specs.declared.Sixteen.{Sixteen}
use Rattle.calls.specs.declared.Answer.{Answer}
use Rattle.calls.specs.declared.Answer.TheVariants.{Done, Made, Fetched, Told, Chained, ToldAll, Refused}
use Rattle.calls.specs.declared.Call.{Call}
use Rattle.calls.specs.declared.Call.TheVariants.{Go, Hold, Register, Drop, Port, Close, Ask, Fetch, Revoke, Comes, Chain, ComesAll}
use Rattle.calls.specs.Answers.{four_of, numbers_of, all_of}
use Rattle.calls.specs.Calls.{four_from, perform}
use Rattle.calls.specs.vocabulary.Performs.{RunsAfter, CallerListed}
use Rattle.test_exports.specs.vocabulary.Exports.{Unless}

-- ---- a call in words: its code, its two numbers (of chain the first alone), row and rights of each item of an ask, or 1
-- for a request served; of comesall its code, the rows of the pairs, their requests
abbrev pub CALL_WORDS : ℕ
CALL_WORDS = 33

abbrev item_of_words : List ℕ → ℕ → Item
item_of_words w k = record { row = get_or w k 0; rights = get_or w (suc k) 0 }

abbrev pub items_of_words : List ℕ → List Item
items_of_words w = item_of_words w 3 ∷ item_of_words w 5 ∷ item_of_words w 7 ∷ item_of_words w 9 ∷ []

abbrev pub sixteen_at : List ℕ → ℕ → Sixteen
sixteen_at w k =
    record {
      first = four_from w k;
      second = four_from w (k + 4);
      third = four_from w (k + 8);
      fourth = four_from w (k + 12);
    }

-- the calls in the order of their type; any other code is that of comesall
unfoldable pub call_of_code : ℕ → ℕ → ℕ → List Item → Bool → Sixteen → Sixteen → Call
call_of_code k p e is served es qs =
    if eqb k 0 then Go p e
    else if eqb k 1 then Hold p e
    else if eqb k 2 then Register p e
    else if eqb k 3 then Drop p e
    else if eqb k 4 then Port p e
    else if eqb k 5 then Close p e
    else if eqb k 6 then Ask p e is
    else if eqb k 7 then Fetch p e
    else if eqb k 8 then Call.Answer p e served
    else if eqb k 9 then Revoke p e
    else if eqb k 10 then Comes p e
    else if eqb k 11 then Chain p
    else ComesAll es qs

abbrev pub call_of_words : List ℕ → Call
call_of_words w =
    call_of_code (get_or w 0 0) (get_or w 1 0) (get_or w 2 0) (items_of_words w) (eqb (get_or w 3 0) 1) (sixteen_at w 1) (sixteen_at w 17)

-- it has no caller, or a process's number for it
abbrev pub call_fits : List ℕ → Bool
call_fits w = leb 10 (get_or w 0 0) || between 1 PROCESSES (get_or w 1 0)

-- ---- an answer in words: its code, its numbers, 0 after them
unfoldable pub words_of_answer : Answer → List ℕ
words_of_answer Done = replicate 17 0
words_of_answer (Made n) = 1 ∷ n ∷ replicate 15 0
words_of_answer (Fetched v is) = 2 ∷ v ∷ four_of is ++ replicate 11 0
words_of_answer (Told b) = 3 ∷ (if b then 1 else 0) ∷ replicate 15 0
words_of_answer (Refused k) = 4 ∷ k ∷ replicate 15 0
words_of_answer (Chained a b c) = 5 ∷ numbers_of a ++ (numbers_of b ++ (numbers_of c ++ replicate 4 0))
words_of_answer (ToldAll s) = 6 ∷ all_of s

-- ---- the call on both runs
-- lengths and caller fit
abbrev pub Fits : List ℕ → List ℕ → List ℕ → Type 0
Fits t p w = IsTables t × IsRecords p × (call_fits w ≡ true)

-- the same by the words of the call, and of the answer
abbrev pub PerformsWords : List ℕ → List ℕ → List ℕ → List ℕ → List ℕ → List ℕ → Type 0
PerformsWords t p w u v out =
    Fits t p w → (st : State) → sound st ≡ true → Represents t st → st.processes ≡ records_in p
    → CallerListed st (call_of_words w)
    → RunsAfter u v (perform st (call_of_words w)) × (out ≡ words_of_answer (perform st (call_of_words w)).answer)

-- unless they fit, all stay
abbrev pub AllStay : List ℕ → List ℕ → List ℕ → List ℕ → List ℕ → List ℕ → List ℕ → Type 0
AllStay t p w out u v out' = Unless (Fits t p w) ((u ≡ t) × (v ≡ p) × (out' ≡ out))
