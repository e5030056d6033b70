-- What a line that was read is answered: 5, 6 and the refusals of its text change nothing; a listed caller's call is performed.
use Prim.Native.Nat.{ℕ}
use mathlib.Core.Bool.{true, false, not}
use mathlib.Core.List.{List}
use mathlib.Core.Path.{◌≡◌, refl, sym, ap, ◌∙◌}
use Rattle.rows.specs.declared.Process.{Process}
use Rattle.rows.specs.Lists.{some}
use Rattle.rows.specs.Tables.{State, is_listed}
use Rattle.rows.specs.Layout.{records_in, records_of}
use Rattle.rows.specs.vocabulary.Represents.{Represents}
use Rattle.rows.specs.vocabulary.Sizes.{IsRecords}
use Rattle.rows.proofs.Bools.{and_i, clash, not_f, false_of}
use Rattle.rows.proofs.LayoutRequests.{records-words}
use Rattle.calls.specs.declared.Call.{Call}
use Rattle.calls.specs.Rules.{Out, judge, lowest, refused}
use Rattle.calls.specs.Calls.{perform, caller_of}
use Rattle.calls.specs.vocabulary.Performs.{RunsAfter, CallerListed}
use Rattle.text.specs.declared.Reading.TheVariants.{Asks, Crowded}
use Rattle.text.specs.Entry.{caller_unlisted, answered}

-- a refused line leaves both runs
pub state-stays : (t p : List ℕ) (st : State) (o : Out) → o.after ≡ st → IsRecords p → Represents t st → st.processes ≡ records_in p → RunsAfter t p o
state-stays t p st o e long rep same =
    rw e (rep, sym (records-words 64 p long) ∙ ap records_of (sym same))

pub refused-stays : (t p : List ℕ) (st : State) (k : ℕ) → IsRecords p → Represents t st → st.processes ≡ records_in p → RunsAfter t p (refused st k)
unfolding refused
refused-stays t p st k long rep same = state-stays t p st (refused st k) refl long rep same

-- ---- the caller
pub unlisted-refused : (st : State) (c : Call) → caller_unlisted st c ≡ true → answered st (Asks c) ≡ refused st 5
unfolding answered judge lowest
unlisted-refused st c e = rw e refl

pub listed-performed : (st : State) (c : Call) → caller_unlisted st c ≡ false → answered st (Asks c) ≡ perform st c
unfolding answered judge lowest
listed-performed st c e = rw e refl

pub caller-listed : (st : State) (c : Call) → caller_unlisted st c ≡ false → CallerListed st c
unfolding caller_unlisted
caller-listed st c e named = not_f (is_listed st.processes (caller_of c)) (false_of _ (λ t. clash (and_i (some (caller_of c)) (not (is_listed st.processes (caller_of c))) named t) e))

-- ---- too many items
pub crowded-listed : (st : State) (ps : List Process) (q : ℕ) → st.processes ≡ ps → is_listed ps q ≡ true → answered st (Crowded q) ≡ refused st 6
unfolding answered judge lowest
crowded-listed st ps q same e = rw (same, e) refl

pub crowded-unlisted : (st : State) (ps : List Process) (q : ℕ) → st.processes ≡ ps → is_listed ps q ≡ false → answered st (Crowded q) ≡ refused st 5
unfolding answered judge lowest
crowded-unlisted st ps q same e = rw (same, e) refl
