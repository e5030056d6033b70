-- Along every run of begin, feed and finish all that is printed is the session of all that was read, and the page is that of its end.
use Prim.Native.Nat.{ℕ}
use mathlib.Core.List.{List, [], ◌∷◌, ◌++◌, map}
use mathlib.Core.Path.{◌≡◌, refl, sym, ap, subst, ◌∙◌}
use lib.ListN.{take, drop}
use lib.Seq.{take_at}
use Rattle.rows.specs.Tables.{State}
use Rattle.rows.specs.Layout.{words_of, records_of, rows_in}
use Rattle.tables.proofs.Sound.{Sound}
use Rattle.tables.proofs.Words.{state-words}
use Rattle.text.specs.Session.{session_end}
use Rattle.page.specs.Page.{page, lines_from}
use Rattle.page.proofs.Promises.{page-promises}
use Rattle.history.specs.Kept.{joined}
use Rattle.feed.specs.Feeding.{Session, begun, silent, followed, fed, parts_fed, finished, ended_on, printed_on}
use Rattle.feed.specs.vocabulary.Buffers.{session_in, Writes}
use Rattle.feed.specs.Runs.{Held, Feed, Runs, held_after, bytes_read, bytes_printed, EveryFeeding}
use Rattle.feed.proofs.Replies.{end-sound}
use Rattle.feed.proofs.Moves.{given-writes}
use Rattle.feed.proofs.Prints.{prints}
use Rattle.feed.proofs.Parts.{lengths-right}

abbrev session_of : Held → Session
session_of h = session_in h.kept h.buffer h.tables h.processes

-- what is written in front
front : (text out written : List ℕ) (n : ℕ) → Writes text out written n → take n written ≡ text
front text out written n w = ap (take n) w.1 ∙ take_at text (drop n out) n (sym w.0)

-- a run is a session that is fed these parts
record FedSo (h : Held) (fs : List Feed) (s : Session) : Type 0 where
  printed : joined (map bytes_printed fs) ≡ (parts_fed s (map bytes_read fs)).printed
  after : session_of (held_after h fs) ≡ (parts_fed s (map bytes_read fs)).after

run-fed : (fs : List Feed) (h : Held) → Runs h fs → FedSo h fs (session_of h)
unfolding Runs held_after parts_fed silent followed joined
run-fed [] h r = record { printed = refl; after = refl }
run-fed (f ∷ fs) h r =
    let x = fed (session_of h) (bytes_read f) in
    let m = r.0.0 in
    let here : session_of f.after ≡ x.after = ap (λ k. session_in k f.after.buffer f.after.tables f.after.processes) r.0.1 ∙ m.session in
    let rest : FedSo f.after fs x.after = subst (FedSo f.after fs) here (run-fed fs f.after r.1) in
    record {
      printed = ap (λ l. l ++ joined (map bytes_printed fs)) (front x.printed f.out f.written f.result.printed m.writes) ∙ ap (λ l. x.printed ++ l) rest.printed;
      after = rest.after;
    }

-- the page of the words of a sound state; a session ends in one
page-of : (st : State) → Sound st → lines_from (words_of st) 0 (rows_in (words_of st)) ≡ page st.rows
page-of st s = page-promises.of_words (words_of st) (records_of st.processes) ∙ ap (λ (x : State). page x.rows) (state-words st s)

pub every-feeding : EveryFeeding
unfolding EveryFeeding printed_on ended_on session_in
every-feeding h begins long tables processes fs r out t p written n w =
    let start = (begins h.buffer h.tables h.processes long tables processes).0 in
    let run = subst (FedSo h fs) start (run-fed fs h r) in
    let last = session_of (held_after h fs) in
    let read = map bytes_read fs in
    let fits = lengths-right h.tables h.processes tables processes in
    let same : finished last.stage last ≡ ended_on h.tables h.processes read = ap (λ s. finished s.stage s) run.after in
    let ends = prints.ends h.tables h.processes fits read in
    let there : t ≡ words_of (session_end (joined read)) = w.2 ∙ ap (λ o. o.tables) same ∙ ends.0 in
    record {
      printed-whole =
          ap (λ l. joined (map bytes_printed fs) ++ l) (front (finished last.stage last).reply out written n (given-writes (finished last.stage last) out t p written n w))
          ∙ ap (λ l. l ++ (finished last.stage last).reply) run.printed
          ∙ ap (λ o. (parts_fed (begun h.tables h.processes) read).printed ++ o.reply) same
          ∙ prints.whole h.tables h.processes fits read;
      tables_end = there;
      processes-end = w.3 ∙ ap (λ o. o.processes) same ∙ ends.1;
      page-end = ap (λ (u : List ℕ). lines_from u 0 (rows_in u)) there ∙ page-of (session_end (joined read)) (end-sound (joined read));
    }
