-- All that is promised of history and of what is below it.
use Prim.Native.Nat.{ℕ, suc}
use mathlib.Core.Bool.{true, false, ◌||◌}
use mathlib.Core.List.{List, [], ◌∷◌, map}
use mathlib.Core.Path.{◌≡◌, refl, ap, ◌∙◌}
use borrow.Author.Tests.{eqb-true}
use Rattle.rows.specs.Lists.{all}
use Rattle.rows.specs.Codes.{client_end, server_end, is_client, is_server, is_clist, is_system}
use Rattle.rows.specs.Tables.{numbers}
use Rattle.rows.specs.vocabulary.Represents.{sources_older}
use Rattle.tables.proofs.Sound.{sound-open}
use Rattle.tables.proofs.Words.{state-words, sound-words, words-state}
use Rattle.tables.proofs.Marking.{marked-reaches, marked-closed, marked-least}
use Rattle.kept.proofs.Steps.{close-request-steps, close-port-steps}
use Rattle.text.proofs.Numbers.{exact, capped, never-wrapped}
use Rattle.text.proofs.CallsBack.{call-read}
use Rattle.text.proofs.AnswersBack.{answer-read}
use Rattle.rows.proofs.Bools.{and_i}
use Rattle.calls.specs.declared.Call.TheVariants.{Revoke}
use Rattle.text.specs.declared.Reading.TheVariants.{Asks}
use Rattle.text.specs.CallLines.{reading_of}
use Rattle.text.specs.Entry.{Replied}
use Rattle.history.specs.Reading.{accepts, note_line}
use Rattle.history.specs.Demand3.{Demand3, state_in, InTables, ends_of, TwoEnds, Holds, Vanished, Returned, Revoked}
use Rattle.history.specs.Promises.{Promises, Accepted, after_lines, told_by, after_line, rows_lent, port_ends}
use Rattle.history.proofs.Demand3.{demand3}
use Rattle.history.proofs.Kept.{kept}
use Rattle.history.proofs.ChainTold.{chain-told, chain-accepted}
use Rattle.history.proofs.ComesTold.{comes-told, comes-accepted}
use Rattle.history.proofs.PairsTold.{comes-all-told}
use Rattle.history.proofs.Laws.{nodes-never-vanish, rights-never-grow}

-- ---- demand 3, taken apart
held : (t p text : List ℕ) → Accepted t p text → (lines : List (List ℕ)) → Holds (told_by t p text lines) (state_in (after_lines t p text lines))
unfolding Demand3
held t p text ok lines = (demand3 t p text ok lines).0

revoked : (t p text : List ℕ) → Accepted t p text → (lines : List (List ℕ)) (line : List ℕ) (r q : ℕ) →
    let w = after_lines t p text lines in
    reading_of line ≡ Asks (Revoke r q) → accepts (after_line w line).reply ≡ true
    → Vanished (told_by t p text lines) (state_in w) (state_in (after_line w line)) q × Returned (told_by t p text lines) (note_line (told_by t p text lines) line (after_line w line).reply) (state_in (after_line w line))
unfolding Demand3 Revoked
revoked t p text ok lines line r q = (demand3 t p text ok lines).1 line r q

client-no-server : (k : ℕ) → is_client k ≡ true → is_server k ≡ false
unfolding is_client is_server client_end server_end
client-no-server k e = rw (eqb-true k 3 e) refl

as_said : (w : Replied) (c : ℕ) → TwoEnds (rows_lent w) c →
    let ends = port_ends w c in
    (map (λ r. r.number) ends ≡ suc c ∷ c ∷ []) × (map (λ r. is_server r.kind) ends ≡ true ∷ false ∷ [])
    × (all (λ r. is_clist r.place || is_system r.place) ends ≡ true)
unfolding ends_of all
as_said w c two = (
  ap (map (λ r. r.number)) two.exactly ∙ (λ j. two.server_number j ∷ two.client_number j ∷ []),
  ap (map (λ r. is_server r.kind)) two.exactly ∙ (λ j. two.server_kind j ∷ client-no-server two.client.kind two.client_kind j ∷ []),
  ap (all (λ r. is_clist r.place || is_system r.place)) two.exactly ∙ and_i (is_clist two.server.place || is_system two.server.place) _ two.server_held (and_i (is_clist two.client.place || is_system two.client.place) true two.client_held refl),
)

pub promises : Promises
unfolding sources_older numbers exact capped InTables Returned
promises =
    record {
      demand3 = demand3;
      rows-exactly = λ t p text ok lines. (held t p text ok lines).exactly;
      two_ends = λ t p text ok lines c port stands. as_said (after_lines t p text lines) c ((held t p text ok lines).ports c port stands);
      standing = λ t p text ok lines. (held t p text ok lines).standing;
      closed = λ t p text ok lines. (held t p text ok lines).closed;
      revoked-exactly = λ t p text ok lines line r q n e done here. (revoked t p text ok lines line r q e done).0.exactly n here;
      revoked-nothing-new = λ t p text ok lines line r q n e done. (revoked t p text ok lines line r q e done).0.nothing_new n;
      revoked-returned = λ t p text ok lines line r q d v e done stands had gone oldest.
          (revoked t p text ok lines line r q e done).1 d v stands (record { had_on_loan = had; is_closed = gone }) (λ u z. oldest u z.had_on_loan z.is_closed);
      kept = kept;
      opened-sound = kept.opened;
      called-sound = kept.called;
      session-sound = kept.session-sound;
      never-one = kept.never-one;
      call-refused = kept.call-refused;
      opening-refused = kept.opening-refused;
      opening-misfit = kept.opening-misfit;
      session-replies = kept.session-replies;
      state-words = λ st e. state-words st (sound-open st e);
      sound-words = λ st e. sound-words st (sound-open st e);
      words-state = words-state;
      close-request-steps = λ st e. close-request-steps st (sound-open st e);
      close-port-steps = λ st e. close-port-steps st (sound-open st e);
      marked-reaches = marked-reaches;
      marked-closed = marked-closed;
      marked-least = marked-least;
      nodes-never-vanish = λ st e. nodes-never-vanish st (sound-open st e);
      rights-never-grow = rights-never-grow;
      chain-told = chain-told;
      chain-accepted = chain-accepted;
      comes-all-told = λ t p line es qs so. comes-all-told t p so line es qs;
      comes-accepted = comes-accepted;
      comes-told = comes-told;
      never-wrapped = never-wrapped;
      call-read = call-read;
      answer-read = answer-read;
    }
