-- A session from an input to an output: what is read of the one, written to the other and left in both runs. Of a reader or a writer that does not say its bytes nothing is said.
use Rattle.std.specs.Prelude.{ℕ, List, ◌++◌, ◌≡◌, ◌⊎◌}
use Rattle.std.specs.declared.option.Option.{Option}
use Rattle.std.specs.Io.KnownBytes.{Appends, Consumes, IsAtEnd}
use Rattle.rows.specs.Layout.{words_of, records_of}
use Rattle.text.specs.Session.{session, session_end}
use Rattle.feed.specs.Feeding.{Session, fed}

-- (rule K11) these bytes are fed to the session s, which is u then, and what is printed is written: the bytes w become v
pub record Answers (bytes : List ℕ) (s : Session) (w : Option (List ℕ)) (u : Session) (v : Option (List ℕ)) : Type 0 where
  pub after : u ≡ (fed s bytes).after
  pub written : Appends w v (fed s bytes).printed

-- (rule K9) nothing is printed of what follows these bytes
abbrev pub IsOver : List ℕ → Type 0
IsOver input = (rest : List ℕ) → session (input ++ rest) ≡ session input

-- (rules P13, P35) the input is read to its end, or as far as anything of it is answered; what is written is its session, and both runs are those of its end
pub record Whole (r w q v : Option (List ℕ)) (t p : List ℕ) : Type 0 where
  pub input : List ℕ
  pub read : Consumes r q input
  pub ended : IsAtEnd q ⊎ IsOver input
  pub written : Appends w v (session input)
  pub tables_end : t ≡ words_of (session_end input)
  pub processes-end : p ≡ records_of (session_end input).processes
