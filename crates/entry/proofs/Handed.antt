-- A reply under a C name: handed out, it is the definition's.
use Prim.Native.Nat.{ℕ, ◌≤◌}
use mathlib.Core.List.{List}
use mathlib.Core.Path.{◌≡◌}
use lib.ListN.{length}
use Rattle.text.specs.declared.Reply.{Reply}
use Rattle.text.specs.Entry.{Replied}
use Rattle.text.specs.vocabulary.Replies.{in_reply, HandsOut}
use Rattle.text.specs.vocabulary.Sizes.{REPLY}
use Rattle.text.proofs.HandedOut.{text-handed}
use Rattle.entry.specs.vocabulary.Entries.{Given}

pub given : (o : Replied) (r : Reply) → length o.reply ≤ REPLY → r ≡ in_reply o.reply → (out t p after : List ℕ) (n : ℕ)
    → (t ≡ o.tables) × (p ≡ o.processes) → HandsOut r out after n → Given o out t p after n
given o r short is out t p after n runs hands =
    let put = text-handed o.reply r short is out after n hands in
    (put.0, put.1, runs.0, runs.1)
