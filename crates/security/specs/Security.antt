-- The security theorems, each by its name. `security` (proofs/Security.antt) proves all of them: if one is dropped or weakened, this crate is not proved.
use Rattle.security.specs.Sessions.{EveryStep, Entries}
use Rattle.security.specs.Changes.{Touches}
use Rattle.security.specs.Authority.{Moves}
use Rattle.security.specs.Numbers.{Lasting, Gives, Answered}
use Rattle.security.specs.Nodes.{NodesStay, EndsTogether}
use Rattle.security.specs.Places.{WhereEverythingIs}
use Rattle.security.specs.Rights.{RightsNeverGrow}
use Rattle.security.specs.Borrowers.{OneStepThroughLent, WhatAProcessHas, WithoutLoans}
use Rattle.security.specs.Reach.{ReachOfRows, OnlyRegisterWidens}
use Rattle.security.specs.Revocation.{NeverBlocked, OldestLoanBringsHome, Frees, RoomComesBack}
use Rattle.security.specs.Isolation.{ViewDecides, Isolation}
use Rattle.security.specs.OnLoan.{OnLoanAsSaid}
use Rattle.security.specs.Holders.{WhoHasWhat}

pub record Security : Type 0 where
  -- the states of sessions are those after any lines that the entry points are lent
  pub sessions : Entries
  -- rights never grow
  pub rights : RightsNeverGrow
  -- authority moves only by the rules
  pub moves : EveryStep Moves
  -- where everything is, at all times
  pub places : WhereEverythingIs
  -- what a call may touch
  pub touches : EveryStep Touches
  -- revocation is complete and lasting; numbers are never given again
  pub lasting : Lasting
  pub gives : EveryStep Gives
  pub answers : Answered
  -- revocation is never blocked; the oldest loan brings an end home
  pub unblocked : NeverBlocked
  pub home : OldestLoanBringsHome
  -- what a process has, at all times
  pub has : WhatAProcessHas
  pub unlent : WithoutLoans
  -- reach
  pub reach : ReachOfRows
  pub widens : OnlyRegisterWidens
  -- a borrower of a subdirectory holds no subdirectory taken in it
  pub one-step : OneStepThroughLent
  -- rows of nodes stay; ports have both ends or none
  pub nodes : NodesStay
  pub ports : EndsTogether
  -- room comes back
  pub frees : EveryStep Frees
  pub room : RoomComesBack
  -- isolation
  pub view : ViewDecides
  pub isolation : Isolation
  -- what the history has on loan is what its words say
  pub on-loan : OnLoanAsSaid
  -- who has each row, by the history
  pub holders : WhoHasWhat
