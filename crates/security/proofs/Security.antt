-- The security theorems, all of them.
use Rattle.security.specs.Security.{Security}
use Rattle.security.proofs.Entries.{entries}
use Rattle.security.proofs.Steps.{every-touches, every-moves}
use Rattle.security.proofs.Nodes.{nodes-stay, ends-together}
use Rattle.security.proofs.Numbers.{lasting, gives, answered}
use Rattle.security.proofs.PlacesKept.{where-everything-is}
use Rattle.security.proofs.Rights.{rights-never-grow}
use Rattle.security.proofs.Borrowers.{what-a-process-has, without-loans, one-step-through-lent}
use Rattle.security.proofs.ReachLaw.{reach-of-rows, only-register-widens}
use Rattle.security.proofs.Revocation.{never-blocked, oldest-loan-brings-home}
use Rattle.security.proofs.Room.{frees, room-comes-back}
use Rattle.security.proofs.Isolation.{view-decides, isolation}
use Rattle.security.proofs.OnLoan.{on-loan-as-said}
use Rattle.security.proofs.Holders.{who-has-what}

pub security : Security
security =
    record {
      sessions = entries;
      rights = rights-never-grow;
      moves = every-moves;
      places = where-everything-is;
      touches = every-touches;
      lasting = lasting;
      gives = gives;
      answers = answered;
      unblocked = never-blocked;
      home = oldest-loan-brings-home;
      has = what-a-process-has;
      unlent = without-loans;
      reach = reach-of-rows;
      widens = only-register-widens;
      one-step = one-step-through-lent;
      nodes = nodes-stay;
      ports = ends-together;
      frees = frees;
      room = room-comes-back;
      view = view-decides;
      isolation = isolation;
      on-loan = on-loan-as-said;
      holders = who-has-what;
    }
