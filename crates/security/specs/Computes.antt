-- Made by tools/computes: to unfold `computes` is to unfold every definition of this crate.

unfoldable pub computes : Unit {0}
unfolding Rattle.security.specs.Sessions.logged Rattle.security.specs.Sessions.nobody Rattle.security.specs.Sessions.fetcher_of Rattle.security.specs.Sessions.note_fetch_call Rattle.security.specs.Sessions.note_fetch_reading Rattle.security.specs.Sessions.note_fetch Rattle.security.specs.Sessions.fetches_after Rattle.security.specs.Changes.closed_by Rattle.security.specs.Changes.discards Rattle.security.specs.Changes.falls Rattle.security.specs.Changes.goes Rattle.security.specs.Changes.shuts Rattle.security.specs.Changes.place_back Rattle.security.specs.Changes.place_after Rattle.security.specs.Changes.leaves_list Rattle.security.specs.Changes.fetched_by Rattle.security.specs.Changes.request_after Rattle.security.specs.Changes.record_homed Rattle.security.specs.Changes.record_after Rattle.security.specs.Changes.takes Rattle.security.specs.Numbers.Lasting Rattle.security.specs.Numbers.Answered Rattle.security.specs.Nodes.NodesStay Rattle.security.specs.Nodes.EndsTogether Rattle.security.specs.Places.home_of Rattle.security.specs.Places.listers Rattle.security.specs.Places.whereabouts Rattle.security.specs.Places.Lenders Rattle.security.specs.Places.WhereEverythingIs Rattle.security.specs.Rights.RightsNeverGrow Rattle.security.specs.Borrowers.OneStepThroughLent Rattle.security.specs.Borrowers.WhatAProcessHas Rattle.security.specs.Borrowers.WithoutLoans Rattle.security.specs.Reach.ReachOfRows Rattle.security.specs.Reach.OnlyRegisterWidens Rattle.security.specs.Revocation.NeverBlocked Rattle.security.specs.Revocation.OldestLoanBringsHome Rattle.security.specs.Revocation.after_calls Rattle.security.specs.Revocation.revoke_each Rattle.security.specs.Revocation.RoomComesBack Rattle.security.specs.Isolation.seen_end Rattle.security.specs.Isolation.seen_request Rattle.security.specs.Isolation.nothing_seen Rattle.security.specs.Isolation.seen_row Rattle.security.specs.Isolation.view Rattle.security.specs.Isolation.ViewDecides Rattle.security.specs.Isolation.Isolation Rattle.security.specs.OnLoan.none_said Rattle.security.specs.OnLoan.said_now Rattle.security.specs.OnLoan.said_after Rattle.security.specs.OnLoan.OnLoanAsSaid Rattle.security.specs.Holders.nowhere Rattle.security.specs.Holders.homed_of Rattle.security.specs.Holders.entry_homes Rattle.security.specs.Holders.form_homes Rattle.security.specs.Holders.forms_in Rattle.security.specs.Holders.forms_of Rattle.security.specs.Holders.node_now Rattle.security.specs.Holders.copy_homes Rattle.security.specs.Holders.note_homes Rattle.security.specs.Holders.reading_homes Rattle.security.specs.Holders.line_homes Rattle.security.specs.Holders.homes_after Rattle.security.specs.Holders.no_loan_of Rattle.security.specs.Holders.lent_by Rattle.security.specs.Holders.with_fetcher Rattle.security.specs.Holders.place_said Rattle.security.specs.Holders.WhoHasWhat
computes = tt
