-- The history: what each accepted call notes (docs/MANUAL.md, 10.1). It is fed text, lines and answers, and reads no table.
use Rattle.std.specs.Prelude.{ℕ, suc, pred, Bool, not, ◌&&◌, ◌||◌, List, [], ◌∷◌, ◌++◌, map, eqb, if◌then◌else◌}
use Rattle.rows.specs.Lists.{filter, any, all, first_with, member, some}
use Rattle.calls.specs.declared.Item.{Item}
use Rattle.history.specs.History.{Noted, Loan, Went, OnLoan, History, with_noted_rows, with_noted_requests, with_dropped, with_closed_ports, with_closed_requests, with_went, with_loans}

-- ---- look-up
-- (rule H2) rows and requests noted, by number
unfoldable pub noted : List Noted → List ℕ
noted rs = map (λ r. r.number) rs

unfoldable pub nothing_noted : Noted
nothing_noted = record { number = 0; sources = []; request = 0; port = 0 }

unfoldable pub noted_of : List Noted → ℕ → Noted
noted_of rs n = first_with (λ r. r.number) nothing_noted rs n

unfoldable pub no_loan : Loan
no_loan = record { number = 0; lender = 0; port = 0; ends = [] }

unfoldable pub loan_of : List Loan → ℕ → Loan
loan_of vs q = first_with (λ v. v.number) no_loan vs q

-- ---- which rows stand and which requests are closed, computed for the notes; Chains.antt has what these words mean
-- (rules H3, H5) dropped, or bears a request or is an end of a port closed by a call
unfoldable pub spoiled : History → Noted → Bool
spoiled h r =
    member r.number h.dropped
    || ((some r.request && member r.request h.closed_requests) || (some r.port && member r.port h.closed_ports))

-- (rules H4, H5) from the oldest row on: those of which f does not hold and whose sources are left
unfoldable pub survives : (Noted → Bool) → List ℕ → Noted → Bool
survives f left r = not (f r) && all (λ s. member s left) r.sources

unfoldable pub sweep : (Noted → Bool) → List Noted → List Noted
sweep f [] = []
sweep f (r ∷ rs) = let left = sweep f rs in if survives f (noted left) r then r ∷ left else left

unfoldable pub standing : History → List Noted
standing h = sweep (spoiled h) h.rows

unfoldable pub stands : History → ℕ → Bool
stands h n = member n (noted (standing h))

-- (rule H4) closed by a call, or its port is closed: its client end stands no longer
unfoldable pub is_closed : History → Loan → Bool
is_closed h v = member v.number h.closed_requests || not (stands h v.port)

unfoldable pub open_loans : History → List Loan
open_loans h = filter (λ v. not (is_closed h v)) h.requests

-- (rule H2) the request open on a port, 0 for none
unfoldable pub open_request : History → ℕ → ℕ
open_request h c = (first_with (λ v. v.port) no_loan (open_loans h) c).number

-- ---- loans
-- (rule H6) a loan is over when its end stands no more, when its request is closed, or when an older one that has the end on loan is
unfoldable pub is_closed_now : History → OnLoan → Bool
is_closed_now h o = is_closed h (loan_of h.requests o.request)

-- (rule H6) older: the older requests that had ends on loan
unfoldable pub stays_on_loan : History → List OnLoan → OnLoan → Bool
stays_on_loan h older o =
    stands h o.lent && (not (is_closed_now h o) && not (any (λ x. eqb x.lent o.lent && is_closed_now h x) older))

unfoldable pub loans_left : History → List OnLoan → List OnLoan
loans_left h [] = []
loans_left h (o ∷ older) = if stays_on_loan h older o then o ∷ loans_left h older else loans_left h older

-- (rule H6) ends whose loan is over go from the list
unfoldable pub loans_settled : History → History
loans_settled h = with_loans (loans_left h h.loans) h

-- ---- notes
-- (rule H2) a row n, with its sources, the request that it bears, the port that it is an end of
unfoldable pub add_row : ℕ → List ℕ → ℕ → ℕ → History → History
add_row n ss q c h = with_noted_rows (record { number = n; sources = ss; request = q; port = c } ∷ h.rows) h

-- (rule H2) `go e`: that p went to e
unfoldable pub went_nowhere : Went
went_nowhere = record { process = 0; through = 0 }

unfoldable pub last_go : List Went → ℕ → ℕ
last_go ws p = (first_with (λ w. w.process) went_nowhere ws p).through

unfoldable pub note_go : ℕ → ℕ → History → History
note_go p e h = with_went (record { process = p; through = e } ∷ h.went) h

-- (rule H2) `hold s`: row n, source s; and a second source e, if p went to e last, e is not 0, and e stands
unfoldable pub held_sources : History → ℕ → ℕ → List ℕ
held_sources h p s = let e = last_go h.went p in if some e && stands h e then s ∷ e ∷ [] else s ∷ []

unfoldable pub note_hold : ℕ → ℕ → ℕ → History → History
note_hold p s n h = add_row n (held_sources h p s) 0 0 h

-- (rule H2) `register e`: row n, its source the first source of e
unfoldable pub first_only : List ℕ → List ℕ
first_only [] = []
first_only (s ∷ ss) = s ∷ []

unfoldable pub note_register : ℕ → ℕ → History → History
note_register e n h = add_row n (first_only (noted_of h.rows e).sources) 0 0 h

-- (rule H2) `port e`: port n, its ends n and n + 1, source e
unfoldable pub note_port : ℕ → ℕ → History → History
note_port e n h = add_row (suc n) (e ∷ []) 0 n (add_row n (e ∷ []) 0 n h)

-- (rule H2) `ask c ..`: request v, lender p, on port c, with the ends among its items; the other items are rows v + 1 and on, bearing v, sources item and c
unfoldable pub is_end_noted : List Noted → Item → Bool
is_end_noted rs i = some (noted_of rs i.row).port

unfoldable pub ends_named : List Noted → List Item → List ℕ
ends_named rs is = map (λ i. i.row) (filter (is_end_noted rs) is)

unfoldable pub copies_noted : ℕ → ℕ → ℕ → List Item → List Noted → List Noted
copies_noted v c n [] rs = rs
copies_noted v c n (i ∷ is) rs = copies_noted v c (suc n) is (record { number = n; sources = i.row ∷ c ∷ []; request = v; port = 0 } ∷ rs)

unfoldable pub copied : List Noted → List Item → List Item
copied rs is = filter (λ i. not (is_end_noted rs i)) is

unfoldable pub note_ask : ℕ → ℕ → List Item → ℕ → History → History
note_ask p c is v h =
    let es = ends_named h.rows is in
    with_noted_rows (copies_noted v c (suc v) (copied h.rows is) h.rows)
    (with_noted_requests (record { number = v; lender = p; port = c; ends = es } ∷ h.requests)
    (with_loans (map (λ e. record { request = v; lent = e }) es ++ h.loans) h))

-- (rule H2) `drop e`: e is dropped; `close c`: port c is closed; `revoke q`: request q is closed
unfoldable pub note_drop : ℕ → History → History
note_drop e h = with_dropped (e ∷ h.dropped) h

unfoldable pub note_close : ℕ → History → History
note_close c h = with_closed_ports (c ∷ h.closed_ports) h

unfoldable pub note_revoke : ℕ → History → History
note_revoke q h = with_closed_requests (q ∷ h.closed_requests) h

-- (rule H2) `answer v x`: the request open on port v - 1 is closed
unfoldable pub note_end : ℕ → History → History
note_end v h = note_revoke (open_request h (pred v)) h
