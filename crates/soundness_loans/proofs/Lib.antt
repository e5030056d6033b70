-- Laws behind the clauses of requests and holders. One line a file:
-- the clauses of one request, over the words of its slot
pub mod RequestClauses
-- one walk along the numbers of rows and of requests
pub mod NumbersApart
-- the loops over requests, and their clauses joined
pub mod RequestClausesLoops
-- the listing of rows by requests: codes at slots
pub mod HolderClauses
-- older requests, told from the newest
pub mod HolderClausesOlder
-- the loop that lists, and the rows once all requests are listed
pub mod HolderClausesLoops
