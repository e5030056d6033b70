-- Laws behind the entry points. One line a file:
-- what a line that was read is answered, on sound tables
pub mod Answered
-- words that are sound tables, or not, and what the definition makes of them
pub mod Entered
-- a reply handed out byte by byte
pub mod Handed
-- along any run, demand 3 and kept soundness hold of what the functions reply and leave
pub mod Runs
