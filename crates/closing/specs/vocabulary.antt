-- The vocabulary of contracts of closing. A reader of the definitions need not read it.
-- One line a file:
-- what a closing starts from
pub mod Seeds
-- marks of rows and requests, and the functions of marks.rt
pub mod Marks
-- what the functions of close.rt and homes.rt make of words and records
pub mod Takes
-- lists and places while a closing goes over the requests, and the functions of lists.rt
pub mod Lists
