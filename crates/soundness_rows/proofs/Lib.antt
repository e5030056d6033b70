-- Laws behind the clauses of rows. One line a file:
-- loops over the slots of a list, oldest first
pub mod SlotLoops
-- the word that packs a row, and what it tells
pub mod PackedRows
-- the clauses of one row, its slot's words and its sources at hand
pub mod RowClauses
-- the row at a slot, as the tests of one row see it
pub mod RowsSeen
-- ends in pairs: neighbours by number stand in neighbouring slots
pub mod RowPairs
-- the clauses of a row joined, and of all rows
pub mod RowsSound
