-- Laws behind the functions of soundness. One line a file:
-- answers that tell whether something holds, of each position that a loop has passed
pub mod Decides
-- lists read slot by slot
pub mod ListTo
-- words in which rows and requests are laid, and the state that is read from them
pub mod LaidWords
-- soundness of the process records and of the next number
pub mod RecordClauses
-- copies told by the listing of items
pub mod CopiesListed
-- soundness as the code tests it: the words laid, then the clauses in groups
pub mod SoundParts
