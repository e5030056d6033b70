-- Laws of the text side. One line a file:
-- printed answers read back: the digits of a number give the number
pub mod Answers
-- where a reader stands in a text, and what one piece of a pattern reads there
pub mod Cursor
-- a call written as a line reads back as itself
pub mod CallsBack
-- those that have no caller
pub mod UncalledBack
-- groups of two numbers read back from their text
pub mod GroupsBack
-- what an answer says is read back from its text
pub mod AnswersBack
-- numbers with 0 after the last, and the pairs of two such lists
pub mod Firsts
-- what a call line that is read as a call guarantees: caller, numbers, items and pairs in range
pub mod Readings
-- what an accepted opening text guarantees of its forms
pub mod OpeningForms
-- the rows of the state opened: numbered from 1 on, each an opening row in range
pub mod OpeningRows
-- at most 512 rows: 16 for each of at most 32 nodes
pub mod OpeningCount
-- the process records of the state opened: in range, at home, those given listed
pub mod OpeningRecords
-- an accepted opening text opens sound tables
pub mod Opening
-- a number of any length is read as its exact value, or as the limit for all above it
pub mod Numbers
-- runs, pieces and whole patterns, step by step as the reader takes them
pub mod PatternLaws
-- groups of two numbers: one more kept, what is judged of them, those read and those left
pub mod GroupLaws
-- the head of a line that has groups
pub mod GroupHeads
-- replies: one byte more, one text after another, the digits of a number
pub mod ReplyLaws
-- a reply handed out: the first bytes of a run are replaced
pub mod HandedOut
-- each text that is answered has room in a reply
pub mod ShortReplies
-- a text cut into lines at its line feeds
pub mod Lines
-- a line that comes byte by byte, and what is kept of it
pub mod KeptLines
-- the lines of an opening text, the entries of a node form, what is given
pub mod OpeningLaws
-- the first pass over an opening text
pub mod PassLaws
-- what an opening text leaves in the lent words: none, rows, records
pub mod WrittenLaws
-- the second pass: what a line is, names and leaves
pub mod SecondPass
-- the forms written, then the lines left; the verdict
pub mod WrittenForms
