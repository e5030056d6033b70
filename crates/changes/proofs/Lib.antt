-- Laws behind the functions of changes. One line a file:
-- stores in the words of a state, at any column and slot
pub mod Put
-- words that represent a state, with one change
pub mod Changes
-- bits of words, and the marks that they hold
pub mod BitLaws
-- the next slot that is marked, or that is not
pub mod NextSlot
-- slots that are marked and slots that are left, counted
pub mod Lefts
-- a column compacted: what is kept, and what laid words become
pub mod Keep
-- runs of words moved down in a column
pub mod Slide
-- columns one after the other, changed in the same way
pub mod Parts
-- words cleared row by row
pub mod ClearRows
-- the slots that rows move to, and source columns renumbered
pub mod Renumber
-- rows and requests removed
pub mod Removed
