-- Facts about tables. One line a file:
-- soundness as a record, a field a clause
pub mod Sound
-- what is marked is the least set closed under "a source is marked"
pub mod Marking
-- standing rows of sound tables: shapes, sources, rights; rows in nodes stay
pub mod Standing
-- the first chain of a row: one step, its length, its rows
pub mod FirstChain
-- what sound tables tell of one row that is found and of one listed process
pub mod SoundFacts
-- keys that rise: each element is found by its key, also among those that a test picks
pub mod Picked
-- what awaits a fetch, and the requests that list it
pub mod Awaits
-- a sound state and the words that represent it
pub mod Words
