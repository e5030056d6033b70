-- Laws that the code stands on: tests, lists, look-up, and the words. One line a file:
-- laws of Bool tests and of lists tested element by element
pub mod Bools
-- look-up by key, keys that rise, older elements: for rows, requests and notes alike
pub mod Keyed
-- laws of lists of any elements: map, append, set, filter, members
pub mod Lists
-- words in padded columns: lengths, and what stands where
pub mod LayoutColumns
-- searches of a column, and the slot of what they find
pub mod Searches
-- each source of a sound row is 0 or an older row's number
pub mod RowSources
-- kinds and places: which exclude each other, what is in range
pub mod Places
-- rows read back from the words that represent them
pub mod LayoutRows
-- requests and process records read back
pub mod LayoutRequests
-- slots over any key: where an element stands
pub mod KeySlots
-- the words that represent a state
pub mod RepresentedWords
-- the words of a request's slot
pub mod RequestSlots
-- slots of rows, requests and sources, and what the words of a slot are
pub mod Slots
-- functions that agree on the elements of a list; the keys that a test keeps
pub mod Agree
-- what the searches find where the words represent a state
pub mod Lookups
-- process records in their words, one after the other
pub mod ProcessRecords
-- one right within others
pub mod RightsWithin
