-- The test of the lent words has no definitions of its own: rows/specs/Layout.antt has sound_words.
pub mod vocabulary
