-- Laws behind the exported functions. One line a file:
-- answers as C passes them
pub mod Answers
pub mod CallWords
