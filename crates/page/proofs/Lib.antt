-- Laws behind the functions of the page. One line a file:
-- columns: texts from the left, numbers from the right
pub mod ColumnLaws
-- a page: its lines, how many have room
pub mod PageLaws
-- each field is read back from its columns
pub mod FieldsBack
-- a line and a page read back
pub mod LinesBack
-- what is promised
pub mod Promises
