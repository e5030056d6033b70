-- Laws of bytes that are read and written, and of the session that they make.
pub mod Known
pub mod Answered
