-- What was written after two writes
pub mod Appended
