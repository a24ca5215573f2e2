-- What is held of what was given to a sink.
pub mod Kept
