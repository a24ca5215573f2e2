-- What is made of each element
pub mod Each
-- Names that differ
pub mod ListsLemmas
-- What holds of a row of checks
pub mod ChecksLemmas
