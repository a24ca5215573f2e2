-- What a statement of the code is seen as
pub mod TreesLemmas
