-- What expressions of the code are seen as, by their forms
pub mod TreesLemmas
