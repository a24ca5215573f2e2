-- The names of a scope, as the code holds them
pub mod NamesLemmas
