-- The scopes around an object
pub mod NamesLemmas
