-- The scopes around an object, and their names with dots.
pub mod Names
