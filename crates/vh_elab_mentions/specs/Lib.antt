-- The names in an expression, and the modules that a module names
pub mod Mentions
-- How contracts see what the code holds
pub mod Views
