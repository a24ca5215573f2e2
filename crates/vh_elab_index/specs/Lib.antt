-- The first of a name
pub mod First
-- How contracts see what the code holds
pub mod Views
