-- Parts of the table that have no name there
pub mod Pieces
-- How contracts see what the code holds
pub mod Views
-- The conditions of what stands in lists
pub mod Conditions
