-- Parts of the table that have no name there
pub mod Pieces
-- The conditions of what stands in lists
pub mod Conditions
