-- The sites of an instance
pub mod Instances
-- How contracts see what the code holds
pub mod Views
