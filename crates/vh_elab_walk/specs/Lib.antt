-- The values that instances give to parameters
pub mod Overrides
-- The instances in walk order
pub mod Walks
-- How contracts see what the code holds
pub mod Views
