-- Generate blocks
pub mod Blocks
-- What an instance declares, in source order
pub mod Sites
-- How contracts see what the code holds
pub mod Views
