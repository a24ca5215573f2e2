-- The ports of a module
pub mod Ports
-- What a table of ports holds of its module
pub mod Tied
-- How contracts see what the code holds
pub mod Views
