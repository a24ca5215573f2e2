-- The modules of a source, and their faults
pub mod Modules
-- How the code numbers modules
pub mod Numbers
-- How contracts see what the code holds
pub mod Views
