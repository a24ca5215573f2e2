-- The processes of a simulation, and what a label of one comes to
pub mod Processes
-- Which processes a disabled block or task takes with it
pub mod Disabled
-- What each label does, a row for each kind
pub mod Steps
-- How contracts see what the code holds
pub mod Views
-- Which processes come from each of the design
pub mod Families
-- In which code the blocks of an object are
pub mod Homes
