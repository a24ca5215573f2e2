-- A design as it is simulated
pub mod Activity
-- Which expressions read the present time
pub mod Clock
-- Which follow entries a change adds
pub mod Follows
-- Which entries changes add
pub mod Entries
-- What labels of processes and entries that are picked come to
pub mod Labels
