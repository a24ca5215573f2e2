-- Which edges of a graph stand on a cycle
pub mod Cycles
-- How deep the nodes of a graph stand
pub mod Depths
-- How the code lays out a graph, and goes over it
pub mod Laid
-- How contracts see what the code holds
pub mod Views
