-- Steps, and the first fault
pub mod Steps
-- Where expressions stand, and what a name stands for where a constant is needed
pub mod Scopes
-- Nodes of each kind
pub mod Nodes
-- Which digits a select names by constants
pub mod Selects
-- The parts of paths
pub mod Paths
-- What a name stands for where a value is wanted
pub mod Objects
-- Expressions, and the values of constants
pub mod Constants
-- How contracts see what the code holds
pub mod Views
