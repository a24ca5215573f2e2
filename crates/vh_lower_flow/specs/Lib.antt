-- Bound statements as plain trees, and how many instructions they have
pub mod Trees
-- The flat code of a tree
pub mod Laid
-- At which positions a code goes on
pub mod Positions
-- How contracts see what the code holds
pub mod Views
