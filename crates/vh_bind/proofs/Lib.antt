-- Nodes, and one more
pub mod NodesLemmas
-- What nodes alone are worth
pub mod ValueLemmas
-- What an expression is seen as, by its form
pub mod TreesLemmas
-- Entries and operands, one by one
pub mod FoldsLemmas
-- The parts of a path, one by one
pub mod PathsLemmas
