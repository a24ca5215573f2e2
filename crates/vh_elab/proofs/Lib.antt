-- The rules of a design as a test, and what stands behind others
pub mod FittingLemmas
-- The inputs of a gate have nodes
pub mod InputsLemmas
-- What comes of a source is what comes of its top
pub mod TopLemmas
