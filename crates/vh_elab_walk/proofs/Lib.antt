-- Instances that are put onto a stack
pub mod StackLemmas
-- A walk, an instance at a time
pub mod WalkLemmas
