-- Lists that are written at one position
pub mod ListsLemmas
-- Slots and a slab before and after each call
pub mod ViewsLemmas
-- Runs of calls
pub mod LawsLemmas
