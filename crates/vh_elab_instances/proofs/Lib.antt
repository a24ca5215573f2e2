-- The turns of a loop
pub mod TurnsLemmas
