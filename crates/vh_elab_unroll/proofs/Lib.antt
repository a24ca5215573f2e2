-- How many zeros stand before a construct's number
pub mod FreeLemmas
-- A loop and its blocks' names
pub mod LoopsLemmas
-- What is no construct comes to nothing
pub mod NothingLemmas
-- The turns of a loop
pub mod TurnsLemmas
