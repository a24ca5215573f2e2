-- Rising lists under numbers, and the numbers that match
pub mod CallbacksLemmas
-- The index beside the callbacks
pub mod WatchingLemmas
-- Sets of numbers, by depth
pub mod MarksLemmas
-- What is kept
pub mod KeepingLemmas
-- How contracts see it
pub mod Views
-- The laws
pub mod LawsLemmas
