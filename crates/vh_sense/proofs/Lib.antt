-- No digits don't differ
pub mod EdgesLemmas
-- Statements that follow, in a list by their keys
pub mod FollowsLemmas
-- What an expression reads, by its parts
pub mod ReadsLemmas
-- Which objects terms name, and who waits for them
pub mod ViewsLemmas
-- The least process that waits on an object
pub mod SensitivityLemmas
-- What is found first in a rising list
pub mod LawsLemmas
