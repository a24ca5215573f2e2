-- How many digits targets have
pub mod PiecesLemmas
-- Digits that are put into others, and values that are the same
mod AssignedLemmas
