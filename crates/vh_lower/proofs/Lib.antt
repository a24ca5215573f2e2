-- Matched of a statement, one by one
pub mod InstructionsLemmas
-- What a `case` and a block of the code are seen as
pub mod TreesLemmas
-- What a statement is lowered to counts its instructions, so its code goes on at its own places
pub mod MeasuredLemmas
