-- Digits beside a value, and the number of its digits.
pub mod SelectsLemmas
-- The value of an expression, by those before it.
pub mod ValueLemmas
-- Which operand stands at a position, and what is left behind it.
pub mod ReadyLemmas
-- A value so many times, and a value as it is.
pub mod OperatorsLemmas
-- The value of a kind by any way to value what stands before it.
pub mod LawsLemmas
