-- Which digits a select names.
pub mod Selects
-- What each operator makes of values.
pub mod Operators
-- The value of an expression, by those of its parts.
pub mod Value
-- Which operands an evaluation may go on to.
pub mod Ready
-- What the definition means.
pub mod Laws
