-- One digit, and the operators on digits
pub mod Digit
-- A vector: its digits, lowest first, and the mark of its sign
pub mod Vector
-- The number and the integer that digits stand for, and the digits of a number
pub mod Number
-- The operators that work digit by digit
pub mod Bitwise
-- The operators that make one digit of a vector
pub mod Reduce
-- The operators on integers
pub mod Arithmetic
-- The shifts
pub mod Shift
-- The comparisons
pub mod Compare
-- Concatenations, parts and extensions
pub mod Parts
-- The two numbers that hold the digits
pub mod Planes
-- The digits give their two numbers back
pub mod PlanesBack
