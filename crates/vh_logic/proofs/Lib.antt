-- What holds of bits, by trying their values
pub mod Tables
-- Digits by the two planes that hold them
pub mod PlanesLemmas
-- Tests of whole planes: known, equal, reduced to one digit
pub mod TestLemmas
-- Numbers and integers modulo 2 ^ width
pub mod NumberLemmas
-- The operators on integers
pub mod ArithmeticLemmas
-- The operators between two vectors, digit by digit
pub mod BitwiseLemmas
-- The comparisons
pub mod CompareLemmas
-- Parts, shifts and extensions
pub mod PartsLemmas
