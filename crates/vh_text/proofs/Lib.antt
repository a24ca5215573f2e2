-- The definitions at rows that are worked out from the rules
mod Rows
-- The texts of values
pub mod TextsLemmas
-- Digits that are read, kept and filled
pub mod ViewsLemmas
-- The values of literals
pub mod LiteralsLemmas
-- The values of an application's texts
pub mod ValuesLemmas
-- Numbers in hexadecimal
pub mod HexLemmas
-- Texts that are read again
pub mod LawsLemmas
