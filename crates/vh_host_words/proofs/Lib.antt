-- Which file words can be run
pub mod FileWordsLemmas
-- Digits that are read as a number
pub mod NumbersLemmas
