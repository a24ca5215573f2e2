-- What the tests mean
pub mod FitsLemmas
-- The greatest width of a chain
pub mod WidthsLemmas
