-- Expressions by number, one by one
pub mod CallsLemmas
