-- The table as the rows hold it
pub mod TableLemmas
