-- Entries by rising number, after each change
pub mod EntriesLemmas
-- What each call means for a number
pub mod LawsLemmas
-- Numbers given in order from 0 on, seen as a test and a count
pub mod NumberedLemmas
