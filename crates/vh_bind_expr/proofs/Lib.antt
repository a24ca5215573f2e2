-- What may be read and called
pub mod ReadsLemmas
-- Names, and the arguments of calls
pub mod NamesLemmas
