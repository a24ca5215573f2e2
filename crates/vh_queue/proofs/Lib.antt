-- Serials rise, and each names one entry.
pub mod EventsLemmas
-- What an index tells of its entries.
pub mod RankedLemmas
-- What the least key tells of a range.
pub mod EndsLemmas
-- What is least and greatest, and what may be picked.
pub mod SerialsLemmas
-- Entries as they are seen, by where they wait.
pub mod ViewsLemmas
-- What the index of a queue tells of its entries.
pub mod HoldsLemmas
-- The least time of an entry.
pub mod TimesLemmas
-- What a queue becomes.
pub mod ChangesLemmas
-- What the functions of a queue cite.
pub mod QueuesLemmas
-- The laws of the queue.
pub mod LawsLemmas
