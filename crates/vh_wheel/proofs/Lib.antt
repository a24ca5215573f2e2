-- Buckets and levels of times
pub mod TimesLemmas
-- Nodes in the lists of their buckets
pub mod LiesLemmas
-- Nodes, and what is held under them
pub mod NodesLemmas
-- Nodes that are moved, freed and put in
pub mod MovesLemmas
-- What each call makes of what is held
pub mod SchedulesLemmas
-- Walks over a bucket
pub mod WalkLemmas
-- Words that say which buckets have nodes
pub mod FlagsLemmas
