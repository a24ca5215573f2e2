-- Paths and their parts, and tests.
pub mod Splits
-- A label that frees a handle, or removes a callback, is an answered removal.
pub mod DeedsLemmas
-- What a label changes of that of which the laws speak.
pub mod Works
-- Each step of the machine is one of six kinds.
pub mod WorksLemmas
-- What the callbacks keep in a step.
pub mod CallbacksLemmas
-- The set of a frame, from its occurrence on.
pub mod SetsLemmas
-- What the handles keep in a step.
pub mod HandlesLemmas
-- The firing law: occurrences are told, their callbacks fire, and they are done.
pub mod FiringLemmas
-- The firing law: what occurs is told in turn.
pub mod PendingLemmas
-- The firing law: what an activation does is what its script has next.
pub mod ActingLemmas
-- The firing law: to whom an occurrence is told, what a fire calls, where callbacks come from; and with it the whole law.
pub mod WatchingLemmas
-- The handle law.
pub mod HandleLawLemmas
-- Every path and every run from a fresh state keeps the laws.
pub mod LawsLemmas
-- Openings, for rows that are computed.
mod Openings
-- Worked rows, computed by the definitions alone.
pub mod RunRows
-- Worked rows with one label changed, each refused by a law.
pub mod LawRows
