-- Paths of the machine, and what their labels tell.
pub mod Paths
-- What a label frees and removes.
pub mod Deeds
-- The firing law: which callback fires for an occurrence, and when.
pub mod Firing
-- The law of callbacks: to whom an occurrence is told, what a fire calls, where callbacks come from.
pub mod Watching
-- What occurs is told in turn.
pub mod Pending
-- What an activation does is what its script has next.
pub mod Acting
-- The handle law: what a handle names, from its giving on.
pub mod HandleLaw
-- The two laws, of every path and of every run.
pub mod Laws
