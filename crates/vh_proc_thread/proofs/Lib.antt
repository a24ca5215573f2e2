-- The last element of a list, and the list from its end.
mod LastLemmas
-- The block of an object in which a position stands.
mod BlocksLemmas
-- What becomes of the calls and repeats of a thread.
mod ControlLemmas
