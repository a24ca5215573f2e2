-- Each process runs codes that are there, after every change of one
mod RunsLemmas
-- What an instruction at which a process stands names is there
mod StandsLemmas
-- One turn of the loops over processes
mod LoopsLemmas
-- A label leaves what has begun a process and where it comes from
pub mod KinLemmas
-- What holds of each task and function that a thread is in holds after every change of it
mod CallsLemmas
-- Sets of numbers in a list, after a change of one
mod SetsLemmas
-- Each process is in its family, after every change of one
mod FamiliesLemmas
-- Where a thread isn't in the code that has a block, it isn't inside it
mod HomesLemmas
-- Who has called a task or function, and all that come from them
mod CallersLemmas
-- Callers of whom nobody is in a call any more are forgotten
mod IdleLemmas
-- A walk over a family finds whom a walk over all processes finds
mod WalkLemmas
