-- For which reason and which object
pub mod Registration
-- The index by what is watched
pub mod Watching
-- The callbacks by number, with what registrations, removals and activations make of them
pub mod Callbacks
-- With a set of live numbers for each depth
pub mod Marks
-- How both stand in what the registry keeps
pub mod Keeping
-- What is left after a registration and a removal
pub mod Laws
