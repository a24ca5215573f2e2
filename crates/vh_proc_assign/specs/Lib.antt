-- Values as assignments and delays read them
pub mod Values
-- The digits that an assignment changes, and what they become
pub mod Pieces
-- What assignments make of the values of objects, and what they change
pub mod Assigned
-- What force, release and procedural assigns do
pub mod Layers
