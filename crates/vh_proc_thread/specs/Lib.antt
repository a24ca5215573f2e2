-- The blocks that a position of a code stands in
pub mod Blocks
-- What a thread has still to do, and what becomes of it
pub mod Control
