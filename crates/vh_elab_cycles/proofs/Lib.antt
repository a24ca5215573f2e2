-- What `leads` is: the least relation that holds of a node and itself, and goes on over each edge
pub mod CyclesLemmas
-- The rows of ends, and ranks
pub mod LaidLemmas
-- What is seen, and what waits
pub mod WalkLemmas
-- Depths, and numbers of nodes by so much higher
pub mod DepthsLemmas
