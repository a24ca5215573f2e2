-- What a tree of the code is seen as, by its form
pub mod ViewsLemmas
-- A tree that counts its instructions has so many, and its code goes on at its own positions
pub mod PositionsLemmas
