-- The frames' sets over a registry
pub mod Frames
-- What a removal and a registration leave of them
pub mod Laws
