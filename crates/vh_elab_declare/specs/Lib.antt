-- The objects of an instance, and their names
pub mod Objects
-- Ranges, the values of parameters, and what is known of objects
pub mod Constants
-- Parameters that need themselves
pub mod Needs
-- The order in which parameters take their values
pub mod Settling
-- How the code orders sites
pub mod Layers
-- The first pass
pub mod FirstPass
-- How contracts see what the code holds
pub mod Views
