-- What a continuous assignment drives
pub mod Nets
-- The values of gates, and what ports read
pub mod Gates
-- How contracts see what the code holds
pub mod Views
