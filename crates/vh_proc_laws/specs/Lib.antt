-- Whom a disable stops
pub mod Disable
-- What an assignment makes of each digit
pub mod Digits
-- The laws
pub mod Laws
