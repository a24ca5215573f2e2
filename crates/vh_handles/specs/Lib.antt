-- Handles as a map from live numbers to things, and what each call makes of it
pub mod Handles
-- What each call means for a number
pub mod Laws
