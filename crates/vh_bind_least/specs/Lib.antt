-- Faults, and the least of some
pub mod Least
