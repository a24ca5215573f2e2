-- The design that registers and initial constructs are
pub mod Designs
