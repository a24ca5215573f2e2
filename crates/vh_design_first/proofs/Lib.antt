-- The design of registers and initial constructs keeps the rules of designs
mod ValidLemmas
