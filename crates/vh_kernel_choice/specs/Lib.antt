-- Orders of choice.
pub mod Choices
