-- Occurrences, and which callbacks each fires.
pub mod Occurrences
-- Activations, and what they see.
pub mod Activations
-- The machine's state, and that at the opening.
pub mod State
-- What is dropped before the next label.
pub mod Settle
-- What a row of a table comes to: what it shows, makes and leaves, or a fault.
pub mod Outcome
-- What each statement comes to, a row for each.
pub mod Statements
-- The machine's step.
pub mod Step
-- The step as a table: a row for each label; and the laws that the two are one.
pub mod Table
-- What is noted of follow entries in every state of a run.
pub mod Noted
-- The transcript's lines.
pub mod Line
-- Runs under an order of choice, and their text.
pub mod Run
-- How contracts see a kernel, and what its functions do to it.
pub mod Views
