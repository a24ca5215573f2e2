-- Why the code of a statement isn't made
pub mod Faults
-- What becomes of a design so far, step by step
pub mod Making
-- The instructions of a statement, and the turns of its loops
pub mod Instructions
-- What each statement is lowered to, a row for each
pub mod Statements
-- The codes of declared initial values and of continuous assignments
pub mod Processes
-- How contracts see what the code holds
pub mod Views
