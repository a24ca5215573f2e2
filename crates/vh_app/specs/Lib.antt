-- A script as plain data
pub mod Script
-- The steps that a script's tree is laid out in
pub mod Layout
-- What stands for a value, and what it is where an order wants another kind
pub mod Values
-- What a script orders next
pub mod Next
-- How the number of a procedure is found by its name
pub mod Numbers
-- What the bytes of a script are
pub mod Reading
-- How contracts see what the code holds
pub mod Views
-- What is still to do at a point, and the law of the next order
pub mod Todo
