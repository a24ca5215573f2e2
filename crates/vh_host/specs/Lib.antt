-- Which words and texts are accepted
pub mod Acceptance
-- What is told of a status
pub mod Report
-- What is written of a run
pub mod Transcript
-- What `run` writes is the text of a run of the machine
pub mod Headline
-- The files that are read
pub mod Reading
-- Which verdict a refusal of the texts says
pub mod Judging
-- One turn of a run
pub mod Turn
