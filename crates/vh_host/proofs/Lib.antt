-- From turns to runs
pub mod TurnLemmas
-- The word of a file by its number
pub mod FileWords
-- Files, by their words and their contents
pub mod ReadingLemmas
-- Each design with its scripts has an opening
pub mod OpeningsLemmas
-- How a call's answer follows from the verdict
pub mod JudgingLemmas
-- The text of a run, label by label
pub mod LabelTexts
-- The Verilog files of a call, as one source
pub mod Sources
