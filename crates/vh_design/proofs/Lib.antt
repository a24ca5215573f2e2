-- What holds of each element, as far as a loop has come and at one of them
pub mod ValidityLemmas
-- What each rule means
pub mod LawsLemmas
-- The same of codes, waits, display calls and statements
pub mod CodeLawsLemmas
