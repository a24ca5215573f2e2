-- Names against the numbers of their first modules
pub mod NumbersLemmas
-- The top, and the faults
pub mod ModulesLemmas
