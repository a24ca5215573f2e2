-- One record among many
pub mod ContentsLemmas
-- A vector that is made of two vectors' planes
pub mod JoinLemmas
-- How drivers' digits are joined
pub mod LawsLemmas
-- Which drivers a net has before all
pub mod OpeningLemmas
