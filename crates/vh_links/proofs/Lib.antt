-- Lists, and the nodes that they have
pub mod ListsLemmas
-- Links that are joined: what goes on as it went
pub mod JoinsLemmas
-- The lists that links hold, before and after each call
pub mod ViewsLemmas
