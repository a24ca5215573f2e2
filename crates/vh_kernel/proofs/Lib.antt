-- What an opening agenda is made of.
mod Opening
-- A stack is a list from its other end.
mod Stacks
-- When an occurrence is watched.
mod OccurrencesLemmas
-- What a step leaves, and that the machine goes on.
pub mod StepLemmas
-- A frame that stays on top of control while it fires.
mod FireLemmas
-- The step and its table are one.
pub mod TableLemmas
-- What holds of the queue behind each label of a process and each entry that is picked.
pub mod KeepsLemmas
-- What holds of the queue in every state: serials rise, and each is given once.
pub mod SoundLemmas
-- And what is noted of follow entries tells which stand.
mod NotedLemmas
-- A run is one list of labels.
pub mod RunLemmas
-- The state after is a function of the state before and the label.
pub mod OneAfterLemmas
