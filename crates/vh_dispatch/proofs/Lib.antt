-- The frames' sets through the registry's calls
pub mod FramesLemmas
