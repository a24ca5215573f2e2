-- Both of two
pub mod BothLemmas
-- Names beside values
pub mod GivenLemmas
-- A round that changes nothing
pub mod RoundsLemmas
-- Sites by their depths
pub mod SettlingLemmas
