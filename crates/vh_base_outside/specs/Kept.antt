-- What a sink that holds pieces has written of what it was given, and what it still holds. (own)
use Rattle.std.specs.Prelude.{◌≡◌, ◌≢◌, ◌≤◌, ℕ, List, ◌++◌, Option, Result, Err}
use Rattle.vh_base.specs.Outside.{appended, Rose}
use Rattle.vh_base.specs.declared.outside.SinkFault.{SinkFault}
use Rattle.vh_base.specs.declared.outside.SinkFault.TheVariants as sink

-- A front of the bytes was written, and the rest is held.
abbrev pub Kept : Option (List ℕ) → Option (List ℕ) → List ℕ → List ℕ → Type 0
Kept old new held bytes = (front : List ℕ) × (new ≡ appended old front) × (front ++ held ≡ bytes)

-- The faults that a sink counts rise with a failed write, and stay as they are with any other.
pub record Tells {A : Type 0} (result : Result A SinkFault) (old new : ℕ) : Type 0 where
  pub failed : result ≡ Err sink.Failed → Rose old new
  pub calm : result ≢ Err sink.Failed → new ≡ old
  pub later : old ≤ new
