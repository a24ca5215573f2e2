-- Checks in a row: each refuses, or hands on what it found. A row of a table reads as its checks, in
-- their order, and what comes of it. (own)
use Rattle.std.specs.Prelude.{Bool, true, false, Option, Some, None, Result, Ok, Err}

-- It is refused where the test holds.
abbrev pub unless : {A E : Type 0} → Bool → E → Result A E → Result A E
unless true e rest = Err e
unless false e rest = rest

-- It is refused where there is none.
abbrev pub with_some : {X A E : Type 0} → Option X → E → (X → Result A E) → Result A E
with_some None e rest = Err e
with_some (Some x) e rest = rest x

-- It is refused with what was refused before.
abbrev pub with_ok : {X A E : Type 0} → Result X E → (X → Result A E) → Result A E
with_ok (Err e) rest = Err e
with_ok (Ok x) rest = rest x
