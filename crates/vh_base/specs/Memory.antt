-- The source and the sink that are kept in memory, exactly. (own)
use Rattle.std.specs.Prelude.{ℕ, ◌+◌, ◌++◌, List, [], ◌∷◌, Option, Some, None, Bool, ◌==◌, if◌then◌else◌, min, take, bytes_eq}
use Rattle.std.specs.List.{list_any}
use Rattle.std.specs.Option.{option_map}

-- One more, up to the greatest number of 64 bits.
abbrev pub counted : ℕ → ℕ
counted n = min (n + 1) 18446744073709551615

-- Is a number in a list?
abbrev pub lists : List ℕ → ℕ → Bool
lists numbers n = list_any (λ m. m == n) numbers

-- A source in memory: names with their bytes, the numbers of the reads that fail, how many
-- reads there were, how many of them failed, and the name of the last one that did.
pub record Shelf : Type 0 where
  pub files : List (List ℕ × List ℕ)
  pub failing : List ℕ
  pub calls : ℕ
  pub faults : ℕ
  pub blamed : List ℕ

-- The bytes of the first file of that name.
abbrev pub bytes_named : List (List ℕ × List ℕ) → List ℕ → Option (List ℕ)
bytes_named [] name = None
bytes_named (file ∷ files) name = if bytes_eq file.0 name then Some file.1 else bytes_named files name

-- What the next read of a name within a limit gives: nothing where it is one of those that fail,
-- or where no file has the name.
abbrev pub read_of : Shelf → List ℕ → ℕ → Option (List ℕ)
read_of s name limit =
    if lists s.failing (counted s.calls) then None else option_map (take (limit + 1)) (bytes_named s.files name)

-- The source after a read that gave bytes, or for which memory was refused.
abbrev pub after_read : Shelf → Shelf
after_read s = record s { calls = counted s.calls }

-- The source after a read of that name failed.
abbrev pub after_failed_read : Shelf → List ℕ → Shelf
after_failed_read s name = record s { calls = counted s.calls; faults = counted s.faults; blamed = name }

-- A sink in memory: what was written, how many bytes it takes at most in one call, the numbers
-- of the writes that fail, how many writes there were, and how many of them failed.
pub record Tape : Type 0 where
  pub written : List ℕ
  pub most : ℕ
  pub failing : List ℕ
  pub calls : ℕ
  pub faults : ℕ

-- Is the next write one of those that fail?
abbrev pub write_fails : Tape → Bool
write_fails t = lists t.failing (counted t.calls)

-- The sink after a write of these bytes.
abbrev pub after_write : Tape → List ℕ → Tape
after_write t bytes = record t { calls = counted t.calls; written = t.written ++ take t.most bytes }

-- The sink after a write for which memory was refused.
abbrev pub after_refused_write : Tape → Tape
after_refused_write t = record t { calls = counted t.calls }

-- The sink after a write that failed.
abbrev pub after_failed_write : Tape → Tape
after_failed_write t = record t { calls = counted t.calls; faults = counted t.faults }
