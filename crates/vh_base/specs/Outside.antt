-- What a source of files and a sink of bytes do, as the traits' clauses say it. (own)
use Rattle.std.specs.Prelude.{◌≡◌, ℕ, ◌+◌, ◌≤◌, List, ◌++◌, length, take, min, Option, Some, None}

-- A count of faults rose: it is higher, or stands at its greatest value, 2^64-1.
abbrev pub Rose : ℕ → ℕ → Type 0
Rose old new = min (old + 1) 18446744073709551615 ≤ new

-- What a read within a limit may answer: where the source tells the file's bytes, the first
-- limit + 1 of them, or all where there are no more; else any bytes of that number at most.
abbrev pub IsAnswered : Option (List ℕ) → ℕ → List ℕ → Type 0
IsAnswered None limit bytes = length bytes ≤ limit + 1
IsAnswered (Some whole) limit bytes = bytes ≡ take (limit + 1) whole

-- All that was written once more bytes are: a sink that tells nothing goes on telling nothing.
abbrev pub appended : Option (List ℕ) → List ℕ → Option (List ℕ)
appended None bytes = None
appended (Some old) bytes = Some (old ++ bytes)

-- Some front of a piece was written.
abbrev pub AppendsFront : Option (List ℕ) → Option (List ℕ) → List ℕ → Type 0
AppendsFront old new piece = (part : ℕ) × (new ≡ appended old (take part piece))
