use Rattle.std.proofs.Common.{◌≡◌, ◌≤◌, ◌+◌, [], drop, length}
use Rattle.vh_host.specs.Acceptance.{names_of, scripts_of}
use Rattle.vh_host.specs.Reading.{files_seen}
use Rattle.vh_host.proofs.judging.scripts_of.Given as goal

-- The files that are left come to the same behind the scripts so far, whose names are held.
abbrev pub invariant-loop-file : goal.invariant-loop-file
invariant-loop-file l =
    (scripts_of (l.file-index + 1) l.scripts.items (files_seen (drop l.file-index l.files)) ≡ scripts_of 1 [] (files_seen l.files))
    × (l.number ≡ l.file-index) × (length l.scripts.items ≤ l.file-index)
    × (l.names.items ≡ names_of l.scripts.items)
