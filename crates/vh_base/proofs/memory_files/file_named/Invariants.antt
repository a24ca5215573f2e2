use Rattle.std.proofs.Common.{◌≡◌, drop}
use Rattle.vh_base.specs.Memory.{bytes_named}
use Rattle.vh_base.specs.Held.{shelf_files}
use Rattle.vh_base.proofs.memory_files.file_named.Given as goal

-- What is left to look through holds the answer
abbrev pub invariant-loop-file : goal.invariant-loop-file
invariant-loop-file l =
    bytes_named (shelf_files (drop l.file-index l.files)) l.name ≡ bytes_named (shelf_files l.files) l.name
