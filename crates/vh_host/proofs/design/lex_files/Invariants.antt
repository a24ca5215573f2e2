use Rattle.std.proofs.Common.{◌≡◌, ◌+◌, drop}
use Rattle.vh_lex.specs.Lexed.{files_after}
use Rattle.vh_host.specs.Acceptance.{design_files}
use Rattle.vh_host.specs.Judging.{Begins}
use Rattle.vh_host.specs.Reading.{files_seen}
use Rattle.vh_host.proofs.design.lex_files.Given as goal

-- The files so far were read, and the others come to the same after them.
abbrev pub invariant-loop-file : goal.invariant-loop-file
invariant-loop-file l =
    (files_after l.lexer (design_files (l.file-index + 1) (files_seen (drop l.file-index l.files)))
    ≡ files_after l.fn.lexer (design_files 1 (files_seen l.files)))
    × (l.number ≡ l.file-index)
    × Begins l.is_begun l.fn.lexer l.lexer
