-- What is told of a status: a line, and the exit number. (own)
use Rattle.std.specs.Prelude.{ℕ, ◌++◌, List, [], unwrap_or, codes}
use Rattle.std.specs.Fmt.{decimal}
use Rattle.vh_base.specs.Faults.{design_fault_name, app_fault_name, fault_name}
use Rattle.vh_host.specs.declared.status.Status.{Status}
use Rattle.vh_host.specs.declared.status.Status.TheVariants as status
use Rattle.vh_host_words.specs.Words.{file_word}

-- The word of a file by its number, or nothing where the words don't have it.
abbrev pub name_of_file : List (List ℕ) → ℕ → List ℕ
name_of_file words n = unwrap_or (file_word words n) []

-- The line that is told of a status, without its newline: a row for each; a finished run has none.
abbrev pub line_of_status : List (List ℕ) → Status → List ℕ
line_of_status words (status.Done cause) = []
line_of_status words status.Usage = codes "usage: vhost run [--order fifo|lifo|seeded:N] [--budget N] FILES.."
line_of_status words (status.ReadFault n) = codes "cannot read " ++ name_of_file words n
line_of_status words (status.TooLong n) = codes "too long: " ++ name_of_file words n
line_of_status words (status.DesignRefused f p) =
    codes "design refused: " ++ design_fault_name f ++ codes " at " ++ decimal p.file ++ codes ":" ++ decimal p.line ++ codes ":" ++ decimal p.column
line_of_status words (status.AppRefused n f p) =
    codes "application refused: " ++ name_of_file words n ++ codes ": " ++ app_fault_name f ++ codes " at " ++ decimal p.line ++ codes ":" ++ decimal p.column
line_of_status words (status.RunFault f) = codes "run fault: " ++ fault_name f
line_of_status words status.BudgetSpent = codes "budget spent"
line_of_status words status.WriteFault = codes "cannot write"
line_of_status words status.NoMemory = codes "out of memory"

abbrev pub exit_of : Status → ℕ
exit_of (status.Done cause) = 0
exit_of status.Usage = 1
exit_of (status.ReadFault n) = 6
exit_of (status.TooLong n) = 6
exit_of (status.DesignRefused f p) = 2
exit_of (status.AppRefused n f p) = 3
exit_of (status.RunFault f) = 4
exit_of status.BudgetSpent = 5
exit_of status.WriteFault = 7
exit_of status.NoMemory = 8
