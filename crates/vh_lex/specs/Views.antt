-- How contracts see what the code holds: without where it lies in memory.
use Rattle.std.specs.Prelude.{ℕ, List, ◌==◌}
use Rattle.std.specs.Borrow.{Bor}
use Rattle.std.specs.List.{filter}
use Rattle.vh_lex.specs.Bytes.{begins}
use Rattle.vh_lex.specs.declared.name.Named.{Named as HeldNamed}
use Rattle.vh_lex.specs.declared.macro_text.Next.{Next as HeldNext}
use Rattle.vh_lex.specs.declared.scale.Found.{Found as HeldFound}
use Rattle.vh_lex.specs.Directives.{Found}
use Rattle.vh_lex.specs.Beginning.{Named}
use Rattle.vh_lex.specs.MacroTexts.{Turn}

-- A row of a table
abbrev pub row_seen : {A : Type 0} → Bor (List ℕ) × A → List ℕ × A
row_seen row = (row.0.now, row.1)

-- The rows of a table whose spelling has this first byte
abbrev pub rows_from : {A : Type 0} → ℕ → List (List ℕ × A) → List (List ℕ × A)
rows_from first rows = filter (λ row. begins (λ b. b == first) row.0) rows

-- A name of the code
abbrev pub named_seen : HeldNamed → Named
named_seen n = record { name = n.name.now; len = n.len }

-- A turn of the code
abbrev pub turn_seen : HeldNext → Turn
turn_seen t = record { passes = t.passes; mode = t.mode }

-- A value in a directive
abbrev pub found_seen : HeldFound → Found
found_seen f = record { value = f.value; len = f.len }
