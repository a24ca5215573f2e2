use Rattle.std.proofs.Common.{refl, sym}
use Rattle.vh_lex.specs.Symbols.{symbol_rows}
use Rattle.vh_lex.proofs.beginning.lone_symbol.Goals as goal

pub returns-in-59 : goal.returns-in-59
unfolding symbol_rows
returns-in-59 c = rw (c.in-Some.ensures.cases.0, c.in-59.is) (record { piece = refl; in_line = refl })

pub returns-in-44 : goal.returns-in-44
unfolding symbol_rows
returns-in-44 c = rw (c.in-Some.ensures.cases.0, c.in-44.is) (record { piece = refl; in_line = refl })

pub returns-in-41 : goal.returns-in-41
unfolding symbol_rows
returns-in-41 c = rw (c.in-Some.ensures.cases.0, c.in-41.is) (record { piece = refl; in_line = refl })

pub returns-in-91 : goal.returns-in-91
unfolding symbol_rows
returns-in-91 c = rw (c.in-Some.ensures.cases.0, c.in-91.is) (record { piece = refl; in_line = refl })

pub returns-in-93 : goal.returns-in-93
unfolding symbol_rows
returns-in-93 c = rw (c.in-Some.ensures.cases.0, c.in-93.is) (record { piece = refl; in_line = refl })

pub returns-in-123 : goal.returns-in-123
unfolding symbol_rows
returns-in-123 c = rw (c.in-Some.ensures.cases.0, c.in-123.is) (record { piece = refl; in_line = refl })

pub returns-in-125 : goal.returns-in-125
unfolding symbol_rows
returns-in-125 c = rw (c.in-Some.ensures.cases.0, c.in-125.is) (record { piece = refl; in_line = refl })

pub returns-in-46 : goal.returns-in-46
unfolding symbol_rows
returns-in-46 c = rw (c.in-Some.ensures.cases.0, c.in-46.is) (record { piece = refl; in_line = refl })

pub returns-in-58 : goal.returns-in-58
unfolding symbol_rows
returns-in-58 c = rw (c.in-Some.ensures.cases.0, c.in-58.is) (record { piece = refl; in_line = refl })

pub returns-in-35 : goal.returns-in-35
unfolding symbol_rows
returns-in-35 c = rw (c.in-Some.ensures.cases.0, c.in-35.is) (record { piece = refl; in_line = refl })

pub returns-in-64 : goal.returns-in-64
unfolding symbol_rows
returns-in-64 c = rw (c.in-Some.ensures.cases.0, c.in-64.is) (record { piece = refl; in_line = refl })

pub returns-in-40 : goal.returns-in-40
unfolding symbol_rows
returns-in-40 c =
    record {
      piece = rw (c.in-Some.ensures.cases.0, c.in-40.is, sym c.if-not-begins.ensures.value) refl;
      in_line = rw (c.in-Some.ensures.cases.0, c.in-40.is) refl;
    }
