use Rattle.std.proofs.Common.{ℕ, List, [], ◌∷◌, refl, sym, arith}
use Rattle.vh_lex.specs.Symbols.{symbol_rows}
use Rattle.vh_lex.proofs.ViewsLemmas.{no-row}
use Rattle.vh_lex.proofs.symbol.symbols_from.Goals as goal

-- The first bytes of the symbols
firsts : List ℕ
firsts = 33 ∷ 35 ∷ 37 ∷ 38 ∷ 40 ∷ 41 ∷ 42 ∷ 43 ∷ 44 ∷ 45 ∷ 46 ∷ 47 ∷ 58 ∷ 59 ∷ 60 ∷ 61 ∷ 62 ∷ 63 ∷ 64 ∷ 91 ∷ 93 ∷ 94 ∷ 123 ∷ 124 ∷ 125 ∷ 126 ∷ []

pub returns-in-33 : goal.returns-in-33
unfolding symbol_rows
returns-in-33 c = rw c.in-33.is refl

pub returns-in-35 : goal.returns-in-35
unfolding symbol_rows
returns-in-35 c = rw c.in-35.is refl

pub returns-in-37 : goal.returns-in-37
unfolding symbol_rows
returns-in-37 c = rw c.in-37.is refl

pub returns-in-38 : goal.returns-in-38
unfolding symbol_rows
returns-in-38 c = rw c.in-38.is refl

pub returns-in-40 : goal.returns-in-40
unfolding symbol_rows
returns-in-40 c = rw c.in-40.is refl

pub returns-in-41 : goal.returns-in-41
unfolding symbol_rows
returns-in-41 c = rw c.in-41.is refl

pub returns-in-42 : goal.returns-in-42
unfolding symbol_rows
returns-in-42 c = rw c.in-42.is refl

pub returns-in-43 : goal.returns-in-43
unfolding symbol_rows
returns-in-43 c = rw c.in-43.is refl

pub returns-in-44 : goal.returns-in-44
unfolding symbol_rows
returns-in-44 c = rw c.in-44.is refl

pub returns-in-45 : goal.returns-in-45
unfolding symbol_rows
returns-in-45 c = rw c.in-45.is refl

pub returns-in-46 : goal.returns-in-46
unfolding symbol_rows
returns-in-46 c = rw c.in-46.is refl

pub returns-in-47 : goal.returns-in-47
unfolding symbol_rows
returns-in-47 c = rw c.in-47.is refl

pub returns-in-58 : goal.returns-in-58
unfolding symbol_rows
returns-in-58 c = rw c.in-58.is refl

pub returns-in-59 : goal.returns-in-59
unfolding symbol_rows
returns-in-59 c = rw c.in-59.is refl

pub returns-in-60 : goal.returns-in-60
unfolding symbol_rows
returns-in-60 c = rw c.in-60.is refl

pub returns-in-61 : goal.returns-in-61
unfolding symbol_rows
returns-in-61 c = rw c.in-61.is refl

pub returns-in-62 : goal.returns-in-62
unfolding symbol_rows
returns-in-62 c = rw c.in-62.is refl

pub returns-in-63 : goal.returns-in-63
unfolding symbol_rows
returns-in-63 c = rw c.in-63.is refl

pub returns-in-64 : goal.returns-in-64
unfolding symbol_rows
returns-in-64 c = rw c.in-64.is refl

pub returns-in-91 : goal.returns-in-91
unfolding symbol_rows
returns-in-91 c = rw c.in-91.is refl

pub returns-in-93 : goal.returns-in-93
unfolding symbol_rows
returns-in-93 c = rw c.in-93.is refl

pub returns-in-94 : goal.returns-in-94
unfolding symbol_rows
returns-in-94 c = rw c.in-94.is refl

pub returns-in-123 : goal.returns-in-123
unfolding symbol_rows
returns-in-123 c = rw c.in-123.is refl

pub returns-in-124 : goal.returns-in-124
unfolding symbol_rows
returns-in-124 c = rw c.in-124.is refl

pub returns-in-125 : goal.returns-in-125
unfolding symbol_rows
returns-in-125 c = rw c.in-125.is refl

pub returns-in-126 : goal.returns-in-126
unfolding symbol_rows
returns-in-126 c = rw c.in-126.is refl

pub returns-in_default : goal.returns-in_default
unfolding symbol_rows firsts
returns-in_default c =
    sym (no-row c.args.first firsts symbol_rows
    (omega arith, (omega arith, (omega arith, (omega arith, (omega arith, (omega arith, (omega arith, (omega arith, (omega arith, (omega arith, (omega arith, (omega arith, (omega arith, (omega arith, (omega arith, (omega arith, (omega arith, (omega arith, (omega arith, (omega arith, (omega arith, (omega arith, (omega arith, (omega arith, (omega arith, (omega arith, tt)))))))))))))))))))))))))) refl)
