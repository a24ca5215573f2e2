use Rattle.std.proofs.Common.{ℕ, List, [], ◌∷◌, refl, sym, arith}
use Rattle.vh_lex.specs.Keywords.{keyword_rows}
use Rattle.vh_lex.proofs.ViewsLemmas.{no-row}
use Rattle.vh_lex.proofs.keyword.keywords_from.Goals as goal

-- The first bytes of the reserved words
firsts : List ℕ
firsts = 97 ∷ 98 ∷ 99 ∷ 100 ∷ 101 ∷ 102 ∷ 103 ∷ 104 ∷ 105 ∷ 106 ∷ 108 ∷ 109 ∷ 110 ∷ 111 ∷ 112 ∷ 114 ∷ 115 ∷ 116 ∷ 117 ∷ 118 ∷ 119 ∷ 120 ∷ []

pub returns-in-97 : goal.returns-in-97
unfolding keyword_rows
returns-in-97 c = rw c.in-97.is refl

pub returns-in-98 : goal.returns-in-98
unfolding keyword_rows
returns-in-98 c = rw c.in-98.is refl

pub returns-in-99 : goal.returns-in-99
unfolding keyword_rows
returns-in-99 c = rw c.in-99.is refl

pub returns-in-100 : goal.returns-in-100
unfolding keyword_rows
returns-in-100 c = rw c.in-100.is refl

pub returns-in-101 : goal.returns-in-101
unfolding keyword_rows
returns-in-101 c = rw c.in-101.is refl

pub returns-in-102 : goal.returns-in-102
unfolding keyword_rows
returns-in-102 c = rw c.in-102.is refl

pub returns-in-103 : goal.returns-in-103
unfolding keyword_rows
returns-in-103 c = rw c.in-103.is refl

pub returns-in-104 : goal.returns-in-104
unfolding keyword_rows
returns-in-104 c = rw c.in-104.is refl

pub returns-in-105 : goal.returns-in-105
unfolding keyword_rows
returns-in-105 c = rw c.in-105.is refl

pub returns-in-106 : goal.returns-in-106
unfolding keyword_rows
returns-in-106 c = rw c.in-106.is refl

pub returns-in-108 : goal.returns-in-108
unfolding keyword_rows
returns-in-108 c = rw c.in-108.is refl

pub returns-in-109 : goal.returns-in-109
unfolding keyword_rows
returns-in-109 c = rw c.in-109.is refl

pub returns-in-110 : goal.returns-in-110
unfolding keyword_rows
returns-in-110 c = rw c.in-110.is refl

pub returns-in-111 : goal.returns-in-111
unfolding keyword_rows
returns-in-111 c = rw c.in-111.is refl

pub returns-in-112 : goal.returns-in-112
unfolding keyword_rows
returns-in-112 c = rw c.in-112.is refl

pub returns-in-114 : goal.returns-in-114
unfolding keyword_rows
returns-in-114 c = rw c.in-114.is refl

pub returns-in-115 : goal.returns-in-115
unfolding keyword_rows
returns-in-115 c = rw c.in-115.is refl

pub returns-in-116 : goal.returns-in-116
unfolding keyword_rows
returns-in-116 c = rw c.in-116.is refl

pub returns-in-117 : goal.returns-in-117
unfolding keyword_rows
returns-in-117 c = rw c.in-117.is refl

pub returns-in-118 : goal.returns-in-118
unfolding keyword_rows
returns-in-118 c = rw c.in-118.is refl

pub returns-in-119 : goal.returns-in-119
unfolding keyword_rows
returns-in-119 c = rw c.in-119.is refl

pub returns-in-120 : goal.returns-in-120
unfolding keyword_rows
returns-in-120 c = rw c.in-120.is refl

pub returns-in_default : goal.returns-in_default
unfolding keyword_rows firsts
returns-in_default c =
    sym (no-row c.args.first firsts keyword_rows
    (omega arith, (omega arith, (omega arith, (omega arith, (omega arith, (omega arith, (omega arith, (omega arith, (omega arith, (omega arith, (omega arith, (omega arith, (omega arith, (omega arith, (omega arith, (omega arith, (omega arith, (omega arith, (omega arith, (omega arith, (omega arith, (omega arith, tt)))))))))))))))))))))) refl)
