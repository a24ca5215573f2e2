-- The conditionals that are open, the innermost one behind the others.
use Rattle.std.proofs.Common.{◌≡◌, ◌-◌, List, [], ◌∷◌, ◌++◌, Some, length, take, slice_get, slice_set, refl, ap, ◌∙◌, length-append, arith}
use Rattle.vh_lex.specs.declared.conditional.Conditional.{Conditional}
use Rattle.vh_lex.specs.Conditionals.{innermost, with_innermost, without_innermost, is_skipped, skips, skips_in}

one-less : (cs : List Conditional) (c : Conditional) → length (cs ++ c ∷ []) - 1 ≡ length cs
one-less cs c = ap (λ n. n - 1) (length-append cs (c ∷ [])) ∙ omega arith

get-last : (cs : List Conditional) (c : Conditional) → slice_get (cs ++ c ∷ []) (length cs) ≡ Some c
get-last [] c = refl
get-last (x ∷ cs) c = get-last cs c

take-beginning : (cs : List Conditional) (c : Conditional) → take (length cs) (cs ++ c ∷ []) ≡ cs
take-beginning [] c = refl
take-beginning (x ∷ cs) c = ap (λ l. x ∷ l) (take-beginning cs c)

set-last : (cs : List Conditional) (c d : Conditional) → slice_set (cs ++ c ∷ []) (length cs) d ≡ cs ++ d ∷ []
set-last [] c d = refl
set-last (x ∷ cs) c d = ap (λ l. x ∷ l) (set-last cs c d)

pub innermost-last : (cs : List Conditional) (c : Conditional) → innermost (cs ++ c ∷ []) ≡ Some c
innermost-last cs c = ap (slice_get (cs ++ c ∷ [])) (one-less cs c) ∙ get-last cs c

pub without-last : (cs : List Conditional) (c : Conditional) → without_innermost (cs ++ c ∷ []) ≡ cs
without-last cs c = ap (λ n. take n (cs ++ c ∷ [])) (one-less cs c) ∙ take-beginning cs c

pub with-last : (cs : List Conditional) (c d : Conditional) → with_innermost d (cs ++ c ∷ []) ≡ cs ++ d ∷ []
with-last cs c d = ap (λ n. slice_set (cs ++ c ∷ []) n d) (one-less cs c) ∙ set-last cs c d

pub skips-last : (cs : List Conditional) (c : Conditional) → skips (cs ++ c ∷ []) ≡ is_skipped c.branch
skips-last cs c = ap skips_in (innermost-last cs c)
