-- Parts that are read alike.
use Rattle.std.proofs.Common.{◌≡◌, ℕ, Bool, true, List, ◌∷◌, refl}
use Rattle.vh_parse_grammar.specs.Part.{seq, act, two, after, before}
use Rattle.vh_parse_grammar.specs.Reading.{Out, got, stop}
use Rattle.vh_parse_grammar.specs.Omissions.{noted}
use Rattle.vh_ast.specs.Statements.{CitemTree}
use Rattle.vh_parse_syntax.specs.declared.lexeme.Lexeme.TheVariants as lexeme
use Rattle.vh_parse_syntax.specs.Tokens.{Token, is_unused}
use Rattle.vh_parse_syntax.specs.Parts.{G, the, placed_row, comma_more, in_parens}
use Rattle.vh_parse_syntax.specs.Expressions.{expression}
use Rattle.vh_parse_syntax.specs.Statements.{case_rows, inner_stmt, citem, citems, case_stmt, values_item}
use Rattle.vh_parse_syntax.specs.Grammar.{grammar}
use Rattle.vh_parse_stmt.specs.Pieces.{values_of, item_by, values_item_part, more_citems, case_by, case_part}

-- What the first of two parts is made into may as well be done where both are
first-acts : {A B C D : Type 0} (f : B → C → D) (g : A → B) (p : G A) (q : G C) (depth : ℕ) (ts : List Token) (m : ℕ) →
    noted is_unused grammar depth (two f (act g p) q) ts m ≡ noted is_unused grammar depth (two (λ a c. f (g a) c) p q) ts m
first-acts {A} {B} {C} {D} f g p q depth ts m = one (noted is_unused grammar depth p ts m) refl
  where
    both : (a : A × ℕ) (mid : List Token) (o : Out Token (C × ℕ)) → noted is_unused grammar depth p ts m ≡ got a mid → noted is_unused grammar depth q mid a.1 ≡ o →
        noted is_unused grammar depth (two f (act g p) q) ts m ≡ noted is_unused grammar depth (two (λ a c. f (g a) c) p q) ts m
    both a mid (got c rest) e h = rw (e, h) refl
    both a mid (stop fault left) e h = rw (e, h) refl

    one : (o : Out Token (A × ℕ)) → noted is_unused grammar depth p ts m ≡ o → noted is_unused grammar depth (two f (act g p) q) ts m ≡ noted is_unused grammar depth (two (λ a c. f (g a) c) p q) ts m
    one (got a mid) e = both a mid (noted is_unused grammar depth q mid a.1) e refl
    one (stop fault left) e = rw e refl

-- The same of a part in the middle of others
inner-acts : {A B C D E F : Type 0} (f : A → B × D → F) (g : C → D) (p : G A) (q : G B) (r : G C) (s : G E) (depth : ℕ) (ts : List Token) (m : ℕ) →
    noted is_unused grammar depth (two f p (seq q (before (act g r) s))) ts m ≡ noted is_unused grammar depth (two (λ a b. f a (b.0, g b.1)) p (seq q (before r s))) ts m
inner-acts {A} {B} {C} {D} {E} {F} f g p q r s depth ts m = one (noted is_unused grammar depth p ts m) refl
  where
    four : (a : A × ℕ) (mid : List Token) (b : B × ℕ) (end : List Token) (c : C × ℕ) (rest : List Token) (o : Out Token (E × ℕ)) → noted is_unused grammar depth p ts m ≡ got a mid → noted is_unused grammar depth q mid a.1 ≡ got b end → noted is_unused grammar depth r end b.1 ≡ got c rest → noted is_unused grammar depth s rest c.1 ≡ o →
        noted is_unused grammar depth (two f p (seq q (before (act g r) s))) ts m ≡ noted is_unused grammar depth (two (λ a b. f a (b.0, g b.1)) p (seq q (before r s))) ts m
    four a mid b end c rest (got u last) e h i j = rw (e, h, i, j) refl
    four a mid b end c rest (stop fault left) e h i j = rw (e, h, i, j) refl

    three : (a : A × ℕ) (mid : List Token) (b : B × ℕ) (end : List Token) (o : Out Token (C × ℕ)) → noted is_unused grammar depth p ts m ≡ got a mid → noted is_unused grammar depth q mid a.1 ≡ got b end → noted is_unused grammar depth r end b.1 ≡ o →
        noted is_unused grammar depth (two f p (seq q (before (act g r) s))) ts m ≡ noted is_unused grammar depth (two (λ a b. f a (b.0, g b.1)) p (seq q (before r s))) ts m
    three a mid b end (got c rest) e h i = four a mid b end c rest (noted is_unused grammar depth s rest c.1) e h i refl
    three a mid b end (stop fault left) e h i = rw (e, h, i) refl

    middle : (a : A × ℕ) (mid : List Token) (o : Out Token (B × ℕ)) → noted is_unused grammar depth p ts m ≡ got a mid → noted is_unused grammar depth q mid a.1 ≡ o →
        noted is_unused grammar depth (two f p (seq q (before (act g r) s))) ts m ≡ noted is_unused grammar depth (two (λ a b. f a (b.0, g b.1)) p (seq q (before r s))) ts m
    middle a mid (got b end) e h = three a mid b end (noted is_unused grammar depth r end b.1) e h refl
    middle a mid (stop fault left) e h = rw (e, h) refl

    one : (o : Out Token (A × ℕ)) → noted is_unused grammar depth p ts m ≡ o →
        noted is_unused grammar depth (two f p (seq q (before (act g r) s))) ts m ≡ noted is_unused grammar depth (two (λ a b. f a (b.0, g b.1)) p (seq q (before r s))) ts m
    one (got a mid) e = middle a mid (noted is_unused grammar depth q mid a.1) e refl
    one (stop fault left) e = rw e refl

-- A statement of a case with its values in one list
pub values-listed : (inside : Bool) (depth : ℕ) (ts : List Token) (m : ℕ) → noted is_unused grammar depth (values_item_part inside) ts m ≡ noted is_unused grammar depth (values_item inside) ts m
unfolding values_item
values-listed inside depth ts m =
    first-acts item_by values_of (seq (expression true) (comma_more (expression true))) (after (the lexeme.Colon) (inner_stmt inside)) depth ts m

-- A case with its statements in one list
pub case-listed : (inside : Bool) (depth : ℕ) (ts : List Token) (m : ℕ) → noted is_unused grammar depth (case_part inside) ts m ≡ noted is_unused grammar depth (case_stmt inside) ts m
unfolding case_stmt citems
case-listed inside depth ts m =
    inner-acts case_by (λ (c : CitemTree × List CitemTree). c.0 ∷ c.1) (placed_row case_rows) (in_parens (expression true)) (seq (citem inside) (more_citems inside)) (the lexeme.Endcase) depth ts m
