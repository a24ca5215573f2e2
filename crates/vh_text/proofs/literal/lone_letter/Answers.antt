use Rattle.std.proofs.Common.{◌≡◌, ap, ◌∙◌, sym, ℕ, List, [], ◌∷◌, true}
use Rattle.std.specs.Prelude.{IsSome}
use Rattle.std.specs.List.{list_all}
use Rattle.std.proofs.Common.{eqb}
use Rattle.vh_text.specs.Digits.{characters, question_as_z, spelled_characters}
use Rattle.vh_text.specs.Literals.{lone_letter}
use Rattle.vh_text.proofs.ViewsLemmas.{characters-first}
use Rattle.vh_text.proofs.LiteralsLemmas.{lone_letter-many, lone_letter-x, lone_letter-z, characters-none}
use Rattle.vh_text.proofs.literal.lone_letter.Goals as goal

-- A text of one byte and underscores
alone : (bs rest : List ℕ) (b letter : ℕ) → bs ≡ b ∷ rest → IsSome (spelled_characters bs) → list_all (λ x. eqb x 95) rest ≡ true → letter ≡ question_as_z b
    → characters bs ≡ letter ∷ []
alone bs rest b letter e begun symbols is =
    characters-first bs rest b e begun ∙ ap (λ (xs : List ℕ). question_as_z b ∷ xs) (characters-none rest symbols) ∙ ap (λ n. n ∷ []) (sym is)

pub returns-then-not-are_underscores : goal.returns-then-not-are_underscores
returns-then-not-are_underscores c =
    let all = characters-first c.args.bytes.now c.in_ok-first.rest.now c.in_ok-first.first.now c.in_ok-first.ensures.cases.0 c.requires in
    sym (ap (λ (xs : List ℕ). lone_letter xs) all ∙ lone_letter-many (question_as_z c.in_ok-first.first.now) c.in_ok-first.rest.now (sym c.are_underscores.ensures ∙ c.if-not-are_underscores.true))

pub returns-then-is_x_letter : goal.returns-then-is_x_letter
returns-then-is_x_letter c =
    let all = alone c.args.bytes.now _ _ c.z_of_question-letter.result c.in_ok-first.ensures.cases.0 c.requires (sym c.are_underscores.ensures ∙ c.if-not-are_underscores.false) c.z_of_question-letter.ensures in
    sym (ap (λ (xs : List ℕ). lone_letter xs) all ∙ lone_letter-x c.z_of_question-letter.result (sym c.is_x_letter.ensures ∙ c.if-is_x_letter.true))

pub returns-then-is_z_letter : goal.returns-then-is_z_letter
returns-then-is_z_letter c =
    let all = alone c.args.bytes.now _ _ c.z_of_question-letter.result c.in_ok-first.ensures.cases.0 c.requires (sym c.are_underscores.ensures ∙ c.if-not-are_underscores.false) c.z_of_question-letter.ensures in
    sym (ap (λ (xs : List ℕ). lone_letter xs) all
    ∙ lone_letter-z c.z_of_question-letter.result (sym c.is_x_letter.ensures ∙ c.if-is_x_letter.false) (sym c.is_z_letter.ensures ∙ c.if-is_z_letter.true))
