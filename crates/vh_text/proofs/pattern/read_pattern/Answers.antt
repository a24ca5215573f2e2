use Rattle.std.proofs.Common.{◌≡◌, ap, ◌∙◌, sym, arith, ◌<◌, ◌+◌, length, List, ◌∷◌, ◌++◌, drop, get_or, ℕ, Option, Some}
use Rattle.std.specs.Option.{option_map}
use Rattle.std.proofs.lemmas.List.{drop_more, drop_all, length-append}
use Rattle.vh_logic.specs.declared.digits.Digit.{Digit}
use Rattle.vh_text.specs.declared.pattern.Pattern.{Pattern}
use Rattle.vh_text.specs.Digits.{spelled_digits, characters, character_digits, joined_digits, question_as_z}
use Rattle.vh_text.specs.Views.{pattern_of, pattern_pushed}
use Rattle.vh_text.proofs.ViewsLemmas.{characters-first, characters-next, characters-symbol, spelled_digits-none, spelled_digits-first, spelled_digits-stop, spelled_digits-more, spelled_digits-nil, from_some, from_none, pattern_of-short, pattern_of-pushed}
use Rattle.vh_text.proofs.pattern.read_pattern.Goals as goal
use Rattle.vh_text.proofs.pattern.read_pattern.Goals.{then-b-ne95+in_ok-digits, else-b-ne95}

-- What is left of a text, by its next byte
left-digit : (rest : List ℕ) (i : ℕ) → i < length rest → (get_or rest i 0 ≡ 95 → ⊥)
    → characters (drop i rest) ≡ question_as_z (get_or rest i 0) ∷ characters (drop (i + 1) rest)
left-digit rest i h n = ap (λ (xs : List ℕ). characters xs) (drop_more rest i 0 h) ∙ characters-next (get_or rest i 0) (drop (i + 1) rest) n

left-symbol : (rest : List ℕ) (i : ℕ) → i < length rest → get_or rest i 0 ≡ 95 → characters (drop i rest) ≡ characters (drop (i + 1) rest)
left-symbol rest i h e = ap (λ (xs : List ℕ). characters xs) (drop_more rest i 0 h) ∙ characters-symbol (get_or rest i 0) (drop (i + 1) rest) e

pub returns-in_err-character_digits : goal.returns-in_err-character_digits
returns-in_err-character_digits c =
    let k = c.args.group in
    let none = ap (λ (n : ℕ). character_digits k n) (sym c.z_of_question.ensures) ∙ from_none (character_digits k c.z_of_question.result) c.in_err-character_digits.ensures.value in
    let all = ap (λ (xs : List ℕ). spelled_digits k xs) (characters-first _ _ _ c.in_ok-first.ensures.cases.0 c.requires.begun) ∙ spelled_digits-none k _ _ none in
    c.from_residual-in_err-character_digits.ensures ∙ sym (ap (λ (o : Option (List Digit)). option_map pattern_of o) all)

pub loop-b-init : goal.loop-b-init
loop-b-init c =
    let k = c.args.group in
    let got = from_some (character_digits k c.z_of_question.result) c.in_ok-character_digits.field-0 c.in_ok-character_digits.ensures.value in
    let digits = ap (λ (n : ℕ). character_digits k n) (sym c.z_of_question.ensures) ∙ got.0 in (
      c.in_ok-character_digits.field-0.digits,
      omega (arith, c.in_ok-character_digits.ensures.width, c.requires.least),
      ap (λ (xs : List ℕ). spelled_digits k xs) (characters-first _ _ _ c.in_ok-first.ensures.cases.0 c.requires.begun) ∙ spelled_digits-first k _ _ _ digits,
      pattern_of-short c.in_ok-character_digits.field-0 got.1 (omega (arith, c.in_ok-character_digits.ensures.width, c.requires.most)),
    )

pub returns-in_err-digits : goal.returns-in_err-digits
returns-in_err-digits c =
    let k = c.args.group in
    let none = ap (λ (n : ℕ). character_digits k n) (sym c.z_of_question-then-b-ne95.ensures) ∙ from_none (character_digits k c.z_of_question-then-b-ne95.result) c.in_err-digits.ensures.value in
    let next = left-digit c.in_ok-first.rest.now c.loop-b.b-index c.loop-b-test.true c.if-b-ne95.true in
    let all = c.loop-b.invariant.2 ∙ ap (λ (xs : List ℕ). joined_digits (spelled_digits k xs) (Some c.loop-b.invariant.0)) next ∙ spelled_digits-stop k _ _ _ none in
    c.from_residual-in_err-digits.ensures ∙ sym (ap (λ (o : Option (List Digit)). option_map pattern_of o) all)

pub loop-b-preserved : goal.loop-b-preserved
loop-b-preserved c =
    let k = c.args.group in
    let ds = c.loop-b.invariant.0 in
    let rest = c.in_ok-first.rest.now in
    let i = c.loop-b.b-index in
    elim c.if-b-ne95.branch [
      | then-b-ne95+in_ok-digits w ↦
          let g = w.in_ok-digits.digits in
          let got = from_some (character_digits k w.z_of_question-then-b-ne95.result) g w.in_ok-digits.ensures.value in
          let digits = ap (λ (n : ℕ). character_digits k n) (sym w.z_of_question-then-b-ne95.ensures) ∙ got.0 in
          let next = left-digit rest i c.loop-b-test.true w.if-b-ne95.true in (
            g.digits ++ ds,
            omega (arith, c.loop-b.invariant.1, length-append g.digits ds),
            c.loop-b.invariant.2 ∙ ap (λ (xs : List ℕ). joined_digits (spelled_digits k xs) (Some ds)) next ∙ spelled_digits-more k _ _ _ ds digits,
            w.pattern-is ∙ w.pushed-pattern.ensures ∙ ap (λ (p : Pattern). pattern_pushed p g.digits) c.loop-b.invariant.3
                ∙ pattern_of-pushed ds g.digits (omega (arith, w.in_ok-digits.ensures.width, c.requires.most)) c.loop-b.invariant.1,
          )
      | else-b-ne95 w ↦ (
        ds,
        c.loop-b.invariant.1,
        c.loop-b.invariant.2 ∙ ap (λ (xs : List ℕ). joined_digits (spelled_digits k xs) (Some ds)) (left-symbol rest i c.loop-b-test.true w.if-b-ne95.false),
        w.pattern-is ∙ c.loop-b.invariant.3,
      )
    ]

pub returns : goal.returns
returns c =
    let k = c.args.group in
    let ds = c.loop-b.invariant.0 in
    let none = ap (λ (xs : List ℕ). characters xs) (drop_all c.loop-b.b-index c.in_ok-first.rest.now c.loop-b-test.false) in
    let all = c.loop-b.invariant.2 ∙ ap (λ (xs : List ℕ). joined_digits (spelled_digits k xs) (Some ds)) none
    ∙ ap (λ (o : Option (List Digit)). joined_digits o (Some ds)) (spelled_digits-nil k) in
    ap (λ (p : Pattern). Some p) c.loop-b.invariant.3 ∙ sym (ap (λ (o : Option (List Digit)). option_map pattern_of o) all)
