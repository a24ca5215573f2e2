use Rattle.std.proofs.Common.{◌≡◌, ap, ◌∙◌, sym, ◌<◌, ◌+◌, ◌*◌, ◌-◌, length, List, ◌∷◌, drop, get_or, ℕ, true}
use Rattle.std.specs.Char.{is_ascii_digit}
use Rattle.std.proofs.lemmas.List.{drop_more}
use Rattle.vh_text.specs.Digits.{characters}
use Rattle.vh_text.proofs.ViewsLemmas.{characters-next, characters-symbol}
use Rattle.vh_text.proofs.LiteralsLemmas.{number_after, number_after-more, digit_value-is, question-same}
use Rattle.vh_text.proofs.number.read_number.Goals as goal
use Rattle.vh_text.proofs.number.read_number.Goals.{then-b-ne95+else-not-is_ascii_digit, else-b-ne95}

-- What is left of a text, by its next byte
left-digit : (bs : List ℕ) (i n : ℕ) → i < length bs → (get_or bs i 0 ≡ 95 → ⊥) → is_ascii_digit (get_or bs i 0) ≡ true
    → number_after n (characters (drop i bs)) ≡ number_after (n * 10 + (get_or bs i 0 - 48)) (characters (drop (i + 1) bs))
left-digit bs i n h no_mark digit =
    let b = get_or bs i 0 in
    let rest = drop (i + 1) bs in
    let is_same = question-same b digit in
    ap (λ (xs : List ℕ). number_after n (characters xs)) (drop_more bs i 0 h)
    ∙ ap (λ (xs : List ℕ). number_after n xs) (characters-next b rest no_mark ∙ ap (λ c. c ∷ characters rest) is_same)
    ∙ number_after-more n b (characters rest) digit
    ∙ ap (λ d. number_after (n * 10 + d) (characters rest)) (digit_value-is b digit)

left-symbol : (bs : List ℕ) (i n : ℕ) → i < length bs → get_or bs i 0 ≡ 95 → number_after n (characters (drop i bs)) ≡ number_after n (characters (drop (i + 1) bs))
left-symbol bs i n h e =
    ap (λ (xs : List ℕ). number_after n (characters xs)) (drop_more bs i 0 h)
    ∙ ap (λ (xs : List ℕ). number_after n xs) (characters-symbol (get_or bs i 0) (drop (i + 1) bs) e)

pub loop-b-preserved : goal.loop-b-preserved
loop-b-preserved c =
    let bs = c.args.bytes.now in
    let i = c.loop-b.b-index in
    let n = c.loop-b.invariant.0 in
    elim c.if-b-ne95.branch [
      | then-b-ne95+else-not-is_ascii_digit w ↦ (
        n * 10 + (get_or bs i 0 - 48),
        c.loop-b.invariant.1 ∙ left-digit bs i n c.loop-b-test.true w.if-b-ne95.true (sym w.is_ascii_digit.ensures.value ∙ w.if-not-is_ascii_digit.false),
        w.number-is ∙ w.pushed-number.ensures n c.loop-b.invariant.2,
      )
      | else-b-ne95 w ↦ (
        n,
        c.loop-b.invariant.1 ∙ left-symbol bs i n c.loop-b-test.true w.if-b-ne95.false,
        w.number-is ∙ c.loop-b.invariant.2,
      )
    ]
