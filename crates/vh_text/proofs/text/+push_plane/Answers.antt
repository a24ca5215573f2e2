use Rattle.std.proofs.Common.{◌≡◌, ◌<◌, ◌%◌, ◌/◌, ◌^◌, ◌∷◌, [], ◌++◌, List, ℕ, ap, arith, ◌∙◌, sym, false, append_assoc}
use Rattle.std.specs.Char.{digit_char}
use Rattle.std.specs.Fmt.{digits}
use Rattle.std.specs.String.{string_bytes}
use Rattle.vh_logic.specs.declared.vector.TheConstants.{MAX_WIDTH}
use Rattle.vh_text.proofs.HexLemmas.{hex-last, hex-one}
use Rattle.vh_text.proofs.text.+push_plane.Goals as goal
use Rattle.vh_text.proofs.text.+push_plane.Goals.{then-plane-ge16+in_ok-push_plane, else-plane-ge16}

pub returns : goal.returns
returns t c =
    let n : ℕ = c.args.plane in
    let old : List ℕ = string_bytes c.args.text.now in
    let last : List ℕ = digit_char (n % 16) ∷ [] in
    let fits : n < 2 ^ MAX_WIDTH = c.ranges.plane.fits in
    let digit = c.in_ok-push.ensures.ascii c.digit_character.ensures.ascii ∙ ap (λ d. d ∷ []) c.digit_character.ensures.value in
    c.in_ok-push.ensures.bytes ∙ ap (λ (bs : List ℕ). string_bytes c.if-plane-ge16.text ++ bs) digit
    ∙ elim c.if-plane-ge16.branch [
      | then-plane-ge16+in_ok-push_plane w ↦
          ap (λ x. string_bytes x ++ last) w.text-is
          ∙ ap (λ (bs : List ℕ). bs ++ last) w.in_ok-push_plane.ensures
          ∙ append_assoc old (digits 16 false (n / 16)) last
          ∙ ap (λ (bs : List ℕ). old ++ bs) (sym (hex-last n w.if-plane-ge16.true fits))
      | else-plane-ge16 w ↦
          let small : n % 16 ≡ n = omega (arith, w.if-plane-ge16.false) in
          ap (λ x. string_bytes x ++ last) w.text-is
          ∙ ap (λ d. old ++ (digit_char d ∷ [])) small
          ∙ ap (λ (bs : List ℕ). old ++ bs) (sym (hex-one n (omega (arith, w.if-plane-ge16.false))))
    ]
