use Rattle.std.proofs.Common.{◌≡◌, ◌-◌, ◌*◌, ◌/◌, ◌+◌, length, drop, take, ◌++◌, List, ℕ, ap, arith, ◌∙◌, sym, min, suc}
use Rattle.std.specs.String.{string_bytes}
use Rattle.std.proofs.lemmas.List.{take_min, length-drop}
use Rattle.vh_logic.specs.declared.digits.Digit.{Digit}
use Rattle.vh_logic.specs.Vector.{Vector}
use Rattle.vh_text.specs.Texts.{groups_text, group_count, character_text}
use Rattle.vh_text.proofs.TextsLemmas.{groups_text-more, groups_text-none}
use Rattle.vh_text.proofs.text.write_grouped.Goals as goal

pub loop-left-init : goal.loop-left-init
loop-left-init c =
    let width : c.width-width.result ≡ length c.args.v.now.digits = c.width-width.ensures.value in
    let count : (c.width-width.result + (c.args.group - 1)) / c.args.group ≡ group_count c.args.group (length c.args.v.now.digits) =
    ap (λ w. (w + (c.args.group - 1)) / c.args.group) width in
    (c.in_ok-reserve.ensures.bytes ∙ c.clear.ensures.bytes ∙ sym (groups_text-none _ _ _ _ (omega (arith, count))), omega (arith, count), width)

pub loop-left-preserved : goal.loop-left-preserved
loop-left-preserved c =
    let left = c.loop-left.left - 1 in
    let ds = c.args.v.now.digits in
    let n : ℕ = group_count c.args.group (length ds) in
    let next : suc (c.loop-left.left - 1) ≡ c.loop-left.left = omega arith in
    let part : c.select-part.result.digits ≡ take c.args.group (drop (left * c.args.group) ds) =
    ap (λ (v : Vector). v.digits) c.select-part.ensures.value
    ∙ ap (λ k. take k (drop (left * c.args.group) ds)) (c.min.ensures ∙ ap (λ k. min c.args.group k) (ap (λ w. w - left * c.args.group) c.width-width.ensures.value ∙ sym (length-drop (left * c.args.group) ds)))
    ∙ take_min c.args.group (drop (left * c.args.group) ds) in (
      c.in_ok-push.ensures.bytes
          ∙ ap (λ (bs : List ℕ). string_bytes c.loop-left.out ++ bs) (c.in_ok-push.ensures.ascii c.character.ensures.ascii ∙ c.character.ensures.value ∙ ap (λ (xs : List Digit). character_text xs) part)
          ∙ ap (λ (bs : List ℕ). bs ++ character_text (take c.args.group (drop (left * c.args.group) ds))) (c.loop-left.invariant.0 ∙ ap (λ l. groups_text (n - l) c.args.group (drop (l * c.args.group) ds)) (sym next))
          ∙ sym (groups_text-more n left c.args.group ds (omega (arith, c.loop-left.invariant.1))),
      omega (arith, c.loop-left.invariant.1),
      c.loop-left.invariant.2,
    )
