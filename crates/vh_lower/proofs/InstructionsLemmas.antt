-- Lemmas on `specs/Instructions.antt`: one instruction more.
use Rattle.std.proofs.Common.{◌≡◌, ◌++◌, ◌∷◌, [], ℕ, true, false, List, refl, ap}
use Rattle.vh_design_code.specs.declared.operation.Operation.{Operation}
use Rattle.vh_lower_flow.specs.Trees.{FlowTree}
use Rattle.vh_lower.specs.Instructions.{instruction, further, from_first, is_empty}

pub further-more : (n : ℕ) (os : List Operation) (o : Operation) → further n (os ++ o ∷ []) ≡ further n os ++ instruction n false o ∷ []
further-more n [] o = refl
further-more n (p ∷ os) o = ap (λ (fs : List FlowTree). instruction n false p ∷ fs) (further-more n os o)

pub first-more : (n : ℕ) (os : List Operation) (o : Operation)
    → from_first n (os ++ o ∷ []) ≡ from_first n os ++ instruction n (is_empty os) o ∷ []
first-more n [] o = refl
first-more n (p ∷ os) o = ap (λ (fs : List FlowTree). instruction n true p ∷ fs) (further-more n os o)

pub more-there : (os : List Operation) (o : Operation) → is_empty (os ++ o ∷ []) ≡ false
more-there [] o = refl
more-there (p ∷ os) o = refl
