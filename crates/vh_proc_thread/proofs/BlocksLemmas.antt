-- Lemmas on `specs/Blocks.antt`: a block, and the one around it.
use Rattle.std.proofs.Common.{◌≡◌, ◌∙◌, ◌<◌, ◌≤◌, ◌==◌, ℕ, zero, suc, Bool, true, false, List, Option, Some, None, slice_get, slice_index_or, length, cond, refl, sym, ap, arith}
use Rattle.std.proofs.lemmas.Bool.{eqb-true, eqb-false}
use Rattle.std.proofs.lemmas.Option.{slice_get_past, slice_get_read}
use Rattle.std.specs.Option.{option_and_then}
use Rattle.vh_design_code.specs.declared.code.Block.{Block}
use Rattle.vh_proc_thread.specs.Blocks.{block_or, block_below, block_of}

abbrev at_block : ℕ → List Block → ℕ → ℕ → Option Block
at_block n bs target k = option_and_then (block_or (option_and_then (block_below n bs target)) target) (slice_get bs k)

step_by : (b : Bool) (n : ℕ) (bs : List Block) (target k : ℕ) → (k == n) ≡ b → k < suc n
    → (k < n → block_below n bs target k ≡ at_block k bs target k)
    → elim b [
      | true ↦ at_block n bs target k
      | false ↦ block_below n bs target k
    ]
    ≡ at_block k bs target k
step_by true n bs target k is below rest = ap (λ (m : ℕ). at_block m bs target k) (sym (eqb-true k n is))
step_by false n bs target k is below rest = let other = eqb-false k n is in rest (omega (arith, other))

block_step : (n : ℕ) (bs : List Block) (target k : ℕ) → k < n → block_below n bs target k ≡ at_block k bs target k
unfolding block_below
block_step zero bs target k below = absurd (omega arith)
block_step (suc n) bs target k below = step_by (k == n) n bs target k refl below (block_step n bs target k)

abbrev no_block : Option Block
no_block = None

none_by : (b : Bool) (n : ℕ) (bs : List Block) (target k : ℕ) → (k == n) ≡ b → suc n ≤ k → block_below n bs target k ≡ no_block
    → elim b [
      | true ↦ at_block n bs target k
      | false ↦ block_below n bs target k
    ]
    ≡ no_block
none_by true n bs target k is above rest = let same = eqb-true k n is in absurd (omega (arith, same, above))
none_by false n bs target k is above rest = rest

-- Nothing is found from a number that isn't below.
pub outward_none : (n : ℕ) (bs : List Block) (target k : ℕ) → n ≤ k → block_below n bs target k ≡ None
unfolding block_below
outward_none zero bs target k above = refl
outward_none (suc n) bs target k above = none_by (k == n) n bs target k refl above (outward_none n bs target k (omega arith))

pub outward_some : (n : ℕ) (bs : List Block) (target k : ℕ) → k < n → block_below n bs target k ≡ block_of bs target (Some k)
outward_some n bs target k below = block_step n bs target k below ∙ sym (block_step (suc k) bs target k (omega arith))

block_at : (bs : List Block) (target k : ℕ) → block_of bs target (Some k) ≡ at_block k bs target k
block_at bs target k = block_step (suc k) bs target k (omega arith)

-- Where no block has the number, where the block is the one, and else what is around it.
pub block_missing : (bs : List Block) (target k : ℕ) → slice_get bs k ≡ None → block_of bs target (Some k) ≡ None
block_missing bs target k none =
    block_at bs target k
    ∙ ap (λ (o : Option Block). option_and_then (block_or (option_and_then (block_below k bs target)) target) o) none

pub block_own : (bs : List Block) (target k : ℕ) (b : Block) → slice_get bs k ≡ Some b → (b.object == target) ≡ true
    → block_of bs target (Some k) ≡ Some b
block_own bs target k b at own =
    block_at bs target k
    ∙ ap (λ (o : Option Block). option_and_then (block_or (option_and_then (block_below k bs target)) target) o) at
    ∙ ap (λ (t : Bool). cond t (Some b) (option_and_then (block_below k bs target) b.around)) own

pub block_around_it : (bs : List Block) (target k : ℕ) (b : Block) → slice_get bs k ≡ Some b → (b.object == target) ≡ false
    → block_of bs target (Some k) ≡ option_and_then (block_below k bs target) b.around
block_around_it bs target k b at other =
    block_at bs target k
    ∙ ap (λ (o : Option Block). option_and_then (block_or (option_and_then (block_below k bs target)) target) o) at
    ∙ ap (λ (t : Bool). cond t (Some b) (option_and_then (block_below k bs target) b.around)) other

-- The same by what a look-up says.
pub found_missing : (bs : List Block) (target k : ℕ) (inner : Option ℕ) → inner ≡ Some k → length bs ≤ k → block_of bs target inner ≡ None
found_missing bs target k inner is past = ap (block_of bs target) is ∙ block_missing bs target k (slice_get_past bs k past)

pub found_own : (bs : List Block) (target k : ℕ) (inner : Option ℕ) (b : Block) → inner ≡ Some k → k < length bs → b ≡ slice_index_or bs k b
    → (b.object == target) ≡ true → block_of bs target inner ≡ Some b
found_own bs target k inner b is within at own =
    ap (block_of bs target) is ∙ block_own bs target k b (slice_get_read bs (length bs) k b refl within at) own

pub found_around : (bs : List Block) (target k : ℕ) (inner : Option ℕ) (b : Block) → inner ≡ Some k → k < length bs → b ≡ slice_index_or bs k b
    → (b.object == target) ≡ false → block_of bs target inner ≡ option_and_then (block_below k bs target) b.around
found_around bs target k inner b is within at other =
    ap (block_of bs target) is ∙ block_around_it bs target k b (slice_get_read bs (length bs) k b refl within at) other
