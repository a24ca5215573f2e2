-- What is made of each element, an element at a time.
use Rattle.std.proofs.Common.{List, ◌++◌, Option}
use Rattle.std.specs.Option.{option_map}

-- What was made before, and what follows it
abbrev pub onto : {B : Type 0} → List B → Option (List B) → Option (List B)
onto front o = option_map (λ ys. front ++ ys) o
