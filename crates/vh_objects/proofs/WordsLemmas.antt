-- Lemmas on the words of a memory: the word at a position.
use Rattle.std.proofs.Common.{◌≡◌, ◌∙◌, ◌<◌, ◌≤◌, ◌+◌, ℕ, List, length, map, Option, Some, None, slice_get, get_or, refl, sym, ap, arith}
use Rattle.std.specs.List.{range_with_len}
use Rattle.std.proofs.lemmas.List.FromFn.{length-map-range_with_len, get_or-map-range_with_len}
use Rattle.std.proofs.lemmas.Option.{slice_get_past, slice_get-get_or}
use Rattle.vh_base.specs.declared.orders.Object.{Object}
use Rattle.vh_objects.specs.Objects.{word}

pub word-none : (memory lowest count at : ℕ) → count ≤ at → slice_get (map (word memory) (range_with_len lowest count)) at ≡ None
word-none memory lowest count at h =
    slice_get_past (map (word memory) (range_with_len lowest count)) at (omega (arith, length-map-range_with_len (word memory) lowest count))

pub word-some : (memory lowest count at : ℕ) → at < count
    → slice_get (map (word memory) (range_with_len lowest count)) at ≡ Some (word memory (lowest + at))
word-some memory lowest count at h =
    let xs : List Object = map (word memory) (range_with_len lowest count) in
    slice_get-get_or xs at (word memory 0) (omega (arith, length-map-range_with_len (word memory) lowest count))
    ∙ ap Some (get_or-map-range_with_len (word memory) lowest count at (lowest + at) (word memory 0) h refl)
