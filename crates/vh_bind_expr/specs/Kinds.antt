-- What is known of what a name stands for: its object is there, and of such a kind. (IEEE
-- 1364-2005, 5.2 and 10.4)
use Rattle.std.specs.Prelude.{◌≡◌, true, List, Option, Some, None}
use Rattle.vh_design_nodes.specs.declared.object.ObjectInfo.{ObjectInfo}
use Rattle.vh_design_nodes.specs.Kinds.{is_vector, is_memory, is_function, is_variable}
use Rattle.vh_design_nodes.specs.Fits.{has_kind}
use Rattle.vh_bind.specs.declared.readable.Readable.{Readable}
use Rattle.vh_bind.specs.declared.readable.Readable.TheVariants as it
use Rattle.vh_bind.specs.declared.readable.Function.{Function}

-- What is read is an object of a kind that may be read so.
abbrev pub IsReadable : List ObjectInfo → Readable → Type 0
IsReadable os (it.Vector o r) = has_kind is_vector os o ≡ true
IsReadable os (it.Memory o r) = has_kind is_memory os o ≡ true
IsReadable os (it.Parameter o r v) = has_kind is_vector os o ≡ true
IsReadable os (it.Genvar v) = Unit {0}
IsReadable os it.Unknown = Unit {0}
IsReadable os it.Wrong = Unit {0}

-- What is called is a function, and its result is a variable.
pub record IsFunction (os : List ObjectInfo) (f : Function) : Type 0 where
  pub function : has_kind is_function os f.id ≡ true
  pub variable : has_kind is_variable os f.result ≡ true

abbrev pub IsCallable : List ObjectInfo → Option Function → Type 0
IsCallable os None = Unit {0}
IsCallable os (Some f) = IsFunction os f
