-- The first pass over an instance: what is known of its objects, and the least fault of that. (IEEE 1364-2005, clause 12;
-- the passes are own)
use Rattle.std.specs.Prelude.{ℕ, List, [], ◌∷◌, ◌++◌, true, false, Option, Some, None, ℤ}
use Rattle.vh_logic.specs.Number.{wrapped}
use Rattle.vh_logic.specs.Planes.{digits_of}
use Rattle.vh_logic.specs.Vector.{Vector}
use Rattle.vh_design_nodes.specs.declared.object.ObjectInfo.{ObjectInfo}
use Rattle.vh_bind_least.specs.Least.{least}
use Rattle.vh_elab_sites.specs.Blocks.{GenvarAt}
use Rattle.vh_elab_sites.specs.Sites.{Declared, SiteTree, gen_block}
use Rattle.vh_elab_declare.specs.Needs.{needs_fault}
use Rattle.vh_elab_declare.specs.Objects.{Gathered, Naming, each, made_site, named_site}
use Rattle.vh_elab_declare.specs.Constants.{Genvars, Home, Known, Checked, settled_in, measured_site, with_genvar}
use Rattle.vh_elab_declare.specs.Settling.{as_needed}

-- The objects behind those so far, the first of which is the instance.
abbrev pub made_of : ObjectInfo → List SiteTree → Known → Gathered
made_of o so k = each made_site so (record { objects = k.objects ++ o ∷ []; bodies = k.bodies })

abbrev pub naming_of : List SiteTree → Known → Naming
naming_of so k = each named_site so (record { names = k.names; fault = None })

-- The genvars of generate blocks: 32 digits, signed. (12.4.1)
abbrev pub genvar_value : ℤ → Vector
genvar_value z = record { digits = digits_of 32 (wrapped 32 z) 0; signed = true }

abbrev pub genvar_kept : ℕ → Option GenvarAt → Genvars → Genvars
genvar_kept n None gs = gs
genvar_kept n (Some g) gs =
    with_genvar n (record { scope = g.scope; name = g.name; value = genvar_value g.value }) gs

abbrev pub block_kept : ℕ → Declared → Genvars → Genvars
block_kept n (gen_block b g) gs = genvar_kept n g gs
block_kept n _ gs = gs

abbrev pub site_kept : SiteTree → Genvars → Genvars
site_kept s gs = block_kept s.number s.declared gs

-- The names, the values of parameters, and then the ranges.
abbrev pub first_known : ObjectInfo → List SiteTree → Known → Known
first_known o so k = record {
  names = (naming_of so k).names;
  objects = (made_of o so k).objects;
  bodies = (made_of o so k).bodies;
  exprs = k.exprs;
  genvars = each site_kept so k.genvars;
}

-- The parameters take their values.
abbrev pub all_settled : Home → List SiteTree → Known → Known
all_settled h so k = settled_in h (as_needed h k so) k

unfoldable pub settled_known : Home → ObjectInfo → List SiteTree → Known → Known
settled_known h o so k = all_settled h so (first_known o so k)

-- Behind what is known of the instances before it, with the words that their memories have.
abbrev pub checked : Home → ObjectInfo → List SiteTree → Known → ℕ → Checked
checked h o so k words =
    each (measured_site h) so
    (record { known = settled_known h o so k; fault = least (naming_of so k).fault (needs_fault h (settled_known h o so k) so); passed = false; words = words })
