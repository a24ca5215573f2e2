-- The parts of a design as they are handed to `build`. (own)
use Rattle.vh_design.specs.declared.parts.Parts.{Parts}
use Rattle.vh_design.specs.Shape.{Shape}

-- What contracts will see of the design of these parts.
abbrev pub shape_of : Parts → Shape
shape_of p = record {
  objects = p.objects.items;
  exprs = p.exprs.items;
  drivers = p.drivers.items;
  codes = p.codes.items;
  bodies = p.bodies.items;
  waits = p.waits.items;
  shows = p.shows.items;
  stmts = p.stmts.items;
  precision = p.precision;
}
