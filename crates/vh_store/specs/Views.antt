-- How contracts see what a store has inside.
use Rattle.vh_store.specs.declared.record.Base.{Base}
use Rattle.vh_store.specs.declared.record.Base.TheVariants as base
use Rattle.vh_store.specs.declared.record.Record.{Record as Kept}
use Rattle.vh_store.specs.Contents.{Assigned, variable, memory, net, Record}

-- What was assigned.
abbrev pub assigned_of : Base → Assigned
assigned_of (base.Value v) = variable v
assigned_of (base.Words lowest words) = memory lowest words.items
assigned_of (base.Net n) = net n

-- What is known of an object.
abbrev pub record_of : Kept → Record
record_of r = record { base = assigned_of r.base; overridden = r.overridden; procedural = r.procedural; force = r.force }
