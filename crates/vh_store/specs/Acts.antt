-- What is done to the record of an object, a row for each call of the store.
use Rattle.vh_store.specs.declared.record.Act.{Act}
use Rattle.vh_store.specs.declared.record.Act.TheVariants as act
use Rattle.vh_store.specs.Contents.{Record, record_written, record_put, record_driven, record_forced, record_released, record_procedural, record_deassigned}

abbrev pub acted : Act → Record → Record
acted (act.Write at v) r = record_written at v r
acted (act.Put at v) r = record_put at v r
acted (act.Drive index v) r = record_driven index v r
acted (act.Force v from) r = record_forced v from r
acted act.Release r = record_released r
acted (act.Assign v from) r = record_procedural v from r
acted act.Deassign r = record_deassigned r
