use Rattle.std.proofs.Common.{length, ap, arith}
use Rattle.vh_host.specs.declared.file.TextFile.{TextFile}
use Rattle.vh_host.proofs.Sources.{bytes-at}
use Rattle.vh_host.proofs.judging.scripts_of.Goals as goal

pub script_of-requires : goal.script_of-requires
script_of-requires c =
    let short = bytes-at c.args.files.now c.loop-file.file-index c.file-item.result c.requires.short c.loop-file-test.true in
    let same = ap (λ (f : TextFile). length f.bytes.items) c.file-item.is in
    omega (arith, same, short)
