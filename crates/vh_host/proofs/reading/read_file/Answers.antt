use Rattle.std.proofs.Common.{refl}
use Rattle.vh_host.proofs.reading.read_file.Goals as goal

pub returns-in-Err-Failed-clause-calm : goal.returns-in-Err-Failed-clause-calm
returns-in-Err-Failed-clause-calm g c = λ other. absurd (other c.args.number refl)
