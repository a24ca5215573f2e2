use Rattle.std.proofs.Common.{◌∙◌, sym, arith}
use Rattle.vh_objects.proofs.WordsLemmas.{word-none, word-some}
use Rattle.vh_objects.proofs.lister.word_at.Goals as goal

pub returns-then-at-count : goal.returns-then-at-count
returns-then-at-count c = sym (word-none c.args.memory c.args.lowest c.args.count c.args.at (omega arith))

pub returns : goal.returns
returns c = sym (word-some c.args.memory c.args.lowest c.args.count c.args.at (omega arith))
