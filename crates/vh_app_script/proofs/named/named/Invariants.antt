-- None of those so far is it.
use Rattle.std.proofs.Common.{◌≡◌, drop}
use Rattle.vh_app_script.specs.Words.{named}
use Rattle.vh_app_script.proofs.named.named.Given as goal

abbrev pub invariant-loop-one : goal.invariant-loop-one
invariant-loop-one g l = named g.T.Worded.word l.all l.word ≡ named g.T.Worded.word (drop l.one-index l.all) l.word
