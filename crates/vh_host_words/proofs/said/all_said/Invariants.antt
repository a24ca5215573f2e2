use Rattle.std.proofs.Common.{◌≡◌, drop}
use Rattle.vh_host_words.specs.Words as Words
use Rattle.vh_host_words.specs.Words.{texts}
use Rattle.vh_host_words.specs.Views.{saying}
use Rattle.vh_host_words.proofs.said.all_said.Given as goal

-- What the words that are left say, behind those so far
abbrev pub invariant-loop-word : goal.invariant-loop-word
invariant-loop-word l =
    Words.said (texts (drop l.word-index l.words)) (saying l.said) ≡ Words.said (texts l.words) Words.nothing_said
