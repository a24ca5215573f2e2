-- What the code says of words, as contracts see it.
use Rattle.vh_host_words.specs.declared.said.Said.{Said}
use Rattle.vh_host_words.specs.declared.reading.Asked.{Asked}
use Rattle.vh_host_words.specs.Words.{Reading, Saying, texts}

abbrev pub saying : Said → Saying
saying s = record {
  mode = s.mode;
  files = texts s.files.items;
  chooser = s.chooser;
  budget = s.budget;
  expects = s.expects;
}

abbrev pub asked : Asked → Reading
asked a = record { files = texts a.files.items; chooser = a.chooser; budget = a.budget }
