use Rattle.std.proofs.Common.{◌∙◌, sym, ap, rules}
use Rattle.vh_queue.specs.Serials.{last_of}
use Rattle.vh_queue.proofs.SerialsLemmas.{last-append}
use Rattle.vh_queue.proofs.index.Index.last_dated.Goals as goal

pub returns : goal.returns
returns c =
    sym (ap last_of (sym (c.range.ensures.between (search rules)) ∙ c.in_ok-serial.ensures.steps)
    ∙ last-append c.next_back.new.self c.in_ok-serial.serial.now)
