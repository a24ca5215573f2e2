use Rattle.vh_objects.proofs.ViewsLemmas.{add-seen}
use Rattle.vh_objects.proofs.children.add.Goals as goal

pub returns : goal.returns
returns c = add-seen c.args.lists.now.items c.args.position c.args.o c.index_mut.result.now c.push.new.self c.requires
    c.index_mut.ensures.value c.in_ok-push.ensures.items
