use Rattle.run_search.proofs.Choosing.{choices_more}
use Rattle.run_search.proofs.choice.choices_of.Goals as goal

pub loop-p-preserved : goal.loop-p-preserved
loop-p-preserved c =
    let added = c.in_ok-add_all.ensures in
    choices_more c.args.crashes c.loop-p.p c.args.node.now c.loop-p.choices.items c.add_all.new.choices.items c.set.result.now c.set.ensures c.loop-p.invariant added.each added.all added.kept
