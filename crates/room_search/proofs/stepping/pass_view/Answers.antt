use Rattle.room_search.proofs.Stored.{no_more_on}
use Rattle.room_search.proofs.stepping.pass_view.Goals as goal

pub loop-word-preserved : goal.loop-word-preserved
loop-word-preserved c =
    let spec = c.args.subject.now.spec.now in
    no_more_on spec c.args.said.now c.loop-word.said c.pass_word.new.said c.loop-word.invariant (c.pass_word.ensures spec)
