use Rattle.std.proofs.Common.{ap}
use Rattle.room_sample.specs.Shown.{shown_of}
use Rattle.room_sample.specs.declared.examples.Example.{Example}
use Rattle.view_sum.specs.Adding.{more_times}
use Rattle.view_sum.proofs.Joining.{more_there}
use Rattle.view_sum.proofs.adding.come_again.Goals as goal

pub returns : goal.returns
returns c = record {
  more = more_there c.args.outcomes.now.items c.args.index c.args.times _ _ c.requires.within (ap (λ (one : Example). more_times c.args.times (shown_of one)) c.index_mut.ensures.value);
}
