use Rattle.std.proofs.Common.{◌-◌, get_or}
use Rattle.run_search.specs.States.{blank, events_of}
use Rattle.run_search.proofs.Walking.{IsOnTheWay}
use Rattle.run_search.proofs.run.Run.go_alone.Given as goal

abbrev pub invariant-loop-to : goal.invariant-loop-to
invariant-loop-to l = IsOnTheWay l.spec l.fn.self.state.items l.p l.to l.self.events.items l.self.state.items

abbrev pub decreases-loop-to : goal.decreases-loop-to
decreases-loop-to l = events_of l.to - events_of (get_or l.self.state.items l.p blank)
