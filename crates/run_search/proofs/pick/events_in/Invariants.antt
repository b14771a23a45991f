use Rattle.std.proofs.Common.{◌≡◌, ◌≤◌, ◌*◌, take}
use Rattle.run_search.specs.States.{events_in}
use Rattle.run_search.proofs.pick.events_in.Given as goal

abbrev pub invariant-loop-local : goal.invariant-loop-local
invariant-loop-local l = record {
  sum : l.sum ≡ events_in (take l.local-index l.state.items);
  few : l.sum ≤ 512 * l.local-index;
}
