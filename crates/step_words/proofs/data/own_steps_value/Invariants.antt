use Rattle.std.proofs.Common.{◌≡◌, map}
use Rattle.std.specs.List.{range_with_len}
use Rattle.serde_json.specs.View.{view}
use Rattle.step_words.specs.Data.{own_step_data}
use Rattle.step_words.proofs.data.own_steps_value.Given as goal

abbrev pub invariant-loop-process : goal.invariant-loop-process
invariant-loop-process l = map view l.numbers.items ≡ map (own_step_data l.spec l.words l.simulator) (range_with_len 0 l.process)
