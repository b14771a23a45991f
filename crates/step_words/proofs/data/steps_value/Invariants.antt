use Rattle.std.proofs.Common.{◌≡◌, map}
use Rattle.std.specs.List.{range_with_len}
use Rattle.serde_json.specs.View.{view}
use Rattle.step_words.specs.Data.{own_steps_data}
use Rattle.step_words.specs.Sights.{memory_with}
use Rattle.step_words.proofs.data.steps_value.Given as goal

abbrev pub invariant-loop-simulator : goal.invariant-loop-simulator
invariant-loop-simulator l = map view l.rows.items ≡ map (own_steps_data l.spec (memory_with l.at l.word)) (range_with_len 0 l.simulator)
