use Rattle.std.proofs.Common.{arith}
use Rattle.room_core.specs.Calls.{step_bound}
use Rattle.room_core.proofs.settling.Alone.{in_turn, in_turn_means, has_step, has_step_means, finished, turns_ran, is_up}
use Rattle.room_core.proofs.laws.runs_end.Goals as goal

pub returns : goal.returns
returns c = record {
  turn = λ room i limits one below alive. finished in_turn i (in_turn_means i) (step_bound room.spec) room (is_up room i limits one below alive) (omega arith);
  alone = λ room i limits one below alive. finished has_step i (has_step_means i) (step_bound room.spec) room (is_up room i limits one below alive) (omega arith);
  turns = λ room i most limits one below alive. turns_ran has_step i (has_step_means i) most room (is_up room i limits one below alive);
}
