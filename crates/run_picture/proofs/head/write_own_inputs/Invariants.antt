use Rattle.std.proofs.Common.{◌≡◌, ◌++◌, take}
use Rattle.run_picture.specs.Heads.{inputs_words}
use Rattle.run_picture.proofs.head.write_own_inputs.Given as goal

abbrev pub invariant-loop-simulator : goal.invariant-loop-simulator
invariant-loop-simulator l = l.output ≡ l.initial.output ++ inputs_words (take l.simulator l.spec.own)
