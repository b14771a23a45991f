use Rattle.std.proofs.Common.{◌≡◌, ◌++◌, [], take}
use Rattle.std.specs.List.{flat_map}
use Rattle.view_why.specs.Words.{process_words}
use Rattle.view_why.proofs.inputs.write_inputs.Given as goal

-- the inputs so far
abbrev pub invariant-loop-input : goal.invariant-loop-input
invariant-loop-input l = l.output ≡ l.initial.output ++ flat_map (λ input. process_words [] input []) (take l.input-index l.own)
