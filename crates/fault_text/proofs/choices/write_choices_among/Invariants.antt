use Rattle.std.proofs.Common.{◌≡◌, ◌++◌, map, take}
use Rattle.std.specs.List.{flat_map}
use Rattle.fault_text.specs.Choices.{choice_if}
use Rattle.fault_text.proofs.choices.write_choices_among.Given as goal

abbrev pub invariant-loop-token : goal.invariant-loop-token
invariant-loop-token l = l.output ≡ l.initial.output ++ flat_map (choice_if l.before) (map (λ token. token.now) (take l.token-index l.tokens))
