use Rattle.std.specs.Prelude.{◌≡◌, ◌+◌, ◌==◌, ◌++◌, length, map}
use Rattle.std.specs.List.{filter}
use Rattle.std.specs.Option.{option_copied, option_map_or}
use Rattle.room_spec.specs.Texts.{pieces_of}
use Rattle.decision_tasks.specs.Lines.{has_words, lines_in}
use Rattle.decision_tasks.proofs.line.lines_of.Given as goal

abbrev pub invariant-loop-rest : goal.invariant-loop-rest
invariant-loop-rest l = map (λ line. line.now) l.lines.items ++ filter has_words (pieces_of (λ byte. byte == 59) (option_copied l.rest)) ≡ lines_in l.text

abbrev pub decreases-loop-rest : goal.decreases-loop-rest
decreases-loop-rest l = option_map_or (λ rest. length rest + 1) (option_copied l.rest) 0
