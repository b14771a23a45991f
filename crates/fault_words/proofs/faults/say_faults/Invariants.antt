use Rattle.std.proofs.Common.{◌≡◌, map, take}
use Rattle.std.specs.Prelude.{is_some}
use Rattle.std.specs.List.{flat_map, list_all}
use Rattle.fault_words.specs.Faults.{fault_line, said_by}
use Rattle.fault_words.proofs.faults.say_faults.Given as goal

abbrev pub invariant-loop-text : goal.invariant-loop-text
invariant-loop-text l =
    (l.output ≡ flat_map fault_line (map (λ text. text.now) (take l.text-index l.texts)))
    × (l.all_known ≡ list_all (λ text. is_some (said_by text)) (map (λ text. text.now) (take l.text-index l.texts)))
