use Rattle.std.proofs.Common.{◌≡◌, ◌++◌, take}
use Rattle.fault_text.specs.UnknownNames.{refused_unknown_names}
use Rattle.fault_text.proofs.unknown_names.write_refused_names.Given as goal

abbrev pub invariant-loop-name : goal.invariant-loop-name
invariant-loop-name l = l.output ≡ l.initial.output ++ refused_unknown_names l.input l.refused (take l.name-index l.names)
