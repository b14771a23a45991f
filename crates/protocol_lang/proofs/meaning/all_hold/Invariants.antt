use Rattle.std.proofs.Common.{◌≡◌, drop}
use Rattle.std.specs.List.{list_all}
use Rattle.protocol_lang.specs.Meaning.{holds}
use Rattle.protocol_lang.proofs.meaning.all_hold.Given as goal

abbrev pub invariant-loop-comparison : goal.invariant-loop-comparison
invariant-loop-comparison l = list_all (holds l.environment) (drop l.comparison-index l.comparisons) ≡ list_all (holds l.environment) l.comparisons
