use Rattle.std.proofs.Common.{◌≡◌, drop}
use Rattle.std.specs.List.{find}
use Rattle.protocol_lang.specs.Meaning.{applies}
use Rattle.protocol_lang.proofs.meaning.action_by.Given as goal

abbrev pub invariant-loop-rule : goal.invariant-loop-rule
invariant-loop-rule l = find (applies l.environment) (drop l.rule-index l.rules) ≡ find (applies l.environment) l.rules
