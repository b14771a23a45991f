use Rattle.std.proofs.Common.{◌≡◌, ◌++◌, drop, map}
use Rattle.std.specs.List.{flat_map}
use Rattle.protocol_lang.specs.Grammar.{rule_tokens}
use Rattle.protocol_lang.specs.Printing.{shortest_rule}
use Rattle.protocol_lang.proofs.printer.write_rules.Given as goal

abbrev pub invariant-loop-rule : goal.invariant-loop-rule
invariant-loop-rule l = l.tokens ++ flat_map rule_tokens (map shortest_rule (drop l.rule-index l.rules)) ≡ l.initial.tokens ++ flat_map rule_tokens (map shortest_rule l.rules)
