use Rattle.std.proofs.Common.{◌≡◌, ◌++◌, drop, map}
use Rattle.protocol_lang.specs.Grammar.{conditions_tokens}
use Rattle.protocol_lang.specs.Printing.{shortest_comparison}
use Rattle.protocol_lang.specs.declared.token.Word.TheVariants.{When}
use Rattle.protocol_lang.proofs.printer.write_conditions.Given as goal

abbrev pub invariant-loop-comparison : goal.invariant-loop-comparison
invariant-loop-comparison l =
    l.tokens ++ conditions_tokens l.word (map shortest_comparison (drop l.comparison-index l.comparisons)) ≡ l.initial.tokens ++ conditions_tokens When (map shortest_comparison l.comparisons)
