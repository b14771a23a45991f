use Rattle.std.proofs.Common.{◌≡◌, ◌∷◌, map, drop, string_bytes}
use Rattle.std.specs.List.{join_with_byte}
use Rattle.transcript.specs.Grammar.{entry_text}
use Rattle.transcript.proofs.line.write_entries.Given as goal

abbrev pub invariant-loop-entry : goal.invariant-loop-entry
invariant-loop-entry l = join_with_byte 32 (string_bytes l.line ∷ map entry_text (drop l.entry-index l.entries)) ≡ join_with_byte 32 (string_bytes l.initial.line ∷ map entry_text l.entries)
