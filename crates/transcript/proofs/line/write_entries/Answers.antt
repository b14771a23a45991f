use Rattle.std.proofs.Common.{◌∷◌, sym, ap, ◌∙◌, List, Option, map, string_bytes}
use Rattle.std.proofs.Math.ListN.{drop_of_length-le}
use Rattle.std.specs.List.{join_with_byte}
use Rattle.transcript.specs.Grammar.{entry_text}
use Rattle.transcript.proofs.Writing.{writes_on}
use Rattle.transcript.proofs.line.write_entries.Goals as goal

pub loop-entry-preserved : goal.loop-entry-preserved
loop-entry-preserved c = writes_on (string_bytes c.args.line.now) (string_bytes c.loop-entry.line) (string_bytes c.write_entry.new.line) c.args.entries.now c.loop-entry.entry-index _ c.loop-entry-test.true c.in_ok-write_entry.ensures c.loop-entry.invariant

pub returns : goal.returns
returns c = ap (λ (entries : List (Option _)). join_with_byte 32 (string_bytes c.loop-entry.line ∷ map entry_text entries)) (sym (drop_of_length-le c.args.entries.now c.loop-entry-test.false)) ∙ c.loop-entry.invariant
