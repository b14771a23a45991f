use Rattle.std.proofs.Common.{◌≡◌, fold, length, replicate, take}
use Rattle.room_spec.specs.declared.spec.TheConstants.{MAX_MEMORY_WORDS}
use Rattle.run_columns.specs.Proposals.{with_word}
use Rattle.run_columns.proofs.proposals.Agreement.proposal.Given as goal

abbrev pub invariant-loop-mark : goal.invariant-loop-mark
invariant-loop-mark l =
    (l.words ≡ fold (with_word l.proposes) (replicate MAX_MEMORY_WORDS 0) (take l.mark-index l.marks))
    × (length l.words ≡ MAX_MEMORY_WORDS)
