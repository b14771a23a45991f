-- An operation keeps the number of words.
use Rattle.std.proofs.Common.{◌≡◌, List, ℕ, length, rules}
use Rattle.simulator.specs.declared.operation.Move.{Move}
use Rattle.simulator.specs.declared.operation.Move.TheVariants.{Load, Store, Add, Sub, Finished, OutOfTurns}
use Rattle.simulator.specs.Moves.{words_after}

pub length_words_after : (next : Move) (words : List ℕ) → length (words_after next words) ≡ length words
length_words_after (Load index) words = search rules
length_words_after (Store index number) words = search rules
length_words_after (Add index number) words = search rules
length_words_after (Sub index number) words = search rules
length_words_after Finished words = search rules
length_words_after OutOfTurns words = search rules
