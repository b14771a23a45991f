use Rattle.std.proofs.Common.{◌≡◌, ◌++◌, List, ℕ, subst}
use Rattle.std.specs.Result.{OnOk}
use Rattle.fault_text.specs.Hints.{meaning_or_near}
use Rattle.fault_text.proofs.hints.write_word_hints.Goals as goal

pub returns : goal.returns
returns c =
    subst (λ (words : List ℕ). OnOk c.write_meaning_or_near.result (c.write_meaning_or_near.new.output ≡ c.args.output.now ++ meaning_or_near c.args.word.now words)) c.meaning.ensures c.write_meaning_or_near.ensures
