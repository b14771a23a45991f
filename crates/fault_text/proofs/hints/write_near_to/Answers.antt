use Rattle.std.proofs.Common.{map, refl}
use Rattle.fault_text.specs.Hints.{near_hint, no_word}
use Rattle.fault_text.specs.Lines.{indented}
use Rattle.fault_text.specs.declared.hints.TheConstants.{WORDS}
use Rattle.fault_text.proofs.Passing.{both_said}
use Rattle.fault_text.proofs.hints.write_near_to.Goals as goal

pub returns : goal.returns
returns c =
    both_said c.write_near_hint.result c.args.output.now c.write_no_word.new.output c.write_near_hint.new.output (indented (no_word c.args.word.now)) (near_hint c.args.word.now (map (λ entry. entry.now) WORDS)) _
    c.in_ok-write_no_word.ensures refl c.write_near_hint.ensures
