use Rattle.std.proofs.Common.{sym}
use Rattle.std.proofs.lemmas.List.{append-nil}
use Rattle.fault_text.proofs.Passing.{none_passed}
use Rattle.fault_text.proofs.refusals.write_named_all.Goals as goal

pub loop-refusal-init : goal.loop-refusal-init
loop-refusal-init c = (none_passed c.args.input.now, sym (append-nil c.args.output.now))
