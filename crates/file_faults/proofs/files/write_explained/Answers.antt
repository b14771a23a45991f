use Rattle.std.proofs.Common.{refl, sym}
use Rattle.std.proofs.lemmas.List.{append-nil}
use Rattle.fault_text.specs.Lines.{lines_after}
use Rattle.file_faults.proofs.files.write_explained.Goals as goal

pub loop-refusal-init : goal.loop-refusal-init
unfolding lines_after
loop-refusal-init c = (refl, sym (append-nil c.args.output.now))
