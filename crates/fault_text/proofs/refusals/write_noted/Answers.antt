use Rattle.std.proofs.Common.{codes, refl}
use Rattle.fault_text.specs.Refusals.{noted_refusal, said_refusal}
use Rattle.fault_text.proofs.Passing.{both_said}
use Rattle.fault_text.proofs.refusals.write_noted.Goals as goal

pub returns : goal.returns
unfolding noted_refusal
returns c =
    both_said c.write_refusal.result c.args.output.now c.put.new.self c.write_refusal.new.output (codes "    ") (said_refusal c.args.text.now c.args.refusal) _
    c.in_ok-put.ensures.text refl c.write_refusal.ensures
