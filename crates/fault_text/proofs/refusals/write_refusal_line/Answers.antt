use Rattle.fault_text.proofs.Passing.{taken_line}
use Rattle.fault_text.proofs.refusals.write_refusal_line.Goals as goal

pub returns-in-NameTaken : goal.returns-in-NameTaken
returns-in-NameTaken c =
    taken_line c.write_refused_code.result c.args.output.now c.write_refused_code.new.output c.args.refusal c.code.result
    c.in-NameTaken.is c.code.ensures c.write_refused_code.ensures
