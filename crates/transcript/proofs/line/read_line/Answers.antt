use Rattle.std.proofs.Common.{◌∙◌, ap}
use Rattle.transcript.specs.Faults.{fault_in}
use Rattle.transcript.proofs.FirstFault.{has_first_fault}
use Rattle.transcript.proofs.Events.{line_again, is_found, is_short}
use Rattle.transcript.proofs.line.read_line.Goals as goal

pub returns-clause-sound : goal.returns-clause-sound
returns-clause-sound c = is_found c.args.line.now c.read_named_event.result c.read_named_event.ensures

pub returns-clause-complete : goal.returns-clause-complete
returns-clause-complete c = λ name event says. c.read_named_event.ensures ∙ line_again c.args.line.now name event says

pub returns-clause-short : goal.returns-clause-short
returns-clause-short c = is_short c.args.line.now c.read_named_event.result c.read_named_event.ensures

pub returns-clause-first : goal.returns-clause-first
returns-clause-first c = ap fault_in c.read_named_event.ensures ∙ has_first_fault c.args.line.now
