use Rattle.std.proofs.Common.{rules}
use Rattle.room_spec.proofs.fault.SpecFault.code.Goals as goal

pub returns-in-Inputs : goal.returns-in-Inputs
returns-in-Inputs c = search rules
