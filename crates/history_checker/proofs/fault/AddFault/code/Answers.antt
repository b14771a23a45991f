use Rattle.std.proofs.Common.{rules}
use Rattle.history_checker.proofs.fault.AddFault.code.Goals as goal

pub returns-in-NameTaken : goal.returns-in-NameTaken
returns-in-NameTaken c = search rules
