use Rattle.std.proofs.Common.{◌≡◌, map, take}
use Rattle.bgview.specs.OwnTasks.{ended_by_semicolon}
use Rattle.bgview.proofs.own_task.task_text.Given as goal

abbrev pub invariant-loop-byte : goal.invariant-loop-byte
invariant-loop-byte l = l.text.items ≡ map ended_by_semicolon (take l.byte-index l.file)
