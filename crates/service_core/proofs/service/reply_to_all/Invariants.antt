use Rattle.std.proofs.Common.{◌≡◌, ◌≤◌, length}
use Rattle.std.specs.Vec.{vec_capacity, vec_len}
use Rattle.service_core.proofs.Running.{Ran}
use Rattle.service_core.proofs.service.reply_to_all.Given as goal

-- the replies so far, each in a place that is reserved for it
abbrev pub invariant-loop-command : goal.invariant-loop-command
invariant-loop-command l =
    (goal.iterator-loop-command).can_next l.command-iterator × (goal.iterator-loop-command).is_finite l.command-iterator × Ran l.yielded l.replies.items l.service
    × (vec_len l.replies ≡ length l.yielded) × (length l.fn.commands.items ≤ vec_capacity l.replies)
