use Rattle.view_draw.proofs.Finishing.{IsFinishedUpTo}
use Rattle.view_draw.proofs.playing.finish_all.Given as goal

abbrev pub invariant-loop-place : goal.invariant-loop-place
invariant-loop-place l = IsFinishedUpTo l.rooms.entries l.initial.panels.items l.place l.panels.items
