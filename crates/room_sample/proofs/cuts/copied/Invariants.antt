use Rattle.std.proofs.Common.{◌≡◌, take}
use Rattle.room_sample.proofs.cuts.copied.Given as goal

abbrev pub invariant-loop-stretch : goal.invariant-loop-stretch
invariant-loop-stretch l = l.copy.items ≡ take l.stretch-index l.schedule
