use Rattle.std.proofs.Common.{◌≡◌, take, length}
use Rattle.std.specs.Mem.Slots.{slots_items}
use Rattle.ruled_room.proofs.room.read.Given as goal

abbrev pub invariant-loop-i : goal.invariant-loop-i
invariant-loop-i l = (take l.i l.words.items ≡ take l.i (slots_items l.closed.words)) × (length l.words.items ≡ length l.fn.words.items)
