use Rattle.std.proofs.Common.{◌≡◌, take}
use Rattle.view_rooms.specs.Listing.{most_values}
use Rattle.view_rooms.proofs.listing.most_values.Given as goal

abbrev pub invariant-loop-one : goal.invariant-loop-one
invariant-loop-one l = l.most ≡ most_values (take l.one-index l.all)
