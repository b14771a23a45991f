-- Where atomic steps and crashes lead from a room on.
use Rattle.std.specs.Prelude.{◌≡◌, List}
use Rattle.room_core.specs.Rooms.{Configuration, IsLegal, ScheduleEvent, replay}

-- A list of atomic steps and crashes, each of which may happen at its place, leads from the first room to the other.
pub record Continues (start room : Configuration) : Type 0 where
  pub events : List ScheduleEvent
  pub legal : IsLegal start events
  pub leads : replay start events ≡ room
