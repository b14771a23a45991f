-- The outcomes that are open in a room, as far as a search finds them.
use Rattle.std.specs.Prelude.{◌≡◌, ℕ, ◌-◌, ◌≤◌, ◌==◌, Bool, false, List, map, Option, Some, None, if◌then◌else◌}
use Rattle.std.specs.Global.{Vec}
use Rattle.room_spec.specs.Rooms.{RoomSpec}
use Rattle.run_search.specs.Outcomes.{Ends}
use Rattle.room_search.specs.Beginnings.{begun}
use Rattle.room_search.specs.Reaching.{AreAllOpen, outcome_of}
use Rattle.room_search.specs.declared.beginning.Act.{Act}
use Rattle.room_search.specs.declared.reached.Reached.{Reached}
use Rattle.view_open.specs.declared.plan.OpenPlan.{OpenPlan}
use Rattle.view_open.specs.declared.searching.Found.{Found}

-- all simulators but one may crash, if the number is not said
abbrev pub crashes_for : RoomSpec → Option ℕ → ℕ
crashes_for spec None = spec.simulators - 1
crashes_for spec (Some crashes) = crashes

-- These are all outcomes that are open in the room of this spec in which all this was done; or some of them, if nodes were missed.
pub record IsFoundOpen (plan : OpenPlan) (spec : RoomSpec) (acts : List Act) (found : Found) : Type 0 where
  pub outcomes : List Reached
  pub are : AreAllOpen (begun spec acts) spec (crashes_for spec plan.crashes) found.missed outcomes
  pub open_are : map (λ (ends : Ends). ends.items) found.ends.items ≡ map outcome_of outcomes
  pub nodes : found.nodes ≤ plan.nodes

-- the search met no limit and missed no node: all outcomes that are open are found
abbrev pub is_complete : Option Found → Bool
is_complete None = false
is_complete (Some found) = found.missed == 0

-- the outcomes that were found, if they are all that are open
abbrev pub known_in : Option Found → Option (Vec Ends)
known_in None = None
known_in (Some found) = if found.missed == 0 then Some found.ends else None
