-- No number in the JSON of an outcome has a fraction.
use Rattle.std.proofs.Common.{◌≡◌, Bool, false, ◌||◌, List, ℕ, refl}
use Rattle.serde_json.specs.Written.{has_float}
use Rattle.json_lines.specs.Values.{processes_data}
use Rattle.json_lines.proofs.CallerLemmas.{both, processes_are}
use Rattle.room_search.specs.declared.reached.Reached.{Reached}
use Rattle.view_sample.specs.Json.{schedule_unless}
use Rattle.view_sample.proofs.CallerLemmas.{unless_is}
use Rattle.view_rooms.specs.Json.{outcome_data}

pub outcome_is : (name : List ℕ) (brief : Bool) (one : Reached) → has_float (outcome_data name brief one) ≡ false
outcome_is name brief one =
    both (has_float (processes_data one.states.items)) (has_float (schedule_unless brief one.schedule.items) || false) (processes_are one.states.items)
    (both (has_float (schedule_unless brief one.schedule.items)) false (unless_is brief one.schedule.items) refl)
