-- No number in the JSON of an outcome has a fraction.
use Rattle.std.proofs.Common.{◌≡◌, Bool, true, false, ◌||◌, List, ℕ, refl}
use Rattle.serde_json.specs.Written.{has_float}
use Rattle.json_lines.specs.Values.{processes_data}
use Rattle.json_lines.proofs.CallerLemmas.{both, items_are, processes_are}
use Rattle.room_sample.specs.Shown.{Shown}
use Rattle.room_sample.specs.declared.stretch.Stretch.{Stretch}
use Rattle.room_sample.specs.declared.stretch.Stretch.TheVariants.{Steps, Crash}
use Rattle.view_sample.specs.Json.{outcome_data, schedule_data, schedule_unless, stretch_data}

stretch_is : (stretch : Stretch) → has_float (stretch_data stretch) ≡ false
stretch_is (Steps simulator count) = refl
stretch_is (Crash simulator) = refl

schedule_is : (schedule : List Stretch) → has_float (schedule_data schedule) ≡ false
schedule_is schedule = items_are stretch_data stretch_is schedule

pub unless_is : (brief : Bool) (schedule : List Stretch) → has_float (schedule_unless brief schedule) ≡ false
unless_is true schedule = refl
unless_is false schedule = schedule_is schedule

pub outcome_is : (name : List ℕ) (brief : Bool) (one : Shown) → has_float (outcome_data name brief one) ≡ false
outcome_is name brief one =
    both (has_float (processes_data one.states)) (has_float (schedule_unless brief one.schedule) || false) (processes_are one.states)
    (both (has_float (schedule_unless brief one.schedule)) false (unless_is brief one.schedule) refl)
