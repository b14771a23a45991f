-- The object of a step, of its parts.
use Rattle.std.proofs.Common.{◌≡◌, ℕ, refl}
use Rattle.room_spec.specs.Rooms.{RoomSpec}
use Rattle.room_steps.specs.declared.step.AtomicStep.{AtomicStep}
use Rattle.step_words.specs.Json.{ArePartsOf, object_of, step_data}
use Rattle.step_words.specs.declared.json.Parts.{Parts}
use Rattle.step_words.specs.declared.step.Consequence.{Consequence}

pub object_is : (spec : RoomSpec) (n : ℕ) (step : AtomicStep) (consequence : Consequence) (parts : Parts) → ArePartsOf spec step consequence parts
    → object_of spec n step parts ≡ step_data spec n step consequence
object_is spec n step consequence parts are = rw (are.access_is, are.agreement_is, are.effect_is, are.end_is, are.notes_are, are.operation_is, are.shows_are) refl
