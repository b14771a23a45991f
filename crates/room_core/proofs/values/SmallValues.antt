-- No value that a room's protocol writes is above the greatest.
use Rattle.std.proofs.Common.{ℕ, ◌≤◌, ap, subst}
use Rattle.protocol_lang.specs.Numbers.{greatest}
use Rattle.protocol_lang.specs.Limits.{action_value}
use Rattle.room_spec.specs.Rooms.{RoomSpec, IsWithinLimits}
use Rattle.room_spec.proofs.CallerLemmas.{input_small, own_input_small, first_of_input, next_of_input}
use Rattle.room_core.proofs.values.Entries.{HasSmallValues}

pub small_values : (spec : RoomSpec) → IsWithinLimits spec → HasSmallValues spec
small_values spec limits = record {
  inputs = λ p. input_small spec p limits;
  own = λ i. own_input_small spec i limits;
  first = λ p input below low. first_of_input spec input p limits low below;
  next = λ p input k value view below low last width small is. subst (λ (v : ℕ). v ≤ greatest) (ap action_value is) (next_of_input spec input p k view limits low below last width small);
}
