-- A fixed agreement stays fixed over a line, and the same simulators are at level 2 in it.
use Rattle.std.proofs.Common.{◌≡◌, ◌↔◌, ℕ, ◌<◌, Bool, refl, sym, ap, ◌∙◌}
use Rattle.room_spec.specs.Rooms.{RoomSpec}
use Rattle.safe_agreement.specs.Levels.{least_two}
use Rattle.safe_agreement.specs.Phases.{phase_level, IsFixed, HaveSameTwos}
use Rattle.safe_agreement.proofs.CallerLemmas.{same_least_two, same_of_same}
use Rattle.room_core.specs.Rooms.{Configuration, steps, IsShaped, HasLine}
use Rattle.room_core.specs.Fields.{Fields, levels_at, line}
use Rattle.room_core.specs.Agreements.{IsFixedAt}
use Rattle.room_core.specs.Tracks.{KeepsTrack, StandsFor}
use Rattle.room_core.proofs.fields.FieldReplays.{event_stands}
use Rattle.room_core.proofs.agreements.Stages.{phases_in, level_is, levels_are_phases}
use Rattle.room_core.proofs.fields.Effects.{line_effect}
use Rattle.room_core.proofs.agreements.PhaseSteps.{advances}
use Rattle.room_core.proofs.agreements.Sound.{fixed_on, twos_on}
use Rattle.room_core.proofs.agreements.Fixing.{fixed_at, fixed_from}

-- each agreement that is fixed stays so, and the same simulators are at level 2 in it
pub record LevelsStay (spec : RoomSpec) (before after : Fields) : Type 0 where
  pub fixed : (j k : ℕ) → IsFixedAt spec before j k → IsFixedAt spec after j k
  pub twos : (j k i : ℕ) → i < spec.simulators → IsFixedAt spec before j k → (before.level i j k ≡ 2) ↔ (after.level i j k ≡ 2)
  pub least : (j k : ℕ) → IsFixedAt spec before j k → least_two (levels_at spec before j k) ≡ least_two (levels_at spec after j k)

-- of agreements whose phases stay fixed with the same twos
stay_by : (spec : RoomSpec) (fields after : Fields) → KeepsTrack spec fields → KeepsTrack spec after
    → ((p r : ℕ) → IsFixed spec.simulators (phases_in fields p r) → IsFixed spec.simulators (phases_in after p r)) → ((p r : ℕ) → IsFixed spec.simulators (phases_in fields p r) → HaveSameTwos spec.simulators (phases_in fields p r) (phases_in after p r))
    → LevelsStay spec fields after
stay_by spec fields after tracks tracks' fixed twos = record {
  fixed = λ j k at. fixed_at spec after tracks' j k (fixed j k (fixed_from spec fields tracks j k at));
  twos = λ j k i below at.
      let was : fields.level i j k ≡ phase_level (phases_in fields j k i) = level_is spec.rounds (fields.mind i) (fields.step i) (fields.level i) (tracks.told i) j k in
      let is : after.level i j k ≡ phase_level (phases_in after j k i) = level_is spec.rounds (after.mind i) (after.step i) (after.level i) (tracks'.told i) j k in
      let both = twos j k (fixed_from spec fields tracks j k at) i below in
      (λ two. is ∙ both.0 (sym was ∙ two), λ two. was ∙ both.1 (sym is ∙ two));
  least = λ j k at.
      ap least_two (levels_are_phases spec fields tracks j k)
      ∙ same_least_two spec.simulators (phases_in fields j k) (phases_in after j k) (twos j k (fixed_from spec fields tracks j k at))
      ∙ ap least_two (sym (levels_are_phases spec after tracks' j k));
}

-- where neither a mind nor a level changes
pub stay_same : (spec : RoomSpec) (fields : Fields) → KeepsTrack spec fields → LevelsStay spec fields fields
stay_same spec fields tracks = stay_by spec fields fields tracks tracks (λ p r fixed. fixed) (λ p r fixed. same_of_same spec.simulators (phases_in fields p r) (phases_in fields p r) (λ a below. refl))

pub stay_line : (room : Configuration) (fields : Fields) (i : ℕ) → IsShaped room → StandsFor room fields → HasLine room i → LevelsStay room.spec fields (line room.spec fields i)
stay_line room fields i shape for may =
    let spec = room.spec in
    let after = line spec fields i in
    let effect = line_effect room fields i shape for may in
    stay_by spec fields after for.tracks (event_stands room fields (steps i) shape may for).tracks
    (λ p r fixed. fixed_on spec.simulators (phases_in fields p r) (phases_in after p r) (advances spec fields after i for.tracks effect p r) fixed)
    (λ p r fixed. twos_on spec.simulators (phases_in fields p r) (phases_in after p r) (advances spec fields after i for.tracks effect p r) fixed)

pub with_others : (spec : RoomSpec) (fields : Fields) (quiet : ℕ → ℕ) (crashed : ℕ → Bool) → LevelsStay spec fields fields → LevelsStay spec fields (record fields { quiet = quiet; crashed = crashed })
with_others spec fields quiet crashed stay = record {
  fixed = λ j k at. record { simulator = at.simulator; below = at.below; two = at.two; seen = λ i below blind. at.seen i below (record { process = blind.process; round = blind.round; line = blind.line }) };
  twos = stay.twos;
  least = stay.least;
}
