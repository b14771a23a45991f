-- What may happen next, in a room and in its fields.
use Rattle.std.proofs.Common.{◌≡◌, ◌⊎◌, inl, inr, ℕ, zero, suc, ◌<◌, Bool, true, false, ltb, List, [], ◌∷◌, refl, sym, ◌∙◌, subst, arith}
use Rattle.std.proofs.lemmas.Bool.{ltb-true, ltb-false}
use Rattle.std.specs.Prelude.{◌↔◌}
use Rattle.room_spec.specs.Rooms.{RoomSpec, IsWithinLimits}
use Rattle.simulator.specs.Minds.{MindState, unfinished_in}
use Rattle.simulator.specs.Moves.{IsOperation, move_of}
use Rattle.simulator.specs.Ranges.{IsMind}
use Rattle.simulator.specs.Sweeps.{is_resting}
use Rattle.simulator.proofs.CallerLemmas.{begins, finishes, open_moves, runs_out}
use Rattle.room_core.specs.Rooms.{Configuration, ScheduleEvent, steps, crashes, opening, mind_at, IsAlive, HasLine, MayHappen, after_event, IsLegal, IsShaped}
use Rattle.room_core.specs.Fields.{Fields, opening_fields, IsAliveIn, HasLineIn, fields_after, MayHappenIn, IsLegalIn}
use Rattle.room_core.specs.Reading.{Reads}
use Rattle.room_core.specs.Tracks.{StandsFor}
use Rattle.room_core.proofs.fields.Replays.{shape_after, opening_shape}
use Rattle.room_core.proofs.fields.FieldReplays.{event_stands, opening_stands}

abbrev CanMove : RoomSpec → MindState → Type 0
CanMove spec mind = (is_resting mind.line ≡ false) ⊎ ((0 < unfinished_in mind.goals) × (mind.turns < spec.turns))

module _ (spec : RoomSpec) (mind : MindState) (is : IsMind spec mind) where
  turn_left : (left : Bool) → ltb mind.turns spec.turns ≡ left → is_resting mind.line ≡ true → 0 < unfinished_in mind.goals → IsOperation (move_of spec mind) → mind.turns < spec.turns
  turn_left true test rest some moves = ltb-true mind.turns spec.turns test
  turn_left false test rest some moves = absurd (subst IsOperation (runs_out spec mind is rest some (ltb-false mind.turns spec.turns test)) moves)

  can_by : (resting : Bool) (unfinished : ℕ) → is_resting mind.line ≡ resting → unfinished_in mind.goals ≡ unfinished → IsOperation (move_of spec mind) → CanMove spec mind
  can_by false unfinished rest count moves = inl rest
  can_by true zero rest count moves = absurd (subst IsOperation (finishes spec mind is rest count) moves)
  can_by true (suc more) rest count moves =
      let some : 0 < unfinished_in mind.goals = omega arith in
      inr (some, turn_left (ltb mind.turns spec.turns) refl rest some moves)

  operates_by : (resting : Bool) → is_resting mind.line ≡ resting → CanMove spec mind → IsOperation (move_of spec mind)
  operates_by false rest can = open_moves spec mind rest
  operates_by true rest (inl open_turn) = absurd (let wrong : true ≡ false = sym rest ∙ open_turn in cc)
  operates_by true rest (inr left) = begins spec mind is rest left.0 left.1

-- ---- what may happen

module _ (room : Configuration) (fields : Fields) (i : ℕ) (reads : Reads room fields) where
  alive_to_fields : IsAlive room i → IsAliveIn room.spec fields i
  alive_to_fields is = record { below = is.below; alive = sym (reads.crashed i is.below) ∙ is.alive }

  alive_from_fields : IsAliveIn room.spec fields i → IsAlive room i
  alive_from_fields is = record { below = is.below; alive = reads.crashed i is.below ∙ is.alive }

module _ (room : Configuration) (fields : Fields) (i : ℕ) (shape : IsShaped room) (reads : Reads room fields) where
  line_to_fields : HasLine room i → HasLineIn room.spec fields i
  line_to_fields may =
      let below = may.alive.below in
      let mind = reads.minds i below in
      record {
        alive = alive_to_fields room fields i reads may.alive;
        moving = subst (CanMove room.spec) mind.same (can_by room.spec (mind_at room i) (shape.each i below) (is_resting (mind_at room i).line) (unfinished_in (mind_at room i).goals) refl refl may.moving);
      }

  line_from_fields : HasLineIn room.spec fields i → HasLine room i
  line_from_fields may =
      let below = may.alive.below in
      let mind = reads.minds i below in
      record {
        alive = alive_from_fields room fields i reads may.alive;
        moving = operates_by room.spec (mind_at room i) (shape.each i below) (is_resting (mind_at room i).line) refl (subst (CanMove room.spec) (sym mind.same) may.moving);
      }

pub lines_in_fields : (room : Configuration) (fields : Fields) (i : ℕ) → IsShaped room → Reads room fields → HasLine room i ↔ HasLineIn room.spec fields i
lines_in_fields room fields i shape reads = (line_to_fields room fields i shape reads, line_from_fields room fields i shape reads)

to_fields : (room : Configuration) (fields : Fields) (event : ScheduleEvent) → IsShaped room → Reads room fields → MayHappen room event → MayHappenIn room.spec fields event
to_fields room fields (steps i) shape reads may = line_to_fields room fields i shape reads may
to_fields room fields (crashes i) shape reads may = alive_to_fields room fields i reads may

from_fields : (room : Configuration) (fields : Fields) (event : ScheduleEvent) → IsShaped room → Reads room fields → MayHappenIn room.spec fields event → MayHappen room event
from_fields room fields (steps i) shape reads may = line_from_fields room fields i shape reads may
from_fields room fields (crashes i) shape reads may = alive_from_fields room fields i reads may

-- ---- schedules

spec_after : (room : Configuration) (event : ScheduleEvent) → (after_event room event).spec ≡ room.spec
spec_after room (steps i) = refl
spec_after room (crashes i) = refl

legal_to_fields : (room : Configuration) (fields : Fields) (schedule : List ScheduleEvent) → IsShaped room → StandsFor room fields → IsLegal room schedule → IsLegalIn room.spec fields schedule
legal_to_fields room fields [] shape for legal = tt
legal_to_fields room fields (event ∷ schedule) shape for legal =
    let after = fields_after room.spec fields event in (
      to_fields room fields event shape for.reads legal.0,
      subst (λ (spec : RoomSpec). IsLegalIn spec after schedule) (spec_after room event)
          (legal_to_fields (after_event room event) after schedule (shape_after room event legal.0 shape) (event_stands room fields event shape legal.0 for) legal.1),
    )

legal_from_fields : (room : Configuration) (fields : Fields) (schedule : List ScheduleEvent) → IsShaped room → StandsFor room fields → IsLegalIn room.spec fields schedule → IsLegal room schedule
legal_from_fields room fields [] shape for legal = tt
legal_from_fields room fields (event ∷ schedule) shape for legal =
    let after = fields_after room.spec fields event in
    let may = from_fields room fields event shape for.reads legal.0 in (
      may,
      legal_from_fields (after_event room event) after schedule (shape_after room event may shape) (event_stands room fields event shape may for)
          (subst (λ (spec : RoomSpec). IsLegalIn spec after schedule) (sym (spec_after room event)) legal.1),
    )

pub schedules_in_fields : (spec : RoomSpec) (schedule : List ScheduleEvent) → IsWithinLimits spec → IsLegal (opening spec) schedule ↔ IsLegalIn spec (opening_fields spec) schedule
schedules_in_fields spec schedule limits = (
  legal_to_fields (opening spec) (opening_fields spec) schedule (opening_shape spec limits) (opening_stands spec),
  legal_from_fields (opening spec) (opening_fields spec) schedule (opening_shape spec limits) (opening_stands spec),
)
