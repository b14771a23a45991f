-- Induction at the end of a schedule: what the opening fields have, and what each event that may happen keeps, holds of
-- the fields to which any legal list leads.
use Rattle.std.proofs.Common.{◌≡◌, List, [], ◌∷◌, ◌++◌, refl, sym, subst}
use Rattle.std.proofs.lemmas.List.{append-nil, append_assoc}
use Rattle.room_spec.specs.Rooms.{RoomSpec, IsWithinLimits}
use Rattle.room_core.specs.Rooms.{Configuration, ScheduleEvent, steps, crashes, opening, stepped, crashed_by, MayHappen, IsLegal, IsOneInterleaving, IsShaped}
use Rattle.room_core.specs.Fields.{Fields, opening_fields, line, with_crash, fields_after, replay_fields}
use Rattle.room_core.specs.Tracks.{StandsFor}
use Rattle.room_core.proofs.fields.Replays.{shape_after, opening_shape}
use Rattle.room_core.proofs.fields.FieldReplays.{event_stands, opening_stands}

pub replay_fields-snoc : (spec : RoomSpec) (fields : Fields) (schedule : List ScheduleEvent) (event : ScheduleEvent) → replay_fields spec fields (schedule ++ event ∷ []) ≡ fields_after spec (replay_fields spec fields schedule) event
replay_fields-snoc spec fields [] event = refl
replay_fields-snoc spec fields (first ∷ schedule) event = replay_fields-snoc spec (fields_after spec fields first) schedule event

-- A property of a schedule and of the fields to which it leads: each event that may happen keeps it. The room that stands
-- for the fields is at hand, and its spec is one and the same by definition.
abbrev pub IsKept : (RoomSpec → List ScheduleEvent → Fields → Type 0) → Type 0
IsKept P = (room : Configuration) (fields : Fields) (done : List ScheduleEvent) (event : ScheduleEvent) → IsShaped room → MayHappen room event → StandsFor room fields → P room.spec done fields → P room.spec (done ++ event ∷ []) (fields_after room.spec fields event)

over_rest : (P : RoomSpec → List ScheduleEvent → Fields → Type 0) → IsKept P → (room : Configuration) (fields : Fields) (done rest : List ScheduleEvent) → IsShaped room → IsLegal room rest → StandsFor room fields → P room.spec done fields → P room.spec (done ++ rest) (replay_fields room.spec fields rest)
over_rest P keeps room fields done [] shape legal for now = subst (λ (schedule : List ScheduleEvent). P room.spec schedule fields) (sym (append-nil done)) now
over_rest P keeps room fields done (steps i ∷ rest) shape legal for now =
    subst (λ (schedule : List ScheduleEvent). P room.spec schedule (replay_fields room.spec (line room.spec fields i) rest)) (append_assoc done (steps i ∷ []) rest)
    (over_rest P keeps (stepped room i) (line room.spec fields i) (done ++ steps i ∷ []) rest (shape_after room (steps i) legal.0 shape) legal.1 (event_stands room fields (steps i) shape legal.0 for) (keeps room fields done (steps i) shape legal.0 for now))
over_rest P keeps room fields done (crashes i ∷ rest) shape legal for now =
    subst (λ (schedule : List ScheduleEvent). P room.spec schedule (replay_fields room.spec (with_crash fields i) rest)) (append_assoc done (crashes i ∷ []) rest)
    (over_rest P keeps (crashed_by room i) (with_crash fields i) (done ++ crashes i ∷ []) rest (shape_after room (crashes i) legal.0 shape) legal.1 (event_stands room fields (crashes i) shape legal.0 for) (keeps room fields done (crashes i) shape legal.0 for now))

-- It holds after every legal list.
pub over_schedule : (P : RoomSpec → List ScheduleEvent → Fields → Type 0) → IsKept P → (spec : RoomSpec) → IsWithinLimits spec → (schedule : List ScheduleEvent) → IsLegal (opening spec) schedule → P spec [] (opening_fields spec) → P spec schedule (replay_fields spec (opening_fields spec) schedule)
over_schedule P keeps spec limits schedule legal opens =
    over_rest P keeps (opening spec) (opening_fields spec) [] schedule (opening_shape spec limits) legal (opening_stands spec) opens

-- It holds of every room that is one interleaving.
pub over_run : (P : RoomSpec → List ScheduleEvent → Fields → Type 0) → IsKept P → (room : Configuration) → IsWithinLimits room.spec → (one : IsOneInterleaving room) → P room.spec [] (opening_fields room.spec) → P room.spec one.schedule (replay_fields room.spec (opening_fields room.spec) one.schedule)
over_run P keeps room limits one opens =
    over_rest P keeps (opening room.spec) (opening_fields room.spec) [] one.schedule (opening_shape room.spec limits) one.legal (opening_stands room.spec) opens
