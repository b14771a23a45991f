-- Many steps of one simulator.
use Rattle.std.proofs.Common.{◌≡◌, ◌≢◌, ◌∙◌, ℕ, zero, suc, ◌<◌, replicate, refl, sym, subst, arith}
use Rattle.room_spec.specs.Rooms.{RoomSpec, IsWithinLimits}
use Rattle.simulator.specs.declared.sweep.Ready.{Ready}
use Rattle.simulator.specs.declared.sweep.Ready.TheVariants as ready
use Rattle.room_core.specs.declared.reply.StepReply.TheVariants.{Stepped}
use Rattle.room_core.specs.Rooms.{HasLine}
use Rattle.room_core.specs.Calls.{RoomState, Step, configuration_of, ready_at, reply_when, room_after_step, room_after_steps, step_reply}
use Rattle.room_core.specs.Fields.{Fields, fields_after_calls, fields_after_step, fields_after_steps, step_reply_in}
use Rattle.room_core.specs.Reading.{AreFieldsOf}
use Rattle.room_core.specs.Agreements.{AgreementsStay}
use Rattle.room_core.proofs.fields.States.{has_line}
use Rattle.room_core.proofs.settling.SpecKept.{same_spec_step}
use Rattle.room_core.proofs.fields.FieldCalls.{ready_step, step_in_fields}
use Rattle.room_core.proofs.settling.Alone.{IsUp}
use Rattle.room_core.proofs.agreements.Lasting.{agreements_last}

-- the room after so many steps, each of which was taken
pub record HasRun (start : RoomState) (i count : ℕ) (room : RoomState) : Type 0 where
  pub up : IsUp room i
  pub so_far : room ≡ room_after_steps start i count
  pub taken : (k : ℕ) → k < count → step_reply (room_after_steps start i k) i ≡ Stepped

pub begins : (room : RoomState) (i : ℕ) → IsUp room i → HasRun room i 0 room
begins room i up = record { up = up; so_far = refl; taken = λ k less. absurd (omega arith) }

pub replied : (room : RoomState) (i : ℕ) (answer : Ready) → IsUp room i → ready_at room i ≡ answer → reply_when answer ≡ step_reply room i
replied room i answer up is = let to = ready_step room i answer up.below up.alive is in to.replied

pub line_of : (room : RoomState) (i : ℕ) → IsUp room i → ready_at room i ≡ ready.Step → HasLine (configuration_of room) i
line_of room i up is = has_line room i up.shape up.below up.alive is

by_answer : (answer : Ready) → answer ≢ ready.Step → reply_when answer ≢ Stepped
by_answer ready.Step other = absurd (other refl)
by_answer ready.Idle other = λ is. absurd cc
by_answer ready.OutOfTurns other = λ is. absurd cc

-- whoever isn't ready takes no step
pub stops : (room : RoomState) (i : ℕ) → IsUp room i → ready_at room i ≢ ready.Step → step_reply room i ≢ Stepped
stops room i up other = λ is. by_answer (ready_at room i) other (replied room i (ready_at room i) up refl ∙ is)

-- ---- in the fields

-- the fields of the room after so many steps, and the reply to the next
abbrev AreAfter : RoomSpec → RoomState → Fields → ℕ → Type 0
AreAfter spec room fields i = (step_reply_in spec fields i ≡ step_reply room i) × AreFieldsOf room fields

steps_in_fields : (room : RoomState) (fields : Fields) (i count : ℕ) → IsWithinLimits room.spec → AreFieldsOf room fields → AreAfter room.spec (room_after_steps room i count) (fields_after_steps room.spec fields i count) i
steps_in_fields room fields i zero limits are = ((step_in_fields room fields i limits are).0, are)
steps_in_fields room fields i (suc count) limits are =
    let next = room_after_step room i in
    let after = fields_after_step room.spec fields i in
    let same = same_spec_step room i in
    let rest = steps_in_fields next after i count (subst IsWithinLimits (sym same) limits) (step_in_fields room fields i limits are).1 in
    subst (λ (spec : RoomSpec). AreAfter spec (room_after_steps next i count) (fields_after_steps spec after i count) i) same rest

pub fields_after : (room after : RoomState) (fields : Fields) (i count : ℕ) → IsWithinLimits room.spec → AreFieldsOf room fields → after ≡ room_after_steps room i count → AreFieldsOf after (fields_after_steps room.spec fields i count)
fields_after room after fields i count limits are to = subst (λ (r : RoomState). AreFieldsOf r (fields_after_steps room.spec fields i count)) (sym to) (steps_in_fields room fields i count limits are).1

pub reply_after : (room : RoomState) (fields : Fields) (i count : ℕ) → IsWithinLimits room.spec → AreFieldsOf room fields → step_reply (room_after_steps room i count) i ≡ Stepped → step_reply_in room.spec (fields_after_steps room.spec fields i count) i ≡ Stepped
reply_after room fields i count limits are is = (steps_in_fields room fields i count limits are).0 ∙ is

as_calls : (spec : RoomSpec) (fields : Fields) (i count : ℕ) → fields_after_calls spec fields (replicate count (Step i)) ≡ fields_after_steps spec fields i count
as_calls spec fields i zero = refl
as_calls spec fields i (suc count) = as_calls spec (fields_after_step spec fields i) i count

pub agreements_stay_after : (room : RoomState) (fields : Fields) (i count : ℕ) → IsWithinLimits room.spec → AreFieldsOf room fields → AgreementsStay room.spec fields (fields_after_steps room.spec fields i count)
agreements_stay_after room fields i count limits are = subst (AgreementsStay room.spec fields) (as_calls room.spec fields i count) (agreements_last room fields (replicate count (Step i)) limits are)
