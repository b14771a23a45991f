-- A step that is taken is a line, and a call that takes none changes no word, mind or mark.
use Rattle.std.proofs.Common.{◌≡◌, ◌≢◌, ℕ, Bool, true, false, cond, leb, refl, ap, ◌∙◌}
use Rattle.std.proofs.lemmas.Bool.{leb-false}
use Rattle.simulator.specs.declared.sweep.Ready.{Ready}
use Rattle.simulator.specs.declared.sweep.Ready.TheVariants as ready
use Rattle.room_core.specs.Calls.{RoomState, configuration_of, has_crashed, moved, ready_at, reply_when, room_after_step, room_when, step_reply}
use Rattle.room_core.specs.Rooms.{HasLine, IsShaped}
use Rattle.room_core.specs.declared.reply.StepReply.TheVariants.{Stepped, Crashed, NoSimulator}
use Rattle.room_core.proofs.fields.States.{has_line, woken_data}

-- what a call finds that takes a step
record IsTaken (absent crashed : Bool) (answer : Ready) : Type 0 where
  there : absent ≡ false
  alive : crashed ≡ false
  step : answer ≡ ready.Step

taken_where : (absent crashed : Bool) (answer : Ready) → cond absent NoSimulator (cond crashed Crashed (reply_when answer)) ≡ Stepped → IsTaken absent crashed answer
taken_where true crashed answer is = absurd cc
taken_where false true answer is = absurd cc
taken_where false false ready.Step is = record { there = refl; alive = refl; step = refl }
taken_where false false ready.Idle is = absurd cc
taken_where false false ready.OutOfTurns is = absurd cc

is_taken : (room : RoomState) (i : ℕ) → step_reply room i ≡ Stepped → IsTaken (leb room.spec.simulators i) (has_crashed room i) (ready_at room i)
is_taken room i is = taken_where (leb room.spec.simulators i) (has_crashed room i) (ready_at room i) is

pub taken_line : (room : RoomState) (i : ℕ) → IsShaped (configuration_of room) → step_reply room i ≡ Stepped → HasLine (configuration_of room) i
taken_line room i shape is =
    let found = is_taken room i is in
    has_line room i shape (leb-false room.spec.simulators i found.there) found.alive found.step

pub taken_moves : (room : RoomState) (i : ℕ) → step_reply room i ≡ Stepped → room_after_step room i ≡ moved room i
taken_moves room i is =
    let found = is_taken room i is in
    ap (λ (absent : Bool). cond absent room (cond (has_crashed room i) room (room_when (ready_at room i) room i))) found.there
    ∙ ap (λ (crashed : Bool). cond crashed room (room_when (ready_at room i) room i)) found.alive
    ∙ ap (λ (answer : Ready). room_when answer room i) found.step

idle_where : (room : RoomState) (i : ℕ) (absent crashed : Bool) (answer : Ready) → cond absent NoSimulator (cond crashed Crashed (reply_when answer)) ≢ Stepped
    → configuration_of (cond absent room (cond crashed room (room_when answer room i))) ≡ configuration_of room
idle_where room i true crashed answer other = refl
idle_where room i false true answer other = refl
idle_where room i false false ready.Step other = absurd (other refl)
idle_where room i false false ready.Idle other = woken_data room i
idle_where room i false false ready.OutOfTurns other = refl

pub idle_same : (room : RoomState) (i : ℕ) → step_reply room i ≢ Stepped → configuration_of (room_after_step room i) ≡ configuration_of room
idle_same room i other = idle_where room i (leb room.spec.simulators i) (has_crashed room i) (ready_at room i) other
