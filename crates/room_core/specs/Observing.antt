-- The atomic steps that a room takes at a command, in their order, and how an observer sees them.
use Rattle.std.specs.Prelude.{◌≡◌, ℕ, zero, suc, Bool, true, false, List, [], ◌∷◌, ◌++◌, if◌then◌else◌}
use Rattle.room_core.specs.declared.reply.StepReply.{StepReply}
use Rattle.room_core.specs.declared.reply.StepReply.TheVariants.{Stepped}
use Rattle.room_core.specs.Rooms.{Configuration}
use Rattle.room_core.specs.Calls.{RoomState, configuration_of, room_after_step, room_kind, step_reply}
use Rattle.room_core.specs.Settling.{KindOf, settled}

-- an atomic step that was taken: the room before it, and the simulator that took it
pub record TakenStep : Type 0 where
  pub room : RoomState
  pub simulator : ℕ

abbrev pub is_stepped : StepReply → Bool
is_stepped Stepped = true
is_stepped reply = false

-- ---- the steps of a command

-- those of `count` calls for a step of simulator i, up to the first call that finds none to take
abbrev pub steps_of_steps : RoomState → ℕ → ℕ → List TakenStep
steps_of_steps room i zero = []
steps_of_steps room i (suc count) =
    if is_stepped (step_reply room i) then (record { room = room; simulator = i }) ∷ steps_of_steps (room_after_step room i) i count else []

-- a room, and the steps that it has taken so far
pub record Traced : Type 0 where
  pub room : RoomState
  pub taken : List TakenStep

-- a call of its step
abbrev pub traced_step : Traced → ℕ → Traced
traced_step traced i = record {
  room = room_after_step traced.room i;
  taken = if is_stepped (step_reply traced.room i) then traced.taken ++ ((record { room = traced.room; simulator = i }) ∷ []) else traced.taken;
}

-- it is settled as any room is
abbrev pub traced_kind : KindOf Traced
traced_kind = record {
  count = λ traced. room_kind.count traced.room;
  most = λ traced. room_kind.most traced.room;
  has_crashed = λ traced. room_kind.has_crashed traced.room;
  in_turn = λ traced. room_kind.in_turn traced.room;
  has_step = λ traced. room_kind.has_step traced.room;
  step = traced_step;
  wake = λ traced i. record { room = room_kind.wake traced.room i; taken = traced.taken };
}

abbrev pub steps_of_settling : RoomState → List TakenStep
steps_of_settling room = (settled traced_kind (record { room = room; taken = [] })).taken

-- Each of these steps was taken in the room that the one before it left, quiet counts aside.
abbrev pub Follow : Configuration → List TakenStep → Configuration → Type 0
Follow room [] after = room ≡ after
Follow room (step ∷ steps) after =
    (configuration_of step.room ≡ room) × (step_reply step.room step.simulator ≡ Stepped) × Follow (configuration_of (room_after_step step.room step.simulator)) steps after

-- ---- an observer

-- Of these steps, each of which `sees` says what it may make of the observer, each was seen, in their order.
abbrev pub AreSeen : {W : Type 0} → (W → RoomState → ℕ → W → Type 0) → W → List TakenStep → W → Type 0
AreSeen sees old [] new = old ≡ new
AreSeen sees old (step ∷ steps) new = (middle : _) × sees old step.room step.simulator middle × AreSeen sees middle steps new

-- ---- inside the crate

-- If all steps so far were seen, so are those of such a change, which leads from this room to that one.
abbrev pub IsObserved : {W : Type 0} → (W → RoomState → ℕ → W → Type 0) → (Traced → Traced) → RoomState → W → RoomState → W → Type 0
IsObserved sees change room old after new = (first : _) (taken : List TakenStep) → AreSeen sees first taken old
    → (since : List TakenStep) × (change (record { room = room; taken = taken }) ≡ record { room = after; taken = since }) × AreSeen sees first since new
