-- A room with its quiet counts, and what one call makes of it and answers.
use Rattle.std.specs.Prelude.{ℕ, zero, suc, ◌*◌, ◌<◌, Bool, true, false, not, List, [], ◌∷◌, map, Option, None, replicate, slice_index_or, slice_set, nat_le, if◌then◌else◌}
use Rattle.std.specs.List.{range_with_len}
use Rattle.room_spec.specs.Rooms.{RoomSpec}
use Rattle.room_spec.specs.Sizes.{sizes_in}
use Rattle.view_table.specs.Places.{words_of}
use Rattle.simulator.specs.Minds.{known_input, or_else}
use Rattle.simulator.specs.Turns.{TakenOf}
use Rattle.simulator.specs.Ranges.{greatest_limit}
use Rattle.simulator.specs.Quiet.{IsQuietCount}
use Rattle.simulator.specs.Sweeps.{SweepState, is_resting, opening_sweep, ready_of, quiet_after}
use Rattle.simulator.specs.declared.sweep.Ready.{Ready}
use Rattle.simulator.specs.declared.sweep.Ready.TheVariants as ready
use Rattle.room_core.specs.Rooms.{Configuration, IsRoom, taken_from, words_by}
use Rattle.room_core.specs.Settling.{KindOf, settled}
use Rattle.room_core.specs.declared.reply.StepReply.{StepReply}
use Rattle.room_core.specs.declared.reply.StepReply.TheVariants.{Stepped, Idle, OutOfTurns, Crashed, NoSimulator}
use Rattle.room_core.specs.declared.reply.CrashReply.{CrashReply}
use Rattle.room_core.specs.declared.reply.CrashReply.TheVariants as crash_replies

pub record RoomState : Type 0 where
  pub spec : RoomSpec
  pub words : List ℕ
  pub sweeps : List SweepState
  pub crashed : List Bool

-- the room without its quiet counts
abbrev pub configuration_of : RoomState → Configuration
configuration_of room = record { spec = room.spec; words = room.words; minds = map (λ sweep. sweep.mind) room.sweeps; crashed = room.crashed }

abbrev pub opening_state : RoomSpec → RoomState
opening_state spec = record {
  spec = spec;
  words = replicate (words_of (sizes_in spec)) 0;
  sweeps = map (opening_sweep spec) (range_with_len 0 spec.simulators);
  crashed = replicate spec.simulators false;
}

abbrev pub sweep_at : RoomState → ℕ → SweepState
sweep_at room i = slice_index_or room.sweeps i (opening_sweep room.spec i)

abbrev pub has_crashed : RoomState → ℕ → Bool
has_crashed room i = slice_index_or room.crashed i false

abbrev pub with_sweep : RoomState → ℕ → SweepState → RoomState
with_sweep room i sweep = record room { sweeps = slice_set room.sweeps i sweep }

-- what simulator i has decided, if it has
abbrev pub decision_at : RoomState → ℕ → Option ℕ
decision_at room i = (sweep_at room i).mind.decision

-- what each simulator has decided, by their numbers
abbrev pub decisions_of : RoomState → List (Option ℕ)
decisions_of room = map (decision_at room) (range_with_len 0 room.spec.simulators)

-- the first that there is
abbrev pub first_some : List (Option ℕ) → Option ℕ
first_some [] = None
first_some (one ∷ others) = or_else one (first_some others)

-- the input of process j that was agreed on, as the first simulator that has it says
abbrev pub input_of : RoomState → ℕ → Option ℕ
input_of room j = first_some (map (λ i. known_input (sweep_at room i).mind j) (range_with_len 0 room.spec.simulators))

-- ---- what the type of a room keeps

-- each simulator's quiet count is one of its mind
abbrev pub CountsQuietTurns : RoomState → Type 0
CountsQuietTurns room = (i : ℕ) → i < room.spec.simulators → IsQuietCount (sweep_at room i).mind (sweep_at room i).quiet

pub record IsCore (room : RoomState) : Type 0 where
  pub is_room : IsRoom (configuration_of room)
  pub quiet : CountsQuietTurns room

-- ---- a step

-- what a simulator's operation makes of it
abbrev pub sweep_after : TakenOf (List ℕ) → ℕ → SweepState
sweep_after taken quiet = record { mind = taken.mind; quiet = quiet_after taken.turn quiet }

abbrev pub taken_by : RoomState → ℕ → TakenOf (List ℕ)
taken_by room i = taken_from room.spec (sweep_at room i).mind room.words

-- one atomic step, of its mind on the words
abbrev pub moved : RoomState → ℕ → RoomState
moved room i = record {
  spec = room.spec;
  words = words_by room.spec (sweep_at room i).mind room.words;
  sweeps = slice_set room.sweeps i (sweep_after (taken_by room i) (sweep_at room i).quiet);
  crashed = room.crashed;
}

-- the quiet turns are counted anew
abbrev pub woken : SweepState → SweepState
woken sweep = record { mind = sweep.mind; quiet = 0 }

abbrev pub reply_when : Ready → StepReply
reply_when ready.Step = Stepped
reply_when ready.Idle = Idle
reply_when ready.OutOfTurns = OutOfTurns

abbrev pub room_when : Ready → RoomState → ℕ → RoomState
room_when ready.Step room i = moved room i
room_when ready.Idle room i = with_sweep room i (woken (sweep_at room i))
room_when ready.OutOfTurns room i = room

abbrev pub ready_at : RoomState → ℕ → Ready
ready_at room i = ready_of room.spec (sweep_at room i).mind (sweep_at room i).quiet

abbrev pub step_reply : RoomState → ℕ → StepReply
step_reply room i = if nat_le room.spec.simulators i then NoSimulator else if has_crashed room i then Crashed else reply_when (ready_at room i)

abbrev pub room_after_step : RoomState → ℕ → RoomState
room_after_step room i = if nat_le room.spec.simulators i then room else if has_crashed room i then room else room_when (ready_at room i) room i

-- after `count` steps of one simulator
abbrev pub room_after_steps : RoomState → ℕ → ℕ → RoomState
room_after_steps room i zero = room
room_after_steps room i (suc count) = room_after_steps (room_after_step room i) i count

-- ---- a crash

abbrev pub crash_reply : RoomState → ℕ → CrashReply
crash_reply room i =
    if nat_le room.spec.simulators i then crash_replies.NoSimulator else if has_crashed room i then crash_replies.AlreadyCrashed else crash_replies.Crashed

-- a crash changes no word and no mind
abbrev pub marked : RoomState → ℕ → RoomState
marked room i = record room { crashed = slice_set room.crashed i true }

abbrev pub room_after_crash : RoomState → ℕ → RoomState
room_after_crash room i =
    if nat_le room.spec.simulators i then room else if has_crashed room i then room else marked room i

-- ---- settling

abbrev pub is_step : Ready → Bool
is_step ready.Step = true
is_step ready.Idle = false
is_step ready.OutOfTurns = false

-- no fewer atomic steps than all turns of a simulator have: no turn of any room has more than `greatest_limit`
abbrev pub step_bound : RoomSpec → ℕ
step_bound spec = greatest_limit * spec.turns

abbrev pub room_kind : KindOf RoomState
room_kind = record {
  count = λ room. room.spec.simulators;
  most = λ room. step_bound room.spec;
  has_crashed = has_crashed;
  in_turn = λ room i. not (is_resting (sweep_at room i).mind.line);
  has_step = λ room i. is_step (ready_at room i);
  step = room_after_step;
  wake = λ room i. with_sweep room i (woken (sweep_at room i));
}

abbrev pub room_after_settle : RoomState → RoomState
room_after_settle room = settled room_kind room

-- ---- lists of calls

pub data Call : Type 0 where
  Step : (simulator : ℕ) → Call
  Crash : (simulator : ℕ) → Call
  Settle : Call

pub data Reply : Type 0 where
  Stepping : StepReply → Reply
  Crashing : CrashReply → Reply
  Settled : Reply

abbrev pub reply_to : RoomState → Call → Reply
reply_to room (Step i) = Stepping (step_reply room i)
reply_to room (Crash i) = Crashing (crash_reply room i)
reply_to room Settle = Settled

abbrev pub room_after_call : RoomState → Call → RoomState
room_after_call room (Step i) = room_after_step room i
room_after_call room (Crash i) = room_after_crash room i
room_after_call room Settle = room_after_settle room

abbrev pub replies_to : RoomState → List Call → List Reply
replies_to room [] = []
replies_to room (call ∷ calls) = reply_to room call ∷ replies_to (room_after_call room call) calls

abbrev pub room_after_calls : RoomState → List Call → RoomState
room_after_calls room [] = room
room_after_calls room (call ∷ calls) = room_after_calls (room_after_call room call) calls
