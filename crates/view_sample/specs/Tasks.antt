-- Whether an outcome keeps its room's task, and how many schedules broke it.
use Rattle.std.specs.Prelude.{ℕ, nat_le, ◌==◌, Bool, true, false, not, ◌&&◌, List, Option, Some, None, if◌then◌else◌}
use Rattle.std.specs.List.{find, list_all, list_any, sum_by}
use Rattle.std.specs.Option.{option_map_or}
use Rattle.room_spec.specs.Rooms.{RoomSpec, is_reduction}
use Rattle.ws_history.specs.declared.states.ProcessState.{ProcessState}
use Rattle.ws_history.specs.declared.states.ProcessState.TheVariants.{Decided, Spent, Held, Going}
use Rattle.view_sample.specs.Counts.{values_in}
use Rattle.room_sample.specs.Samples.{Counted}

-- the inputs that the room's block gives: of the processes, or in a reduction of the simulators
abbrev pub given_inputs : RoomSpec → List ℕ
given_inputs spec = if is_reduction spec then spec.own else spec.inputs

abbrev pub is_this : Option ℕ → ℕ → Bool
is_this None value = false
is_this (Some own) value = own == value

-- the room by whose inputs its task is judged
abbrev pub judged_room : RoomSpec → RoomSpec
judged_room spec = record spec { inputs = given_inputs spec }

-- what the process has decided, if it has, is one of them
abbrev pub decides_input : RoomSpec → ProcessState → Bool
decides_input spec (Decided v) = list_any (λ input. input == v) (given_inputs spec)
decides_input spec Spent = true
decides_input spec (Held i) = true
decides_input spec Going = true

-- each value that is decided is an input, and at most `most` of them are different
abbrev pub keeps : RoomSpec → List ProcessState → ℕ → Bool
keeps spec states most = nat_le (values_in states) most && list_all (decides_input spec) states

-- a room without a task has none to break
abbrev pub keeps_task : RoomSpec → List ProcessState → Bool
keeps_task spec states = option_map_or (keeps spec states) spec.task true

abbrev pub breaks_task : RoomSpec → Counted → Bool
breaks_task spec one = not (keeps_task spec one.states)

abbrev pub times_if_broken : RoomSpec → Counted → ℕ
times_if_broken spec one = if breaks_task spec one then one.times else 0

-- how many schedules led to an outcome that breaks the task
abbrev pub times_broken : RoomSpec → List Counted → ℕ
times_broken spec outcomes = sum_by (times_if_broken spec) outcomes

-- the outcome that breaks the task and came first
abbrev pub first_broken : RoomSpec → List Counted → Option Counted
first_broken spec outcomes = find (breaks_task spec) outcomes
