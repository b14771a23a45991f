-- Agreements on inputs worked by hand, in a reduction of two processes and two simulators, whose inputs are 7 and 3.
use Rattle.std.proofs.Common.{◌≡◌, ℕ, zero, suc, true, false, List, [], ◌∷◌, ◌++◌, Option, None, Some, refl}
use Rattle.std.specs.Prelude.{codes}
use Rattle.protocol_lang.specs.Trees.{Named}
use Rattle.protocol_lang.specs.declared.tree.Kind.TheVariants.{Decide}
use Rattle.protocol_lang.specs.declared.tree.Name.TheVariants.{Input, Min}
use Rattle.room_spec.specs.Rooms.{RoomSpec, with_inputs}
use Rattle.room_spec.specs.declared.version.Version.TheVariants.{Two}
use Rattle.simulator.specs.declared.goal.Goal.TheVariants as goals
use Rattle.simulator.specs.Minds.{goal_at, known_input}
use Rattle.room_core.specs.Agreements.{agreed_input, input_at, is_resolved, is_fixed, is_input_known, run_spec, shown_of}
use Rattle.room_core.specs.Fields.{Fields, levels_at, opening_fields, replay_fields}
use Rattle.room_core.specs.Rooms.{ScheduleEvent, crashes, steps}
use Rattle.room_core.specs.Settled.{blocked_in, crashed_in}

-- a room with these inputs of its processes and of its simulators
abbrev room_of : List ℕ → List ℕ → RoomSpec
room_of inputs own = record {
  version = Two;
  name = codes "a";
  inputs = inputs;
  own = own;
  simulators = 2;
  rounds = 1;
  turns = 100;
  task = None;
  fuses = [];
  protocol = record { first = Named Input; rules = []; last = record { kind = Decide; value = Named Min } };
}

abbrev vote : RoomSpec
vote = room_of (7 ∷ 7 ∷ []) (7 ∷ 3 ∷ [])

-- this many atomic steps of simulator i
abbrev step_by : ℕ → ℕ → List ScheduleEvent
step_by i zero = []
step_by i (suc count) = steps i ∷ step_by i count

abbrev after : List ScheduleEvent → Fields
after schedule = replay_fields vote (opening_fields vote) schedule

-- the inputs that were agreed on
abbrev agreed : List ScheduleEvent → List (Option ℕ)
agreed schedule = agreed_input vote (after schedule) 0 ∷ agreed_input vote (after schedule) 1 ∷ []

-- At first none is agreed on: in the run each process has the first simulator's.
nothing_agreed : (agreed [] ≡ None ∷ None ∷ []) × (input_at vote (after []) 0 ≡ 7) × (input_at vote (after []) 1 ≡ 7) × (levels_at vote (after []) 0 0 ≡ 0 ∷ 0 ∷ [])
nothing_agreed = (refl, refl, refl, refl)

-- Simulator 0 by itself proposes its own input, enters, looks and leaves, and finds that it was chosen; with its sixth step it has the
-- input. A resolved agreement isn't enough.
alone : (levels_at vote (after (step_by 0 2)) 0 0 ≡ 1 ∷ 0 ∷ []) × (levels_at vote (after (step_by 0 4)) 0 0 ≡ 2 ∷ 0 ∷ []) × (is_resolved vote (after (step_by 0 5)) 0 0 ≡ true) × (agreed (step_by 0 5) ≡ None ∷ None ∷ []) × (agreed (step_by 0 6) ≡ Some 7 ∷ None ∷ [])
alone = (refl, refl, refl, refl, refl)

-- its next turn is on the same process, and is its first write
goes_on : goal_at ((after (step_by 0 6)).mind 0).goals 0 ≡ goals.Write 1 7
goes_on = refl

-- Simulator 1 begins with process 1, to which it gives its own input.
each_by_itself : (agreed (step_by 1 6) ≡ None ∷ Some 3 ∷ []) × (agreed (step_by 0 6 ++ step_by 1 6) ≡ Some 7 ∷ Some 3 ∷ []) × (run_spec vote (after (step_by 0 6 ++ step_by 1 6)) ≡ with_inputs vote (7 ∷ 3 ∷ []))
each_by_itself = (refl, refl, refl)

-- ---- one process

abbrev single : RoomSpec
single = room_of (7 ∷ []) (7 ∷ 3 ∷ [])

abbrev then : List ScheduleEvent → Fields
then schedule = replay_fields single (opening_fields single) schedule

-- One that enters an agreement after the other has left it withdraws, and takes over what was chosen.
abbrev late : List ScheduleEvent
late = step_by 1 4 ++ step_by 0 6

takes_over : (levels_at single (then late) 0 0 ≡ 0 ∷ 2 ∷ []) × (agreed_input single (then late) 0 ≡ Some 3) × (known_input ((then late).mind 0) 0 ≡ Some 3) × (known_input ((then late).mind 1) 0 ≡ None) × (shown_of single (then late) 0 0 ≡ 1)
takes_over = (refl, refl, refl, refl, refl)

-- Of two that have seen no other the one with the less number is chosen.
abbrev both : List ScheduleEvent
both = step_by 1 3 ++ step_by 0 4 ++ step_by 1 3

less_number : (levels_at single (then both) 0 0 ≡ 2 ∷ 2 ∷ []) × (agreed_input single (then both) 0 ≡ Some 7) × (known_input ((then both).mind 1) 0 ≡ Some 7)
less_number = (refl, refl, refl)

-- One that crashes inside blocks the process, and the other asks in vain, although what would be chosen can't change any more.
abbrev blocked : List ScheduleEvent
blocked = step_by 0 2 ++ crashes 0 ∷ [] ++ step_by 1 5

one_is_blocked : (agreed_input single (then blocked) 0 ≡ None) × (goal_at ((then blocked).mind 1).goals 0 ≡ goals.AskInput) × (blocked_in single (then blocked) ≡ 0 ∷ []) × (crashed_in single (then blocked) ≡ 0 ∷ []) × (is_fixed single (then blocked) 0 0 ≡ true) × (is_input_known single (then blocked) 0 ≡ false)
one_is_blocked = (refl, refl, refl, refl, refl, refl)

-- ---- no reduction

-- In an ordinary room no input is agreed on, and a process has its own.
abbrev plain : RoomSpec
plain = room_of (7 ∷ 3 ∷ []) []

none_in_ordinary_rooms : (is_input_known plain (opening_fields plain) 0 ≡ false) × (input_at plain (opening_fields plain) 1 ≡ 3) × (run_spec plain (opening_fields plain) ≡ plain) × (agreed_input plain (opening_fields plain) 0 ≡ None)
none_in_ordinary_rooms = (refl, refl, refl, refl)
