-- A reduction worked by hand: the inputs that were agreed on, and a process that is held by the agreement on its input.
use Rattle.std.proofs.Common.{◌≡◌, ℕ, cond, eqb, List, [], ◌∷◌, Some, None, refl, ◌&&◌}
use Rattle.std.specs.Prelude.{codes}
use Rattle.protocol_lang.specs.Trees.{Named}
use Rattle.protocol_lang.specs.declared.tree.Name.TheVariants.{Input, Min}
use Rattle.protocol_lang.specs.declared.tree.Kind.TheVariants.{Decide}
use Rattle.room_spec.specs.Rooms.{RoomSpec, with_inputs}
use Rattle.room_spec.specs.declared.version.Version.TheVariants.{Two}
use Rattle.simulator.specs.Minds.{MindOf, opening_mind_of}
use Rattle.simulator.specs.declared.goal.Goal.{Goal}
use Rattle.simulator.specs.declared.goal.Goal.TheVariants.{AskInput, Propose, Write}
use Rattle.room_core.specs.Agreements.{run_spec}
use Rattle.room_core.specs.Fields.{Fields, StepMap, no_steps, opening_fields}
use Rattle.ws_history.specs.Inputs.{inputs_of}
use Rattle.ws_history.specs.Reports.{states_of}
use Rattle.ws_history.specs.Sources.{history_of}
use Rattle.ws_history.specs.Unreadable.{unreadable_of}
use Rattle.ws_history.specs.declared.states.ProcessState.TheVariants.{Going, Held}

-- two simulators, with the inputs 7 and 3, and three processes
abbrev room : RoomSpec
room = record {
  version = Two;
  name = codes "vote";
  inputs = 7 ∷ 7 ∷ 7 ∷ [];
  own = 7 ∷ 3 ∷ [];
  simulators = 2;
  rounds = 2;
  turns = 100;
  task = None;
  fuses = [];
  protocol = record { first = Named Input; rules = []; last = record { kind = Decide; value = Named Min } };
}

-- before any step no input is known, and each process has the first simulator's in the run
none_known : inputs_of room (opening_fields room) ≡ None ∷ None ∷ None ∷ []
none_known = refl

opening_run : run_spec room (opening_fields room) ≡ with_inputs room (7 ∷ 7 ∷ 7 ∷ [])
opening_run = refl

-- Simulator 1 has found process 0's input to be its own; simulator 0 has crashed inside the agreement on process 1's, for which it proposes 7.
abbrev goals_of : ℕ → List Goal
goals_of i = cond (eqb i 0) (Propose 7 ∷ Propose 7 ∷ Propose 7 ∷ []) (Write 1 3 ∷ AskInput ∷ Propose 3 ∷ [])

abbrev mind_of : ℕ → MindOf StepMap
mind_of i = record (opening_mind_of no_steps room i) { goals = goals_of i }

abbrev fields : Fields
fields = record (opening_fields room) {
  level = λ i j k. cond (eqb k 0 && (eqb i 1 && eqb j 0)) 2 (cond (eqb k 0 && (eqb i 0 && eqb j 1)) 1 0);
  value = λ i j k. cond (eqb i 0) 7 3;
  mind = mind_of;
  crashed = λ i. eqb i 0;
}

agreed : inputs_of room fields ≡ Some 3 ∷ None ∷ None ∷ []
agreed = refl

run_is : run_spec room fields ≡ with_inputs room (3 ∷ 7 ∷ 7 ∷ [])
run_is = refl

-- one process is held, for one simulator that has crashed
held : states_of room fields ≡ Going ∷ Held 0 ∷ Going ∷ []
held = refl

blocked : unreadable_of room fields 1 0 ≡ Some (record { inside = 0; chosen = None; blocker = Some 0 })
blocked = refl

nothing_yet : history_of room fields ≡ []
nothing_yet = refl

-- an ordinary room has no round 0
abbrev ordinary : RoomSpec
ordinary = with_inputs room (3 ∷ 7 ∷ 7 ∷ [])

none_agreed : inputs_of ordinary fields ≡ None ∷ None ∷ None ∷ []
none_agreed = refl

none_held : states_of ordinary fields ≡ Going ∷ Going ∷ Going ∷ []
none_held = refl

none_blocked : unreadable_of ordinary fields 1 0 ≡ None
none_blocked = refl

its_run : run_spec ordinary fields ≡ ordinary
its_run = refl
