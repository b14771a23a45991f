-- What a seat knows: its room's spec, the minds of the simulators that it holds, and what each of them has done.
use Rattle.std.specs.Prelude.{◌≡◌, ℕ, zero, suc, List, [], ◌∷◌, ◌++◌, map, Option, Some, None, slice_index_or, slice_set}
use Rattle.std.specs.List.{range_with_len}
use Rattle.std.specs.Option.{option_map}
use Rattle.atomic_table.specs.Table.{Me}
use Rattle.protocol_lang.specs.Trees.{Number}
use Rattle.protocol_lang.specs.declared.tree.Kind.TheVariants.{Decide}
use Rattle.room_spec.specs.Rooms.{RoomSpec}
use Rattle.room_spec.specs.declared.version.Version.TheVariants.{One}
use Rattle.simulator.specs.Minds.{MindState, opening_mind}
use Rattle.simulator.specs.Moves.{taken}
use Rattle.simulator.specs.declared.operation.Move.{Move}
use Rattle.ruled_room.specs.declared.rule.Operation.{Operation}
use Rattle.ruled_room.specs.declared.rule.Progress.{Progress}
use Rattle.ruled_room.specs.declared.rule.View.{View}

abbrev pub progress_in : View → ℕ → Option Progress
progress_in view i = slice_index_or view.held i None

abbrev pub mind_of : Progress → MindState
mind_of progress = progress.mind

-- the minds that a seat holds
abbrev pub minds_in : View → List (Option MindState)
minds_in view = map (option_map mind_of) view.held

-- what a simulator has done, and nothing if it isn't held
abbrev pub done_by : Option Progress → List Operation
done_by None = []
done_by (Some progress) = progress.operations

abbrev pub minds_of_all : List Progress → List MindState
minds_of_all simulators = map mind_of simulators

abbrev pub operations_of_all : List Progress → List (List Operation)
operations_of_all simulators = map (λ progress. progress.operations) simulators

-- a list with simulator i at its place, and no other
abbrev pub only : ℕ → Progress → List (Option Progress)
only zero progress = Some progress ∷ []
only (suc i) progress = None ∷ only i progress

-- a seat that holds nothing
abbrev pub nobody : RoomSpec → View
nobody spec = record { spec = spec; held = [] }

-- the seat of simulator i, which has come so far
abbrev pub alone : RoomSpec → ℕ → Progress → View
alone spec i progress = record { spec = spec; held = only i progress }

-- the seat has just simulator i
abbrev pub IsAlone : {S : Type 0} → ℕ → Me S View → Type 0
IsAlone i me = (progress : Progress) × (me.0.held ≡ only i progress) × (me.1 ≡ [])

-- ---- a simulator's operation

-- one operation more
abbrev pub and_then : List Operation → Move → ℕ → List Operation
and_then operations move answer = operations ++ record { done = move; answer = answer } ∷ []

-- the mind takes the answer in, and the operation is noted
abbrev pub further : RoomSpec → Move → ℕ → Progress → Progress
further spec move answer progress = record { mind = (taken spec progress.mind answer).mind; operations = and_then progress.operations move answer }

abbrev pub noted : Move → ℕ → View → View
noted move answer view = record { spec = view.spec; held = map (option_map (further view.spec move answer)) view.held }

-- ---- the room begins

-- simulator i before its first operation
abbrev pub unstarted : RoomSpec → ℕ → Progress
unstarted spec i = record { mind = opening_mind spec i; operations = [] }

abbrev pub first_progress : RoomSpec → List Progress
first_progress spec = map (unstarted spec) (range_with_len 0 spec.simulators)

-- the keeper's seat gets the opening minds
abbrev pub begun : View → View
begun view = record { spec = view.spec; held = map Some (first_progress view.spec) }

-- ---- a simulator is given and taken back

-- simulator i leaves the keeper's seat
abbrev pub without : ℕ → View → View
without i view = record { spec = view.spec; held = slice_set view.held i None }

-- and a new seat has it
abbrev pub given : RoomSpec → ℕ → Option Progress → View
given spec i None = nobody spec
given spec i (Some progress) = alone spec i progress

-- the keeper's seat has it again
abbrev pub with_back : ℕ → View → View → View
with_back i view other = record { spec = view.spec; held = slice_set view.held i (progress_in other i) }

-- a spec for views that are never looked at
abbrev pub no_spec : RoomSpec
no_spec = record {
  version = One;
  name = [];
  inputs = [];
  own = [];
  simulators = 0;
  rounds = 0;
  turns = 0;
  task = None;
  fuses = [];
  protocol = record { first = Number 0; rules = []; last = record { kind = Decide; value = Number 0 } };
}
