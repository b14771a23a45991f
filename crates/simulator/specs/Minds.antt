-- What a simulator has in mind. It is the same whatever a snapshot of the simulated memory is taken to be, a word of its
-- fields or a map of step numbers: S is the type of such a snapshot.
use Rattle.std.specs.Prelude.{ℕ, ◌+◌, ◌%◌, Bool, true, false, List, [], length, map, Option, Some, None, slice_get, slice_index, replicate, slice_index_or, take, drop, position, if◌then◌else◌}
use Rattle.std.specs.List.{range_with_len, filter}
use Rattle.std.specs.Option.{option_map}
use Rattle.protocol_lang.specs.Meaning.{first_value}
use Rattle.room_spec.specs.Rooms.{RoomSpec, is_reduction, processes}
use Rattle.simulator.specs.declared.goal.Goal.{Goal}
use Rattle.simulator.specs.declared.goal.Goal.TheVariants.{Write, Ask, Propose, AskInput, Done, Spent}
use Rattle.simulator.specs.declared.line.Line.{Line}
use Rattle.simulator.specs.declared.line.Line.TheVariants.{Rest}
use Rattle.room_spec.specs.declared.spec.TheConstants.{MAX_MEMORY_WORDS}

-- number: which simulator it is. goals: what is left to do for each process. process: the one at which its sweep is,
-- on which its open turn works. turns: how many turns it has begun. steps, turn_steps: how many atomic steps it has taken
-- in all, and in its open turn. line: its next step in that turn. word: on which of the memory's words that step works; 0
-- where it works on none. collects: how many whole collects the scan of its open turn has made, if the memory has more
-- than one word. before: the last of them. snapshot: the collect that is being made, and then what it loaded of the simulated
-- memory last. entries: the values that it has gathered for the snapshot of its process. inputs: in a reduction the input of
-- each process, as far as it knows what was agreed on, and else the first simulator's; in an ordinary room nothing, since each
-- process has the room's. decision: the first decision of a process that it has stored, which is its own too.
pub record MindOf (S : Type 0) : Type 0 where
  pub number : ℕ
  pub goals : List Goal
  pub process : ℕ
  pub turns : ℕ
  pub steps : ℕ
  pub turn_steps : ℕ
  pub line : Line
  pub word : ℕ
  pub collects : ℕ
  pub before : S
  pub snapshot : S
  pub entries : List (Option ℕ)
  pub inputs : List ℕ
  pub decision : Option ℕ

-- ---- goals

abbrev pub is_unfinished : Goal → Bool
is_unfinished (Write round value) = true
is_unfinished (Ask round) = true
is_unfinished (Propose value) = true
is_unfinished AskInput = true
is_unfinished Done = false
is_unfinished Spent = false

-- the round of the agreement that it works on: 0 if that is on the process's input, and if nothing is left
abbrev pub round_of : Goal → ℕ
round_of (Write round value) = round
round_of (Ask round) = round
round_of (Propose value) = 0
round_of AskInput = 0
round_of Done = 0
round_of Spent = 0

abbrev pub goal_at : List Goal → ℕ → Goal
goal_at goals process = slice_index_or goals process Done

-- the process has its input: no agreement on that is left
abbrev pub has_input : Goal → Bool
has_input (Propose value) = false
has_input AskInput = false
has_input goal = true

-- how many processes are neither done nor spent
abbrev pub unfinished_in : List Goal → ℕ
unfinished_in goals = length (filter is_unfinished goals)

abbrev pub or_else : Option ℕ → Option ℕ → Option ℕ
or_else (Some one) other = Some one
or_else None other = other

-- the first unfinished process at or after the sweep's place, going round
abbrev pub next_process : List Goal → ℕ → Option ℕ
next_process goals sweep =
    or_else (option_map (λ at. sweep + at) (position is_unfinished (drop sweep goals))) (position is_unfinished (take sweep goals))

-- ---- minds

-- the process and the round that a mind works on in its open turn
abbrev pub current_goal : {S : Type 0} → MindOf S → Goal
current_goal mind = goal_at mind.goals mind.process

abbrev pub current_round : {S : Type 0} → MindOf S → ℕ
current_round mind = round_of (current_goal mind)

-- the input of its process, as far as the mind knows
abbrev pub current_input : {S : Type 0} → RoomSpec → MindOf S → ℕ
current_input spec mind = slice_index_or mind.inputs mind.process (slice_index spec.inputs mind.process)

-- the input of a process that was agreed on, if the mind has it; an ordinary room has no such agreement
abbrev pub known_input : {S : Type 0} → MindOf S → ℕ → Option ℕ
known_input mind process = if has_input (goal_at mind.goals process) then slice_get mind.inputs process else None

-- the first write of a process with this input
abbrev pub first_write : RoomSpec → ℕ → ℕ → Goal
first_write spec input process = Write 1 (first_value spec.protocol input process (processes spec))

abbrev pub first_goal : RoomSpec → ℕ → Goal
first_goal spec process = first_write spec (slice_index spec.inputs process) process

-- every process has its first write to make
abbrev pub first_goals : RoomSpec → List Goal
first_goals spec = map (first_goal spec) (range_with_len 0 (processes spec))

-- in a reduction a simulator has its own input to propose for every process
abbrev pub opening_goals : RoomSpec → ℕ → List Goal
opening_goals spec i = if is_reduction spec then replicate (processes spec) (Propose (slice_index spec.own i)) else first_goals spec

abbrev pub opening_inputs : RoomSpec → List ℕ
opening_inputs spec = if is_reduction spec then spec.inputs else []

-- the mind of a simulator that has taken no step, with a snapshot that shows nothing
abbrev pub opening_mind_of : {S : Type 0} → S → RoomSpec → ℕ → MindOf S
opening_mind_of blank spec i = record {
  number = i;
  goals = opening_goals spec i;
  process = i % processes spec;
  turns = 0;
  steps = 0;
  turn_steps = 0;
  line = Rest;
  word = 0;
  collects = 0;
  before = blank;
  snapshot = blank;
  entries = [];
  inputs = opening_inputs spec;
  decision = None;
}

-- ---- minds whose snapshot is a list of memory words, as many as any room has

abbrev pub MindState : Type 0
MindState = MindOf (List ℕ)

abbrev pub no_words : List ℕ
no_words = replicate MAX_MEMORY_WORDS 0

abbrev pub opening_mind : RoomSpec → ℕ → MindState
opening_mind spec i = opening_mind_of no_words spec i
