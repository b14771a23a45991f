-- The ranges of a mind's numbers.
use Rattle.std.specs.Prelude.{◌≡◌, ◌≢◌, ℕ, ◌+◌, ◌*◌, ◌<◌, ◌≤◌, true, List, length, Option, Some, None, ◌==◌, if◌then◌else◌, ⊤}
use Rattle.std.specs.List.{list_all}
use Rattle.room_spec.specs.Rooms.{RoomSpec, IsWithinLimits, is_reduction, is_value, processes}
use Rattle.room_spec.specs.Sizes.{Sizes, sizes_in}
use Rattle.view_table.specs.Places.{IsRound}
use Rattle.simulator.specs.declared.goal.Goal.{Goal}
use Rattle.simulator.specs.declared.goal.Goal.TheVariants as goals
use Rattle.simulator.specs.declared.line.Line.{Line}
use Rattle.simulator.specs.declared.line.Line.TheVariants.{Rest, Raise, Snap, Show, Enter, Look, Leave, Ask, GetInput, GetView, Values, Out}
use Rattle.simulator.specs.Minds.{MindState, goal_at, current_goal, current_round, is_unfinished}
use Rattle.simulator.specs.Moves.{entry_in}
use Rattle.simulator.specs.Turns.{most_collects, words_in}
use Rattle.simulator.specs.Firsts.{AreVisitedLast}
use Rattle.simulator.specs.Quiet.{unfinished_from}
use Rattle.room_spec.specs.declared.spec.TheConstants.{MAX_MEMORY_WORDS}

-- a goal's round is a round of the room; only in a reduction inputs are agreed on
abbrev pub IsGoal : Sizes → Goal → Type 0
IsGoal sizes (goals.Write round value) = IsRound sizes round
IsGoal sizes (goals.Ask round) = IsRound sizes round
IsGoal sizes (goals.Propose value) = sizes.reduction ≡ true
IsGoal sizes goals.AskInput = sizes.reduction ≡ true
IsGoal sizes goals.Done = ⊤
IsGoal sizes goals.Spent = ⊤

-- Whether a turn in this round has the line. In the round 0 no write is counted, no snapshot is proposed or gathered, and nothing
-- is decided; an input is loaded only in it.
abbrev pub IsLineIn : ℕ → Line → Type 0
IsLineIn round Raise = 1 ≤ round
IsLineIn round Snap = 1 ≤ round
IsLineIn round Show = 1 ≤ round
IsLineIn round (GetInput chosen) = round ≡ 0
IsLineIn round (GetView chosen) = 1 ≤ round
IsLineIn round Values = 1 ≤ round
IsLineIn round (Out decision) = 1 ≤ round
IsLineIn round line = ⊤

-- the most atomic steps of a scan: one load, or the most collects of all words
abbrev pub scan_steps : RoomSpec → ℕ
scan_steps spec = if words_in spec == 1 then 1 else words_in spec * most_collects spec

-- No turn takes more atomic steps: seven of its own, two for each memory word (its proposal, and the one that was chosen), its
-- scan, and one for each process.
unfoldable pub turn_limit : RoomSpec → ℕ
turn_limit spec = processes spec + 7 + 2 * words_in spec + scan_steps spec

-- the most that any turn takes, in whatever room
abbrev pub greatest_limit : ℕ
greatest_limit = 4096

-- the steps of a scan in the midst of it
abbrev pub scanning : RoomSpec → ℕ → ℕ → ℕ
scanning spec word collects = 2 + (words_in spec * collects + word)

-- the most atomic steps that an open turn may have taken at a line, by the words done at it, the collects made and the entries gathered
abbrev pub most_steps : RoomSpec → Line → ℕ → ℕ → ℕ → ℕ
most_steps spec Rest word collects entries = 0
most_steps spec Raise word collects entries = 1
most_steps spec Snap word collects entries = scanning spec word collects
most_steps spec Show word collects entries = 2 + scan_steps spec + word
most_steps spec Enter word collects entries = 2 + scan_steps spec + words_in spec
most_steps spec Look word collects entries = 3 + scan_steps spec + words_in spec
most_steps spec (Leave saw_two) word collects entries = 4 + scan_steps spec + words_in spec
most_steps spec Ask word collects entries = 5 + scan_steps spec + words_in spec
most_steps spec (GetInput chosen) word collects entries = 6 + scan_steps spec + words_in spec
most_steps spec (GetView chosen) word collects entries = 6 + scan_steps spec + words_in spec + word
most_steps spec Values word collects entries = 6 + scan_steps spec + 2 * words_in spec + entries
most_steps spec (Out decision) word collects entries = 6 + scan_steps spec + 2 * words_in spec + entries

-- the steps that the open turn may still take count with those taken
abbrev pub charged_steps : Line → ℕ → ℕ
charged_steps Rest steps = steps
charged_steps line steps = steps + greatest_limit

-- how many words a line works on, one after the other
abbrev pub words_at : RoomSpec → Line → ℕ
words_at spec Snap = words_in spec
words_at spec Show = words_in spec
words_at spec (GetView chosen) = words_in spec
words_at spec line = 1

-- how many collects its scan may have made
abbrev pub IsCollectCount : RoomSpec → Line → ℕ → Type 0
IsCollectCount spec Rest collects = collects ≡ 0
IsCollectCount spec Raise collects = collects ≡ 0
IsCollectCount spec Snap collects = (collects < most_collects spec) × (words_in spec ≡ 1 → collects ≡ 0)
IsCollectCount spec line collects = collects ≤ most_collects spec

-- the same mind at another line
abbrev pub at_line : Line → MindState → MindState
at_line line mind = record mind { line = line }

abbrev pub IsOpenAt : Line → RoomSpec → MindState → Type 0
IsOpenAt Rest spec mind = ⊤
IsOpenAt (GetInput chosen) spec mind = (is_unfinished (current_goal mind) ≡ true) × (chosen < spec.simulators)
IsOpenAt (GetView chosen) spec mind = (is_unfinished (current_goal mind) ≡ true) × (chosen < spec.simulators)
IsOpenAt Values spec mind = (is_unfinished (current_goal mind) ≡ true) × (length mind.entries < processes spec) × (1 ≤ entry_in spec mind.snapshot (length mind.entries))
IsOpenAt line spec mind = is_unfinished (current_goal mind) ≡ true

-- A simulator has a decision exactly if it knows of some process that it has decided.
abbrev pub HasDecision : List Goal → Option ℕ → Type 0
HasDecision list (Some decision) = (process : ℕ) × (process < length list) × (goal_at list process ≡ goals.Done)
HasDecision list None = (process : ℕ) → process < length list → goal_at list process ≢ goals.Done

-- in a reduction it has an input for each process, and in an ordinary room none
abbrev pub AreInputs : RoomSpec → List ℕ → Type 0
AreInputs spec inputs = (length inputs ≡ (if is_reduction spec then processes spec else 0)) × (list_all is_value inputs ≡ true)

-- A mind of a simulator of the room, between any two of its steps and whatever it was answered.
pub record IsMind (spec : RoomSpec) (mind : MindState) : Type 0 where
  pub limits : IsWithinLimits spec
  pub number : mind.number < spec.simulators
  pub goals : length mind.goals ≡ processes spec
  pub rounds : (process : ℕ) → process < processes spec → IsGoal (sizes_in spec) (goal_at mind.goals process)
  pub process : mind.process < processes spec
  pub turns : mind.turns ≤ spec.turns
  pub entries : length mind.entries ≤ processes spec
  pub snapshot : length mind.snapshot ≡ MAX_MEMORY_WORDS
  pub before : length mind.before ≡ MAX_MEMORY_WORDS
  pub word : mind.word < words_at spec mind.line
  pub collects : IsCollectCount spec mind.line mind.collects
  pub few : mind.turn_steps ≤ most_steps spec mind.line mind.word mind.collects (length mind.entries)
  pub counted : charged_steps mind.line mind.steps ≤ greatest_limit * mind.turns + mind.turn_steps
  pub at : IsOpenAt mind.line spec mind
  pub round : IsLineIn (current_round mind) mind.line
  pub inputs : AreInputs spec mind.inputs
  -- the processes that its sweep hasn't reached yet are the next ones
  pub order : AreVisitedLast (unfinished_from mind.goals mind.process)
  pub decision : HasDecision mind.goals mind.decision

-- at some line of its own it is one of the room's; which line doesn't matter
abbrev pub IsMindSomewhere : RoomSpec → MindState → Type 0
IsMindSomewhere spec mind = (line : Line) × IsMind spec (at_line line mind)
