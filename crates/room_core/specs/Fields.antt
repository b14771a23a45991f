-- The fields of a room, as maps named by numbers, with no word, bit or index in them; the line that a simulator takes on
-- them; and their replay over a list of calls, with its replies.
use Rattle.std.specs.Prelude.{◌≡◌, ◌⊎◌, ℕ, zero, suc, ◌+◌, ◌<◌, Bool, true, false, not, List, [], ◌∷◌, length, map, Option, Some, None, nat_le, ◌==◌, ◌&&◌, if◌then◌else◌, ⊤}
use Rattle.std.specs.List.{range_with_len}
use Rattle.room_spec.specs.Rooms.{RoomSpec, processes}
use Rattle.room_spec.specs.Sizes.{sizes_in}
use Rattle.safe_agreement.specs.Levels.{has_level, left_level, resolved_of}
use Rattle.sim_memory.specs.Steps.{merged_of, holder_of, row_of, with_part}
use Rattle.simulator.specs.declared.goal.Goal.{Goal}
use Rattle.simulator.specs.declared.goal.Goal.TheVariants as goals
use Rattle.simulator.specs.declared.line.Line.{Line}
use Rattle.simulator.specs.declared.line.Line.TheVariants.{Rest, Raise, Snap, Show, Enter, Look, Leave, Ask, GetInput, GetView, Values, Out}
use Rattle.simulator.specs.declared.sweep.Ready.{Ready}
use Rattle.simulator.specs.declared.sweep.Ready.TheVariants as ready
use Rattle.simulator.specs.Minds.{MindOf, opening_mind_of, goal_at, current_round, next_process, unfinished_in}
use Rattle.simulator.specs.Turns.{TakenOf, counted, goes_on, snapped, showed, asked, got_input, got_view, got_value, decided, opened}
use Rattle.simulator.specs.Sweeps.{is_resting, ready_of, quiet_after}
use Rattle.room_core.specs.declared.reply.StepReply.{StepReply}
use Rattle.room_core.specs.declared.reply.StepReply.TheVariants.{Crashed, NoSimulator}
use Rattle.room_core.specs.declared.reply.CrashReply.{CrashReply}
use Rattle.room_core.specs.declared.reply.CrashReply.TheVariants as crash_replies
use Rattle.room_core.specs.Rooms.{ScheduleEvent, steps, crashes}
use Rattle.room_core.specs.Calls.{Call, Step, Crash, Settle, Reply, Stepping, Crashing, Settled, is_step, step_bound, reply_when}
use Rattle.room_core.specs.Settling.{KindOf, settled}

-- the step number of each simulator for each process: how often it has counted a write of the process
abbrev pub StepMap : Type 0
StepMap = ℕ → ℕ → ℕ

-- By simulator i, process j and round k: the step numbers, the level of i in the agreement on (j, k), the step numbers that
-- i proposes to it, the value of j's write in round k as i has it (of round 0, which a reduction has, the input that i proposes for
-- j), and the decision of j plus one, or 0. Then for each simulator its mind, its quiet count, and whether it has crashed.
pub record Fields : Type 0 where
  pub step : StepMap
  pub level : ℕ → ℕ → ℕ → ℕ
  pub view : ℕ → ℕ → ℕ → StepMap
  pub value : ℕ → ℕ → ℕ → ℕ
  pub out : ℕ → ℕ → ℕ
  pub mind : ℕ → MindOf StepMap
  pub quiet : ℕ → ℕ
  pub crashed : ℕ → Bool

-- what simulator i has decided, if it has
abbrev pub decision_in : Fields → ℕ → Option ℕ
decision_in fields i = (fields.mind i).decision

-- ---- maps with one entry changed

abbrev pub changed : {A : Type 0} → (ℕ → A) → ℕ → A → ℕ → A
changed map i entry other = if other == i then entry else map other

abbrev pub changed_pair : {A : Type 0} → (ℕ → ℕ → A) → ℕ → ℕ → A → ℕ → ℕ → A
changed_pair map i j entry = changed map i (changed (map i) j entry)

abbrev pub changed_triple : {A : Type 0} → (ℕ → ℕ → ℕ → A) → ℕ → ℕ → ℕ → A → ℕ → ℕ → ℕ → A
changed_triple map i j k entry = changed map i (changed_pair (map i) j k entry)

-- ---- the opening fields

abbrev pub no_steps : StepMap
no_steps i p = 0

abbrev pub opening_fields : RoomSpec → Fields
opening_fields spec = record {
  step = no_steps;
  level = λ i j k. 0;
  view = λ i j k. no_steps;
  value = λ i j k. 0;
  out = λ i j. 0;
  mind = λ i. opening_mind_of no_steps spec i;
  quiet = λ i. 0;
  crashed = λ i. false;
}

-- ---- what the fields show

-- the levels in the agreement on (j, k), in order of the simulators
abbrev pub levels_at : RoomSpec → Fields → ℕ → ℕ → List ℕ
levels_at spec fields j k = map (λ i. fields.level i j k) (range_with_len 0 spec.simulators)

-- the simulator whose proposal was chosen in it, if one was
abbrev pub chosen_at : RoomSpec → Fields → ℕ → ℕ → Option ℕ
chosen_at spec fields j k = resolved_of (levels_at spec fields j k)

-- how many writes of each process a snapshot shows
abbrev pub row_of_steps : RoomSpec → StepMap → List ℕ
row_of_steps spec snapshot = row_of spec.simulators (processes spec) snapshot

-- how many writes of a process a snapshot shows, and the simulator that has stored the last of them
abbrev pub entry_of_steps : RoomSpec → StepMap → ℕ → ℕ
entry_of_steps spec snapshot p = merged_of spec.simulators snapshot p

abbrev pub holder_of_steps : RoomSpec → StepMap → ℕ → ℕ
holder_of_steps spec snapshot p = holder_of spec.simulators snapshot p

-- the value that a snapshot shows of a process
abbrev pub shown_value : RoomSpec → Fields → StepMap → ℕ → ℕ
shown_value spec fields snapshot p = fields.value (holder_of_steps spec snapshot p) p (entry_of_steps spec snapshot p)

-- ---- collects

-- whether this holds of all numbers below
abbrev pub all_below : ℕ → (ℕ → Bool) → Bool
all_below zero test = true
all_below (suc n) test = all_below n test && test n

-- whether all step numbers are the same
abbrev pub same_steps : ℕ → ℕ → StepMap → StepMap → Bool
same_steps m n one other = all_below m (λ i. all_below n (λ p. one i p == other i p))

-- the mind has loaded the fields of its memory word from this map
abbrev pub with_loaded : RoomSpec → StepMap → MindOf StepMap → MindOf StepMap
with_loaded spec source mind = record mind { snapshot = with_part (sizes_in spec) mind.word source mind.snapshot }

-- whether its collect is the one before
abbrev pub is_same_collect : RoomSpec → MindOf StepMap → Bool
is_same_collect spec mind = same_steps spec.simulators (processes spec) mind.snapshot mind.before

-- the map with the fields of a mind's memory word stored
abbrev pub with_shown : RoomSpec → StepMap → MindOf StepMap → StepMap
with_shown spec view mind = with_part (sizes_in spec) mind.word mind.snapshot view

-- ---- one line of simulator i

-- i has this mind now, and its turn has become this
abbrev pub with_taken : Fields → ℕ → TakenOf StepMap → Fields
with_taken fields i taken =
    record fields { mind = changed fields.mind i taken.mind; quiet = changed fields.quiet i (quiet_after taken.turn (fields.quiet i)) }

-- the first line of a turn on process j
abbrev pub first_line_at : Goal → RoomSpec → Fields → ℕ → ℕ → MindOf StepMap → Fields
first_line_at (goals.Write k value) spec fields i j mind =
    with_taken (record fields { value = changed_triple fields.value i j k value }) i (opened (Some j) None mind)
first_line_at (goals.Ask k) spec fields i j mind = with_taken fields i (opened (Some j) (chosen_at spec fields j k) mind)
first_line_at (goals.Propose value) spec fields i j mind =
    with_taken (record fields { value = changed_triple fields.value i j 0 value }) i (opened (Some j) None mind)
first_line_at goals.AskInput spec fields i j mind = with_taken fields i (opened (Some j) (chosen_at spec fields j 0) mind)
first_line_at goals.Done spec fields i j mind = fields
first_line_at goals.Spent spec fields i j mind = fields

abbrev pub first_line : Option ℕ → RoomSpec → Fields → ℕ → MindOf StepMap → Fields
first_line None spec fields i mind = fields
first_line (Some j) spec fields i mind = first_line_at (goal_at mind.goals j) spec fields i j mind

-- the lines, of a mind that counts this step; j and k are the process and the round of its turn
abbrev pub line_on : Line → RoomSpec → Fields → ℕ → ℕ → ℕ → MindOf StepMap → Fields
line_on Rest spec fields i j k mind = first_line (next_process mind.goals mind.process) spec fields i mind
line_on Raise spec fields i j k mind = with_taken (record fields { step = changed_pair fields.step i j (fields.step i j + 1) }) i (goes_on Snap mind)
line_on Snap spec fields i j k mind = with_taken fields i (snapped spec (is_same_collect spec (with_loaded spec fields.step mind)) (with_loaded spec fields.step mind))
line_on Show spec fields i j k mind = with_taken (record fields { view = changed_triple fields.view i j k (with_shown spec (fields.view i j k) mind) }) i (showed spec mind)
line_on Enter spec fields i j k mind = with_taken (record fields { level = changed_triple fields.level i j k (fields.level i j k + 1) }) i (goes_on Look mind)
line_on Look spec fields i j k mind = with_taken fields i (goes_on (Leave (has_level 2 (levels_at spec fields j k))) mind)
line_on (Leave saw_two) spec fields i j k mind = with_taken (record fields { level = changed_triple fields.level i j k (left_level saw_two) }) i (goes_on Ask mind)
line_on Ask spec fields i j k mind = with_taken fields i (asked (chosen_at spec fields j k) mind)
line_on (GetInput chosen) spec fields i j k mind = with_taken fields i (got_input spec (fields.value chosen j 0) mind)
line_on (GetView chosen) spec fields i j k mind = with_taken fields i (got_view (entry_of_steps spec (with_loaded spec (fields.view chosen j k) mind).snapshot) spec chosen (with_loaded spec (fields.view chosen j k) mind))
line_on Values spec fields i j k mind = with_taken fields i (got_value (entry_of_steps spec mind.snapshot) spec (shown_value spec fields mind.snapshot (length mind.entries)) mind)
line_on (Out decision) spec fields i j k mind = with_taken (record fields { out = changed_pair fields.out i j (decision + 1) }) i (decided decision mind)

-- the fields after the line at which simulator i is
abbrev pub line : RoomSpec → Fields → ℕ → Fields
line spec fields i = line_on (fields.mind i).line spec fields i (fields.mind i).process (current_round (fields.mind i)) (counted (fields.mind i))

-- simulator i is one of the room's and hasn't crashed
pub record IsAliveIn (spec : RoomSpec) (fields : Fields) (i : ℕ) : Type 0 where
  pub below : i < spec.simulators
  pub alive : fields.crashed i ≡ false

-- and has a line to take: its turn is open, or a process is unfinished and a turn is left
pub record HasLineIn (spec : RoomSpec) (fields : Fields) (i : ℕ) : Type 0 where
  pub alive : IsAliveIn spec fields i
  pub moving : (is_resting (fields.mind i).line ≡ false) ⊎ ((0 < unfinished_in (fields.mind i).goals) × ((fields.mind i).turns < spec.turns))

-- ---- schedules

abbrev pub with_crash : Fields → ℕ → Fields
with_crash fields i = record fields { crashed = changed fields.crashed i true }

abbrev pub fields_after : RoomSpec → Fields → ScheduleEvent → Fields
fields_after spec fields (steps i) = line spec fields i
fields_after spec fields (crashes i) = with_crash fields i

abbrev pub replay_fields : RoomSpec → Fields → List ScheduleEvent → Fields
replay_fields spec fields [] = fields
replay_fields spec fields (event ∷ schedule) = replay_fields spec (fields_after spec fields event) schedule

abbrev pub MayHappenIn : RoomSpec → Fields → ScheduleEvent → Type 0
MayHappenIn spec fields (steps i) = HasLineIn spec fields i
MayHappenIn spec fields (crashes i) = IsAliveIn spec fields i

-- each event may happen at its place
abbrev pub IsLegalIn : RoomSpec → Fields → List ScheduleEvent → Type 0
IsLegalIn spec fields [] = ⊤
IsLegalIn spec fields (event ∷ schedule) = MayHappenIn spec fields event × IsLegalIn spec (fields_after spec fields event) schedule

-- ---- calls, which may be of a simulator that is crashed, idle or not there

abbrev pub ready_in : RoomSpec → Fields → ℕ → Ready
ready_in spec fields i = ready_of spec (fields.mind i) (fields.quiet i)

abbrev pub fields_when : Ready → RoomSpec → Fields → ℕ → Fields
fields_when ready.Step spec fields i = line spec fields i
fields_when ready.Idle spec fields i = record fields { quiet = changed fields.quiet i 0 }
fields_when ready.OutOfTurns spec fields i = fields

abbrev pub step_reply_in : RoomSpec → Fields → ℕ → StepReply
step_reply_in spec fields i =
    if nat_le spec.simulators i then NoSimulator else if fields.crashed i then Crashed else reply_when (ready_in spec fields i)

abbrev pub fields_after_step : RoomSpec → Fields → ℕ → Fields
fields_after_step spec fields i =
    if nat_le spec.simulators i then fields else if fields.crashed i then fields else fields_when (ready_in spec fields i) spec fields i

abbrev pub fields_after_steps : RoomSpec → Fields → ℕ → ℕ → Fields
fields_after_steps spec fields i zero = fields
fields_after_steps spec fields i (suc count) = fields_after_steps spec (fields_after_step spec fields i) i count

abbrev pub crash_reply_in : RoomSpec → Fields → ℕ → CrashReply
crash_reply_in spec fields i =
    if nat_le spec.simulators i then crash_replies.NoSimulator else if fields.crashed i then crash_replies.AlreadyCrashed else crash_replies.Crashed

abbrev pub fields_after_crash : RoomSpec → Fields → ℕ → Fields
fields_after_crash spec fields i = if nat_le spec.simulators i then fields else if fields.crashed i then fields else with_crash fields i

-- ---- settling

abbrev pub fields_kind : RoomSpec → KindOf Fields
fields_kind spec = record {
  count = λ fields. spec.simulators;
  most = λ fields. step_bound spec;
  has_crashed = λ fields i. fields.crashed i;
  in_turn = λ fields i. not (is_resting (fields.mind i).line);
  has_step = λ fields i. is_step (ready_in spec fields i);
  step = fields_after_step spec;
  wake = λ fields i. record fields { quiet = changed fields.quiet i 0 };
}

abbrev pub fields_after_settle : RoomSpec → Fields → Fields
fields_after_settle spec fields = settled (fields_kind spec) fields

-- ---- lists of calls

abbrev pub reply_in : RoomSpec → Fields → Call → Reply
reply_in spec fields (Step i) = Stepping (step_reply_in spec fields i)
reply_in spec fields (Crash i) = Crashing (crash_reply_in spec fields i)
reply_in spec fields Settle = Settled

abbrev pub fields_after_call : RoomSpec → Fields → Call → Fields
fields_after_call spec fields (Step i) = fields_after_step spec fields i
fields_after_call spec fields (Crash i) = fields_after_crash spec fields i
fields_after_call spec fields Settle = fields_after_settle spec fields

abbrev pub replies_in : RoomSpec → Fields → List Call → List Reply
replies_in spec fields [] = []
replies_in spec fields (call ∷ calls) = reply_in spec fields call ∷ replies_in spec (fields_after_call spec fields call) calls

abbrev pub fields_after_calls : RoomSpec → Fields → List Call → Fields
fields_after_calls spec fields [] = fields
fields_after_calls spec fields (call ∷ calls) = fields_after_calls spec (fields_after_call spec fields call) calls
