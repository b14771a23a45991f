-- The agreements of a room, as its fields have them: which are resolved, passed and fixed, what they show, and what the protocol asks for
-- after them.
use Rattle.std.specs.Prelude.{◌≡◌, ◌≢◌, ◌⊎◌, ℕ, ◌+◌, ◌-◌, ◌<◌, ◌≤◌, Bool, true, false, not, List, map, Option, Some, None, Contains, slice_index, unwrap_or, position, nat_le, nat_lt, ◌==◌, ◌&&◌, ◌||◌, if◌then◌else◌}
use Rattle.std.specs.List.{find, list_any, range_with_len}
use Rattle.std.specs.Option.{option_map}
use Rattle.protocol_lang.specs.Meaning.{first_value, next_action}
use Rattle.protocol_lang.specs.declared.meaning.Action.{Action}
use Rattle.protocol_lang.specs.declared.meaning.Action.TheVariants as actions
use Rattle.room_spec.specs.Rooms.{RoomSpec, is_reduction, processes, with_inputs}
use Rattle.safe_agreement.specs.Levels.{has_level, least_two}
use Rattle.safe_agreement.specs.Levels as agreement
use Rattle.sim_memory.specs.Steps.{IsRowAtMost, merged_of, row_of}
use Rattle.simulator.specs.declared.line.Line.{Line}
use Rattle.simulator.specs.declared.line.Line.TheVariants.{Look, Leave}
use Rattle.simulator.specs.Minds.{current_round, goal_at, has_input}
use Rattle.room_core.specs.Fields.{Fields, StepMap, decision_in, levels_at}

-- ---- what the simulators have done for a process

-- how many writes of process j have been made: the greatest step number that a simulator has for it
abbrev pub greatest_step : RoomSpec → Fields → ℕ → ℕ
greatest_step spec fields j = merged_of spec.simulators fields.step j

-- what each simulator has stored as the decision of process j, in order of the simulators
abbrev pub outs_at : RoomSpec → Fields → ℕ → List ℕ
outs_at spec fields j = map (λ i. fields.out i j) (range_with_len 0 spec.simulators)

abbrev pub is_out : ℕ → Bool
is_out out = not (out == 0)

abbrev pub has_out : RoomSpec → Fields → ℕ → Bool
has_out spec fields j = list_any is_out (outs_at spec fields j)

-- the decision of process j, if one was stored
abbrev pub decided_in : RoomSpec → Fields → ℕ → Option ℕ
decided_in spec fields j = option_map (λ out. out - 1) (find is_out (outs_at spec fields j))

-- What simulator i has decided is a decision that it has stored of one of the room's processes; if it hasn't decided, it has stored
-- none.
abbrev pub IsDecisionOf : RoomSpec → Fields → ℕ → Option ℕ → Type 0
IsDecisionOf spec fields i (Some decision) = (j : ℕ) × (j < processes spec) × (fields.out i j ≡ decision + 1)
IsDecisionOf spec fields i None = (j : ℕ) → j < processes spec → fields.out i j ≡ 0

-- ---- the agreement on process j's snapshot in round k

abbrev pub is_resolved : RoomSpec → Fields → ℕ → ℕ → Bool
is_resolved spec fields j k = agreement.is_resolved (levels_at spec fields j k)

-- a simulator has gone on from it, or may go on from it now
abbrev pub is_passed : RoomSpec → Fields → ℕ → ℕ → Bool
is_passed spec fields j k =
    is_resolved spec fields j k
    || nat_lt k (greatest_step spec fields j)
    || (has_out spec fields j && (greatest_step spec fields j == k))

-- the simulator whose proposal it shows
abbrev pub shown_of : RoomSpec → Fields → ℕ → ℕ → ℕ
shown_of spec fields j k = unwrap_or (least_two (levels_at spec fields j k)) 0

abbrev pub view_at : RoomSpec → Fields → ℕ → ℕ → StepMap
view_at spec fields j k = fields.view (shown_of spec fields j k) j k

-- it has looked, has seen no level 2, and has not left yet
pub record HasLookedBlind (fields : Fields) (i j k : ℕ) : Type 0 where
  pub process : (fields.mind i).process ≡ j
  pub round : current_round (fields.mind i) ≡ k
  pub line : (fields.mind i).line ≡ Leave false

-- The agreement on (j, k) is fixed: some simulator is at level 2, and no other can come there any more.
pub record IsFixedAt (spec : RoomSpec) (fields : Fields) (j k : ℕ) : Type 0 where
  pub simulator : ℕ
  pub below : simulator < spec.simulators
  pub two : fields.level simulator j k ≡ 2
  pub seen : (i : ℕ) → i < spec.simulators → HasLookedBlind fields i j k → ⊥

-- the same as a test
abbrev pub leaves_blind : Line → Bool
leaves_blind (Leave saw_two) = not saw_two
leaves_blind line = false

abbrev pub has_looked_blind : Fields → ℕ → ℕ → ℕ → Bool
has_looked_blind fields i j k = leaves_blind (fields.mind i).line && (((fields.mind i).process == j) && (current_round (fields.mind i) == k))

abbrev pub is_fixed : RoomSpec → Fields → ℕ → ℕ → Bool
is_fixed spec fields j k = has_level 2 (levels_at spec fields j k) && not (list_any (λ i. has_looked_blind fields i j k) (range_with_len 0 spec.simulators))

-- ---- the agreement on process j's input, which a reduction has in the round 0

-- A simulator has the input of process j. (That (j, 0) is resolved isn't enough: one that comes late can enter it once more, and then
-- it isn't resolved.)
abbrev pub is_input_known : RoomSpec → Fields → ℕ → Bool
is_input_known spec fields j = is_reduction spec && list_any (λ i. has_input (goal_at (fields.mind i).goals j)) (range_with_len 0 spec.simulators)

-- the input that was agreed on, if a simulator has it
abbrev pub agreed_input : RoomSpec → Fields → ℕ → Option ℕ
agreed_input spec fields j = if is_input_known spec fields j then Some (fields.value (shown_of spec fields j 0) j 0) else None

-- the input that process j has in the run; one that isn't agreed on is the room's, which in a reduction is the first simulator's
abbrev pub input_at : RoomSpec → Fields → ℕ → ℕ
input_at spec fields j = unwrap_or (agreed_input spec fields j) (slice_index spec.inputs j)

-- the ordinary room of which the history of these fields is a run
abbrev pub run_spec : RoomSpec → Fields → RoomSpec
run_spec spec fields = if is_reduction spec then with_inputs spec (map (input_at spec fields) (range_with_len 0 (processes spec))) else spec

-- ---- what it shows

-- how many writes of each process it shows
abbrev pub row_at : RoomSpec → Fields → ℕ → ℕ → List ℕ
row_at spec fields j k = row_of spec.simulators (processes spec) (view_at spec fields j k)

-- the least simulator that has counted write r of process p, or 0
abbrev pub first_with : RoomSpec → Fields → ℕ → ℕ → ℕ
first_with spec fields p r =
    unwrap_or (position (λ step. nat_le r step) (map (λ i. fields.step i p) (range_with_len 0 spec.simulators))) 0

-- the value of write r of process p
abbrev pub written : RoomSpec → Fields → ℕ → ℕ → ℕ
written spec fields p r = fields.value (first_with spec fields p r) p r

-- the last value of process p after r writes of it
abbrev pub shown : RoomSpec → Fields → ℕ → ℕ → Option ℕ
shown spec fields p r = if r == 0 then None else Some (written spec fields p r)

-- what a row shows of each process
abbrev pub shown_by : RoomSpec → Fields → List ℕ → List (Option ℕ)
shown_by spec fields row = map (λ p. shown spec fields p (slice_index row p)) (range_with_len 0 (processes spec))

-- what the protocol asks for after this snapshot
abbrev pub asks : RoomSpec → Fields → ℕ → ℕ → Action
asks spec fields j k = next_action spec.protocol (input_at spec fields j) j k (shown_by spec fields (row_at spec fields j k))

-- ---- where a simulator is inside it

-- the line is one inside an agreement: it has entered, and has not left
abbrev pub IsInside : Line → Type 0
IsInside Look = Unit {0}
IsInside (Leave saw_two) = Unit {0}
IsInside line = ⊥

-- the open turn of simulator i is on process j and round k, inside the agreement
pub record IsInsideTurn (fields : Fields) (i j k : ℕ) : Type 0 where
  pub process : (fields.mind i).process ≡ j
  pub round : current_round (fields.mind i) ≡ k
  pub line : IsInside (fields.mind i).line

-- ---- what stays of them

-- From one moment to a later one: what has been agreed on and what has been decided, by a process or by a simulator, stays. So of an agreement that has been passed all
-- readings show the same view, at whatever moments they are made.
pub record AgreementsStay (spec : RoomSpec) (before after : Fields) : Type 0 where
  pub passed_is_fixed : (j k : ℕ) → j < processes spec → 1 ≤ k → is_passed spec before j k ≡ true → IsFixedAt spec before j k
  pub fixed : (j k : ℕ) → IsFixedAt spec before j k → IsFixedAt spec after j k
  pub same_view : (j k : ℕ) → 1 ≤ k → IsFixedAt spec before j k → view_at spec after j k ≡ view_at spec before j k
  pub same_action : (j k : ℕ) → 1 ≤ k → IsFixedAt spec before j k → asks spec after j k ≡ asks spec before j k
  pub inputs : (j input : ℕ) → j < processes spec → agreed_input spec before j ≡ Some input → agreed_input spec after j ≡ Some input
  pub decided : (j decision : ℕ) → j < processes spec → decided_in spec before j ≡ Some decision → decided_in spec after j ≡ Some decision
  pub simulators : (i decision : ℕ) → decision_in before i ≡ Some decision → decision_in after i ≡ Some decision

-- ---- what a room promises of them

-- one of two rows is at most the other
abbrev pub DoCompare : List ℕ → List ℕ → Type 0
DoCompare row other = IsRowAtMost row other ⊎ IsRowAtMost other row

-- What makes the history of these fields a run: what each row shows, and why each write and each decision was made.
pub record HasAgreed (spec : RoomSpec) (fields : Fields) : Type 0 where
  -- whatever was passed is fixed
  pub passed_is_fixed : (j k : ℕ) → j < processes spec → 1 ≤ k → is_passed spec fields j k ≡ true → IsFixedAt spec fields j k
  -- a row shows of its own process the writes up to its round
  pub own_entry_is_exact : (j k : ℕ) → j < processes spec → 1 ≤ k → k ≤ spec.rounds → IsFixedAt spec fields j k → slice_index (row_at spec fields j k) j ≡ k
  pub snapshots_compare : (j k p r : ℕ) → j < processes spec → 1 ≤ k → k ≤ spec.rounds → IsFixedAt spec fields j k → p < processes spec → 1 ≤ r → r ≤ spec.rounds → IsFixedAt spec fields p r
      → DoCompare (row_at spec fields j k) (row_at spec fields p r)
  -- a row shows no write that no simulator has counted
  pub row_is_within : (j k p : ℕ) → j < processes spec → 1 ≤ k → k ≤ spec.rounds → IsFixedAt spec fields j k → p < processes spec → slice_index (row_at spec fields j k) p ≤ greatest_step spec fields p
  -- in a reduction each input is a simulator's own
  pub inputs_are_own : (p : ℕ) → p < processes spec → is_reduction spec ≡ true → Contains spec.own (input_at spec fields p)
  pub steps_are_within : (p : ℕ) → p < processes spec → greatest_step spec fields p ≤ spec.rounds
  pub first_is_due : (p : ℕ) → p < processes spec → 1 ≤ greatest_step spec fields p → written spec fields p 1 ≡ first_value spec.protocol (input_at spec fields p) p (processes spec)
  pub next_is_due : (p r : ℕ) → p < processes spec → 1 ≤ r → r < greatest_step spec fields p → asks spec fields p r ≡ actions.Write (written spec fields p (r + 1))
  pub decisions_agree : (i j : ℕ) → i < spec.simulators → j < processes spec → fields.out i j ≢ 0
      → (fields.step i j ≡ greatest_step spec fields j) × (asks spec fields j (fields.step i j) ≡ actions.Decide (fields.out i j - 1))
