-- The replies of a room that is asked to follow a schedule.
use Rattle.std.proofs.Common.{◌≡◌, ◌∙◌, ℕ, zero, suc, ◌<◌, Bool, true, false, cond, leb, ltb, List, [], ◌∷◌, ◌++◌, map, Some, None, refl, sym, ap, ap₂, subst, arith}
use Rattle.std.proofs.lemmas.Bool.{leb-false, lt-ltb}
use Rattle.room_spec.specs.Rooms.{IsWithinLimits, RoomSpec}
use Rattle.room_core.specs.declared.reply.CrashReply.{CrashReply}
use Rattle.room_core.specs.declared.reply.CrashReply.TheVariants as crash_replies
use Rattle.room_core.specs.declared.reply.StepReply.{StepReply}
use Rattle.room_core.specs.declared.reply.StepReply.TheVariants as step_replies
use Rattle.room_core.specs.Calls.{RoomState, crash_reply, has_crashed, opening_state, ready_at, reply_when, room_after_step, room_after_steps, step_reply}
use Rattle.room_core.specs.Calls.{Crash as CrashCall, Settle as SettleCall}
use Rattle.room_core.specs.Fields.{Fields, crash_reply_in, fields_after_crash, fields_after_settle, fields_after_step, fields_after_steps, opening_fields, step_reply_in}
use Rattle.room_core.specs.Calls.{Reply as CallReply, Crashing}
use Rattle.room_core.specs.Reading.{AreFieldsOf}
use Rattle.room_core.specs.Observing.{is_stepped}
use Rattle.room_core.proofs.CallerLemmas.{calls_in_fields, opening_in_fields, step_in_fields}
use Rattle.room_core.proofs.CallerLemmasOnSpecs.{same_spec, same_spec_steps}
use Rattle.ws_history.specs.Reports.{report_of}
use Rattle.ws_history.specs.declared.states.ProcessState.{ProcessState}
use Rattle.ws_history.specs.declared.states.Report.{Report as ReportData}
use Rattle.service_core.specs.declared.command.Command.{Command}
use Rattle.service_core.specs.declared.command.Command.TheVariants as commands
use Rattle.service_core.specs.declared.reply.Reply.{Reply}
use Rattle.service_core.specs.declared.reply.Reply.TheVariants as replies
use Rattle.service_core.specs.declared.reply.Refusal.TheVariants.{NoSimulator}
use Rattle.service_core.specs.Replies.{OpenRoom, Stepping, one_more, replies_from, reply_in, room_in, stepped_reply, stepping, with_fields}
use Rattle.room_sample.specs.Schedules.{IsOutcome, IsSchedule, MayCome, room_after_schedule, room_after_stretch, settled_by}
use Rattle.room_sample.specs.declared.stretch.Stretch.{Stretch}
use Rattle.room_sample.specs.declared.stretch.Stretch.TheVariants.{Steps, Crash}

-- ---- what the script asks for, and what the room replies

abbrev pub command_of : List ℕ → Stretch → Command
command_of name (Steps simulator count) = commands.Step name simulator count
command_of name (Crash simulator) = commands.Crash name simulator

-- behind the opening
abbrev pub commands_for : List ℕ → List Stretch → List Command
commands_for name schedule = map (command_of name) schedule ++ commands.Settle name ∷ commands.Report name ∷ []

abbrev pub reply_of : Stretch → Reply
reply_of (Steps simulator count) = replies.Steps count step_replies.Stepped
reply_of (Crash simulator) = replies.Crash crash_replies.Crashed

abbrev pub replies_for : List Stretch → ReportData → List Reply
replies_for schedule report = map reply_of schedule ++ replies.Settled ∷ replies.Report report ∷ []

abbrev open_as : RoomSpec → Fields → OpenRoom
open_as spec fields = record { spec = spec; fields = fields }

-- ---- one stretch

-- a simulator that takes a step, or crashes, is one of the room
step_below : (count i : ℕ) (b : Bool) (other : StepReply) → leb count i ≡ b → cond b step_replies.NoSimulator other ≡ step_replies.Stepped → ltb i count ≡ true
step_below count i true other is stepped = absurd cc
step_below count i false other is stepped = lt-ltb i count (leb-false count i is)

crash_below : (count i : ℕ) (b : Bool) (other : CrashReply) → leb count i ≡ b → cond b crash_replies.NoSimulator other ≡ crash_replies.Crashed → ltb i count ≡ true
crash_below count i true other is crashed = absurd cc
crash_below count i false other is crashed = lt-ltb i count (leb-false count i is)

abbrev pub simulator_of : Stretch → ℕ
simulator_of (Steps simulator count) = simulator
simulator_of (Crash simulator) = simulator

pub has_simulator : (room : RoomState) (stretch : Stretch) → MayCome room stretch → ltb (simulator_of stretch) room.spec.simulators ≡ true
has_simulator room (Steps i count) may =
    step_below room.spec.simulators i (leb room.spec.simulators i) (cond (has_crashed room i) step_replies.Crashed (reply_when (ready_at room i))) refl (may.2 0 (omega (arith, may.0)))
has_simulator room (Crash i) may = crash_below room.spec.simulators i (leb room.spec.simulators i) (cond (has_crashed room i) crash_replies.AlreadyCrashed crash_replies.Crashed) refl may

pub same_spec_after : (room : RoomState) (stretch : Stretch) → (room_after_stretch room stretch).spec ≡ room.spec
same_spec_after room (Steps i count) = same_spec_steps room i count
same_spec_after room (Crash i) = same_spec room (CrashCall i)

-- all steps are taken
abbrev HasTaken : RoomSpec → Fields → RoomState → ℕ → ℕ → Type 0
HasTaken spec fields room i count =
    (stepping spec fields i count ≡ record { taken = count; last = step_replies.Stepped; fields = fields_after_steps spec fields i count })
    × AreFieldsOf (room_after_steps room i count) (fields_after_steps spec fields i count)

steps_taken : (room : RoomState) (fields : Fields) (i count : ℕ) → IsWithinLimits room.spec → AreFieldsOf room fields → ((k : ℕ) → k < count → step_reply (room_after_steps room i k) i ≡ step_replies.Stepped) → HasTaken room.spec fields room i count
steps_taken room fields i zero limits are each = (refl, are)
steps_taken room fields i (suc count) limits are each =
    let here = step_in_fields room fields i limits are in
    let next = room_after_step room i in
    let after = fields_after_step room.spec fields i in
    let same : next.spec ≡ room.spec = same_spec_steps room i 1 in
    let stepped : step_reply_in room.spec fields i ≡ step_replies.Stepped = here.0 ∙ each 0 (omega arith) in
    let later : HasTaken room.spec after next i count =
    subst (λ (s : RoomSpec). HasTaken s after next i count) same (steps_taken next after i count (subst IsWithinLimits (sym same) limits) here.1 (λ k less. each (suc k) (omega (arith, less)))) in (
      ap (λ (b : Bool). cond b (one_more (stepping room.spec after i count)) (record { taken = 0; last = step_reply_in room.spec fields i; fields = after })) (ap is_stepped stepped) ∙ ap one_more later.0,
      later.1,
    )

-- the room answers a stretch as it has to, and is then the room behind it
record Answers (spec : RoomSpec) (fields : Fields) (room : RoomState) (name : List ℕ) (stretch : Stretch) : Type 0 where
  pub after : Fields
  pub reply : reply_in (open_as spec fields) (command_of name stretch) ≡ reply_of stretch
  pub state : room_in (open_as spec fields) (command_of name stretch) ≡ open_as spec after
  pub same : (room_after_stretch room stretch).spec ≡ spec
  pub are : AreFieldsOf (room_after_stretch room stretch) after

crashing : (one other : CrashReply) (rest : List CallReply) → Crashing one ∷ [] ≡ Crashing other ∷ rest → one ≡ other
crashing one other rest is = cc

answers : (room : RoomState) (fields : Fields) (name : List ℕ) (stretch : Stretch) → IsWithinLimits room.spec → AreFieldsOf room fields → MayCome room stretch → Answers room.spec fields room name stretch
answers room fields name (Steps i count) limits are may =
    let all = steps_taken room fields i count limits are may.2 in
    let below = has_simulator room (Steps i count) may in
    record {
      after = fields_after_steps room.spec fields i count;
      reply = ap (λ (b : Bool). cond b (stepped_reply (stepping room.spec fields i count)) (replies.Refused NoSimulator)) below ∙ ap stepped_reply all.0;
      state = ap (λ (b : Bool). cond b (with_fields (open_as room.spec fields) (stepping room.spec fields i count).fields) (open_as room.spec fields)) below
          ∙ ap (λ (s : Stepping). open_as room.spec s.fields) all.0;
      same = same_spec_steps room i count;
      are = all.1;
    }
answers room fields name (Crash i) limits are may =
    let call = calls_in_fields room fields (CrashCall i ∷ []) limits are in
    let below = has_simulator room (Crash i) may in
    let crashed : crash_reply_in room.spec fields i ≡ crash_replies.Crashed = crashing (crash_reply_in room.spec fields i) (crash_reply room i) [] call.0 ∙ may in
    record {
      after = fields_after_crash room.spec fields i;
      reply = ap (λ (b : Bool). cond b (replies.Crash (crash_reply_in room.spec fields i)) (replies.Refused NoSimulator)) below ∙ ap replies.Crash crashed;
      state = ap (λ (b : Bool). cond b (with_fields (open_as room.spec fields) (fields_after_crash room.spec fields i)) (open_as room.spec fields)) below;
      same = same_spec room (CrashCall i);
      are = call.1;
    }

-- ---- a schedule

record Follows (spec : RoomSpec) (fields : Fields) (room : RoomState) (name : List ℕ) (schedule : List Stretch) (rest : List Command) : Type 0 where
  pub after : Fields
  pub replies : replies_from (Some (open_as spec fields)) (map (command_of name) schedule ++ rest) ≡ map reply_of schedule ++ replies_from (Some (open_as spec after)) rest
  pub same : (room_after_schedule room schedule).spec ≡ spec
  pub are : AreFieldsOf (room_after_schedule room schedule) after

one_reply : (room next : OpenRoom) (name : List ℕ) (stretch : Stretch) (rest : List Command) → reply_in room (command_of name stretch) ≡ reply_of stretch → room_in room (command_of name stretch) ≡ next
    → replies_from (Some room) (command_of name stretch ∷ rest) ≡ reply_of stretch ∷ replies_from (Some next) rest
one_reply room next name (Steps i count) rest reply state = ap₂ (λ (r : Reply) (after : OpenRoom). r ∷ replies_from (Some after) rest) reply state
one_reply room next name (Crash i) rest reply state = ap₂ (λ (r : Reply) (after : OpenRoom). r ∷ replies_from (Some after) rest) reply state

follows : (spec : RoomSpec) (room : RoomState) (fields : Fields) (name : List ℕ) (schedule : List Stretch) (rest : List Command) → IsWithinLimits spec → room.spec ≡ spec → AreFieldsOf room fields → IsSchedule room schedule → Follows spec fields room name schedule rest
follows spec room fields name [] rest limits same are is = record { after = fields; replies = refl; same = same; are = are }
follows spec room fields name (stretch ∷ schedule) rest limits same are is =
    let here : Answers spec fields room name stretch =
    subst (λ (s : RoomSpec). Answers s fields room name stretch) same (answers room fields name stretch (subst IsWithinLimits (sym same) limits) are is.0) in
    let later = follows spec (room_after_stretch room stretch) here.after name schedule rest limits here.same here.are is.1 in
    record {
      after = later.after;
      replies = one_reply (open_as spec fields) (open_as spec here.after) name stretch (map (command_of name) schedule ++ rest) here.reply here.state ∙ ap (λ (all : List Reply). reply_of stretch ∷ all) later.replies;
      same = later.same;
      are = later.are;
    }

-- ---- the whole script

-- what the room replies to the script's commands, and what it reports
pub record Replies (spec : RoomSpec) (schedule : List Stretch) (states : List ProcessState) : Type 0 where
  pub report : ReportData
  pub states_are : report.states.items ≡ states
  pub replies_are : replies_from None (commands.Begin spec ∷ commands_for spec.name schedule) ≡ replies.Begun ∷ replies_for schedule report

pub replies_to_script : (spec : RoomSpec) (crashes : ℕ) (schedule : List Stretch) (states : List ProcessState) → IsWithinLimits spec → IsOutcome spec crashes schedule states → Replies spec schedule states
replies_to_script spec crashes schedule states limits is =
    let rest = commands.Settle spec.name ∷ commands.Report spec.name ∷ [] in
    let all = follows spec (opening_state spec) (opening_fields spec) spec.name schedule rest limits refl (opening_in_fields spec) is.may_come in
    let room = room_after_schedule (opening_state spec) schedule in
    let settled = (calls_in_fields room all.after (SettleCall ∷ []) (subst IsWithinLimits (sym all.same) limits) all.are).1 in
    let after = fields_after_settle spec all.after in
    let are : AreFieldsOf (settled_by spec schedule) after = subst (λ (s : RoomSpec). AreFieldsOf (settled_by spec schedule) (fields_after_settle s all.after)) all.same settled in
    let same : (settled_by spec schedule).spec ≡ spec = same_spec room SettleCall ∙ all.same in
    record {
      report = report_of spec after;
      states_are = sym (is.reported after are ∙ ap (λ (s : RoomSpec). (report_of s after).states.items) same);
      replies_are = ap (λ (l : List Reply). replies.Begun ∷ l) all.replies;
    }
