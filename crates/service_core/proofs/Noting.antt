-- Notes of a room's schedule go on over the commands to it.
use Rattle.std.proofs.Common.{◌≡◌, ℕ, zero, suc, Bool, true, false, cond, leb, List, [], ◌∷◌, ◌++◌, Some, refl, sym, subst}
use Rattle.std.proofs.lemmas.Bool.{leb-false}
use Rattle.std.proofs.lemmas.List.{append-nil}
use Rattle.std.specs.Prelude.{◌||◌}
use Rattle.simulator.specs.declared.sweep.Ready.{Ready}
use Rattle.simulator.specs.declared.sweep.Ready.TheVariants as ready
use Rattle.room_core.specs.Calls.{RoomState, configuration_of, has_crashed, marked, ready_at, reply_when, room_after_settle, room_after_step, room_when, step_reply}
use Rattle.room_core.specs.Rooms.{ScheduleEvent, crashes}
use Rattle.room_core.specs.Observing.{AreSeen, Follow, is_stepped, steps_of_settling, steps_of_steps}
use Rattle.room_core.specs.declared.reply.StepReply.{StepReply}
use Rattle.room_core.specs.declared.reply.StepReply.TheVariants.{Stepped, Idle, OutOfTurns, Crashed, NoSimulator}
use Rattle.room_core.proofs.CallerLemmas.{settling_follows, woken_data}
use Rattle.ws_history.specs.Notes.{AreNotesOf, IsNoted, Notes}
use Rattle.ws_history.proofs.CallerLemmas.{crash_noted, seen_noted}
use Rattle.service_core.specs.declared.command.Command.{Command}
use Rattle.service_core.specs.declared.command.Command.TheVariants as commands
use Rattle.service_core.specs.Rooms.{events_by, room_left, room_stepped, steps_of}

-- ---- calls for steps

rest_where : (room : RoomState) (i : ℕ) (absent crashed : Bool) (answer : Ready) → is_stepped (cond absent NoSimulator (cond crashed Crashed (reply_when answer))) ≡ false
    → configuration_of (cond absent room (cond crashed room (room_when answer room i))) ≡ configuration_of room
rest_where room i true crashed answer none = refl
rest_where room i false true answer none = refl
rest_where room i false false ready.Step none = absurd cc
rest_where room i false false ready.Idle none = woken_data room i
rest_where room i false false ready.OutOfTurns none = refl

-- a call that takes no step changes quiet counts alone
rests : (room : RoomState) (i : ℕ) → is_stepped (step_reply room i) ≡ false → configuration_of (room_after_step room i) ≡ configuration_of room
rests room i none = rest_where room i (leb room.spec.simulators i) (has_crashed room i) (ready_at room i) none

stepped_is : (reply : StepReply) → is_stepped reply ≡ true → reply ≡ Stepped
stepped_is Stepped is = refl
stepped_is Idle is = absurd cc
stepped_is OutOfTurns is = absurd cc
stepped_is Crashed is = absurd cc
stepped_is NoSimulator is = absurd cc

steps_lead : (room : RoomState) (i count : ℕ) → Follow (configuration_of room) (steps_of_steps room i count) (configuration_of (room_stepped room i count))
steps_lead room i zero = refl
steps_lead room i (suc count) = by (is_stepped (step_reply room i)) refl (steps_lead (room_after_step room i) i count)
  where
    by : (b : Bool) → is_stepped (step_reply room i) ≡ b → Follow (configuration_of (room_after_step room i)) (steps_of_steps (room_after_step room i) i count) (configuration_of (room_stepped (room_after_step room i) i count))
        → Follow (configuration_of room) (cond b ((record { room = room; simulator = i }) ∷ steps_of_steps (room_after_step room i) i count) []) (configuration_of (cond b (room_stepped (room_after_step room i) i count) (room_after_step room i)))
    by true is rest = (refl, stepped_is (step_reply room i) is, rest)
    by false is rest = sym (rests room i is)

-- ---- a crash

unchanged : (room after : RoomState) (schedule : List ScheduleEvent) (old new : Notes) → AreNotesOf (configuration_of room) schedule old → old ≡ new → Some room ≡ Some after → AreNotesOf (configuration_of after) (schedule ++ []) new
unchanged room after schedule old new are same left =
    let here : room ≡ after = cc in
    subst (λ (s : List ScheduleEvent). AreNotesOf (configuration_of after) s new) (sym (append-nil schedule))
    (subst (λ (r : RoomState). AreNotesOf (configuration_of r) schedule new) here (subst (AreNotesOf (configuration_of room) schedule) same are))

crash_where : (room after : RoomState) (i : ℕ) (schedule : List ScheduleEvent) (old new : Notes) (absent crashed : Bool) → leb room.spec.simulators i ≡ absent → has_crashed room i ≡ crashed
    → AreNotesOf (configuration_of room) schedule old → old ≡ new → Some (cond absent room (cond crashed room (marked room i))) ≡ Some after
    → AreNotesOf (configuration_of after) (schedule ++ cond (absent || crashed) [] (crashes i ∷ [])) new
crash_where room after i schedule old new true crashed there alive are same left = unchanged room after schedule old new are same left
crash_where room after i schedule old new false true there alive are same left = unchanged room after schedule old new are same left
crash_where room after i schedule old new false false there alive are same left =
    let here : marked room i ≡ after = cc in
    subst (λ (r : RoomState). AreNotesOf (configuration_of r) (schedule ++ crashes i ∷ []) new) here
    (subst (AreNotesOf (configuration_of (marked room i)) (schedule ++ crashes i ∷ [])) same (crash_noted (configuration_of room) i schedule old (record { below = leb-false room.spec.simulators i there; alive = alive }) are))

-- ---- a command

some_room : (one other : RoomState) → Some one ≡ Some other → one ≡ other
some_room one other is = cc

pub notes_lead : (room after : RoomState) (command : Command) (schedule : List ScheduleEvent) (old new : Notes) → AreNotesOf (configuration_of room) schedule old → AreSeen IsNoted old (steps_of (Some room) command) new
    → room_left room command ≡ Some after → AreNotesOf (configuration_of after) (schedule ++ events_by room command) new
notes_lead room after (commands.Begin spec) schedule old new are seen left = unchanged room after schedule old new are seen left
notes_lead room after (commands.Step name sim count) schedule old new are seen left =
    subst (λ (r : RoomState). AreNotesOf (configuration_of r) (schedule ++ events_by room (commands.Step name sim count)) new) (some_room (room_stepped room sim count) after left)
    (seen_noted (configuration_of room) (configuration_of (room_stepped room sim count)) (steps_of_steps room sim count) schedule old new (steps_lead room sim count) seen are)
notes_lead room after (commands.Crash name sim) schedule old new are seen left =
    crash_where room after sim schedule old new (leb room.spec.simulators sim) (has_crashed room sim) refl refl are seen left
notes_lead room after (commands.Settle name) schedule old new are seen left =
    subst (λ (r : RoomState). AreNotesOf (configuration_of r) (schedule ++ events_by room (commands.Settle name)) new) (some_room (room_after_settle room) after left)
    (seen_noted (configuration_of room) (configuration_of (room_after_settle room)) (steps_of_settling room) schedule old new (settling_follows room) seen are)
notes_lead room after (commands.Report name) schedule old new are seen left = unchanged room after schedule old new are seen left
notes_lead room after (commands.Close name) schedule old new are seen left = absurd cc
