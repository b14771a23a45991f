-- What is drawn of a command, by what was known before it and what was seen of it.
use Rattle.std.proofs.Common.{◌≡◌, ◌≢◌, ◌∙◌, ℕ, false, List, [], ◌∷◌, ◌++◌, Option, Some, None, ap, refl, sym, subst}
use Rattle.room_spec.specs.Rooms.{RoomSpec, IsWithinLimits}
use Rattle.room_core.specs.Calls.{RoomState}
use Rattle.room_core.specs.Observing.{TakenStep}
use Rattle.ws_history.specs.declared.states.Report.{Report as ReportData}
use Rattle.service_core.specs.declared.command.Command.{Command}
use Rattle.service_core.specs.declared.command.Command.TheVariants as commands
use Rattle.service_core.specs.declared.reply.Reply.{Reply}
use Rattle.service_core.specs.declared.reply.Reply.TheVariants as replies
use Rattle.service_core.specs.declared.reply.Refusal.{Refusal}
use Rattle.service_core.specs.declared.reply.Refusal.TheVariants.{NoRoom, OutOfMemory}
use Rattle.service_core.specs.Rooms.{Applies, Entries, IsStateOf, IsWant, room_at, steps_of}
use Rattle.script_play.specs.Following.{AreWatched}
use Rattle.script_play.specs.Play.{IsBlockOf, refusal_in}
use Rattle.simulator_lanes.specs.Panels.{IsHeadOf, Panel}
use Rattle.simulator_lanes.specs.declared.panel.Head.{Head}
use Rattle.view_draw.specs.Drawn.{AreStepsNoted, DrawsClosing, DrawsCommand, DrawsOpening, DrawsStepsUnless, IsFinal, IsReady, closed_with, crash_marks, fresh, noted, opened_with}
use Rattle.view_draw.specs.Seen.{Keeps, Kept, nothing_kept}
use Rattle.view_draw.proofs.Seeing.{seen_are_marks}

-- ---- a room is opened

opening_drawn : (spec : RoomSpec) (block : List ℕ) (head : Head) (reply : Reply) (before now : List Panel) → IsBlockOf spec block → IsHeadOf spec block head → IsWithinLimits spec → now ≡ opened_with (Some head) reply before → DrawsOpening spec reply before now
opening_drawn spec block head replies.Begun before now says shows limits is = (block, head, says, shows, limits, is)
opening_drawn spec block head (replies.Steps taken last) before now says shows limits is = is
opening_drawn spec block head (replies.Crash answer) before now says shows limits is = is
opening_drawn spec block head replies.Settled before now says shows limits is = is
opening_drawn spec block head (replies.Report report) before now says shows limits is = is
opening_drawn spec block head replies.Closed before now says shows limits is = is
opening_drawn spec block head (replies.Refused refusal) before now says shows limits is = is

pub opened_draws : (rooms : Entries) (spec : RoomSpec) (command : Command) (head : Option Head) (report : Option ReportData) (watch : Option Kept) (reply : Reply) (before ready now : List Panel) → command ≡ commands.Begin spec → ready ≡ before → IsReady rooms command head report watch
    → now ≡ opened_with head reply ready → DrawsCommand rooms command reply before now
opened_draws rooms spec command head report watch reply before ready now is same ready_is now_is =
    let known = subst (λ (c : Command). IsReady rooms c head report watch) is ready_is in
    subst (λ (c : Command). DrawsCommand rooms c reply before now) (sym is)
    (opening_drawn spec known.0 known.1 reply before now known.3 known.4 known.5 (now_is ∙ ap (λ h. opened_with h reply ready) known.2 ∙ ap (opened_with (Some known.1) reply) same))

-- ---- steps are taken

steps_drawn : (rooms : Entries) (name : List ℕ) (command : Command) (refusal : Option Refusal) (start watch : Option Kept) (before ready now : List Panel) → ready ≡ before → start ≡ Some nothing_kept
    → AreWatched Keeps start (steps_of (room_at rooms name) command) watch → AreStepsNoted refusal name watch ready now → DrawsStepsUnless refusal rooms name command before now
steps_drawn rooms name command (Some refusal) start watch before ready now same none seen drawn = drawn ∙ same
steps_drawn rooms name command None start None before ready now same none seen drawn = absurd (subst (λ (s : Option Kept). AreWatched Keeps s (steps_of (room_at rooms name) command) None) none seen)
steps_drawn rooms name command None start (Some kept) before ready now same none seen drawn = record {
  marks = kept.marks;
  are_marks = seen_are_marks (steps_of (room_at rooms name) command) nothing_kept kept refl (subst (λ (s : Option Kept). AreWatched Keeps s (steps_of (room_at rooms name) command) (Some kept)) none seen) drawn.0;
  drawn = drawn.1 ∙ ap (noted name kept.marks) same;
}

pub step_draws : (rooms : Entries) (name : List ℕ) (sim count : ℕ) (command : Command) (head : Option Head) (report : Option ReportData) (start watch : Option Kept) (reply : Reply) (before ready now : List Panel) → command ≡ commands.Step name sim count → ready ≡ before
    → IsReady rooms command head report start → AreWatched Keeps start (steps_of (room_at rooms name) command) watch → AreStepsNoted (refusal_in reply) name watch ready now → DrawsCommand rooms command reply before now
step_draws rooms name sim count command head report start watch reply before ready now is same ready_is seen drawn =
    subst (λ (c : Command). DrawsCommand rooms c reply before now) (sym is)
    (steps_drawn rooms name (commands.Step name sim count) (refusal_in reply) start watch before ready now same (subst (λ (c : Command). IsReady rooms c head report start) is ready_is)
    (subst (λ (c : Command). AreWatched Keeps start (steps_of (room_at rooms name) c) watch) is seen) drawn)

pub settling_draws : (rooms : Entries) (name : List ℕ) (command : Command) (head : Option Head) (report : Option ReportData) (start watch : Option Kept) (reply : Reply) (before ready now : List Panel) → command ≡ commands.Settle name → ready ≡ before
    → IsReady rooms command head report start → AreWatched Keeps start (steps_of (room_at rooms name) command) watch → AreStepsNoted (refusal_in reply) name watch ready now → DrawsCommand rooms command reply before now
settling_draws rooms name command head report start watch reply before ready now is same ready_is seen drawn =
    subst (λ (c : Command). DrawsCommand rooms c reply before now) (sym is)
    (steps_drawn rooms name (commands.Settle name) (refusal_in reply) start watch before ready now same (subst (λ (c : Command). IsReady rooms c head report start) is ready_is)
    (subst (λ (c : Command). AreWatched Keeps start (steps_of (room_at rooms name) c) watch) is seen) drawn)

-- ---- a simulator crashes

pub crash_draws : (rooms : Entries) (name : List ℕ) (sim : ℕ) (command : Command) (reply : Reply) (before ready now : List Panel) → command ≡ commands.Crash name sim → ready ≡ before → now ≡ noted name (crash_marks sim reply) ready → DrawsCommand rooms command reply before now
crash_draws rooms name sim command reply before ready now is same drawn = subst (λ (c : Command). DrawsCommand rooms c reply before now) (sym is) (drawn ∙ ap (noted name (crash_marks sim reply)) same)

-- ---- a room is closed

-- there was none to close
no_room : (rooms after : Entries) (name : List ℕ) (reply : Reply) → Applies rooms (commands.Close name) reply after → room_at rooms name ≡ None → reply ≡ replies.Refused NoRoom
no_room rooms after name reply applies none =
    (applies.answer (λ want. subst (λ (r : Option RoomState). IsWant r (commands.Close name)) none (applies.want want)) None (subst (λ (r : Option RoomState). IsStateOf r None) (sym none) tt)).0

closing_drawn : (rooms : Entries) (name : List ℕ) (report : ReportData) (reply : Reply) (before now : List Panel) → IsFinal rooms name (Some report) → now ≡ closed_with name (Some report) reply before → DrawsClosing rooms name reply before now
closing_drawn rooms name report replies.Begun before now known is = is
closing_drawn rooms name report (replies.Steps taken last) before now known is = is
closing_drawn rooms name report (replies.Crash answer) before now known is = is
closing_drawn rooms name report replies.Settled before now known is = is
closing_drawn rooms name report (replies.Report other) before now known is = is
closing_drawn rooms name report replies.Closed before now known is = (report, known, is)
closing_drawn rooms name report (replies.Refused refusal) before now known is = is

closed_if : (rooms after : Entries) (name : List ℕ) (report : Option ReportData) (reply : Reply) (before now : List Panel) → Applies rooms (commands.Close name) reply after → IsFinal rooms name report → now ≡ closed_with name report reply before
    → DrawsClosing rooms name reply before now
closed_if rooms after name None reply before now applies none is = subst (λ (r : Reply). DrawsClosing rooms name r before now) (sym (no_room rooms after name reply applies none)) is
closed_if rooms after name (Some report) reply before now applies known is = closing_drawn rooms name report reply before now known is

pub closed_draws : (rooms after : Entries) (name : List ℕ) (command : Command) (head : Option Head) (report : Option ReportData) (watch : Option Kept) (reply : Reply) (before ready now : List Panel) → command ≡ commands.Close name → ready ≡ before → IsReady rooms command head report watch
    → Applies rooms command reply after → now ≡ closed_with name report reply ready → DrawsCommand rooms command reply before now
closed_draws rooms after name command head report watch reply before ready now is same ready_is applies now_is =
    subst (λ (c : Command). DrawsCommand rooms c reply before now) (sym is)
    (closed_if rooms after name report reply before now (subst (λ (c : Command). Applies rooms c reply after) is applies) (subst (λ (c : Command). IsReady rooms c head report watch) is ready_is) (now_is ∙ ap (closed_with name report reply) same))

-- ---- a report

pub report_draws : (rooms : Entries) (name : List ℕ) (command : Command) (reply : Reply) (before now : List Panel) → command ≡ commands.Report name → now ≡ before → DrawsCommand rooms command reply before now
report_draws rooms name command reply before now is same = subst (λ (c : Command). DrawsCommand rooms c reply before now) (sym is) same
