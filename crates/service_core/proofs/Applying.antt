-- What one command makes of the rooms.
use Rattle.std.proofs.Common.{◌≡◌, ◌≢◌, Bool, true, false, cond, List, ℕ, length, Option, Some, None, refl, sym, ap, ◌∙◌, subst}
use Rattle.std.specs.Str.{bytes_eq}
use Rattle.room_spec.specs.Rooms.{RoomSpec}
use Rattle.room_core.specs.declared.reply.StepReply.{StepReply}
use Rattle.room_core.specs.Calls.{RoomState, opening_state}
use Rattle.room_core.specs.Observing.{steps_of_steps}
use Rattle.room_core.specs.Fields.{Fields}
use Rattle.room_core.specs.Reading.{AreFieldsOf}
use Rattle.room_core.proofs.CallerLemmas.{opening_in_fields}
use Rattle.ws_history.specs.Taking.{Keeps}
use Rattle.ws_history.specs.declared.states.Report.{Report as ReportData}
use Rattle.ws_history.specs.declared.states.Standing.{Standing}
use Rattle.service_core.specs.declared.command.Command.{Command}
use Rattle.service_core.specs.declared.command.Command.TheVariants as commands
use Rattle.service_core.specs.declared.reply.Reply.{Reply}
use Rattle.service_core.specs.declared.reply.Reply.TheVariants.{Begun, Closed, Report, Refused, Steps}
use Rattle.service_core.specs.declared.reply.Refusal.TheVariants.{OutOfMemory}
use Rattle.service_core.specs.declared.room.Act.{Act}
use Rattle.service_core.specs.declared.room.Act.TheVariants as acts
use Rattle.service_core.specs.Replies.{OpenRoom, name_in, opened, reply_to, room_after, room_after_open, room_in}
use Rattle.service_core.specs.Rooms.{Answers, Applies, Entries, IsOpenAs, IsRefusal, IsReported, IsReportOf, IsStateOf, IsWant, command_for, core_after, room_at, room_left, room_stepped, steps_of}
use Rattle.ws_history.specs.Reports.{IsReportTo, IsTrueReport}
use Rattle.service_core.proofs.Answering.{report_answers}
use Rattle.service_core.proofs.Lookups.{Changes, changed_here, changed_other, same_name}

opened_state : (spec : RoomSpec) (before after : Entries) → Changes before after spec.name (Some (opening_state spec)) → IsStateOf (room_at after spec.name) (Some (opened spec))
opened_state spec before after changes =
    subst (λ (core : Option RoomState). IsStateOf core (Some (opened spec))) (sym (changed_here before after spec.name (Some (opening_state spec)) changes))
    (record { spec = refl; fields = opening_in_fields spec })

-- where the name was free
pub begins_room : (spec : RoomSpec) (before after : Entries) → room_at before spec.name ≡ None → Changes before after spec.name (Some (opening_state spec)) → Applies before (commands.Begin spec) Begun after
begins_room spec before after free changes = record {
  answer = λ granted room is. from room (subst (λ (core : Option RoomState). IsStateOf core room) free is);
  others = λ name other. changed_other before after spec.name name (Some (opening_state spec)) changes other;
  report = λ report is. absurd cc;
  want = λ is. absurd cc;
  refused = λ is. absurd is;
  room = λ granted. changed_here before after spec.name (Some (opening_state spec)) changes ∙ sym (ap (λ (core : Option RoomState). core_after core (commands.Begin spec)) free);
  taken = λ count last is. absurd cc;
}
  where
    from : (room : Option OpenRoom) → IsStateOf None room → (Begun ≡ reply_to room (commands.Begin spec)) × IsStateOf (room_at after spec.name) (room_after room (commands.Begin spec))
    from None is = (refl, opened_state spec before after changes)
    from (Some room) is = absurd is

-- where there was a room
pub closes_room : (name : List ℕ) (before after : Entries) (core : RoomState) → room_at before name ≡ Some core → Changes before after name None → Applies before (commands.Close name) Closed after
closes_room name before after core there changes = record {
  answer = λ granted room is. from room (subst (λ (core : Option RoomState). IsStateOf core room) there is);
  others = λ other differs. changed_other before after name other None changes differs;
  report = λ report is. absurd cc;
  want = λ is. absurd cc;
  refused = λ is. absurd is;
  room = λ granted. changed_here before after name None changes ∙ sym (ap (λ (core : Option RoomState). core_after core (commands.Close name)) there);
  taken = λ count last is. absurd cc;
}
  where
    from : (room : Option OpenRoom) → IsStateOf (Some core) room → (Closed ≡ reply_to room (commands.Close name)) × IsStateOf (room_at after name) (room_after room (commands.Close name))
    from None is = absurd is
    from (Some room) is = (refl, subst (λ (core : Option RoomState). IsStateOf core None) (sym (changed_here before after name None changes)) tt)

-- where there is a room, and it stays open
module _ (name : List ℕ) (command : Command) (reply : Reply) (before after : Entries) (core core' : RoomState) (own : name_in command ≡ name) (stays : (room : OpenRoom) → room_after_open room command ≡ Some (room_in room command))
    (there : room_at before name ≡ Some core) (changes : Changes before after name (Some core')) (answers : reply ≢ Refused OutOfMemory → (room : OpenRoom) → IsOpenAs core room → Answers room command reply core')
    (reports : (report : ReportData) → reply ≡ Report report → (fields : Fields) → AreFieldsOf core fields → IsTrueReport core.spec fields report) (wants : reply ≡ Refused OutOfMemory → IsWant (Some core) command)
    (refused : IsRefusal reply → core' ≡ core) (left : room_left core command ≡ Some core') (so_many : (count : ℕ) (last : StepReply) → reply ≡ Steps count last → length (steps_of (Some core) command) ≡ count) where
  here : room_at before (name_in command) ≡ Some core
  here = ap (room_at before) own ∙ there

  here_after : room_at after (name_in command) ≡ Some core'
  here_after = ap (room_at after) own ∙ changed_here before after name (Some core') changes

  answered : reply ≢ Refused OutOfMemory → (room : Option OpenRoom) → IsStateOf (Some core) room → (reply ≡ reply_to room command) × IsStateOf (Some core') (room_after room command)
  answered granted None is = absurd is
  answered granted (Some room) is =
      let at = answers granted room is in
      (at.0, subst (λ (state : Option OpenRoom). IsStateOf (Some core') state) (sym (stays room)) at.1)

  reported : (report : ReportData) → reply ≡ Report report → (room : Option OpenRoom) → IsStateOf (Some core) room → IsReportOf room report
  reported report is None at = absurd at
  reported report is (Some room) at = subst (λ (spec : RoomSpec). IsTrueReport spec room.fields report) at.spec (reports report is room.fields at.fields)

  unchanged : IsRefusal reply → (other : List ℕ) → room_at after other ≡ room_at before other
  unchanged is other = by (bytes_eq name other) refl
    where
      by : (b : Bool) → bytes_eq name other ≡ b → room_at after other ≡ room_at before other
      by true same =
          changes other ∙ ap (λ (b : Bool). cond b (Some core') (room_at before other)) same ∙ ap Some (refused is) ∙ sym there ∙ ap (room_at before) (same_name name other same)
      by false differs = changes other ∙ ap (λ (b : Bool). cond b (Some core') (room_at before other)) differs

  stays_open : Applies before command reply after
  stays_open = record {
    answer = λ granted room is.
        let at = answered granted room (subst (λ (core : Option RoomState). IsStateOf core room) here is) in
        (at.0, subst (λ (core : Option RoomState). IsStateOf core (room_after room command)) (sym here_after) at.1);
    others = λ other differs. changed_other before after name other (Some core') changes (ap (bytes_eq other) (sym own) ∙ differs);
    report = λ report is room at. reported report is room (subst (λ (core : Option RoomState). IsStateOf core room) here at);
    want = λ is. subst (λ (core : Option RoomState). IsWant core command) (sym here) (wants is);
    refused = unchanged;
    room = λ granted. here_after ∙ sym left ∙ sym (ap (λ (core : Option RoomState). core_after core command) here);
    taken = λ count last is. ap (λ (core : Option RoomState). length (steps_of core command)) here ∙ so_many count last is;
  }

name_for : (name : List ℕ) (what : Act) → name_in (command_for name what) ≡ name
name_for name (acts.Step sim count) = refl
name_for name (acts.Crash sim) = refl
name_for name acts.Settle = refl

open_after : (name : List ℕ) (what : Act) (room : OpenRoom) → room_after_open room (command_for name what) ≡ Some (room_in room (command_for name what))
open_after name (acts.Step sim count) room = refl
open_after name (acts.Crash sim) room = refl
open_after name acts.Settle room = refl

-- it does something
pub asks_room : (name : List ℕ) (what : Act) (reply : Reply) (before after : Entries) (core core' : RoomState) → room_at before name ≡ Some core → Changes before after name (Some core')
    → ((of : List ℕ) (room : OpenRoom) → IsOpenAs core room → Answers room (command_for of what) reply core') → reply ≢ Refused OutOfMemory → ((report : ReportData) → reply ≢ Report report) → (IsRefusal reply → core' ≡ core)
    → ((of : List ℕ) → room_left core (command_for of what) ≡ Some core') → ((of : List ℕ) (count : ℕ) (last : StepReply) → reply ≡ Steps count last → length (steps_of (Some core) (command_for of what)) ≡ count)
    → Applies before (command_for name what) reply after
asks_room name what reply before after core core' there changes answers granted none refused left so_many =
    stays_open name (command_for name what) reply before after core core' (name_for name what) (open_after name what) there changes (λ _ room is. answers name room is) (λ report is. absurd (none report is)) (λ is. absurd (granted is)) refused (left name) (so_many name)

-- it takes steps
pub steps_room : (name : List ℕ) (sim count : ℕ) (reply : Reply) (before after : Entries) (core core' : RoomState) → room_at before name ≡ Some core → Changes before after name (Some core')
    → ((of : List ℕ) (room : OpenRoom) → IsOpenAs core room → Answers room (commands.Step of sim count) reply core') → reply ≢ Refused OutOfMemory → ((report : ReportData) → reply ≢ Report report) → (IsRefusal reply → core' ≡ core)
    → core' ≡ room_stepped core sim count → ((taken : ℕ) (last : StepReply) → reply ≡ Steps taken last → length (steps_of_steps core sim count) ≡ taken)
    → Applies before (commands.Step name sim count) reply after
steps_room name sim count reply before after core core' there changes answers granted none refused left so_many =
    stays_open name (commands.Step name sim count) reply before after core core' refl (λ room. refl) there changes (λ _ room is. answers name room is) (λ report is. absurd (none report is)) (λ is. absurd (granted is)) refused (ap Some (sym left)) so_many

-- it is reported, and nothing changes
pub reports_room : (name : List ℕ) (reply : Reply) (entries : Entries) (core : RoomState) → room_at entries name ≡ Some core
    → (reply ≢ Refused OutOfMemory → (of : List ℕ) (room : OpenRoom) → IsOpenAs core room → Answers room (commands.Report of) reply core)
    → ((report : ReportData) → reply ≡ Report report → (fields : Fields) → AreFieldsOf core fields → IsTrueReport core.spec fields report) → ((count : ℕ) (last : StepReply) → reply ≢ Steps count last) → Applies entries (commands.Report name) reply entries
reports_room name reply entries core there answers reports none =
    stays_open name (commands.Report name) reply entries entries core core refl (λ room. refl) there same (λ granted room is. answers granted name room is) reports (λ is. tt) (λ is. refl) refl (λ count last is. absurd (none count last is))
  where
    same : Changes entries entries name (Some core)
    same other = by (bytes_eq name other) refl
      where
        by : (b : Bool) → bytes_eq name other ≡ b → room_at entries other ≡ cond (bytes_eq name other) (Some core) (room_at entries other)
        by true is = ap (room_at entries) (sym (same_name name other is)) ∙ there ∙ sym (ap (λ (b : Bool). cond b (Some core) (room_at entries other)) is)
        by false is = sym (ap (λ (b : Bool). cond b (Some core) (room_at entries other)) is)

-- its report is passed on
pub reported_room : (name : List ℕ) (entries : Entries) (core : RoomState) (standing : Standing) (before after : Keeps) → room_at entries name ≡ Some core → IsReportTo core standing before after → IsReported entries name standing before after
reported_room name entries core standing before after there to = record {
  report = to.report;
  applies = reports_room name (Report to.report) entries core there (λ granted of room is. report_answers core room of to.report is (λ fields are. (to.is_report fields are).0))
      (λ report is fields are. subst (λ (r : ReportData). IsTrueReport core.spec fields r) (same_report to.report report is) (to.is_report fields are).1) (λ count last is. absurd cc);
  states = to.states;
  crashed = to.crashed;
  history = to.history;
}
  where
    same_report : (one other : ReportData) → Report one ≡ Report other → one ≡ other
    same_report one other is = cc

-- an allocation fails for its report
pub lacks_report : (name : List ℕ) (entries : Entries) (core : RoomState) → room_at entries name ≡ Some core → Applies entries (commands.Report name) (Refused OutOfMemory) entries
lacks_report name entries core there = reports_room name (Refused OutOfMemory) entries core there (λ granted of room is. absurd (granted refl)) (λ report is fields are. absurd cc) (λ count last is. absurd cc)
