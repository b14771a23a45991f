-- A list of commands with the replies to it.
use Rattle.std.specs.Prelude.{◌≡◌, ℕ, Bool, true, false, not, List, [], ◌∷◌, Option, Some, None, slice_get, take, if◌then◌else◌}
use Rattle.std.specs.List.{filter, list_any}
use Rattle.std.specs.Str.{bytes_eq}
use Rattle.ws_history.specs.declared.states.Report.{Report as ReportData}
use Rattle.service_core.specs.declared.command.Command.{Command}
use Rattle.service_core.specs.declared.command.Command.TheVariants as commands
use Rattle.service_core.specs.declared.reply.Reply.{Reply}
use Rattle.service_core.specs.declared.reply.Reply.TheVariants.{Report, Refused}
use Rattle.service_core.specs.declared.reply.Refusal.TheVariants.{OutOfMemory}
use Rattle.service_core.specs.Replies.{OpenRoom, name_in, part, room_after_all}
use Rattle.ws_history.specs.Reports.{IsTrueReport}

-- the replies to the commands of one name, in order
abbrev pub replies_of : List ℕ → List Command → List Reply → List Reply
replies_of name [] replies = []
replies_of name (command ∷ commands) [] = []
replies_of name (command ∷ commands) (reply ∷ replies) =
    if bytes_eq name (name_in command) then reply ∷ replies_of name commands replies else replies_of name commands replies

-- an allocation failed
abbrev pub is_want : Reply → Bool
is_want (Refused OutOfMemory) = true
is_want reply = false

abbrev pub HasNoWant : List Reply → Type 0
HasNoWant replies = list_any is_want replies ≡ false

abbrev pub without_wants : List Reply → List Reply
without_wants replies = filter (λ reply. not (is_want reply)) replies

-- the commands for which no allocation failed
abbrev pub granted : List Command → List Reply → List Command
granted [] replies = []
granted (command ∷ commands) [] = []
granted (command ∷ commands) (reply ∷ replies) = if is_want reply then granted commands replies else command ∷ granted commands replies

-- the room of a name after the first `time` commands
abbrev pub room_then : List Command → List Reply → ℕ → List ℕ → Option OpenRoom
room_then commands replies time name = room_after_all None (part name (granted (take time commands) (take time replies)))

-- memory is asked for where a room is made under a free name, or an open one writes a report
abbrev pub MayWant : Option OpenRoom → Command → Type 0
MayWant None (commands.Begin spec) = Unit {0}
MayWant (Some room) (commands.Report name) = Unit {0}
MayWant room command = ⊥

abbrev pub AreWants : List Command → List Reply → Type 0
AreWants commands replies = (time : ℕ) (command : Command) → slice_get commands time ≡ Some command → slice_get replies time ≡ Some (Refused OutOfMemory)
    → MayWant (room_then commands replies time (name_in command)) command

-- each report is a true one of the room of its name at that time
abbrev pub AreTrueReports : List Command → List Reply → Type 0
AreTrueReports commands replies = (time : ℕ) (command : Command) (report : ReportData) → slice_get commands time ≡ Some command → slice_get replies time ≡ Some (Report report)
    → (room : OpenRoom) × (room_then commands replies time (name_in command) ≡ Some room) × IsTrueReport room.spec room.fields report
