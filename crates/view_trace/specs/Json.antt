-- What was done, as JSON.
use Rattle.std.specs.Prelude.{ℕ, List, [], ◌∷◌, Option, Some, None, if◌then◌else◌, codes}
use Rattle.serde_json.specs.Data.{Data, member, no_members, null, number, object, string, unsigned}
use Rattle.protocol_lang.specs.Faults.{code_of as protocol_code}
use Rattle.protocol_lang.specs.FirstFaults.{place_of}
use Rattle.room_spec.specs.Faults.{code_of as block_code, sentence_of}
use Rattle.room_spec.specs.Rooms.{is_reduction}
use Rattle.room_spec.specs.declared.fault.SpecFault.{SpecFault}
use Rattle.room_spec.specs.declared.fault.SpecFault.TheVariants.{BadLine, BadProtocol, CrashLine, Repeated, TaskLine}
use Rattle.room_core.specs.Calls.{RoomState}
use Rattle.ws_history.specs.declared.states.Report.{Report as ReportData}
use Rattle.service_core.specs.declared.reply.Reply.{Reply}
use Rattle.service_core.specs.declared.reply.Reply.TheVariants.{Begun, Steps, Crash, Settled, Report, Closed, Refused}
use Rattle.service_core.specs.declared.reply.Refusal.TheVariants.{OutOfMemory}
use Rattle.service_core.specs.Replies.{name_in, refusal_code, refusal_sentence}
use Rattle.service_core.specs.Rooms.{Entries, room_at}
use Rattle.script_play.specs.Following.{decisions_at}
use Rattle.script_play.specs.Play.{Done, Faulty, Replied, Unread}
use Rattle.script_play.specs.ReplyTexts.{crash_word, sim_in, step_word}
use Rattle.json_lines.specs.Values.{events_data, numbers_data, processes_data, row_data, text_data}
use Rattle.view_trace.specs.Inputs.{known_inputs}

-- a reply that has nothing but its word
abbrev pub plain_data : List ℕ → List ℕ → Data
plain_data word name = object (member (codes "reply") (string word) (member (codes "room") (text_data name) no_members))

-- the input of each process of a reduction; an ordinary room gives each process its input
abbrev pub inputs_in_room : RoomState → Data
inputs_in_room room = if is_reduction room.spec then row_data (known_inputs room) else null

abbrev pub inputs_data : Option RoomState → Data
inputs_data None = null
inputs_data (Some room) = inputs_in_room room

-- the report of the room of this name, with what its simulators have decided and which inputs they have agreed on
abbrev pub report_data : Option RoomState → List ℕ → ReportData → Data
report_data room name report =
    object (member (codes "crashed") (numbers_data report.crashed.items) (member (codes "decisions") (row_data (decisions_at room)) (member (codes "history") (events_data report.history)
    (member (codes "inputs") (inputs_data room) (member (codes "processes") (processes_data report.states.items) (member (codes "reply") (string (codes "report")) (member (codes "room") (text_data name) no_members)))))))

-- the reply to a command that is for the room of this name, which is left so, and for this simulator of it
abbrev pub reply_data : Option RoomState → List ℕ → ℕ → Reply → Data
reply_data room name sim Begun = plain_data (codes "opened") name
reply_data room name sim (Steps taken last) =
    object (member (codes "last") (string (step_word last)) (member (codes "reply") (string (codes "step")) (member (codes "room") (text_data name)
    (member (codes "simulator") (number (unsigned sim)) (member (codes "steps") (number (unsigned taken)) no_members)))))
reply_data room name sim (Crash reply) =
    object (member (codes "last") (string (crash_word reply)) (member (codes "reply") (string (codes "crash")) (member (codes "room") (text_data name)
    (member (codes "simulator") (number (unsigned sim)) no_members))))
reply_data room name sim Settled = plain_data (codes "settled") name
reply_data room name sim (Report report) = report_data room name report
reply_data room name sim Closed = plain_data (codes "closed") name
reply_data room name sim (Refused refusal) =
    object (member (codes "fault") (numbers_data (refusal_code refusal ∷ [])) (member (codes "reply") (string (codes "refused")) (member (codes "room") (text_data name)
    (member (codes "words") (string (refusal_sentence refusal)) no_members))))

-- the numbers after a fault's code: its line, or what is wrong with the protocol, and where
abbrev pub place_numbers : Option ℕ → List ℕ
place_numbers None = []
place_numbers (Some at) = at ∷ []

abbrev pub further_numbers : SpecFault → List ℕ
further_numbers (BadLine line) = line ∷ []
further_numbers (BadProtocol fault) = protocol_code fault ∷ place_numbers (place_of fault)
further_numbers (CrashLine line) = line ∷ []
further_numbers (Repeated line) = line ∷ []
further_numbers (TaskLine line) = line ∷ []
further_numbers fault = []

-- a block that was refused, by the number of its first line
abbrev pub block_data : ℕ → List ℕ → List ℕ → Data
block_data line numbers words =
    object (member (codes "fault") (numbers_data numbers) (member (codes "line") (number (unsigned line)) (member (codes "reply") (string (codes "refused")) (member (codes "words") (string words) no_members))))

-- what was done, which left these rooms
abbrev pub done_data : Entries → Done → Data
done_data left (Replied command reply) = reply_data (room_at left (name_in command)) (name_in command) (sim_in command) reply
done_data left (Faulty line fault) = block_data line (block_code fault ∷ further_numbers fault) (sentence_of fault)
done_data left (Unread line) = block_data line (8 ∷ []) (refusal_sentence OutOfMemory)
