-- No number in the JSON of what was done has a fraction.
use Rattle.std.proofs.Common.{◌≡◌, Bool, true, false, ◌||◌, List, Option, Some, None, ℕ, refl}
use Rattle.std.specs.Prelude.{if◌then◌else◌}
use Rattle.serde_json.specs.Data.{null}
use Rattle.serde_json.specs.Written.{has_float}
use Rattle.room_spec.specs.Rooms.{is_reduction}
use Rattle.room_core.specs.Calls.{RoomState}
use Rattle.ws_history.specs.declared.states.Report.{Report as ReportData}
use Rattle.json_lines.specs.Values.{events_data, numbers_data, processes_data, row_data, text_data}
use Rattle.json_lines.proofs.CallerLemmas.{both, events_are, numbers_are, processes_are, row_is, text_is}
use Rattle.script_play.specs.Following.{decisions_at}
use Rattle.service_core.specs.declared.reply.Reply.{Reply}
use Rattle.service_core.specs.declared.reply.Reply.TheVariants.{Begun, Steps, Crash, Settled, Report, Closed, Refused}
use Rattle.view_trace.specs.Inputs.{known_inputs}
use Rattle.view_trace.specs.Json.{block_data, inputs_data, report_data, reply_data}

named : (name : List ℕ) → (has_float (text_data name) || false) ≡ false
named name = both (has_float (text_data name)) false (text_is name) refl

inputs_by : (is : Bool) (room : RoomState) → has_float (if is then row_data (known_inputs room) else null) ≡ false
inputs_by true room = row_is (known_inputs room)
inputs_by false room = refl

inputs_are : (room : Option RoomState) → has_float (inputs_data room) ≡ false
inputs_are None = refl
inputs_are (Some room) = inputs_by (is_reduction room.spec) room

report_is : (room : Option RoomState) (name : List ℕ) (report : ReportData) → has_float (report_data room name report) ≡ false
report_is room name report =
    let crashed = has_float (numbers_data report.crashed.items) in
    let decisions = has_float (row_data (decisions_at room)) in
    let events = has_float (events_data report.history) in
    let inputs = has_float (inputs_data room) in
    let states = has_float (processes_data report.states.items) in
    let last = has_float (text_data name) || false in
    both crashed (decisions || (events || (inputs || (states || last)))) (numbers_are report.crashed.items)
    (both decisions (events || (inputs || (states || last))) (row_is (decisions_at room))
    (both events (inputs || (states || last)) (events_are report.history) (both inputs (states || last) (inputs_are room) (both states last (processes_are report.states.items) (named name)))))

pub reply_is : (room : Option RoomState) (name : List ℕ) (sim : ℕ) (reply : Reply) → has_float (reply_data room name sim reply) ≡ false
reply_is room name sim Begun = named name
reply_is room name sim (Steps taken last) = named name
reply_is room name sim (Crash reply) = named name
reply_is room name sim Settled = named name
reply_is room name sim (Report report) = report_is room name report
reply_is room name sim Closed = named name
reply_is room name sim (Refused refusal) = named name

pub block_is : (line : ℕ) (numbers words : List ℕ) → has_float (block_data line numbers words) ≡ false
block_is line numbers words = both (has_float (numbers_data numbers)) false (numbers_are numbers) refl
