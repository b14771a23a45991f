-- The lanes of the processes: each event at the step at which it takes effect, and the state of each process.
use Rattle.std.specs.Prelude.{ℕ, ◌+◌, ◌-◌, ◌*◌, ◌/◌, ◌==◌, Option, Some, None, List, [], ◌∷◌, ◌++◌, codes, decimal, fold, length, max, min, slice_index_or, if◌then◌else◌}
use Rattle.std.specs.List.{flat_map, range_with_len}
use Rattle.transcript.specs.declared.event.Event.{Event}
use Rattle.transcript.specs.declared.event.Event.TheVariants.{Write, Snap, Decide}
use Rattle.transcript.specs.Grammar.{entry_text}
use Rattle.transcript.specs.Runs.{process_of}
use Rattle.ws_history.specs.declared.states.ProcessState.{ProcessState}
use Rattle.ws_history.specs.declared.states.ProcessState.TheVariants.{Decided, Spent, Held, Going}
use Rattle.picture_shapes.specs.declared.colour.Colour.{Colour}
use Rattle.picture_shapes.specs.declared.colour.Colour.TheVariants.{Alarm, Faint, Hue, Ink, White}
use Rattle.picture_shapes.specs.declared.shape.Dashes.{Dashes}
use Rattle.picture_shapes.specs.declared.shape.Dashes.TheVariants.{Long, Solid}
use Rattle.picture_shapes.specs.declared.shape.Point.{Point}
use Rattle.picture_shapes.specs.declared.shape.Shape.{Shape}
use Rattle.picture_shapes.specs.declared.shape.Shape.TheVariants.{Area, Hint, Label, Line}
use Rattle.picture_shapes.specs.Places.{frame_at, moved, plus}
use Rattle.run_columns.specs.declared.column.Column.{Column}
use Rattle.run_columns.specs.Columns.{simulator_of}
use Rattle.run_columns.specs.Effects.{column_of, event_step, round_at}
use Rattle.simulator_lanes.specs.declared.fonts.TheConstants.{EVENT, SMALL, WORDS}
use Rattle.simulator_lanes.specs.declared.layout.Grid.{Grid}
use Rattle.simulator_lanes.specs.declared.layout.TheConstants.{LEFT, MARGIN}
use Rattle.simulator_lanes.specs.Layout.{cell, column_x, dashes_for, process_y, right_of, row_of, row_right, rows}
use Rattle.simulator_lanes.specs.Panels.{Panel, events_in, states_in, words_in}
use Rattle.simulator_lanes.specs.Words.{process_name, simulator_name}
use Rattle.run_picture.specs.declared.history.Pen.{Pen}
use Rattle.run_picture.specs.Opens.{open_shapes}
use Rattle.run_picture.specs.Stopped.{is_one_left}

-- ---- events

abbrev pub entries_text : List (Option ℕ) → List ℕ
entries_text entries = flat_map (λ entry. 32 ∷ entry_text entry) entries

-- write 7, snap 7 3 ., decide 3
unfoldable pub event_words : Event → List ℕ
event_words (Write p v) = codes "write " ++ decimal v
event_words (Snap p row) = codes "snap" ++ entries_text row.items
event_words (Decide p v) = codes "decide " ++ decimal v

-- how wide the box of these words is, and how far the next is from it
abbrev pub box_width : List ℕ → ℕ
box_width words = 7 * min (length words) 200 + 14

abbrev pub event_width : Event → ℕ
event_width event = box_width (event_words event) + 6

-- the fill of its box, the colour of its words, and how round the corners are: a decision is filled, and a snapshot has round ends
abbrev pub event_look : Event → Colour × Colour × ℕ
event_look (Write p v) = (White, Ink, 3)
event_look (Snap p row) = (White, Ink, 11)
event_look (Decide p v) = (Hue p, White, 3)

unfoldable pub event_hint : ℕ → List ℕ → List ℕ
event_hint process words = process_name process ++ (codes ": " ++ words)

-- an event with these words, from this point on
unfoldable pub event_box : Point → Event → List ℕ → List Shape
event_box start event words =
    Area (frame_at start (box_width words) 22) (event_look event).2 (event_look event).0 (Hue (process_of event)) (dashes_for (process_of event))
    ∷ Label (moved start (box_width words / 2) 15) EVENT (event_look event).1 words
    ∷ Hint (frame_at start (box_width words) 22) (event_hint (process_of event) words)
    ∷ []

-- ---- the events of a process

-- an event begins at its column, or after the event before it if that is in the way
abbrev pub event_x : Grid → Pen → Column → ℕ
event_x grid pen column =
    if row_of grid column.place == pen.row then max (column_x grid column.place) pen.x else column_x grid column.place

unfoldable pub event_start : Grid → Pen → Event → Column → Point
event_start grid pen event column =
    record { x = event_x grid pen column; y = process_y grid (row_of grid column.place) (process_of event) }

-- two thin lines from a step's square, down and then to the event that takes effect there
unfoldable pub tie : Point → Point → Colour → List Shape
tie corner start hue =
    Line (moved corner 8 24) (record { x = plus corner.x 8; y = start.y - 6 }) 1 hue Solid
    ∷ Line (record { x = plus corner.x 8; y = start.y - 6 }) (moved start 8 0) 1 hue Solid
    ∷ []

-- what is drawn of an event that begins at a point, and of its column
abbrev pub Drawing : Type 0
Drawing = Grid → Point → Event → Column → List Shape

unfoldable pub tied : Drawing
tied grid start event column = tie (cell grid (simulator_of column.first) column.place) start (Hue (process_of event))

abbrev pub boxed : Drawing
boxed grid start event column = event_box start event (event_words event)

-- an event whose step no column shows isn't drawn
abbrev pub event_shapes : Drawing → Grid → Pen → Event → Option Column → List Shape
event_shapes drawing grid pen event None = []
event_shapes drawing grid pen event (Some column) = drawing grid (event_start grid pen event column) event column

abbrev pub pen_after : Grid → Pen → Event → Option Column → Pen
pen_after grid pen event None = record pen { round = round_at pen.round event }
pen_after grid pen event (Some column) = record {
  round = round_at pen.round event;
  row = row_of grid column.place;
  x = plus (event_x grid pen column) (event_width event);
  right = max pen.right (plus (event_x grid pen column) (event_width event));
}

-- the column of an event, after what is drawn so far
abbrev pub column_for : Panel → List Column → Pen → Event → Option Column
column_for panel columns pen event = column_of columns (event_step (words_in panel) panel.marks (round_at pen.round event) event)

-- an event of any process, for the lane of this one
abbrev pub own_shapes : Drawing → Panel → List Column → Grid → ℕ → Pen → Event → List Shape
own_shapes drawing panel columns grid process pen event =
    if process_of event == process then event_shapes drawing grid pen event (column_for panel columns pen event) else []

abbrev pub own_pen : Panel → List Column → Grid → ℕ → Pen → Event → Pen
own_pen panel columns grid process pen event =
    if process_of event == process then pen_after grid pen event (column_for panel columns pen event) else pen

abbrev pub events_from : Drawing → Panel → List Column → Grid → ℕ → Pen → List Event → List Shape
events_from drawing panel columns grid process pen [] = []
events_from drawing panel columns grid process pen (event ∷ events) =
    own_shapes drawing panel columns grid process pen event
    ++ events_from drawing panel columns grid process (own_pen panel columns grid process pen event) events

abbrev pub first_pen : Pen
first_pen = record { round = 0; row = 0; x = 0; right = 0 }

unfoldable pub lane_events : Drawing → Panel → List Column → Grid → ℕ → List Shape
lane_events drawing panel columns grid process = events_from drawing panel columns grid process first_pen (events_in panel.report)

unfoldable pub lane_right : Panel → List Column → Grid → ℕ → ℕ
lane_right panel columns grid process = (fold (own_pen panel columns grid process) first_pen (events_in panel.report)).right

unfoldable pub all_events : Drawing → Panel → List Column → Grid → List Shape
all_events drawing panel columns grid = flat_map (lane_events drawing panel columns grid) (range_with_len 0 grid.processes)

-- how far right the events and all columns reach

unfoldable pub events_right : Panel → List Column → Grid → ℕ
events_right panel columns grid =
    fold (λ right process. max right (lane_right panel columns grid process)) (right_of grid) (range_with_len 0 grid.processes)

-- ---- lanes

-- what is said of a process; one that isn't through may go on if some simulator can
unfoldable pub state_words : Panel → ProcessState → List ℕ
state_words panel (Decided value) = codes "decided " ++ decimal value
state_words panel Spent = codes "spent"
state_words panel (Held simulator) = codes "held by " ++ simulator_name simulator
state_words panel Going = if is_one_left panel then codes "may still go on" else codes "no simulator left"

-- the colour of these words and of its line, which is dashed if it isn't through
abbrev pub state_look : ProcessState → Colour × Dashes
state_look (Decided value) = (Faint, Solid)
state_look Spent = (Faint, Solid)
state_look (Held simulator) = (Alarm, Long)
state_look Going = (Faint, Long)

-- the name of a process and the line of its lane, with what is said under the name
unfoldable pub lane_line : ℕ → ℕ → ℕ → List ℕ → Colour → Dashes → List Shape
lane_line y right process words colour dashes =
    Label (moved (record { x = MARGIN; y = y }) 0 11) WORDS (Hue process) (process_name process)
    ∷ Label (moved (record { x = MARGIN; y = y }) 0 23) SMALL colour words
    ∷ Line (moved (record { x = LEFT - 6; y = y }) 0 11) (moved (record { x = right; y = y }) 0 11) 1 colour dashes
    ∷ []

-- in the last row is the state of the process
abbrev pub last_line : ℕ → ℕ → Panel → ℕ → ProcessState → List Shape
last_line y right panel process state = lane_line y right process (state_words panel state) (state_look state).0 (state_look state).1

-- in the last row, also the proposals that may still be chosen
abbrev pub process_lane : Grid → ℕ → Panel → ℕ → ℕ → List Shape
process_lane grid right panel row process =
    if row + 1 == rows grid then last_line (process_y grid row process) right panel process (slice_index_or (states_in panel.report) process Going) ++ open_shapes (process_y grid row process) panel process
    else lane_line (process_y grid row process) (row_right grid row) process [] Faint Solid

unfoldable pub row_processes : Grid → ℕ → Panel → ℕ → List Shape
row_processes grid right panel row = flat_map (process_lane grid right panel row) (range_with_len 0 (length (states_in panel.report)))

unfoldable pub process_lanes : Grid → ℕ → Panel → List Shape
process_lanes grid right panel = flat_map (row_processes grid right panel) (range_with_len 0 (rows grid))
