-- The whole picture.
use Rattle.std.specs.Prelude.{ℕ, ◌==◌, List, [], ◌∷◌, ◌++◌, codes, length, max, if◌then◌else◌}
use Rattle.picture_shapes.specs.declared.colour.Colour.TheVariants.{Faint, Ink}
use Rattle.picture_shapes.specs.declared.shape.Shape.{Shape}
use Rattle.picture_shapes.specs.declared.shape.Shape.TheVariants.{Label}
use Rattle.picture_shapes.specs.declared.svg.Size.{Size}
use Rattle.picture_shapes.specs.Places.{plus}
use Rattle.picture_shapes.specs.Svg.{Part, Picture}
use Rattle.run_columns.specs.declared.column.Scale.{Scale}
use Rattle.run_columns.specs.declared.column.Scale.TheVariants.{Steps, Turns, Simulators}
use Rattle.run_columns.specs.Columns.{Columns, columns_as}
use Rattle.simulator_lanes.specs.declared.fonts.TheConstants.{HEADING, WORDS}
use Rattle.simulator_lanes.specs.declared.layout.Grid.{Grid}
use Rattle.simulator_lanes.specs.declared.layout.TheConstants.{MARGIN}
use Rattle.simulator_lanes.specs.Lanes.{insides, lanes, ticks}
use Rattle.simulator_lanes.specs.Layout.{right_of, row_y, rows}
use Rattle.simulator_lanes.specs.Panels.{Panel, states_in}
use Rattle.simulator_lanes.specs.Proposals.{proposals}
use Rattle.simulator_lanes.specs.Squares.{squares}
use Rattle.simulator_lanes.specs.Turns.{turns}
use Rattle.simulator_lanes.specs.Words.{counted}
use Rattle.run_picture.specs.declared.picture.Style.{Style}
use Rattle.run_picture.specs.declared.picture.TheConstants.{MIN_WIDTH, TITLE}
use Rattle.run_picture.specs.Heads.{head_height, head_shapes, head_width}
use Rattle.run_picture.specs.History.{all_events, boxed, events_right, process_lanes, tied}
use Rattle.run_picture.specs.Legends.{legend_shapes}

-- ---- the simulators

-- what a box is, if it isn't one step
unfoldable pub scale_words : Scale → List ℕ
scale_words Steps = []
scale_words Turns = codes "each box is a stretch of one turn, with the number of its steps"
scale_words Simulators = codes "each box is a stretch of one simulator, with the number of its steps"

unfoldable pub left_out_words : ℕ → List ℕ
left_out_words count = if count == 0 then [] else codes "; after these come " ++ counted count (codes " more box") (codes " more boxes")

unfoldable pub note_words : Columns → List ℕ
note_words columns = scale_words columns.scale ++ left_out_words columns.left_out

unfoldable pub steps_title : List Shape
steps_title = Label (record { x = MARGIN; y = 18 }) HEADING Ink (codes "Step by step") ∷ []

unfoldable pub steps_heading : Columns → List Shape
steps_heading columns = steps_title ++ Label (record { x = 100; y = 18 }) WORDS Faint (note_words columns) ∷ []

-- the squares are drawn over the turns, these over what is inside an agreement, and all over the lanes
unfoldable pub steps_shapes : Grid → Panel → Columns → List Shape
steps_shapes grid panel columns =
    ticks grid columns.columns ++ (lanes grid ++ (insides grid columns.columns ++ (turns grid columns.columns ++ squares grid panel.head.spec columns.columns)))

-- ---- a room

-- how many columns a row has, so that a picture is 632 wide: in a window of 1280 pixels there is space for it and a scroll bar
abbrev pub wrap_of : Scale → ℕ
wrap_of Steps = 28
wrap_of Turns = 11
wrap_of Simulators = 11

unfoldable pub grid_of : Panel → Columns → Grid
grid_of panel columns = record {
  scale = columns.scale;
  wrap = wrap_of columns.scale;
  count = length columns.columns;
  simulators = panel.head.spec.simulators;
  processes = length (states_in panel.report);
}

-- The ties of events are drawn over the steps, the proposals over these, then the lanes of the processes, and then the events.
unfoldable pub lanes_shapes : Grid → Panel → Columns → List Shape
lanes_shapes grid panel columns =
    steps_shapes grid panel columns
    ++ (all_events tied panel columns.columns grid
    ++ (proposals grid panel columns.columns
    ++ (process_lanes grid (events_right panel columns.columns grid) panel ++ all_events boxed panel columns.columns grid)))

abbrev pub room_shapes : Panel → Columns → List Shape
room_shapes panel columns = steps_heading columns ++ lanes_shapes (grid_of panel columns) panel columns

-- how high and how wide the lanes of a room are
unfoldable pub height_with : Panel → Columns → ℕ
height_with panel columns = row_y (grid_of panel columns) (rows (grid_of panel columns))

-- After the last column there is space for the word of a crash, and after the last event a margin.
unfoldable pub width_with : Panel → Columns → ℕ
width_with panel columns =
    max (max (head_width panel.head) (plus (right_of (grid_of panel columns)) 64)) (plus (events_right panel columns.columns (grid_of panel columns)) 16)

-- what is known of a room, and under it its lanes
abbrev pub parts_with : ℕ → Panel → Columns → List Part
parts_with top panel columns =
    record { top = top; shapes = head_shapes panel.head } ∷ record { top = plus top (head_height panel.head); shapes = room_shapes panel columns } ∷ []

abbrev pub panel_columns : Style → Panel → Columns
panel_columns style panel = columns_as style.by_turns panel.marks

abbrev pub panel_parts : Style → ℕ → Panel → List Part
panel_parts style top panel = parts_with top panel (panel_columns style panel)

abbrev pub panel_height : Style → Panel → ℕ
panel_height style panel = plus (head_height panel.head) (height_with panel (panel_columns style panel))

abbrev pub panel_width : Style → Panel → ℕ
panel_width style panel = width_with panel (panel_columns style panel)

-- ---- the whole

-- the rooms one below the other from here on
abbrev pub parts_from : Style → ℕ → List Panel → List Part
parts_from style top [] = []
parts_from style top (panel ∷ panels) = panel_parts style top panel ++ parts_from style (plus top (panel_height style panel)) panels

abbrev pub bottom_from : Style → ℕ → List Panel → ℕ
bottom_from style top [] = top
bottom_from style top (panel ∷ panels) = bottom_from style (plus top (panel_height style panel)) panels

abbrev pub width_from : Style → ℕ → List Panel → ℕ
width_from style width [] = width
width_from style width (panel ∷ panels) = width_from style (max width (panel_width style panel)) panels

-- what there is to explain is below them, and 112 high
abbrev pub all_parts : Style → List Panel → List Part
all_parts style panels = parts_from style 0 panels ++ record { top = bottom_from style 0 panels; shapes = legend_shapes style panels } ∷ []

abbrev pub size_to : Style → ℕ → ℕ → Size
size_to style width bottom = record { width = width; height = plus bottom 112; percent = style.percent }

abbrev pub size_of : Style → List Panel → Size
size_of style panels = size_to style (width_from style MIN_WIDTH panels) (bottom_from style 0 panels)

-- the picture of these rooms
abbrev pub picture_of : Style → List Panel → Picture
picture_of style panels = record { size = size_of style panels; title = TITLE.now; parts = all_parts style panels }
