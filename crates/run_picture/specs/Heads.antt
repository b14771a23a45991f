-- What is above the lanes of a room: its name, its numbers, and its protocol as the author wrote it.
use Rattle.std.specs.Prelude.{ℕ, ◌+◌, ◌*◌, ◌==◌, Bool, List, [], ◌∷◌, ◌++◌, codes, decimal, length, min, Option, Some, None, if◌then◌else◌}
use Rattle.std.specs.List.{flat_map}
use Rattle.std.specs.Str.{bytes_eq}
use Rattle.room_spec.specs.Rooms.{RoomSpec, is_reduction, processes}
use Rattle.room_files.specs.Lines.{text_lines}
use Rattle.picture_shapes.specs.declared.colour.Colour.TheVariants.{Faint, Ink}
use Rattle.picture_shapes.specs.declared.shape.Shape.{Shape}
use Rattle.picture_shapes.specs.declared.shape.Shape.TheVariants.{Hint, Label}
use Rattle.picture_shapes.specs.Places.{frame_at}
use Rattle.simulator_lanes.specs.declared.fonts.TheConstants.{CODE, TITLE, WORDS}
use Rattle.simulator_lanes.specs.declared.layout.TheConstants.{MARGIN}
use Rattle.simulator_lanes.specs.declared.panel.Head.{Head}
use Rattle.simulator_lanes.specs.Words.{clipped, counted}
use Rattle.run_picture.specs.declared.head.TheConstants.{MAX_LINES}

unfoldable pub inputs_words : List ℕ → List ℕ
inputs_words inputs = flat_map (λ input. 32 ∷ decimal input) inputs

unfoldable pub inputs_count : ℕ → List ℕ
inputs_count count = counted count (codes " process with input") (codes " processes with inputs")

unfoldable pub processes_words : List ℕ → List ℕ
processes_words inputs = inputs_count (length inputs) ++ inputs_words inputs

unfoldable pub rounds_words : ℕ → List ℕ
rounds_words rounds = codes ", " ++ counted rounds (codes " round") (codes " rounds")

unfoldable pub numbers_words : ℕ → ℕ → List ℕ
numbers_words simulators rounds =
    codes ", " ++ (counted simulators (codes " simulator") (codes " simulators") ++ rounds_words rounds)

-- 2 processes with inputs 7 3, 2 simulators, 1 round
unfoldable pub ordinary_words : RoomSpec → List ℕ
ordinary_words spec = processes_words spec.inputs ++ numbers_words spec.simulators spec.rounds

-- the simulators of a reduction have the inputs
unfoldable pub own_count : ℕ → List ℕ
own_count count = counted count (codes " simulator with input") (codes " simulators with inputs")

abbrev pub own_input : Option ℕ → List ℕ
own_input None = []
own_input (Some own) = 32 ∷ decimal own

unfoldable pub own_words : ℕ → List ℕ → List ℕ
own_words simulators own = codes ", " ++ (own_count simulators ++ inputs_words own)

-- 3 processes, 2 simulators with inputs 7 3, 1 round
unfoldable pub reduction_words : RoomSpec → List ℕ
reduction_words spec =
    counted (processes spec) (codes " process") (codes " processes") ++ (own_words spec.simulators spec.own ++ rounds_words spec.rounds)

abbrev pub room_words : RoomSpec → List ℕ
room_words spec = if is_reduction spec then reduction_words spec else ordinary_words spec

-- ---- the protocol

abbrev pub is_protocol : List ℕ → Bool
is_protocol line = bytes_eq line (codes "protocol")

abbrev pub is_end : List ℕ → Bool
is_end line = bytes_eq line (codes "end")

-- the lines after the first line `protocol`
abbrev pub after_protocol : List (List ℕ) → List (List ℕ)
after_protocol [] = []
after_protocol (line ∷ lines) = if is_protocol line then lines else after_protocol lines

-- the lines before the first line `end`
abbrev pub before_end : List (List ℕ) → List (List ℕ)
before_end [] = []
before_end (line ∷ lines) = if is_end line then [] else line ∷ before_end lines

-- the lines of a block's protocol, as its author wrote them
abbrev pub protocol_lines : List ℕ → List (List ℕ)
protocol_lines block = before_end (after_protocol (text_lines block))

-- of a long line the beginning is shown; a hint has the whole
unfoldable pub line_shapes : ℕ → List ℕ → List Shape
line_shapes index line =
    Label (record { x = MARGIN; y = 61 + 13 * index }) CODE Faint (clipped 84 line)
    ∷ Hint (frame_at (record { x = MARGIN; y = 51 + 13 * index }) 600 13) line
    ∷ []

unfoldable pub more_shapes : ℕ → List Shape
more_shapes index = Label (record { x = MARGIN; y = 61 + 13 * index }) CODE Faint (codes "..") ∷ []

-- the lines one below the other, of which this many come before; at most as many as there is space for
abbrev pub lines_from : ℕ → List (List ℕ) → List Shape
lines_from index [] = []
lines_from index (line ∷ lines) = if index == MAX_LINES then more_shapes index else line_shapes index line ++ lines_from (index + 1) lines

-- ---- the whole

unfoldable pub title_shapes : RoomSpec → List Shape
title_shapes spec = Label (record { x = MARGIN; y = 26 }) TITLE Ink spec.name ∷ Label (record { x = MARGIN; y = 44 }) WORDS Faint (room_words spec) ∷ []

abbrev pub head_shapes : Head → List Shape
head_shapes head = title_shapes head.spec ++ lines_from 0 (protocol_lines head.block.items)

-- as many lines as are drawn
abbrev pub shown_lines : List (List ℕ) → ℕ
shown_lines lines = min (length lines) (MAX_LINES + 1)

abbrev pub head_height : Head → ℕ
head_height head = 67 + 13 * shown_lines (protocol_lines head.block.items)

-- about 7 for each byte of the numbers
unfoldable pub head_width : Head → ℕ
head_width head = 7 * min (length (room_words head.spec)) 1000 + 32
