-- Shapes, as they are written.
use Rattle.std.specs.Prelude.{ℕ, List, ◌++◌, codes, decimal}
use Rattle.std.specs.List.{flat_map}
use Rattle.picture_shapes.specs.declared.colour.Colour.{Colour}
use Rattle.picture_shapes.specs.declared.shape.Dashes.{Dashes}
use Rattle.picture_shapes.specs.declared.shape.Font.{Font}
use Rattle.picture_shapes.specs.declared.shape.Frame.{Frame}
use Rattle.picture_shapes.specs.declared.shape.Point.{Point}
use Rattle.picture_shapes.specs.declared.shape.Shape.{Shape}
use Rattle.picture_shapes.specs.declared.shape.Shape.TheVariants.{Area, Line, Label, Hint}
use Rattle.picture_shapes.specs.Attributes.{attribute, colour_of, dashes_of, escaped, font_of, framed, standing}

-- the end of an element with nothing in it
unfoldable pub stroked : Colour → Dashes → List ℕ
stroked colour dashes = attribute (codes " stroke") (colour_of colour) ++ (dashes_of dashes ++ codes "/>\n")

unfoldable pub area : Frame → ℕ → Colour → Colour → Dashes → List ℕ
area frame corner fill outline dashes =
    codes "<rect" ++ (framed frame ++ (attribute (codes " rx") (decimal corner) ++ (attribute (codes " fill") (colour_of fill) ++ stroked outline dashes)))

unfoldable pub line_ends : Point → Point → List ℕ
line_ends from to =
    attribute (codes " x1") (decimal from.x) ++ (attribute (codes " y1") (decimal from.y)
    ++ (attribute (codes " x2") (decimal to.x) ++ attribute (codes " y2") (decimal to.y)))

unfoldable pub line_width : ℕ → List ℕ
line_width width = attribute (codes " stroke-width") (decimal width)

unfoldable pub line : Point → Point → ℕ → Colour → Dashes → List ℕ
line from to width colour dashes = codes "<line" ++ (line_ends from to ++ (line_width width ++ stroked colour dashes))

unfoldable pub label_start : Point → Font → Colour → List ℕ
label_start at font colour = codes "<text" ++ (standing at ++ (font_of font ++ (attribute (codes " fill") (colour_of colour) ++ codes ">")))

unfoldable pub label : Point → Font → Colour → List ℕ → List ℕ
label at font colour words = label_start at font colour ++ (escaped words ++ codes "</text>\n")

-- a browser shows the title of an element while one points at the element
unfoldable pub title_text : List ℕ → List ℕ
title_text words = codes "<title>" ++ (escaped words ++ codes "</title>\n")

unfoldable pub hint_start_end : List ℕ
hint_start_end = codes " fill=\"none\" pointer-events=\"all\">"

unfoldable pub hint_start : Frame → List ℕ
hint_start frame = codes "<rect" ++ (framed frame ++ hint_start_end)

unfoldable pub hint : Frame → List ℕ → List ℕ
hint frame words = hint_start frame ++ (title_text words ++ codes "</rect>\n")

abbrev pub shape_text : Shape → List ℕ
shape_text (Area frame corner fill outline dashes) = area frame corner fill outline dashes
shape_text (Line from to width colour dashes) = line from to width colour dashes
shape_text (Label at font colour words) = label at font colour words
shape_text (Hint frame words) = hint frame words

unfoldable pub all_shapes : List Shape → List ℕ
all_shapes shapes = flat_map shape_text shapes

-- ---- parts

unfoldable pub part_start : ℕ → List ℕ
part_start top = codes "<g transform=\"translate(0 " ++ (decimal top ++ codes ")\">\n")

-- shapes, all this far further down
unfoldable pub part_text : ℕ → List Shape → List ℕ
part_text top shapes = part_start top ++ (all_shapes shapes ++ codes "</g>\n")
