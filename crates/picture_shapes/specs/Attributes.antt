-- The attributes of elements, and the words between tags.
use Rattle.std.specs.Prelude.{ℕ, ◌%◌, ◌||◌, ◌==◌, nat_lt, Bool, false, not, List, [], ◌∷◌, ◌++◌, codes, decimal, slice_index_or, if◌then◌else◌}
use Rattle.std.specs.List.{flat_map}
use Rattle.picture_shapes.specs.declared.colour.Colour.{Colour}
use Rattle.picture_shapes.specs.declared.colour.Colour.TheVariants.{Clear, White, Ink, Faint, Rule, Alarm, Hatched, Pale, Hue}
use Rattle.picture_shapes.specs.declared.shape.Anchor.{Anchor}
use Rattle.picture_shapes.specs.declared.shape.Anchor.TheVariants.{Start, Middle}
use Rattle.picture_shapes.specs.declared.shape.Dashes.{Dashes}
use Rattle.picture_shapes.specs.declared.shape.Dashes.TheVariants.{Solid, Short, Long}
use Rattle.picture_shapes.specs.declared.shape.Face.{Face}
use Rattle.picture_shapes.specs.declared.shape.Face.TheVariants.{Plain, Bold, Code, Struck}
use Rattle.picture_shapes.specs.declared.shape.Font.{Font}
use Rattle.picture_shapes.specs.declared.shape.Frame.{Frame}
use Rattle.picture_shapes.specs.declared.shape.Point.{Point}

-- an attribute; its name begins with a space
unfoldable pub attribute : List ℕ → List ℕ → List ℕ
attribute name value = name ++ (codes "=\"" ++ (value ++ codes "\""))

-- ---- colours

-- eight hues that differ in darkness, so that white letters on them can be read
abbrev pub hues : List (List ℕ)
hues = codes "#2f5f9e" ∷ codes "#b85c1a" ∷ codes "#14532d" ∷ codes "#b8407f" ∷ codes "#5c3310" ∷ codes "#1b7f86" ∷ codes "#4a1f7a" ∷ codes "#6b6b14" ∷ []

unfoldable pub hue_of : ℕ → List ℕ
hue_of number = slice_index_or hues (number % 8) []

unfoldable pub colour_of : Colour → List ℕ
colour_of Clear = codes "none"
colour_of White = codes "white"
colour_of Ink = codes "#1f2933"
colour_of Faint = codes "#5b6770"
colour_of Rule = codes "#d0d7de"
colour_of Alarm = codes "#b00020"
colour_of Hatched = codes "url(#hatched)"
colour_of Pale = codes "url(#pale)"
colour_of (Hue number) = hue_of number

-- ---- places and sizes

unfoldable pub standing : Point → List ℕ
standing at = attribute (codes " x") (decimal at.x) ++ attribute (codes " y") (decimal at.y)

unfoldable pub sized : ℕ → ℕ → List ℕ
sized width height = attribute (codes " width") (decimal width) ++ attribute (codes " height") (decimal height)

unfoldable pub framed : Frame → List ℕ
framed frame = standing (record { x = frame.x; y = frame.y }) ++ sized frame.width frame.height

-- ---- lines and letters

unfoldable pub dashes_of : Dashes → List ℕ
dashes_of Solid = []
dashes_of Short = codes " stroke-dasharray=\"3 2\""
dashes_of Long = codes " stroke-dasharray=\"4 4\""

unfoldable pub face_of : Face → List ℕ
face_of Plain = []
face_of Bold = codes " font-weight=\"600\""
face_of Code = codes " font-family=\"monospace\" style=\"white-space:pre\""
face_of Struck = codes " font-family=\"monospace\" text-decoration=\"line-through\""

unfoldable pub anchor_of : Anchor → List ℕ
anchor_of Start = []
anchor_of Middle = codes " text-anchor=\"middle\""

unfoldable pub font_of : Font → List ℕ
font_of font = attribute (codes " font-size") (decimal font.size) ++ (face_of font.face ++ anchor_of font.anchor)

-- ---- words

-- the byte itself if it is printable ASCII, and else a space
abbrev pub printable : ℕ → ℕ
printable byte = if nat_lt byte 32 || nat_lt 126 byte then 32 else byte

-- a byte, as it is written between tags
abbrev pub escaped_byte : ℕ → List ℕ
escaped_byte byte =
    if byte == 38 then codes "&amp;"
    else (if byte == 60 then codes "&lt;"
    else (if byte == 62 then codes "&gt;"
    else (if byte == 34 then codes "&quot;" else printable byte ∷ [])))

-- whether a byte is written as it is
abbrev pub is_plain : ℕ → Bool
is_plain byte =
    if byte == 38 then false
    else (if byte == 60 then false else (if byte == 62 then false else (if byte == 34 then false else not (nat_lt byte 32 || nat_lt 126 byte))))

unfoldable pub escaped : List ℕ → List ℕ
escaped words = flat_map escaped_byte words
