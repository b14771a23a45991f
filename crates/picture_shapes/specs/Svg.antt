-- A whole picture, as it is written.
use Rattle.std.specs.Prelude.{ℕ, ◌*◌, ◌/◌, ◌-◌, ◌^◌, List, ◌∷◌, ◌++◌, codes, decimal, min}
use Rattle.std.specs.List.{flat_map}
use Rattle.picture_shapes.specs.declared.shape.Shape.{Shape}
use Rattle.picture_shapes.specs.declared.svg.Size.{Size}
use Rattle.picture_shapes.specs.Attributes.{attribute, sized}
use Rattle.picture_shapes.specs.Shapes.{part_text, title_text}

-- shapes, and how far from the upper end of the picture they begin
pub record Part : Type 0 where
  pub top : ℕ
  pub shapes : List Shape

pub record Picture : Type 0 where
  pub size : Size
  pub title : List ℕ
  pub parts : List Part

-- ---- the beginning

unfoldable pub svg_open : List ℕ
svg_open =
    codes "<svg xmlns=\"http://www.w3.org/2000/svg\" role=\"img\" pointer-events=\"none\" font-family=\"Helvetica, Arial, sans-serif\""

unfoldable pub view_start : List ℕ
view_start = codes " viewBox" ++ codes "=\"0 0"

unfoldable pub view_box : Size → List ℕ
view_box size = view_start ++ (32 ∷ decimal size.width ++ (32 ∷ decimal size.height ++ codes "\""))

-- a number of units in pixels: two a unit at 100 percent
abbrev pub pixels : Size → ℕ → ℕ
pixels size units = min (units * size.percent) (2 ^ 64 - 1) / 50

unfoldable pub svg_start : Size → List ℕ
svg_start size = svg_open ++ (view_box size ++ (sized (pixels size size.width) (pixels size size.height) ++ codes ">\n"))

-- ---- hatched areas

unfoldable pub pattern_start : List ℕ → List ℕ
pattern_start id =
    codes "<pattern" ++ (attribute (codes " id") id ++ (sized 6 6 ++ (attribute (codes " patternUnits") (codes "userSpaceOnUse")
    ++ (attribute (codes " patternTransform") (codes "rotate(45)") ++ codes ">"))))

unfoldable pub tile : List ℕ → List ℕ
tile fill = codes "<rect" ++ (sized 6 6 ++ (attribute (codes " fill") fill ++ codes "/>"))

unfoldable pub stripe : List ℕ → List ℕ
stripe stroke =
    codes "<path" ++ (attribute (codes " d") (codes "M 0 0 V 6") ++ (attribute (codes " stroke-width") (codes "2")
    ++ (attribute (codes " stroke") stroke ++ codes "/>")))

unfoldable pub pattern_end : List ℕ
pattern_end = codes "</pattern>\n"

-- slanted lines
unfoldable pub pattern : List ℕ → List ℕ → List ℕ → List ℕ
pattern id fill stroke = pattern_start id ++ (tile fill ++ (stripe stroke ++ pattern_end))

unfoldable pub paper : List ℕ
paper =
    codes "<rect" ++ (attribute (codes " width") (codes "100%") ++ (attribute (codes " height") (codes "100%")
    ++ (attribute (codes " fill") (codes "white") ++ codes "/>\n")))

unfoldable pub ground : List ℕ
ground =
    codes "<defs>\n" ++ (pattern (codes "hatched") (codes "#f6e3c5") (codes "#a86f1d")
    ++ (pattern (codes "pale") (codes "#fbf1e2") (codes "#d3b78e") ++ (codes "</defs>\n" ++ paper)))

-- ---- the whole

-- a picture with these parts, which are written
unfoldable pub svg_text : Size → List ℕ → List ℕ → List ℕ
svg_text size title parts = svg_start size ++ (title_text title ++ (ground ++ (parts ++ codes "</svg>\n")))

abbrev pub parts_text : List Part → List ℕ
parts_text parts = flat_map (λ part. part_text part.top part.shapes) parts

-- what is written of a picture, from the first byte to the last
abbrev pub svg_of : Picture → List ℕ
svg_of picture = svg_text picture.size picture.title (parts_text picture.parts)
