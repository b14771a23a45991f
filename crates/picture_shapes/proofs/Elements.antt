-- Elements as they are written.
use Rattle.std.proofs.Common.{◌≡◌, ℕ, List, [], ◌∷◌, ◌++◌, codes, decimal, refl, sym, subst, true, rules}
use Rattle.std.specs.List.{flat_map, list_all}
use Rattle.std.proofs.lemmas.List.{append-nil, append_assoc}
use Rattle.picture_shapes.specs.declared.colour.Colour.{Colour}
use Rattle.picture_shapes.specs.declared.shape.Dashes.{Dashes}
use Rattle.picture_shapes.specs.declared.shape.Font.{Font}
use Rattle.picture_shapes.specs.declared.shape.Frame.{Frame}
use Rattle.picture_shapes.specs.declared.shape.Point.{Point}
use Rattle.picture_shapes.specs.declared.shape.Shape.{Shape}
use Rattle.picture_shapes.specs.declared.shape.Shape.TheVariants.{Area, Line, Label, Hint}
use Rattle.picture_shapes.specs.Attributes.{attribute, colour_of, dashes_of, escaped, font_of, framed, standing}
use Rattle.picture_shapes.specs.Shapes.{all_shapes, area, hint, hint_start, hint_start_end, label, label_start, line, line_ends, line_width, part_start, part_text, shape_text, stroked, title_text}
use Rattle.picture_shapes.specs.Xml.{IsContent, IsXmlName, byte, element, empty, is_bare, no_words, nothing, words}
use Rattle.picture_shapes.proofs.Attributing.{Adds, alone, bare_joined, has_font, is_dashed, is_framed, number, number_is_bare, one, paint, stands, two, words_written}

-- written before other content it leaves content
abbrev pub Extends : List ℕ → Type 0
Extends text = (rest : List ℕ) → IsContent rest → IsContent (text ++ rest)

pub both : (first second : List ℕ) → Extends first → Extends second → Extends (first ++ second)
both first second extends also rest more = subst IsContent (sym (append_assoc first second rest)) (extends (second ++ rest) (also rest more))

pub whole : (text : List ℕ) → Extends text → IsContent text
whole text extends = subst IsContent (append-nil text) (extends [] nothing)

pub line_end : Extends (codes "\n")
line_end rest more = words (10 ∷ []) rest (byte 10 [] refl no_words) more

pub none : Extends []
none rest more = more

pub said : (text : List ℕ) → Extends (escaped text)
said text rest more = words (escaped text) rest (words_written text) more

pub one_empty : (name attributes : List ℕ) → IsXmlName name → Adds attributes → Extends (60 ∷ name ++ (attributes ++ codes "/>"))
one_empty name attributes is_name adds rest more =
    let same : 60 ∷ name ++ (attributes ++ (codes "/>" ++ rest)) ≡ (60 ∷ name ++ (attributes ++ codes "/>")) ++ rest = search (rules, append_assoc) in
    subst IsContent same (empty name attributes rest is_name (alone attributes adds) more)

pub one_full : (name attributes content : List ℕ) → IsXmlName name → Adds attributes → Extends content
    → Extends (60 ∷ name ++ (attributes ++ (codes ">" ++ (content ++ (codes "</" ++ (name ++ codes ">"))))))
one_full name attributes content is_name adds extends rest more =
    let same : 60 ∷ name ++ (attributes ++ (codes ">" ++ (content ++ (codes "</" ++ (name ++ (codes ">" ++ rest))))))
    ≡ (60 ∷ name ++ (attributes ++ (codes ">" ++ (content ++ (codes "</" ++ (name ++ codes ">")))))) ++ rest = search (rules, append_assoc) in
    subst IsContent same (element name attributes content rest is_name (alone attributes adds) (whole content extends) more)

-- an element on a line of its own
pub lined : (text other : List ℕ) → Extends text → text ++ codes "\n" ≡ other → Extends other
lined text other extends same = subst Extends same (both text (codes "\n") extends line_end)

-- ---- shapes

is_area : (frame : Frame) (corner : ℕ) (fill outline : Colour) (dashes : Dashes) → Extends (area frame corner fill outline dashes)
unfolding area stroked
is_area frame corner fill outline dashes =
    let attributes = framed frame ++ (attribute (codes " rx") (decimal corner) ++ (attribute (codes " fill") (colour_of fill) ++ (attribute (codes " stroke") (colour_of outline) ++ dashes_of dashes))) in
    let adds : Adds attributes =
    two _ _ (is_framed frame) (two _ _ (number (codes "rx") corner refl) (two _ _ (paint (codes "fill") fill refl) (two _ _ (paint (codes "stroke") outline refl) (is_dashed dashes)))) in
    let same : (60 ∷ codes "rect" ++ (attributes ++ codes "/>")) ++ codes "\n" ≡ area frame corner fill outline dashes = search (rules, append_assoc) in
    lined (60 ∷ codes "rect" ++ (attributes ++ codes "/>")) _ (one_empty (codes "rect") attributes refl adds) same

has_ends : (from to : Point) → Adds (line_ends from to)
unfolding line_ends
has_ends from to =
    two _ _ (number (codes "x1") from.x refl) (two _ _ (number (codes "y1") from.y refl) (two _ _ (number (codes "x2") to.x refl) (number (codes "y2") to.y refl)))

is_line : (from to : Point) (width : ℕ) (colour : Colour) (dashes : Dashes) → Extends (line from to width colour dashes)
unfolding line line_width stroked
is_line from to width colour dashes =
    let attributes = line_ends from to ++ (attribute (codes " stroke-width") (decimal width) ++ (attribute (codes " stroke") (colour_of colour) ++ dashes_of dashes)) in
    let adds : Adds attributes = two _ _ (has_ends from to) (two _ _ (number (codes "stroke-width") width refl) (two _ _ (paint (codes "stroke") colour refl) (is_dashed dashes))) in
    let same : (60 ∷ codes "line" ++ (attributes ++ codes "/>")) ++ codes "\n" ≡ line from to width colour dashes = search (rules, append_assoc) in
    lined (60 ∷ codes "line" ++ (attributes ++ codes "/>")) _ (one_empty (codes "line") attributes refl adds) same

is_label : (at : Point) (font : Font) (colour : Colour) (text : List ℕ) → Extends (label at font colour text)
unfolding label label_start
is_label at font colour text =
    let attributes = standing at ++ (font_of font ++ attribute (codes " fill") (colour_of colour)) in
    let adds : Adds attributes = two _ _ (stands at) (two _ _ (has_font font) (paint (codes "fill") colour refl)) in
    let same : (60 ∷ codes "text" ++ (attributes ++ (codes ">" ++ (escaped text ++ (codes "</" ++ (codes "text" ++ codes ">")))))) ++ codes "\n" ≡ label at font colour text =
    search (rules, append_assoc) in
    lined (60 ∷ codes "text" ++ (attributes ++ (codes ">" ++ (escaped text ++ (codes "</" ++ (codes "text" ++ codes ">")))))) _
    (one_full (codes "text") attributes (escaped text) refl adds (said text)) same

no_attribute : Adds []
no_attribute rest more = more

pub is_title : (text : List ℕ) → Extends (title_text text)
unfolding title_text
is_title text =
    let same : (60 ∷ codes "title" ++ ([] ++ (codes ">" ++ (escaped text ++ (codes "</" ++ (codes "title" ++ codes ">")))))) ++ codes "\n" ≡ title_text text =
    search (rules, append_assoc) in
    lined (60 ∷ codes "title" ++ ([] ++ (codes ">" ++ (escaped text ++ (codes "</" ++ (codes "title" ++ codes ">")))))) _
    (one_full (codes "title") [] (escaped text) refl no_attribute (said text)) same

is_hint : (frame : Frame) (text : List ℕ) → Extends (hint frame text)
unfolding hint hint_start hint_start_end attribute
is_hint frame text =
    let filled = attribute (codes " fill") (codes "none") in
    let pointed = attribute (codes " pointer-events") (codes "all") in
    let clear = filled ++ pointed in
    let adds : Adds (framed frame ++ clear) =
    two (framed frame) clear (is_framed frame) (two filled pointed (one (codes "fill") (codes "none") refl refl) (one (codes "pointer-events") (codes "all") refl refl)) in
    let same : (60 ∷ codes "rect" ++ ((framed frame ++ clear) ++ (codes ">" ++ (title_text text ++ (codes "</" ++ (codes "rect" ++ codes ">")))))) ++ codes "\n" ≡ hint frame text =
    search (rules, append_assoc) in
    lined (60 ∷ codes "rect" ++ ((framed frame ++ clear) ++ (codes ">" ++ (title_text text ++ (codes "</" ++ (codes "rect" ++ codes ">")))))) _
    (one_full (codes "rect") (framed frame ++ clear) (title_text text) refl adds (is_title text)) same

is_shape : (shape : Shape) → Extends (shape_text shape)
is_shape (Area frame corner fill outline dashes) = is_area frame corner fill outline dashes
is_shape (Line from to width colour dashes) = is_line from to width colour dashes
is_shape (Label at font colour text) = is_label at font colour text
is_shape (Hint frame text) = is_hint frame text

are_shapes : (shapes : List Shape) → Extends (all_shapes shapes)
unfolding all_shapes
are_shapes [] = none
are_shapes (shape ∷ shapes) = both (shape_text shape) (flat_map shape_text shapes) (is_shape shape) (are_shapes shapes)

-- ---- parts

moved : (top : ℕ) → Adds (codes " transform=\"translate(0 " ++ (decimal top ++ codes ")\""))
unfolding attribute
moved top =
    let bare : list_all is_bare (codes "translate(0 " ++ (decimal top ++ codes ")")) ≡ true =
    bare_joined (codes "translate(0 ") (decimal top ++ codes ")") refl (bare_joined (decimal top) (codes ")") (number_is_bare top) refl) in
    let same : attribute (codes " transform") (codes "translate(0 " ++ (decimal top ++ codes ")")) ≡ codes " transform=\"translate(0 " ++ (decimal top ++ codes ")\"") = search (rules, append_assoc) in
    subst Adds same (one (codes "transform") (codes "translate(0 " ++ (decimal top ++ codes ")")) refl bare)

pub is_part : (top : ℕ) (shapes : List Shape) → Extends (part_text top shapes)
unfolding part_text part_start
is_part top shapes =
    let attributes = codes " transform=\"translate(0 " ++ (decimal top ++ codes ")\"") in
    let content = codes "\n" ++ all_shapes shapes in
    let same : (60 ∷ codes "g" ++ (attributes ++ (codes ">" ++ (content ++ (codes "</" ++ (codes "g" ++ codes ">")))))) ++ codes "\n" ≡ part_text top shapes = search (rules, append_assoc) in
    lined (60 ∷ codes "g" ++ (attributes ++ (codes ">" ++ (content ++ (codes "</" ++ (codes "g" ++ codes ">")))))) _
    (one_full (codes "g") attributes content refl (moved top) (both (codes "\n") (all_shapes shapes) line_end (are_shapes shapes))) same
