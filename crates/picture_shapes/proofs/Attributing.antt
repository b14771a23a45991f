-- Attributes and words as they are written.
use Rattle.std.proofs.Common.{◌≡◌, ◌∙◌, ℕ, zero, suc, if◌then◌else◌, ◌<◌, ◌/◌, ◌%◌, ◌==◌, ◌||◌, Bool, true, false, List, [], ◌∷◌, ◌++◌, codes, decimal, nat_lt, slice_index_or, refl, sym, subst, rules, arith}
use Rattle.std.specs.List.{flat_map, list_all}
use Rattle.std.proofs.lemmas.List.{append-nil, append_assoc}
use Rattle.std.proofs.lemmas.List.Folds.{list_all-append}
use Rattle.std.specs.Fmt.{digits, digits_onto, digit_glyph}
use Rattle.picture_shapes.specs.declared.colour.Colour.{Colour}
use Rattle.picture_shapes.specs.declared.colour.Colour.TheVariants.{Clear, White, Ink, Faint, Rule, Alarm, Hatched, Pale, Hue}
use Rattle.picture_shapes.specs.declared.shape.Anchor.{Anchor}
use Rattle.picture_shapes.specs.declared.shape.Anchor.TheVariants.{Start, Middle}
use Rattle.picture_shapes.specs.declared.shape.Dashes.{Dashes}
use Rattle.picture_shapes.specs.declared.shape.Dashes.TheVariants.{Solid, Short, Long}
use Rattle.picture_shapes.specs.declared.shape.Face.{Face}
use Rattle.picture_shapes.specs.declared.shape.Face.TheVariants.{Plain, Bold, Code, Struck}
use Rattle.picture_shapes.specs.declared.shape.Font.{Font}
use Rattle.picture_shapes.specs.declared.shape.Frame.{Frame}
use Rattle.picture_shapes.specs.declared.shape.Point.{Point}
use Rattle.picture_shapes.specs.Attributes.{anchor_of, attribute, colour_of, dashes_of, escaped, escaped_byte, face_of, font_of, framed, hue_of, hues, printable, sized, standing}
use Rattle.picture_shapes.specs.Xml.{AreAttributes, AreWords, IsXmlName, ampersand, entity, greater, is_bare, is_mark, less, no_attributes, no_words, quote}

-- written before other attributes it leaves attributes
abbrev pub Adds : List ℕ → Type 0
Adds text = (rest : List ℕ) → AreAttributes rest → AreAttributes (text ++ rest)

pub two : (first second : List ℕ) → Adds first → Adds second → Adds (first ++ second)
two first second adds also rest more = subst AreAttributes (sym (append_assoc first second rest)) (adds (second ++ rest) (also rest more))

pub alone : (text : List ℕ) → Adds text → AreAttributes text
alone text adds = subst AreAttributes (append-nil text) (adds [] no_attributes)

pub one : (name value : List ℕ) → IsXmlName name → list_all is_bare value ≡ true → Adds (attribute (32 ∷ name) value)
unfolding attribute
one name value is_name is_value rest more =
    let same : 32 ∷ name ++ (codes "=\"" ++ (value ++ (codes "\"" ++ rest))) ≡ (32 ∷ name ++ (codes "=\"" ++ (value ++ codes "\""))) ++ rest = search (rules, append_assoc) in
    subst AreAttributes same (Rattle.picture_shapes.specs.Xml.attribute name value rest is_name is_value more)

pub bare_joined : (first second : List ℕ) → list_all is_bare first ≡ true → list_all is_bare second ≡ true → list_all is_bare (first ++ second) ≡ true
bare_joined first second left right = list_all-append is_bare first second ∙ rw (left, right) refl

-- ---- numbers

glyph_is_bare : (d : ℕ) → d < 10 → is_bare (digit_glyph false d) ≡ true
glyph_is_bare zero low = refl
glyph_is_bare (suc zero) low = refl
glyph_is_bare (suc (suc zero)) low = refl
glyph_is_bare (suc (suc (suc zero))) low = refl
glyph_is_bare (suc (suc (suc (suc zero)))) low = refl
glyph_is_bare (suc (suc (suc (suc (suc zero))))) low = refl
glyph_is_bare (suc (suc (suc (suc (suc (suc zero)))))) low = refl
glyph_is_bare (suc (suc (suc (suc (suc (suc (suc zero))))))) low = refl
glyph_is_bare (suc (suc (suc (suc (suc (suc (suc (suc zero)))))))) low = refl
glyph_is_bare (suc (suc (suc (suc (suc (suc (suc (suc (suc zero))))))))) low = refl
glyph_is_bare (suc (suc (suc (suc (suc (suc (suc (suc (suc (suc d)))))))))) low = absurd (omega (arith, low))

bare_if : (last : Bool) (one other : List ℕ) → list_all is_bare one ≡ true → list_all is_bare other ≡ true → list_all is_bare (if last then one else other) ≡ true
bare_if true one other left right = left
bare_if false one other left right = right

digits_are_bare : (k n : ℕ) (after : List ℕ) → list_all is_bare after ≡ true → list_all is_bare (digits_onto k 10 false n after) ≡ true
digits_are_bare zero n after bare = bare
digits_are_bare (suc k) n after bare =
    let first : is_bare (digit_glyph false (n % 10)) ≡ true = glyph_is_bare (n % 10) (omega arith) in
    let both : list_all is_bare (digit_glyph false (n % 10) ∷ after) ≡ true = rw (first, bare) refl in
    bare_if (n / 10 == 0) _ _ both (digits_are_bare k (n / 10) (digit_glyph false (n % 10) ∷ after) both)

pub number_is_bare : (n : ℕ) → list_all is_bare (decimal n) ≡ true
unfolding digits
number_is_bare n = digits_are_bare 64 n [] refl

pub number : (name : List ℕ) (n : ℕ) → IsXmlName name → Adds (attribute (32 ∷ name) (decimal n))
number name n is_name = one name (decimal n) is_name (number_is_bare n)

-- ---- colours

hue_is_bare : (n : ℕ) → list_all is_bare (slice_index_or hues n []) ≡ true
hue_is_bare zero = refl
hue_is_bare (suc zero) = refl
hue_is_bare (suc (suc zero)) = refl
hue_is_bare (suc (suc (suc zero))) = refl
hue_is_bare (suc (suc (suc (suc zero)))) = refl
hue_is_bare (suc (suc (suc (suc (suc zero))))) = refl
hue_is_bare (suc (suc (suc (suc (suc (suc zero)))))) = refl
hue_is_bare (suc (suc (suc (suc (suc (suc (suc zero))))))) = refl
hue_is_bare (suc (suc (suc (suc (suc (suc (suc (suc n)))))))) = refl

colour_is_bare : (colour : Colour) → list_all is_bare (colour_of colour) ≡ true
unfolding colour_of hue_of
colour_is_bare Clear = refl
colour_is_bare White = refl
colour_is_bare Ink = refl
colour_is_bare Faint = refl
colour_is_bare Rule = refl
colour_is_bare Alarm = refl
colour_is_bare Hatched = refl
colour_is_bare Pale = refl
colour_is_bare (Hue number) = hue_is_bare (number % 8)

pub paint : (name : List ℕ) (colour : Colour) → IsXmlName name → Adds (attribute (32 ∷ name) (colour_of colour))
paint name colour is_name = one name (colour_of colour) is_name (colour_is_bare colour)

-- ---- places and sizes

pub stands : (at : Point) → Adds (standing at)
unfolding standing
stands at = two _ _ (number (codes "x") at.x refl) (number (codes "y") at.y refl)

pub has_size : (width height : ℕ) → Adds (sized width height)
unfolding sized
has_size width height = two _ _ (number (codes "width") width refl) (number (codes "height") height refl)

pub is_framed : (frame : Frame) → Adds (framed frame)
unfolding framed
is_framed frame = two _ _ (stands (record { x = frame.x; y = frame.y })) (has_size frame.width frame.height)

-- ---- lines and letters

nothing_more : Adds []
nothing_more rest more = more

pub is_dashed : (dashes : Dashes) → Adds (dashes_of dashes)
unfolding dashes_of attribute
is_dashed Solid = nothing_more
is_dashed Short = one (codes "stroke-dasharray") (codes "3 2") refl refl
is_dashed Long = one (codes "stroke-dasharray") (codes "4 4") refl refl

has_face : (face : Face) → Adds (face_of face)
unfolding face_of attribute
has_face Plain = nothing_more
has_face Bold = one (codes "font-weight") (codes "600") refl refl
has_face Code =
    two (codes " font-family=\"monospace\"") (codes " style=\"white-space:pre\"") (one (codes "font-family") (codes "monospace") refl refl)
    (one (codes "style") (codes "white-space:pre") refl refl)
has_face Struck =
    two (codes " font-family=\"monospace\"") (codes " text-decoration=\"line-through\"") (one (codes "font-family") (codes "monospace") refl refl)
    (one (codes "text-decoration") (codes "line-through") refl refl)

has_anchor : (anchor : Anchor) → Adds (anchor_of anchor)
unfolding anchor_of attribute
has_anchor Start = nothing_more
has_anchor Middle = one (codes "text-anchor") (codes "middle") refl refl

pub has_font : (font : Font) → Adds (font_of font)
unfolding font_of
has_font font = two _ _ (number (codes "font-size") font.size refl) (two _ _ (has_face font.face) (has_anchor font.anchor))

-- ---- words

or_true : (a : Bool) → (a || true) ≡ true
or_true true = refl
or_true false = refl

bare_from : (b : ℕ) (outside : Bool) → (nat_lt b 32 || nat_lt 126 b) ≡ outside → is_mark b ≡ false → is_bare (if outside then 32 else b) ≡ true
bare_from b true is no_mark = refl
bare_from b false is no_mark = rw (is, no_mark) (or_true (b == 10))

printable_is_bare : (b : ℕ) → is_mark b ≡ false → is_bare (printable b) ≡ true
printable_is_bare b no_mark = bare_from b (nat_lt b 32 || nat_lt 126 b) refl no_mark

byte_written : (b : ℕ) (rest : List ℕ) → AreWords rest → AreWords (escaped_byte b ++ rest)
byte_written b rest more = by_marks (b == 38) (b == 60) (b == 62) (b == 34) refl refl refl refl
  where
    by_marks : (and less_than more_than quoted : Bool) → (b == 38) ≡ and → (b == 60) ≡ less_than → (b == 62) ≡ more_than → (b == 34) ≡ quoted
        → AreWords ((if and then codes "&amp;" else (if less_than then codes "&lt;" else (if more_than then codes "&gt;" else (if quoted then codes "&quot;" else printable b ∷ [])))) ++ rest)
    by_marks true l g q is_and is_less is_more is_quote = entity (codes "&amp;") rest ampersand more
    by_marks false true g q is_and is_less is_more is_quote = entity (codes "&lt;") rest less more
    by_marks false false true q is_and is_less is_more is_quote = entity (codes "&gt;") rest greater more
    by_marks false false false true is_and is_less is_more is_quote = entity (codes "&quot;") rest quote more
    by_marks false false false false is_and is_less is_more is_quote =
        Rattle.picture_shapes.specs.Xml.byte (printable b) rest (printable_is_bare b (rw (is_and, is_less, is_more, is_quote) refl)) more

pub words_written : (words : List ℕ) → AreWords (escaped words)
unfolding escaped
words_written [] = no_words
words_written (b ∷ bs) = byte_written b (flat_map escaped_byte bs) (words_written bs)
