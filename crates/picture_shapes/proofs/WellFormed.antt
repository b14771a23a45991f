-- A picture is well-formed XML.
use Rattle.std.proofs.Common.{◌≡◌, ℕ, List, [], ◌∷◌, ◌++◌, codes, decimal, refl, subst, true, rules}
use Rattle.std.specs.List.{list_all}
use Rattle.std.proofs.lemmas.List.{append_assoc}
use Rattle.picture_shapes.specs.declared.svg.Size.{Size}
use Rattle.picture_shapes.specs.Attributes.{attribute, sized}
use Rattle.picture_shapes.specs.Shapes.{part_text, title_text}
use Rattle.picture_shapes.specs.Svg.{Part, Picture, ground, paper, parts_text, pattern, pattern_end, pattern_start, pixels, stripe, svg_of, svg_open, svg_start, svg_text, tile, view_box, view_start}
use Rattle.picture_shapes.specs.Xml.{IsDocument, is_bare}
use Rattle.picture_shapes.proofs.Attributing.{Adds, alone, bare_joined, has_size, number_is_bare, one, two}
use Rattle.picture_shapes.proofs.Elements.{Extends, both, is_part, is_title, lined, none, one_empty, one_full, whole}

is_tile : (fill : List ℕ) → list_all is_bare fill ≡ true → Extends (tile fill)
unfolding tile
is_tile fill bare =
    let attributes = sized 6 6 ++ attribute (codes " fill") fill in
    let adds : Adds attributes = two _ _ (has_size 6 6) (one (codes "fill") fill refl bare) in
    let same : 60 ∷ codes "rect" ++ (attributes ++ codes "/>") ≡ tile fill = search (rules, append_assoc) in
    subst Extends same (one_empty (codes "rect") attributes refl adds)

is_stripe : (stroke : List ℕ) → list_all is_bare stroke ≡ true → Extends (stripe stroke)
unfolding stripe
is_stripe stroke bare =
    let attributes = attribute (codes " d") (codes "M 0 0 V 6") ++ (attribute (codes " stroke-width") (codes "2") ++ attribute (codes " stroke") stroke) in
    let adds : Adds attributes = two _ _ (one (codes "d") (codes "M 0 0 V 6") refl refl) (two _ _ (one (codes "stroke-width") (codes "2") refl refl) (one (codes "stroke") stroke refl bare)) in
    let same : 60 ∷ codes "path" ++ (attributes ++ codes "/>") ≡ stripe stroke = search (rules, append_assoc) in
    subst Extends same (one_empty (codes "path") attributes refl adds)

is_pattern : (id fill stroke : List ℕ) → list_all is_bare id ≡ true → list_all is_bare fill ≡ true → list_all is_bare stroke ≡ true → Extends (pattern id fill stroke)
unfolding pattern pattern_start pattern_end
is_pattern id fill stroke bare_id bare_fill bare_stroke =
    let attributes = attribute (codes " id") id ++ (sized 6 6 ++ (attribute (codes " patternUnits") (codes "userSpaceOnUse") ++ attribute (codes " patternTransform") (codes "rotate(45)"))) in
    let adds : Adds attributes =
    two _ _ (one (codes "id") id refl bare_id) (two _ _ (has_size 6 6) (two _ _ (one (codes "patternUnits") (codes "userSpaceOnUse") refl refl) (one (codes "patternTransform") (codes "rotate(45)") refl refl))) in
    let content = tile fill ++ stripe stroke in
    let same : (60 ∷ codes "pattern" ++ (attributes ++ (codes ">" ++ (content ++ (codes "</" ++ (codes "pattern" ++ codes ">")))))) ++ codes "\n" ≡ pattern id fill stroke =
    search (rules, append_assoc) in
    lined (60 ∷ codes "pattern" ++ (attributes ++ (codes ">" ++ (content ++ (codes "</" ++ (codes "pattern" ++ codes ">")))))) _
    (one_full (codes "pattern") attributes content refl adds (both (tile fill) (stripe stroke) (is_tile fill bare_fill) (is_stripe stroke bare_stroke))) same

is_paper : Extends paper
unfolding paper
is_paper =
    let attributes = attribute (codes " width") (codes "100%") ++ (attribute (codes " height") (codes "100%") ++ attribute (codes " fill") (codes "white")) in
    let adds : Adds attributes = two _ _ (one (codes "width") (codes "100%") refl refl) (two _ _ (one (codes "height") (codes "100%") refl refl) (one (codes "fill") (codes "white") refl refl)) in
    let same : (60 ∷ codes "rect" ++ (attributes ++ codes "/>")) ++ codes "\n" ≡ paper = search (rules, append_assoc) in
    lined (60 ∷ codes "rect" ++ (attributes ++ codes "/>")) _ (one_empty (codes "rect") attributes refl adds) same

no_attribute : Adds []
no_attribute rest more = more

is_ground : Extends ground
unfolding ground
is_ground =
    let dark = pattern (codes "hatched") (codes "#f6e3c5") (codes "#a86f1d") in
    let pale = pattern (codes "pale") (codes "#fbf1e2") (codes "#d3b78e") in
    let content = codes "\n" ++ (dark ++ pale) in
    let extends : Extends content =
    both (codes "\n") (dark ++ pale) Rattle.picture_shapes.proofs.Elements.line_end (both dark pale (is_pattern _ _ _ refl refl refl) (is_pattern _ _ _ refl refl refl)) in
    let defs = (60 ∷ codes "defs" ++ ([] ++ (codes ">" ++ (content ++ (codes "</" ++ (codes "defs" ++ codes ">")))))) ++ codes "\n" in
    let same : defs ++ paper ≡ ground = search (rules, append_assoc) in
    subst Extends same (both defs paper (lined (60 ∷ codes "defs" ++ ([] ++ (codes ">" ++ (content ++ (codes "</" ++ (codes "defs" ++ codes ">")))))) defs (one_full (codes "defs") [] content refl no_attribute extends) refl) is_paper)

are_parts : (parts : List Part) → Extends (parts_text parts)
are_parts [] = none
are_parts (part ∷ parts) = both (part_text part.top part.shapes) (parts_text parts) (is_part part.top part.shapes) (are_parts parts)

-- ---- the outermost element

opens : Adds (codes " xmlns=\"http://www.w3.org/2000/svg\" role=\"img\" pointer-events=\"none\" font-family=\"Helvetica, Arial, sans-serif\"")
unfolding attribute
opens =
    let space = attribute (codes " xmlns") (codes "http://www.w3.org/2000/svg") in
    let role = attribute (codes " role") (codes "img") in
    let pointer = attribute (codes " pointer-events") (codes "none") in
    let family = attribute (codes " font-family") (codes "Helvetica, Arial, sans-serif") in
    two space (role ++ (pointer ++ family)) (one (codes "xmlns") (codes "http://www.w3.org/2000/svg") refl refl) (two role (pointer ++ family) (one (codes "role") (codes "img") refl refl)
    (two pointer family (one (codes "pointer-events") (codes "none") refl refl) (one (codes "font-family") (codes "Helvetica, Arial, sans-serif") refl refl)))

has_box : (size : Size) → Adds (view_box size)
unfolding view_box view_start attribute
has_box size =
    let value = codes "0 0" ++ (32 ∷ decimal size.width ++ 32 ∷ decimal size.height) in
    let bare : list_all is_bare value ≡ true =
    bare_joined (codes "0 0") (32 ∷ decimal size.width ++ 32 ∷ decimal size.height) refl (bare_joined (32 ∷ decimal size.width) (32 ∷ decimal size.height) (number_is_bare size.width) (number_is_bare size.height)) in
    let same : attribute (codes " viewBox") value ≡ view_box size = search (rules, append_assoc) in
    subst Adds same (one (codes "viewBox") value refl bare)

pub well_formed : (picture : Picture) → IsDocument (svg_of picture)
unfolding svg_text svg_start svg_open
well_formed picture =
    let look = codes " xmlns=\"http://www.w3.org/2000/svg\" role=\"img\" pointer-events=\"none\" font-family=\"Helvetica, Arial, sans-serif\"" in
    let size = sized (pixels picture.size picture.size.width) (pixels picture.size picture.size.height) in
    let attributes = look ++ (view_box picture.size ++ size) in
    let adds : Adds attributes = two look (view_box picture.size ++ size) opens (two (view_box picture.size) size (has_box picture.size) (has_size _ _)) in
    let title = title_text picture.title in
    let parts = parts_text picture.parts in
    let body = title ++ (ground ++ parts) in
    let content = codes "\n" ++ body in
    let extends : Extends content =
    both (codes "\n") body Rattle.picture_shapes.proofs.Elements.line_end (both title (ground ++ parts) (is_title picture.title) (both ground parts is_ground (are_parts picture.parts))) in
    record {
      name = codes "svg";
      attributes = attributes;
      content = content;
      is_name = refl;
      are_attributes = alone attributes adds;
      is_content = whole content extends;
      text_is = search (rules, append_assoc);
    }
