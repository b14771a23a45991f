use Rattle.std.proofs.Common.{◌≡◌, ◌++◌, drop}
use Rattle.picture_shapes.specs.Svg.{parts_text}
use Rattle.run_picture.specs.Picture.{bottom_from, parts_from, width_from}
use Rattle.run_picture.proofs.picture.write_panels.Given as goal

abbrev pub invariant-loop-panel : goal.invariant-loop-panel
invariant-loop-panel l =
    (l.output ++ parts_text (parts_from l.style l.bottom (drop l.panel-index l.panels)) ≡ parts_text (parts_from l.style 0 l.panels))
    × (bottom_from l.style l.bottom (drop l.panel-index l.panels) ≡ bottom_from l.style 0 l.panels)
    × (width_from l.style l.width (drop l.panel-index l.panels) ≡ width_from l.style 632 l.panels)
