use Rattle.std.proofs.Common.{◌∙◌, ℕ, List, ◌++◌, ap}
use Rattle.picture_shapes.specs.Svg.{svg_of}
use Rattle.simulator_lanes.specs.Panels.{Panel}
use Rattle.run_picture.specs.Picture.{picture_of}
use Rattle.view_draw.proofs.playing.picture_of.Goals as goal

pub returns : goal.returns
returns c = record {
  at_end = c.finish_all.new.panels.items;
  finished_are = c.in_ok-finish_all.ensures;
  output_is = c.in_ok-write_picture.ensures ∙ ap (λ (t : List ℕ). t ++ svg_of (picture_of c.args.style c.deref.result.now)) c.new-output.ensures ∙ ap (λ (panels : List Panel). svg_of (picture_of c.args.style panels)) c.deref.ensures.value;
}
