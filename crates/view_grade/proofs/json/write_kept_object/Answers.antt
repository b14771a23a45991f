use Rattle.std.proofs.Common.{◌∙◌, ap}
use Rattle.serde_json.specs.Written.{has_float}
use Rattle.view_grade.proofs.Floats.{kept_is}
use Rattle.view_grade.proofs.json.write_kept_object.Goals as goal

pub write_line-requires : goal.write_line-requires
write_line-requires c = ap has_float c.in_ok-value.ensures ∙ kept_is c.args.aim.now.goal.now c.args.aim.now.most (record { last = c.args.grader.now.last; moves = c.args.grader.now.moves }) c.args.broken.now
