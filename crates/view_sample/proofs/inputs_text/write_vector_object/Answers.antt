use Rattle.std.proofs.Common.{◌∙◌, ap}
use Rattle.std.specs.Prelude.{option_map}
use Rattle.serde_json.specs.Written.{has_float}
use Rattle.room_sample.specs.Shown.{shown_of}
use Rattle.view_sample.proofs.JudgedInputs.{vector_is}
use Rattle.view_sample.proofs.inputs_text.write_vector_object.Goals as goal

pub write_line-requires : goal.write_line-requires
write_line-requires c = ap has_float c.in_ok-value.ensures ∙ vector_is c.args.room.now.spec.now c.args.room.now.plan.now c.args.inputs.now c.args.outcomes.now (option_map (λ one. shown_of one.now) c.args.broken)
