use Rattle.std.proofs.Common.{◌∷◌, ◌∙◌, ap}
use Rattle.serde_json.specs.Written.{has_float}
use Rattle.room_spec.specs.Faults.{code_of, sentence_of}
use Rattle.view_trace.specs.Json.{further_numbers}
use Rattle.view_trace.proofs.Floats.{block_is}
use Rattle.view_trace.proofs.json.write_fault_object.Goals as goal

pub write_line-requires : goal.write_line-requires
write_line-requires c = ap has_float c.in_ok-value.ensures ∙ block_is c.args.line (code_of c.args.fault ∷ further_numbers c.args.fault) (sentence_of c.args.fault)
