use Rattle.std.proofs.Common.{◌≡◌, ◌∙◌, IfOk, ap, subst, sym}
use Rattle.serde_json.specs.Data.{Data, string}
use Rattle.serde_json.specs.View.{view}
use Rattle.json_lines.proofs.Texts.{a_text, no_text}
use Rattle.json_lines.proofs.text.text_value.Goals as goal

pub returns-in-Ok : goal.returns-in-Ok
returns-in-Ok c =
    subst (λ (d : Data). IfOk c.try_from_str.result (λ value. view value ≡ d)) (ap string c.in-Ok.ensures.cases.0 ∙ sym (a_text c.args.bytes.now c.in-Ok.ensures.cases.1)) c.try_from_str.ensures

pub returns-in-Err : goal.returns-in-Err
returns-in-Err c = c.no_text.ensures ∙ sym (no_text c.args.bytes.now c.in-Err.ensures.cases.0)
