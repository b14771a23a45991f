use Rattle.std.proofs.Common.{◌≡◌, ◌∙◌, ◌∷◌, ap, refl, rules}
use Rattle.std.specs.Prelude.{codes}
use Rattle.room_spec.specs.Texts.{fields_of}
use Rattle.script_play.proofs.Commands.{steps_read}
use Rattle.script_play.proofs.steps.read_steps.Goals as goal

pub returns : goal.returns
returns c =
    let line = c.args.line.now in
    let others = c.in_ok-after_step.field-0.now in
    let name = c.cut_near.result.0.now in
    let numbers = c.in_ok-numbers.field-0.now in
    let sim = c.cut_near-2.result.0.now in
    let count = c.in_ok-count.field-0.now in
    let first : fields_of line ≡ codes "step" ∷ fields_of others = ap fields_of c.in_ok-after_step.ensures ∙ refl in
    let second : fields_of others ≡ name ∷ fields_of numbers = search rules in
    let third : fields_of numbers ≡ sim ∷ fields_of count = search rules in
    steps_read line (codes "step") others name numbers sim count c.in_ok-sim.field-0 c.in_ok-count-2.count first refl second third (search rules) (search rules)
