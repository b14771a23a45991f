use Rattle.std.proofs.Common.{◌≡◌, ◌∙◌, ◌∷◌, ◌++◌, ℕ, List, ap, codes, decimal}
use Rattle.room_spec.specs.Grammar.{line_end}
use Rattle.room_spec.specs.Texts.{first_line, later_lines}
use Rattle.run_blocks.specs.Blocks.{inputs_line}
use Rattle.run_blocks.proofs.RunBlocks.{pieces_are}
use Rattle.run_blocks.proofs.run.text_of.Goals as goal

pub returns-clause-text : goal.returns-clause-text
returns-clause-text c =
    let block = c.args.block.now in
    let simulators = (codes "simulators" ++ (32 ∷ decimal c.args.simulators)) ++ line_end in
    let name : c.split_line-2.result.0.now ≡ first_line (later_lines block) = c.split_line-2.ensures.first ∙ ap first_line c.split_line.ensures.later in
    let later : c.split_line-4.result.1.now ≡ later_lines (later_lines (later_lines (later_lines block))) =
    c.split_line-4.ensures.later ∙ ap later_lines (c.split_line-3.ensures.later ∙ ap later_lines (c.split_line-2.ensures.later ∙ ap later_lines c.split_line.ensures.later)) in
    pieces_are c.new-text.result c.put.new.self c.put_two.new.self c.put_inputs_line.new.output c.put_simulators.new.output c.put-2.new.self
    (codes "bgsim 2" ++ line_end) (first_line (later_lines block) ++ line_end) (inputs_line c.args.inputs.now ++ line_end) simulators (later_lines (later_lines (later_lines (later_lines block))))
    c.new-text.ensures c.in_ok-put.ensures.text
    (c.in_ok-put_two.ensures.text ∙ ap (λ (l : List ℕ). c.put.new.self ++ (l ++ line_end)) name)
    c.in_ok-put_inputs_line.ensures.text c.in_ok-put_simulators.ensures
    (c.in_ok-put-2.ensures.text ∙ ap (λ (l : List ℕ). c.put_simulators.new.output ++ l) later)
