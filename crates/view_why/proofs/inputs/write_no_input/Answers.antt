use Rattle.std.proofs.Common.{◌∙◌, ◌++◌, [], List, ℕ, ap, codes}
use Rattle.std.specs.List.{flat_map}
use Rattle.transcript.specs.Runs.{process_of}
use Rattle.view_why.specs.Words.{process_words}
use Rattle.view_why.proofs.Behind.{put_behind}
use Rattle.std.proofs.lemmas.List.{append_assoc}
use Rattle.view_why.proofs.inputs.write_no_input.Goals as goal

pub returns : goal.returns
returns c =
    let inputs = flat_map (λ input. process_words [] input []) c.args.own.now in
    put_behind c.write_of_process.result c.args.output.now c.write_inputs.new.output c.write_of_process.new.output (codes "from none of the inputs" ++ inputs) (process_words (codes " may process") (process_of c.args.event.now) (codes " do this here"))
    (c.in_ok-write_inputs.ensures ∙ ap (λ (t : List ℕ). t ++ inputs) c.in_ok-put.ensures.text ∙ append_assoc c.args.output.now (codes "from none of the inputs") inputs)
    (rw (← c.process.ensures, ← c.from-owner.ensures) c.write_of_process.ensures)
