use Rattle.std.proofs.Common.{◌∙◌, ℕ, Ok, length, ap}
use Rattle.room_spec.specs.Blocks.{block_in}
use Rattle.run_blocks.proofs.ReadingBlocks.{or_length, or_read, or_said}
use Rattle.run_blocks.proofs.reading.read_again.Goals as goal

pub returns-in-Ok-clause-says : goal.returns-in-Ok-clause-says
returns-in-Ok-clause-says c =
    let text = c.args.text.now in
    let room = c.requires.0 in
    or_said _ c.in-Ok.spec c.in-Ok.field-0-1 (block_in text) c.in-Ok.ensures.exact
    ∙ ap (λ (n : ℕ). Ok (c.in-Ok.spec, n)) (or_length _ c.in-Ok.spec room c.in-Ok.field-0-1 (length text) (c.in-Ok.ensures.complete room (length text) c.requires.1))

pub returns-in-Ok-clause-exact : goal.returns-in-Ok-clause-exact
returns-in-Ok-clause-exact c = λ room is. or_read _ c.in-Ok.spec room c.in-Ok.field-0-1 (length c.args.text.now) (c.in-Ok.ensures.complete room (length c.args.text.now) is)
