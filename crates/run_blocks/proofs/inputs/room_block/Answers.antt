use Rattle.std.proofs.Common.{ℕ, List, length, rules, sym, subst}
use Rattle.room_spec.specs.Grammar.{IsBlock}
use Rattle.room_spec.specs.Rooms.{with_inputs}
use Rattle.run_blocks.proofs.OtherInputs.{says_with}
use Rattle.run_blocks.proofs.RoomBlocks.{says_ordinary, says_reduction}
use Rattle.run_blocks.proofs.inputs.room_block.Goals as goal

pub run_block-requires-clause-block : goal.run_block-requires-clause-block
run_block-requires-clause-block c = says_reduction c.args.block.now c.args.spec.now c.requires.block (search rules)

pub returns-clause-valid : goal.returns-clause-valid
returns-clause-valid c =
    let want = with_inputs c.args.spec.now c.args.inputs.now in
    let ordinary = says_ordinary c.args.block.now c.args.spec.now c.requires.block (search rules) in
    subst (λ (t : List ℕ). IsBlock t want (length t)) (sym c.in_ok-text.ensures.text)
    (says_with c.args.block.now c.args.spec.now c.args.inputs.now ordinary c.requires.inputs c.in_ok-text.ensures.small)
