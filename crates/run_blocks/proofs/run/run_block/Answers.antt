use Rattle.std.proofs.Common.{◌≡◌, ◌∙◌, ℕ, List, Ok, length, ap, rules, sym, subst}
use Rattle.room_spec.specs.Blocks.{block_in}
use Rattle.room_spec.specs.Grammar.{IsBlock}
use Rattle.room_spec.specs.Rooms.{RoomSpec, with_inputs}
use Rattle.run_blocks.specs.Blocks.{run_block}
use Rattle.run_blocks.proofs.RunBlocks.{says_run}
use Rattle.run_blocks.proofs.run.run_block.Goals as goal

pub read_again-requires : goal.read_again-requires
read_again-requires c =
    let want = with_inputs c.args.spec.now c.args.inputs.now in
    let own : c.as_bytes.result.now ≡ c.in_ok-text.text = search rules in
    let text : c.as_bytes.result.now ≡ run_block c.args.block.now c.args.spec.now.simulators c.args.inputs.now = own ∙ c.in_ok-text.ensures.text ∙ ap (λ (m : ℕ). run_block c.args.block.now m c.args.inputs.now) c.m.ensures.value in
    (want, subst (λ (t : List ℕ). IsBlock t want (length t)) (sym text) (says_run c.args.block.now c.args.spec.now c.args.inputs.now c.requires.block c.requires.inputs c.in_ok-text.ensures.small))

pub returns-clause-text : goal.returns-clause-text
returns-clause-text c = c.in_ok-text.ensures.text ∙ ap (λ (m : ℕ). run_block c.args.block.now m c.args.inputs.now) c.m.ensures.value

pub returns-clause-says : goal.returns-clause-says
returns-clause-says c =
    let want = with_inputs c.args.spec.now c.args.inputs.now in
    let own : c.as_bytes.result.now ≡ c.in_ok-text.text = search rules in
    let text : c.as_bytes.result.now ≡ run_block c.args.block.now c.args.spec.now.simulators c.args.inputs.now = own ∙ c.in_ok-text.ensures.text ∙ ap (λ (m : ℕ). run_block c.args.block.now m c.args.inputs.now) c.m.ensures.value in
    let room = c.in_ok-_room.ensures.exact want (subst (λ (t : List ℕ). IsBlock t want (length t)) (sym text) (says_run c.args.block.now c.args.spec.now c.args.inputs.now c.requires.block c.requires.inputs c.in_ok-text.ensures.small)) in
    subst (λ (t : List ℕ). block_in t ≡ Ok (want, length t)) own (subst (λ (r : RoomSpec). block_in c.as_bytes.result.now ≡ Ok (r, length c.as_bytes.result.now)) room c.in_ok-_room.ensures.says)

pub returns-clause-valid : goal.returns-clause-valid
returns-clause-valid c =
    let want = with_inputs c.args.spec.now c.args.inputs.now in
    let own : c.in_ok-text.text ≡ run_block c.args.block.now c.args.spec.now.simulators c.args.inputs.now = c.in_ok-text.ensures.text ∙ ap (λ (m : ℕ). run_block c.args.block.now m c.args.inputs.now) c.m.ensures.value in
    subst (λ (t : List ℕ). IsBlock t want (length t)) (sym own) (says_run c.args.block.now c.args.spec.now c.args.inputs.now c.requires.block c.requires.inputs c.in_ok-text.ensures.small)
