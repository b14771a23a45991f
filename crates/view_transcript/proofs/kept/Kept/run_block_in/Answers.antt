use Rattle.std.proofs.Common.{◌≡◌, ◌∙◌, ℕ, List, Ok, rules, subst}
use Rattle.room_spec.specs.Blocks.{MayLackAtBy, OrMemory, reduction_block_in, reduction_text_in}
use Rattle.room_spec.specs.Grammar.{IsReductionBlock}
use Rattle.view_transcript.proofs.RunBlock.{all_ok, run_block_is}
use Rattle.view_transcript.proofs.kept.Kept.run_block_in.Goals as goal

pub returns-in-Ok : goal.returns-in-Ok
returns-in-Ok c =
    let block = c.args.self.now.block in
    let spec = c.in-Ok.spec in
    let len = c.in-Ok.len in
    let same : c.as_slice.result.now ≡ block = search rules in
    let all : c.as_slice-in-Ok-2.result.now ≡ c.run_inputs-inputs.result.items = search rules in
    all_ok c.run_block.result _ _
    (λ text. run_block_is c.args.room.now block text spec len c.as_slice-in-Ok-2.result.now (MayLackAtBy reduction_text_in block) c.requires (subst (λ (b : List ℕ). IsReductionBlock b spec len) same c.in-Ok.ensures.sound)
    (subst (λ (b : List ℕ). OrMemory (MayLackAtBy reduction_text_in b) (Ok (spec, len)) (reduction_block_in b)) same c.in-Ok.ensures.exact) (λ fields are. all ∙ c.run_inputs-inputs.ensures.fields fields are))
    c.run_block.ensures.says
