use Rattle.std.proofs.Common.{◌≡◌, ◌∙◌, ℕ, List, length, take, Some, Ok, ap, inl, sym, rules}
use Rattle.std.proofs.lemmas.Result.{err_from_is_err_and}
use Rattle.room_spec.specs.Blocks.{block_len}
use Rattle.room_spec.specs.Blocks.{MayLackAtBy, reduction_block_in, reduction_text_in, reduction_in}
use Rattle.room_spec.proofs.Fronts.{front_lacks, front_says}
use Rattle.room_spec.proofs.Memory.{lacks_also}
use Rattle.room_spec.proofs.block.read_reduction_front.Goals as goal

pub returns-in_err-spec-clause-exact : goal.returns-in_err-spec-clause-exact
returns-in_err-spec-clause-exact c =
    let text = c.args.text.now in
    let block = c.in_ok-found.found in
    let len : block_len text ≡ Some (length block) = search rules in
    let front : block ≡ take (length block) text = search rules in
    let p = err_from_is_err_and c.from_residual-in_err-spec.result c.from_residual-in_err-spec.ensures.1 in
    rw (p.1, p.2, ← front_says reduction_in text block len front) (lacks_also (MayLackAtBy reduction_text_in block) (MayLackAtBy reduction_text_in text) _ (reduction_block_in block) (front_lacks reduction_text_in text block len front) c.in_err-spec.ensures)

pub returns-clause-exact : goal.returns-clause-exact
returns-clause-exact c =
    let text = c.args.text.now in
    let block = c.in_ok-found.found in
    let len : block_len text ≡ Some (length block) = search rules in
    let front : block ≡ take (length block) text = search rules in
    inl
    (ap (λ (bytes : List ℕ). Ok (c.in_ok-spec.spec, length bytes)) c.found.view_is ∙ sym c.in_ok-spec.ensures ∙ front_says reduction_in text block len front)
