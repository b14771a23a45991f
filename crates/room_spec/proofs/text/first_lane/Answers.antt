use Rattle.std.proofs.Common.{eqb, sym, ap, ◌∙◌, arith, take, w8}
use lib.Count.{count_trailing_zeros}
use Rattle.std.proofs.lemmas.Simd.{length-chunk, bitmask_splat, leading_from_mask_l, trailing_mask_l}
use Rattle.room_spec.proofs.text.first_lane.Goals as goal

pub returns-then-places-eq0 : goal.returns-then-places-eq0
returns-then-places-eq0 c =
    let near = take 16 c.args.text.now in
    let long = length-chunk 0 16 c.args.text.now c.requires in
    let hits = bitmask_splat w8 eqb near 16 c.args.byte long (omega arith) in
    sym (leading_from_mask_l (λ b. eqb b c.args.byte) near (sym hits ∙ c.if-places-eq0.true) ∙ long)

pub returns-else-places-eq0 : goal.returns-else-places-eq0
returns-else-places-eq0 c =
    let near = take 16 c.args.text.now in
    let long = length-chunk 0 16 c.args.text.now c.requires in
    let hits = bitmask_splat w8 eqb near 16 c.args.byte long (omega arith) in
    ap (count_trailing_zeros 64) hits ∙ trailing_mask_l (λ b. eqb b c.args.byte) 64 near (omega arith) (omega arith)
