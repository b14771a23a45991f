use Rattle.std.proofs.Common.{◌≡◌, ◌+◌, [], ◌∷◌, ◌++◌, map, Some, ℕ, List, Option, sym, ap, ◌∙◌, arith}
use Rattle.std.proofs.lemmas.List.FromFn.{map-range_with_len_more}
use Rattle.std.specs.List.{range_with_len}
use Rattle.simulator.specs.Sweeps.{SweepState, opening_sweep}
use Rattle.ruled_room.proofs.room.first_sweeps.Goals as goal

pub loop-i-preserved : goal.loop-i-preserved
loop-i-preserved c =
    let opens : ℕ → Option SweepState = λ i. Some (opening_sweep c.args.spec.now i) in
    let more : map opens (range_with_len 0 (c.loop-i.i + 1)) ≡ map opens (range_with_len 0 c.loop-i.i) ++ opens c.loop-i.i ∷ [] = map-range_with_len_more opens 0 c.loop-i.i c.loop-i.i (omega arith) in
    let first : c.in_ok-first_sweep.field-0 ≡ opening_sweep c.args.spec.now c.loop-i.i = c.in_ok-first_sweep.ensures in
    let earlier = ap (λ (l : List (Option SweepState)). l ++ Some c.in_ok-first_sweep.field-0 ∷ []) c.loop-i.invariant.so_far in
    let last = ap (λ (sweep : SweepState). map opens (range_with_len 0 c.loop-i.i) ++ Some sweep ∷ []) first in
    record { so_far = c.push.ensures.items ∙ earlier ∙ last ∙ sym more; count = omega arith }
