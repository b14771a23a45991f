use Rattle.std.proofs.Common.{◌≡◌, ◌+◌, [], ◌∷◌, ◌++◌, List, map, rules, ap, sym, ◌∙◌, arith}
use Rattle.std.proofs.lemmas.List.FromFn.{map-range_with_len_more}
use Rattle.std.specs.List.{range_with_len}
use Rattle.simulator.specs.Sweeps.{SweepState, opening_sweep}
use Rattle.room_core.proofs.room.opening_sweeps.Goals as goal

pub loop-i-preserved : goal.loop-i-preserved
loop-i-preserved c =
    let more : map (opening_sweep c.args.spec.now) (range_with_len 0 (c.loop-i.i + 1)) ≡ map (opening_sweep c.args.spec.now) (range_with_len 0 c.loop-i.i) ++ opening_sweep c.args.spec.now c.loop-i.i ∷ [] = map-range_with_len_more (opening_sweep c.args.spec.now) 0 c.loop-i.i c.loop-i.i (omega arith) in
    let pushed : c.push.new.self.items ≡ c.loop-i.sweeps.items ++ opening_sweep c.args.spec.now c.loop-i.i ∷ [] = search rules in
    pushed ∙ ap (λ (l : List SweepState). l ++ opening_sweep c.args.spec.now c.loop-i.i ∷ []) c.loop-i.invariant ∙ sym more
