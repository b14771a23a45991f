use Rattle.std.proofs.Common.{◌≡◌, ◌+◌, [], ◌∷◌, ◌++◌, map, ℕ, Option, arith}
use Rattle.std.proofs.lemmas.List.FromFn.{map-range_with_len_more}
use Rattle.std.specs.List.{range_with_len}
use Rattle.room_spec.specs.Rooms.{fuse_of}
use Rattle.scheduler.proofs.opening.fuses_of.Goals as goal

pub loop-i-preserved : goal.loop-i-preserved
loop-i-preserved c =
    let fuse : ℕ → Option ℕ = fuse_of c.args.spec.now.fuses in
    let more : map fuse (range_with_len 0 (c.loop-i.i + 1)) ≡ map fuse (range_with_len 0 c.loop-i.i) ++ fuse c.loop-i.i ∷ [] = map-range_with_len_more fuse 0 c.loop-i.i c.loop-i.i (omega arith) in
    record { so_far = cc; count = omega arith }
