use Rattle.std.proofs.Common.{◌∙◌, ◌++◌, ◌∷◌, [], List, Option, ℕ, map, ap, sym, arith}
use Rattle.std.specs.List.{range_with_len}
use Rattle.std.proofs.lemmas.List.FromFn.{map-range_with_len_more}
use Rattle.room_core.specs.Calls.{decision_at}
use Rattle.room_core.proofs.room.RoomCore.decisions.Goals as goal

pub loop-i-preserved : goal.loop-i-preserved
loop-i-preserved c =
    let more = map-range_with_len_more (decision_at c.args.self.now) 0 c.loop-i.i c.loop-i.i (omega arith) in
    record {
      so_far = c.push.ensures.items ∙ ap (λ (l : List (Option ℕ)). l ++ c.decision.result ∷ []) c.loop-i.invariant.so_far
          ∙ ap (λ (x : Option ℕ). map (decision_at c.args.self.now) (range_with_len 0 c.loop-i.i) ++ x ∷ []) c.decision.ensures.value ∙ sym more;
      count = omega arith;
    }
