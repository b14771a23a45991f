use Rattle.std.proofs.Common.{◌+◌, ℕ, ◌∙◌, ap, cond, Bool, arith}
use Rattle.room_search.proofs.OneByOne.{count_next}
use Rattle.room_search.proofs.beginning.crash_count.Goals as goal

pub loop-i-preserved : goal.loop-i-preserved
loop-i-preserved c = record {
  count_is = ap (λ (n : ℕ). n + c.one_if-count.result) c.loop-i.invariant.count_is ∙ count_next c.args.room.now c.loop-i.i c.one_if-count.result (c.one_if-count.ensures.one ∙ ap (λ (b : Bool). cond b 1 0) c.is_crashed.ensures);
  few = omega (arith, c.loop-i.invariant.few, c.one_if-count.ensures.few);
}
