use Rattle.std.proofs.Common.{arith, inl, inr}
use Rattle.run_search.proofs.Limiting.{in_after}
use Rattle.run_search.proofs.Marking.{no_marks}
use Rattle.run_search.proofs.node.marks_after.Goals as goal

pub returns-then-count-lt2 : goal.returns-then-count-lt2
returns-then-count-lt2 c = no_marks _

pub loop-q-init : goal.loop-q-init
loop-q-init c = no_marks _

pub loop-q-preserved : goal.loop-q-preserved
loop-q-preserved c = λ k is. elim (c.with_marks-marks.ensures.each k is) [
  | inl was ↦ c.loop-q.invariant k was
  | inr here ↦
      let after = c.args.after.now in
      let q = c.loop-q.q in
      (q, here.0, (omega (arith, c.loop-q-test.true, c.n-q-end.ensures.value), in_after after.node.now after.process after.new q here.0 c.old_after-set.result.now c.old_after-set.ensures.own c.old_after-set.ensures.other here.1), here.2)
]
