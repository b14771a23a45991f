use Rattle.std.proofs.Common.{arith, refl}
use Rattle.history_checker.proofs.Breaking.{decision_undue}
use Rattle.std.proofs.Math.Seq.{map-set_same}
use Rattle.history_checker.specs.declared.process.Process.{Process}
use Rattle.history_checker.proofs.Tracking.{decide_follows}
use Rattle.history_checker.proofs.process.follow_decide.Goals as goal

pub returns-then-not-is_decide_of-clause-follows : goal.returns-then-not-is_decide_of-clause-follows
returns-then-not-is_decide_of-clause-follows c =
    λ spec before tracks. (
      rw c.rule_of_decision.ensures (decision_undue spec c.args.processes.now before c.args.p c.args.v _ tracks (omega arith)
          (λ due. let yes = c.if-not-is_decide_of.ensures.1 due in absurd cc)),
      refl,
    )

pub returns-clause-follows : goal.returns-clause-follows
returns-clause-follows c = λ spec before tracks. decide_follows spec c.args.processes.now before c.args.p c.args.v _ tracks (omega arith) (c.if-not-is_decide_of.ensures.0 refl)

pub returns-clause-lasts : goal.returns-clause-lasts
returns-clause-lasts c = map-set_same (λ (process : Process). process.last) c.args.processes.now c.args.p _ _ refl
