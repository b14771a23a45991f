use Rattle.std.proofs.Common.{arith, refl}
use Rattle.std.proofs.lemmas.List.{map-set}
use Rattle.history_checker.specs.declared.process.Process.{Process}
use Rattle.history_checker.proofs.Tracking.{write_follows}
use Rattle.history_checker.proofs.process.follow_write.Goals as goal

pub returns-clause-follows : goal.returns-clause-follows
returns-clause-follows c = λ spec rounds before tracks. write_follows spec c.args.processes.now before c.args.p c.args.v _ tracks (omega arith) (c.if-not-is_write_of.ensures.0 refl) (omega (arith, rounds))

pub returns-clause-lasts : goal.returns-clause-lasts
returns-clause-lasts c = map-set (λ (process : Process). process.last) c.args.processes.now c.args.p _
