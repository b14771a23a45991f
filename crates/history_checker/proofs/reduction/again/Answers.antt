use Rattle.std.proofs.Common.{◌≡◌, ◌<◌, length, get_or, None, Some, refl, sym, subst, arith, rules}
use Rattle.transcript.specs.Runs.{process_of}
use Rattle.history_checker.specs.Reductions.{StepsAlone}
use Rattle.history_checker.proofs.Alone.{at_more, may_more, never_has, steps}
use Rattle.history_checker.proofs.reduction.again.Goals as goal
use Rattle.history_checker.proofs.reduction.again.Goals.{then-from-p+in_ok-process, else-from-p}

pub returns-in_err-process : goal.returns-in_err-process
returns-in_err-process c =
    let spec = c.args.spec.now in
    let before = c.args.before.now in
    let t = c.loop-event.event-index in
    let d = c.event-item.result in
    let within : t < length before = c.loop-event-test.true in
    let own : process_of (get_or before t d) ≡ c.args.p = rw (← c.event-item.is) (search rules) in
    let alone : StepsAlone spec (get_or before t d) c.loop-event.process c.after.result = rw (← c.event-item.is) c.after.ensures in
    let step = steps spec before c.args.p c.args.input t d within c.loop-event.process c.after.result own c.requires.some alone c.loop-event.invariant.at in
    rw c.from_residual.ensures (never_has spec before c.args.p c.args.input t d within own (rw c.in_err-process.was at step))

pub loop-event-preserved : goal.loop-event-preserved
loop-event-preserved c =
    let spec = c.args.spec.now in
    let before = c.args.before.now in
    let t = c.loop-event.event-index in
    let d = c.event-item.result in
    let within : t < length before = c.loop-event-test.true in
    elim c.if-from-p.branch [
      | then-from-p+in_ok-process w ↦
          let own : process_of (get_or before t d) ≡ c.args.p = rw (← c.event-item.is) (search rules) in
          let alone : StepsAlone spec (get_or before t d) c.loop-event.process w.after.result = rw (← c.event-item.is) w.after.ensures in
          let step = steps spec before c.args.p c.args.input t d within c.loop-event.process w.after.result own c.requires.some alone c.loop-event.invariant.at in
          let both = rw w.in_ok-process.was at step in
          record { may = may_more spec before c.args.p c.args.input t d within c.loop-event.invariant.may (λ same. both.0); at = rw w.process-is both.1 }
      | else-from-p w ↦
          let apart : process_of (get_or before t d) ≡ c.args.p → ⊥ = rw (← c.event-item.is) (λ is. absurd (omega (arith, is, c.process.ensures, c.from.ensures, w.if-from-p.false))) in
          record {
            may = may_more spec before c.args.p c.args.input t d within c.loop-event.invariant.may (λ same. absurd (apart same));
            at = rw w.process-is (at_more spec before c.args.p c.args.input t d within c.loop-event.process apart c.loop-event.invariant.at);
          }
    ]
