use Rattle.std.proofs.Common.{arith}
use Rattle.transcript.specs.Runs.{process_of}
use Rattle.history_checker.proofs.Explaining.{asks, is_asked, may_do}
use Rattle.history_checker.proofs.reason.reason_of.Goals as goal

pub returns-in-Turn : goal.returns-in-Turn
returns-in-Turn c =
    let breaks = rw c.in-Turn.is at c.requires.breaks in (
      breaks,
      rw (c.could_do.ensures, c.from.ensures, c.process.ensures)
          (may_do c.args.spec.now c.args.processes.now c.args.before.now (process_of c.args.event.now) _ c.requires.tracks (omega (arith, breaks.0.0, c.requires.tracks.count))),
    )

pub asked-requires : goal.asked-requires
asked-requires c =
    let breaks = rw c.in-Action.is at c.requires.breaks in
    rw (c.from-in-Action.ensures, c.process-in-Action.ensures)
    (asks c.args.spec.now c.args.processes.now c.args.before.now c.args.event.now _ c.requires.tracks (omega (arith, breaks.0.0, c.requires.tracks.count)) breaks)

pub returns-in-Action : goal.returns-in-Action
returns-in-Action c =
    let breaks = rw c.in-Action.is at c.requires.breaks in (
      breaks,
      is_asked c.args.spec.now c.args.processes.now c.args.before.now c.args.event.now _ c.asked.result c.requires.tracks (omega (arith, breaks.0.0, c.requires.tracks.count)) breaks
          (rw (c.from-in-Action.ensures, c.process-in-Action.ensures) at c.asked.ensures),
    )
