use Rattle.std.proofs.Common.{◌≡◌, length, arith, rules}
use Rattle.std.proofs.lemmas.Grind.{common_steps}
use Rattle.bgsim_console.proofs.RunTexts.{first_open, good_workers, last_open, next_open}
use Rattle.bgsim_console.proofs.run.run_in_parts.Goals as goal

pub loop-alloc-init : goal.loop-alloc-init
loop-alloc-init g c =
    first_open c.args.left c.in_ok-part.part.items c.next_part.new.left c.in_ok-opened.opened c.none-reports.result.text c.in_ok-part.ensures.part c.in_ok-opened.ensures.rooms c.none-reports.ensures

pub loop-alloc-preserved : goal.loop-alloc-preserved
loop-alloc-preserved g c =
    next_open c.args.left _ c.in_ok-part-2.part.items c.next_part-in-loop-alloc.new.left c.loop-alloc.opened c.in_ok-reports.field-0-1 c.loop-alloc.reports.text c.in_ok-reports.field-0-0.text c.loop-alloc.invariant c.in_ok-part-2.ensures.part c.in_ok-reports.ensures.next c.in_ok-reports.ensures.gathered

pub returns-clause-reports : goal.returns-clause-reports
returns-clause-reports g c =
    let none : length c.loop-alloc.left ≡ 0 = grind (arith, rules) in
    last_open c.args.left c.loop-alloc.left c.loop-alloc.opened c.loop-alloc.reports.text c.in_ok-reports-2.reports.text c.loop-alloc.invariant none c.in_ok-reports-2.ensures.rooms

pub returns-clause-workers : goal.returns-clause-workers
returns-clause-workers g c = good_workers c.args.workers c.open_rooms.result c.in_ok-opened.opened c.in_ok-opened.was c.open_rooms.ensures.workers

pub loop-alloc-smaller : goal.loop-alloc-smaller
loop-alloc-smaller g c = grind (arith, common_steps)
