use Rattle.std.proofs.Common.{◌++◌, ◌∙◌, List, ap, arith, map}
use Rattle.scheduler.specs.Tasks.{to_visit}
use Rattle.scheduler.specs.declared.visiting.Visited.{Visited}
use Rattle.scheduler.proofs.Visits.{are_taken}
use Rattle.scheduler.proofs.workers.work.Goals as goal

pub loop-visits-preserved : goal.loop-visits-preserved
loop-visits-preserved g c =
    let loop = c.loop-visits.invariant in
    let taken = are_taken c.args.rooms.now c.loop-visits.tasks.items c.take_next.new.tasks.items c.take_next.new.all.items (c.in_ok-take_next.ensures.taken ∙ ap (λ (l : List Visited). l ++ map to_visit c.loop-visits.tasks.items) loop.none) loop.left in
    let ended = c.in_ok-put_stopped.ensures in
    record {
      left = taken.rest;
      none = ended.empty;
      stopped = ended.stopped c.args.rooms.now c.visit_all.ensures.visited loop.stopped;
      same = λ k i. omega (arith, ended.same k i, c.visit_all.ensures.same k i, taken.same k i, loop.same k i);
    }

pub visit_all-requires : goal.visit_all-requires
visit_all-requires g c =
    let loop = c.loop-visits.invariant in
    (are_taken c.args.rooms.now c.loop-visits.tasks.items c.take_next.new.tasks.items c.take_next.new.all.items (c.in_ok-take_next.ensures.taken ∙ ap (λ (l : List Visited). l ++ map to_visit c.loop-visits.tasks.items) loop.none) loop.left).every
