use Rattle.std.proofs.Common.{◌+◌, List, ℕ, refl, set, subst, sym, arith}
use Rattle.scheduler.specs.declared.visiting.Visited.{Visited}
use Rattle.scheduler.proofs.Visits.{IsGone, goes_on, stops}
use Rattle.scheduler.proofs.visiting.go_round.Goals as goal
use Rattle.scheduler.proofs.visiting.go_round.Goals.{then-visit, else-visit}

pub loop-at-preserved : goal.loop-at-preserved
loop-at-preserved g c =
    let rooms = c.args.rooms.now in
    let loop = c.loop-at in
    let after : List Visited = set loop.all loop.at c.visit.new.one in
    elim c.if-visit.branch [
      | then-visit w ↦
          let gone : IsGone rooms c.args.going c.args.all.now w.put_forward.new.all (loop.kept + 1) (loop.at + 1) = goes_on rooms c.args.going c.args.all.now loop.all after loop.kept loop.at c.index-all-at.result c.visit.new.one c.visit.result loop.invariant (omega (arith, c.loop-at-test.true, loop.invariant.long, c.requires.going)) refl c.visit.ensures.visited c.visit.ensures.same.0 c.visit.ensures.same.1 c.visit.ensures.less w.put_forward.new.all w.put_forward.ensures.moved w.put_forward.ensures.swapped w.if-visit.true in
          subst (λ (k : ℕ). IsGone rooms c.args.going c.args.all.now c.if-visit.all k (loop.at + 1)) (sym w.kept-is) (subst (λ (l : List Visited). IsGone rooms c.args.going c.args.all.now l (loop.kept + 1) (loop.at + 1)) (sym w.all-is) gone)
      | else-visit w ↦
          let gone : IsGone rooms c.args.going c.args.all.now after loop.kept (loop.at + 1) = stops rooms c.args.going c.args.all.now loop.all after loop.kept loop.at c.index-all-at.result c.visit.new.one c.visit.result loop.invariant (omega (arith, c.loop-at-test.true, loop.invariant.long, c.requires.going)) refl c.visit.ensures.visited c.visit.ensures.same.0 c.visit.ensures.same.1 c.visit.ensures.less (c.visit.ensures.stopped w.if-visit.false) in
          subst (λ (k : ℕ). IsGone rooms c.args.going c.args.all.now c.if-visit.all k (loop.at + 1)) (sym w.kept-is) (subst (λ (l : List Visited). IsGone rooms c.args.going c.args.all.now l loop.kept (loop.at + 1)) (sym w.all-is) gone)
    ]
