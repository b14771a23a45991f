use Rattle.std.proofs.Common.{◌≡◌, ℕ, ◌<◌, refl, ap, ◌∙◌, arith}
use Rattle.ruled_room.specs.Parts.{KeeperData, holds_in, sweep_home}
use Rattle.scheduler.specs.Tasks.{away_at, is_here}
use Rattle.scheduler.proofs.Dealing.{all_given, away_one, fuses_count, keeper_after, may_give, new_task, one_given, starts_at_home}
use Rattle.scheduler.proofs.opening.deal.Goals as goal

pub loop-i-init : goal.loop-i-init
loop-i-init c = record {
  keeper = c.requires.keeper;
  next = (c.requires.next, refl);
  tasks = λ rooms at all. all;
  away = λ k i. omega (arith, ap (λ (keeper : KeeperData). away_at c.args.fresh.now.place keeper.sweeps k i) c.requires.keeper, starts_at_home c.args.fresh.now.place c.args.fresh.now.room.now k i);
}

pub give-simulator-requires-clause-holds : goal.give-simulator-requires-clause-holds
give-simulator-requires-clause-holds c =
    let count = fuses_count c.args.fresh.now.room.now c.args.fresh.now.fuses.now c.requires.fuses in
    let below : c.loop-i.i < c.args.fresh.now.room.now.spec.simulators = omega (arith, c.loop-i-test.true, c.loop-i.auto.i-end, count) in
    ap (λ (keeper : KeeperData). holds_in keeper c.loop-i.i) c.loop-i.invariant.keeper ∙ may_give c.args.fresh.now.room.now c.loop-i.i below

pub loop-i-preserved : goal.loop-i-preserved
loop-i-preserved c =
    let count = fuses_count c.args.fresh.now.room.now c.args.fresh.now.fuses.now c.requires.fuses in
    let below : c.loop-i.i < c.args.fresh.now.room.now.spec.simulators = omega (arith, c.loop-i-test.true, c.loop-i.auto.i-end, count) in
    let given = c.give-simulator.ensures.simulator in
    record {
      keeper = one_given c.args.fresh.now.room.now c.loop-i.i c.loop-i.keeper c.give-simulator.new.self c.loop-i.invariant.keeper c.give-simulator.ensures.keeper;
      next = (omega (arith, c.after.ensures, c.len.ensures), c.in_ok-put.ensures.len ∙ c.loop-i.invariant.next.1);
      tasks = λ rooms at all. c.in_ok-put.ensures.tasks rooms
          (new_task rooms c.args.fresh.now.place c.loop-i.i c.args.fresh.now.room.now _ c.give-simulator.result c.args.fresh.now.fuses.now c.index-fresh-i.result at below c.requires.fuses given.0 given.1 (given.2 ∙ ap (λ (keeper : KeeperData). sweep_home keeper c.loop-i.i) c.loop-i.invariant.keeper) refl refl refl)
          (c.loop-i.invariant.tasks rooms at all);
      away = λ k i. omega (arith, c.in_ok-put.ensures.count k i, c.loop-i.invariant.away k i, away_one c.args.fresh.now.place c.args.fresh.now.room.now c.loop-i.i k i c.loop-i.keeper c.give-simulator.new.self below c.loop-i.invariant.keeper c.give-simulator.ensures.keeper, ap (λ (n : ℕ). is_here k i c.args.fresh.now.place n) given.1);
    }

pub returns-clause-keeper : goal.returns-clause-keeper
returns-clause-keeper c =
    let count = fuses_count c.args.fresh.now.room.now c.args.fresh.now.fuses.now c.requires.fuses in
    let all : c.loop-i.i ≡ c.args.fresh.now.room.now.spec.simulators = omega (arith, c.loop-i-test.false, c.loop-i.auto.i-end, count) in
    let is = c.loop-i.invariant.keeper ∙ ap (keeper_after c.args.fresh.now.room.now) all in
    (ap (λ (keeper : KeeperData). keeper.room) is, all_given c.args.fresh.now.room.now c.loop-i.keeper is)
