use Rattle.std.proofs.Common.{◌≡◌, ◌∙◌, ℕ, ◌+◌, ◌<◌, ap, arith, length, subst, sym}
use Rattle.room_spec.specs.Rooms.{processes}
use Rattle.simulator.specs.declared.line.Line.{Line}
use Rattle.simulator.specs.declared.line.Line.TheVariants.{Values}
use Rattle.simulator.specs.declared.turn.Turn.TheVariants.{Still}
use Rattle.simulator.specs.Minds.{MindState}
use Rattle.simulator.specs.Moves.{entry_in}
use Rattle.simulator.specs.Ranges.{at_line}
use Rattle.simulator.specs.Runs.{Runs, Wants}
use Rattle.simulator.specs.Turns.{counted_by, gathered_all}
use Rattle.simulator.specs.Notes.{AreLastWrites}
use Rattle.simulator.proofs.Limits.{small}
use Rattle.simulator.proofs.Valued.{counts_none, fits_more, value_on, values_left}
use Rattle.simulator.proofs.mind.Mind.take_values.Goals as goal

pub loop-count-init : goal.loop-count-init
loop-count-init g c =
    let spec = c.args.room.now.spec.now in
    let self = c.args.self.now in
    record {
      wants = subst (λ (m : MindState). Wants g.M.Memory.serves c.args.room.now.context.now spec c.args.memory.now (at_line Values m) Still) (counts_none self) c.requires.wants;
      most = omega arith;
      continues = λ before first start runs.
          let sum : before ≡ before + 0 = omega arith in
          subst (λ (count : ℕ). Runs g.M.Memory.does spec first start count c.args.memory.now (at_line Values (counted_by 0 self)) Still) sum
          (subst (λ (m : MindState). Runs g.M.Memory.does spec first start before c.args.memory.now (at_line Values m) Still) (counts_none self) runs);
      last = subst (λ (m : MindState). AreLastWrites spec m.snapshot c.last_writes-last.result.holders c.last_writes-last.result.rounds) c.self.view_is c.last_writes-last.ensures;
    }

pub count_steps-requires-clause-steps : goal.count_steps-requires-clause-steps
count_steps-requires-clause-steps g c =
    let added = c.add_value.ensures c.args.room.now.spec.now c.shape-shape.ensures.sizes c.loop-count.invariant.last in
    (fits_more c.args.room.now.spec.now (entry_in c.args.room.now.spec.now c.loop-count.self.snapshot) c.loop-count.self c.add_value.new.self c.loop-count.count c.operate-value.result c.loop-count.invariant.wants.is_mind added).steps

pub count_steps-requires-clause-turn_steps : goal.count_steps-requires-clause-turn_steps
count_steps-requires-clause-turn_steps g c =
    let added = c.add_value.ensures c.args.room.now.spec.now c.shape-shape.ensures.sizes c.loop-count.invariant.last in
    (fits_more c.args.room.now.spec.now (entry_in c.args.room.now.spec.now c.loop-count.self.snapshot) c.loop-count.self c.add_value.new.self c.loop-count.count c.operate-value.result c.loop-count.invariant.wants.is_mind added).turn_steps

pub returns-then-len-shape-clause-wants : goal.returns-then-len-shape-clause-wants
returns-then-len-shape-clause-wants g c =
    let added = c.add_value.ensures c.args.room.now.spec.now c.shape-shape.ensures.sizes c.loop-count.invariant.last in
    let spec = c.args.room.now.spec.now in
    let loop = c.loop-count in
    let end = c.conclude-turn.new.self in
    let mind_is = ap (λ (line : Line). at_line line end) c.current_line.ensures ∙ c.conclude-turn.ensures.mind ∙ ap (λ (mind : MindState). (gathered_all spec mind).mind) c.count_steps.ensures in
    let turn_is = c.conclude-turn.ensures.turn ∙ ap (λ (mind : MindState). (gathered_all spec mind).turn) c.count_steps.ensures in
    (value_on g.M.Memory.serves g.M.Memory.does g.met.M.Memory.goes_on c.args.room.now.context.now spec loop.memory c.operate-value.new.self loop.self c.add_value.new.self end loop.count c.operate-value.result c.value_move_by-load.result c.current_line.result c.conclude-turn.result loop.invariant.wants c.value_move_by-load.ensures c.operate-value.ensures added mind_is turn_is).wants

pub returns-then-len-shape-clause-continues : goal.returns-then-len-shape-clause-continues
returns-then-len-shape-clause-continues g c before first start runs =
    let added = c.add_value.ensures c.args.room.now.spec.now c.shape-shape.ensures.sizes c.loop-count.invariant.last in
    let spec = c.args.room.now.spec.now in
    let loop = c.loop-count in
    let end = c.conclude-turn.new.self in
    let mind_is = ap (λ (line : Line). at_line line end) c.current_line.ensures ∙ c.conclude-turn.ensures.mind ∙ ap (λ (mind : MindState). (gathered_all spec mind).mind) c.count_steps.ensures in
    let turn_is = c.conclude-turn.ensures.turn ∙ ap (λ (mind : MindState). (gathered_all spec mind).turn) c.count_steps.ensures in
    let on = value_on g.M.Memory.serves g.M.Memory.does g.met.M.Memory.goes_on c.args.room.now.context.now spec loop.memory c.operate-value.new.self loop.self c.add_value.new.self end loop.count c.operate-value.result c.value_move_by-load.result c.current_line.result c.conclude-turn.result loop.invariant.wants c.value_move_by-load.ensures c.operate-value.ensures added mind_is turn_is in
    let same : before + loop.count + 1 ≡ before + (loop.count + 1) = omega arith in
    subst (λ (count : ℕ). Runs g.M.Memory.does spec first start count c.operate-value.new.self (at_line c.current_line.result end) c.conclude-turn.result) same
    (on.continues (before + loop.count) first start (loop.invariant.continues before first start runs))

pub loop-count-preserved : goal.loop-count-preserved
loop-count-preserved g c =
    let added = c.add_value.ensures c.args.room.now.spec.now c.shape-shape.ensures.sizes c.loop-count.invariant.last in
    let spec = c.args.room.now.spec.now in
    let loop = c.loop-count in
    let after : MindState = counted_by (loop.count + 1) c.add_value.new.self in
    let stays = values_left spec after (omega (arith, c.if-len-shape.false, c.len.ensures.value, c.shape-shape.ensures.n, ap (λ (m : MindState). length m.entries) c.self-in-loop-count.view_is)) in
    let on = value_on g.M.Memory.serves g.M.Memory.does g.met.M.Memory.goes_on c.args.room.now.context.now spec loop.memory c.operate-value.new.self loop.self c.add_value.new.self after loop.count c.operate-value.result c.value_move_by-load.result Values Still loop.invariant.wants c.value_move_by-load.ensures c.operate-value.ensures added (ap (λ t. t.mind) (sym stays)) (ap (λ t. t.turn) (sym stays)) in
    record {
      wants = on.wants;
      most = omega (arith, c.loop-count-test.true);
      continues = λ before first start runs.
          let same : before + loop.count + 1 ≡ before + (loop.count + 1) = omega arith in
          subst (λ (count : ℕ). Runs g.M.Memory.does spec first start count c.operate-value.new.self (at_line Values after) Still) same
          (on.continues (before + loop.count) first start (loop.invariant.continues before first start runs));
      last = subst (λ (m : MindState). AreLastWrites spec m.snapshot c.last_writes-last.result.holders c.last_writes-last.result.rounds) (sym added) loop.invariant.last;
    }

pub count_steps-requires-2-clause-steps : goal.count_steps-requires-2-clause-steps
count_steps-requires-2-clause-steps g c =
    let few = small c.args.room.now.spec.now (at_line Values (counted_by c.loop-count.count c.loop-count.self)) c.loop-count.invariant.wants.is_mind in omega (arith, few.steps)

pub count_steps-requires-2-clause-turn_steps : goal.count_steps-requires-2-clause-turn_steps
count_steps-requires-2-clause-turn_steps g c =
    let few = small c.args.room.now.spec.now (at_line Values (counted_by c.loop-count.count c.loop-count.self)) c.loop-count.invariant.wants.is_mind in omega (arith, few.turn_steps)

pub conclude-turn-requires-clause-process : goal.conclude-turn-requires-clause-process
conclude-turn-requires-clause-process g c =
    let added = c.add_value.ensures c.args.room.now.spec.now c.shape-shape.ensures.sizes c.loop-count.invariant.last in
    let is = c.loop-count.invariant.wants.is_mind in
    let same = c.count_steps.ensures ∙ ap (λ (mind : MindState). counted_by (c.loop-count.count + 1) mind) added in
    subst (λ (mind : MindState). mind.process < length mind.goals) (sym same) (omega (arith, is.process, is.goals))

pub conclude-turn-requires-clause-goals : goal.conclude-turn-requires-clause-goals
conclude-turn-requires-clause-goals g c =
    let added = c.add_value.ensures c.args.room.now.spec.now c.shape-shape.ensures.sizes c.loop-count.invariant.last in
    let is = c.loop-count.invariant.wants.is_mind in
    let same = c.count_steps.ensures ∙ ap (λ (mind : MindState). counted_by (c.loop-count.count + 1) mind) added in
    subst (λ (mind : MindState). length mind.goals ≡ processes c.args.room.now.spec.now) (sym same) is.goals
