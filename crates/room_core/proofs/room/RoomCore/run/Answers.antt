use Rattle.std.proofs.Common.{◌≡◌, ◌≢◌, ◌∙◌, rules, sym, arith}
use Rattle.simulator.specs.declared.sweep.Ready.TheVariants.{Step}
use Rattle.room_core.proofs.settling.Alone.{IsUp}
use Rattle.room_core.proofs.fields.Repeating.{begins, stops}
use Rattle.room_core.proofs.fields.Turning.{joins}
use Rattle.room_core.proofs.room.RoomCore.run.Goals as goal

pub loop-taken-init : goal.loop-taken-init
loop-taken-init c = record {
  run = begins c.args.self.now c.args.i (record { shape = c.requires.shape; below = c.requires.alive.below; alive = c.requires.alive.alive });
  most = omega arith;
}

pub run_turn-taken-requires : goal.run_turn-taken-requires
run_turn-taken-requires c =
    let ready : c.ready.result ≡ Step = search rules in
    let up = c.loop-taken.invariant.run.up in
    record { shape = up.shape; alive = record { below = up.below; alive = up.alive }; ready = sym c.ready.ensures ∙ ready; some = omega arith }

pub loop-taken-preserved : goal.loop-taken-preserved
loop-taken-preserved c =
    let turn = c.run_turn-taken.ensures in
    let up : IsUp c.run_turn-taken.new.self c.args.i = record { shape = turn.shape; below = turn.alive.below; alive = turn.alive.alive } in
    record {
      run = joins c.args.self.now c.loop-taken.self c.run_turn-taken.new.self c.args.i c.loop-taken.taken c.run_turn-taken.result c.loop-taken.invariant.run turn.room up turn.taken;
      most = omega arith;
    }

pub returns-then-ne : goal.returns-then-ne
returns-then-ne c =
    let on = c.loop-taken.invariant.run in
    let other : c.ready.result ≢ Step = search rules in
    record {
      room = on.so_far;
      taken = on.taken;
      most = omega arith;
      stopped = λ less. stops c.loop-taken.self c.args.i on.up (λ ready. other (c.ready.ensures ∙ ready));
    }
