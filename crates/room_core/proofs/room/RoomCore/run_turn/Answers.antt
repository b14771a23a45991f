use Rattle.std.proofs.Common.{◌≡◌, ◌∙◌, ◌<◌, ℕ, refl, ap, sym, subst}
use Rattle.std.specs.Box.{boxed_slice_items}
use Rattle.simulator.specs.declared.sweep.Ready.TheVariants.{Step}
use Rattle.room_core.specs.declared.reply.StepReply.TheVariants.{Stepped}
use Rattle.room_core.specs.Calls.{RoomState, ready_at, room_after_steps, step_reply}
use Rattle.room_core.proofs.settling.Alone.{IsUp}
use Rattle.room_core.proofs.fields.Turning.{HasTurned, turn_left, turn_operation, with_parts}
use Rattle.room_core.proofs.room.RoomCore.run_turn.Goals as goal

pub run_turn-requires-clause-operation : goal.run_turn-requires-clause-operation
run_turn-requires-clause-operation c =
    let room : RoomState = record { spec = c.self.inside.spec; words = c.self.inside.words; sweeps = boxed_slice_items c.self.inside.sweeps; crashed = c.self.inside.crashed.items } in
    let up : IsUp room c.args.i = subst (λ (r : RoomState). IsUp r c.args.i) (sym c.self.view_is) (record { shape = c.requires.shape; below = c.requires.alive.below; alive = c.requires.alive.alive }) in
    let ready : ready_at room c.args.i ≡ Step = ap (λ (r : RoomState). ready_at r c.args.i) c.self.view_is ∙ c.requires.ready in
    turn_operation room c.args.i c.index_mut.result.now up c.index_mut.ensures.value ready

-- the steps that were taken, and the room that they left
turned : (c : goal.After-self-1) → HasTurned (record { spec = c.self.inside.spec; words = c.self.inside.words; sweeps = boxed_slice_items c.self.inside.sweeps; crashed = c.self.inside.crashed.items }) c.args.i c.run_turn.result (with_parts (record { spec = c.self.inside.spec; words = c.self.inside.words; sweeps = boxed_slice_items c.self.inside.sweeps; crashed = c.self.inside.crashed.items }) c.args.i c.run_turn.new.words c.run_turn.new.sweep)
turned c =
    let room : RoomState = record { spec = c.self.inside.spec; words = c.self.inside.words; sweeps = boxed_slice_items c.self.inside.sweeps; crashed = c.self.inside.crashed.items } in
    let up : IsUp room c.args.i = subst (λ (r : RoomState). IsUp r c.args.i) (sym c.self.view_is) (record { shape = c.requires.shape; below = c.requires.alive.below; alive = c.requires.alive.alive }) in
    let ready : ready_at room c.args.i ≡ Step = ap (λ (r : RoomState). ready_at r c.args.i) c.self.view_is ∙ c.requires.ready in
    turn_left (λ words. words) _ (λ words next answer after done. done) room c.args.i c.index_mut.result.now c.run_turn.new.sweep c.run_turn.result c.self.inside.words c.run_turn.new.words c.run_turn.ensures.runs.0 c.self.invariant up refl c.index_mut.ensures.value ready c.run_turn.ensures.runs.1 c.run_turn.ensures.runs.2

pub invariant_of-self : goal.invariant_of-self
invariant_of-self c = (turned c).core

pub returns-clause-room : goal.returns-clause-room
returns-clause-room c = (turned c).run.so_far ∙ ap (λ (r : RoomState). room_after_steps r c.args.i c.run_turn.result) c.self.view_is

pub returns-clause-taken : goal.returns-clause-taken
returns-clause-taken c = subst (λ (r : RoomState). (count : ℕ) → count < c.run_turn.result → step_reply (room_after_steps r c.args.i count) c.args.i ≡ Stepped) c.self.view_is (turned c).run.taken

pub returns-clause-shape : goal.returns-clause-shape
returns-clause-shape c = (turned c).run.up.shape

pub returns-clause-alive : goal.returns-clause-alive
returns-clause-alive c = let up = (turned c).run.up in record { below = up.below; alive = up.alive }
