use Rattle.std.proofs.Common.{◌≡◌, ◌≢◌, ◌∙◌, ℕ, None, Some, ap, sym, subst, arith}
use mathlib.Core.Logic.{dite}
use native.Mathlib.Decide.{ℕ_discrete}
use Rattle.simulator.specs.Minds.{MindState, known_input}
use Rattle.room_core.specs.Calls.{RoomState, sweep_at}
use Rattle.room_core.proofs.settling.AgreedInputs.{first_found, first_none}
use Rattle.room_core.proofs.room.RoomCore.first_input.Goals as goal

pub returns-in-Some : goal.returns-in-Some
returns-in-Some c =
    let room : RoomState = c.args.self.now in
    let known = λ (a : ℕ). known_input (sweep_at room a).mind c.args.j in
    let count : c.m-i-end.result ≡ room.spec.simulators = c.m-i-end.ensures.value ∙ ap (λ (r : RoomState). r.spec.simulators) c.self.view_is in
    let here : known c.loop-i.i ≡ Some c.in-Some.input = ap (λ (mind : MindState). known_input mind c.args.j) (sym c.mind.ensures.value) ∙ sym c.input.ensures ∙ c.in-Some.is in
    sym (first_found known 0 room.spec.simulators c.loop-i.i c.in-Some.input (omega arith) (omega (arith, count, c.loop-i-test.true, c.loop-i.auto.i-end)) (λ b low less. c.loop-i.invariant b less) here)

pub loop-i-preserved : goal.loop-i-preserved
loop-i-preserved c = λ a less. dite (ℕ_discrete a c.loop-i.i)
    (λ (e : a ≡ c.loop-i.i).
    subst (λ (b : ℕ). known_input (sweep_at c.args.self.now b).mind c.args.j ≡ None) (sym e)
    (ap (λ (mind : MindState). known_input mind c.args.j) (sym c.mind.ensures.value) ∙ sym c.input.ensures ∙ c.in_default.is))
    (λ (n : a ≢ c.loop-i.i). c.loop-i.invariant a (omega (arith, n, less)))

pub returns : goal.returns
returns c =
    let room : RoomState = c.args.self.now in
    let count : c.m-i-end.result ≡ room.spec.simulators = c.m-i-end.ensures.value ∙ ap (λ (r : RoomState). r.spec.simulators) c.self.view_is in
    sym (first_none (λ (a : ℕ). known_input (sweep_at room a).mind c.args.j) 0 room.spec.simulators (λ a low less. c.loop-i.invariant a (omega (arith, count, less, c.loop-i-test.false, c.loop-i.auto.i-end))))
