use Rattle.std.proofs.Common.{◌≡◌, ◌≢◌, ◌-◌, ◌<◌, ◌∙◌, ℕ, Option, Some, true, Bool, sym, ap, ne_eqb, arith}
use Rattle.std.specs.Prelude.{not}
use Rattle.std.specs.Option.{option_map}
use Rattle.room_core.specs.Agreements.{is_out}
use Rattle.ws_history.specs.Readings.{read_of}
use Rattle.ws_history.proofs.Searching.{finds, finds_none}
use Rattle.ws_history.proofs.reading.decided_in.Goals as goal

pub returns-then-out-ne0 : goal.returns-then-out-ne0
returns-then-out-ne0 c =
    let F = read_of c.args.room.now in
    let below : c.loop-i.i < c.args.room.now.spec.simulators = omega arith in
    let some : c.out-out.result ≢ 0 = c.if-out-ne0.true in
    let here : is_out (F.out c.loop-i.i c.args.j) ≡ true = ap is_out (sym c.out-out.ensures.value) ∙ ap (λ (b : Bool). not b) (ne_eqb c.out-out.result 0 some) in
    let found = finds is_out (λ (i : ℕ). F.out i c.args.j) c.args.room.now.spec.simulators c.loop-i.i below c.loop-i.invariant here in
    ap (λ (x : ℕ). Some (x - 1)) c.out-out.ensures.value ∙ sym (ap (λ (o : Option ℕ). option_map (λ (out : ℕ). out - 1) o) found)

pub returns : goal.returns
returns c =
    let F = read_of c.args.room.now in
    let none = finds_none is_out (λ (i : ℕ). F.out i c.args.j) c.args.room.now.spec.simulators (λ k below. c.loop-i.invariant k (omega arith)) in
    sym (ap (λ (o : Option ℕ). option_map (λ (out : ℕ). out - 1) o) none)
