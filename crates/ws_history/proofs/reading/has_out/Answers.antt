use Rattle.std.proofs.Common.{◌≡◌, ◌≢◌, ◌<◌, ◌∙◌, ℕ, true, Bool, sym, ap, ne_eqb, arith}
use Rattle.std.specs.Prelude.{not}
use Rattle.room_core.specs.Agreements.{is_out}
use Rattle.ws_history.specs.Readings.{read_of}
use Rattle.ws_history.proofs.Searching.{anys, anys_none}
use Rattle.ws_history.proofs.reading.has_out.Goals as goal

pub returns-then-out-ne0 : goal.returns-then-out-ne0
returns-then-out-ne0 c =
    let F = read_of c.args.room.now in
    let below : c.loop-i.i < c.args.room.now.spec.simulators = omega arith in
    let some : c.out.result ≢ 0 = c.if-out-ne0.true in
    let here : is_out (F.out c.loop-i.i c.args.j) ≡ true = ap is_out (sym c.out.ensures.value) ∙ ap (λ (b : Bool). not b) (ne_eqb c.out.result 0 some) in
    sym (anys is_out (λ (i : ℕ). F.out i c.args.j) c.args.room.now.spec.simulators c.loop-i.i below here)

pub returns : goal.returns
returns c =
    let F = read_of c.args.room.now in
    sym (anys_none is_out (λ (i : ℕ). F.out i c.args.j) c.args.room.now.spec.simulators (λ k below. c.loop-i.invariant k (omega arith)))
