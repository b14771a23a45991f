use Rattle.std.proofs.Common.{◌≡◌, ◌<◌, ◌∙◌, ℕ, Bool, true, sym, ap, arith}
use Rattle.std.specs.Prelude.{◌&&◌, ◌==◌}
use Rattle.ws_history.specs.Readings.{read_of}
use Rattle.ws_history.proofs.Searching.{number_found, no_number}
use Rattle.ws_history.proofs.unreadable.blocker_of.Goals as goal

pub returns-then-level-eq1 : goal.returns-then-level-eq1
returns-then-level-eq1 c =
    let F = read_of c.args.room.now in
    let below : c.loop-i.i < c.args.room.now.spec.simulators = omega arith in
    let crashed : F.crashed c.loop-i.i ≡ true = cc in
    let inside : (F.level c.loop-i.i c.args.j c.args.k == 1) ≡ true = cc in
    let here : (F.crashed c.loop-i.i && (F.level c.loop-i.i c.args.j c.args.k == 1)) ≡ true =
    ap (λ (b : Bool). b && (F.level c.loop-i.i c.args.j c.args.k == 1)) crashed ∙ inside in
    sym (number_found (λ (i : ℕ). F.crashed i && (F.level i c.args.j c.args.k == 1)) c.args.room.now.spec.simulators c.loop-i.i below c.loop-i.invariant here)

pub returns : goal.returns
returns c =
    let F = read_of c.args.room.now in
    sym (no_number (λ (i : ℕ). F.crashed i && (F.level i c.args.j c.args.k == 1)) c.args.room.now.spec.simulators (λ i below. c.loop-i.invariant i (omega arith)))
