use Rattle.std.proofs.Common.{◌≡◌, ◌<◌, ◌∙◌, ℕ, Bool, true, sym, ap, arith}
use Rattle.std.specs.Prelude.{◌&&◌}
use Rattle.ws_history.specs.Readings.{read_of}
use Rattle.ws_history.specs.Reports.{is_inside}
use Rattle.ws_history.proofs.Searching.{number_found, no_number}
use Rattle.ws_history.proofs.reports.held_by.Goals as goal

pub returns-then-is_inside : goal.returns-then-is_inside
returns-then-is_inside c =
    let F = read_of c.args.room.now in
    let below : c.loop-i.i < c.args.room.now.spec.simulators = omega arith in
    let crashed : F.crashed c.loop-i.i ≡ true = cc in
    let inside : is_inside c.args.room.now.spec F c.loop-i.i c.args.j ≡ true = cc in
    let here : (F.crashed c.loop-i.i && is_inside c.args.room.now.spec F c.loop-i.i c.args.j) ≡ true =
    ap (λ (b : Bool). b && is_inside c.args.room.now.spec F c.loop-i.i c.args.j) crashed ∙ inside in
    sym (number_found (λ (i : ℕ). F.crashed i && is_inside c.args.room.now.spec F i c.args.j) c.args.room.now.spec.simulators c.loop-i.i below c.loop-i.invariant here)

pub returns : goal.returns
returns c =
    let F = read_of c.args.room.now in
    sym (no_number (λ (i : ℕ). F.crashed i && is_inside c.args.room.now.spec F i c.args.j) c.args.room.now.spec.simulators (λ k below. c.loop-i.invariant k (omega arith)))
