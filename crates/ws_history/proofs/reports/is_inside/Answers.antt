use Rattle.std.proofs.Common.{◌≡◌, ◌+◌, ◌<◌, ℕ, sym, eq-eqb, ◌∙◌, arith, false}
use Rattle.std.proofs.lemmas.Bool.{or_left, or_right}
use Rattle.std.specs.Prelude.{◌==◌}
use Rattle.ws_history.specs.Reports.{is_inside, is_inside_input}
use Rattle.ws_history.specs.Readings.{read_of}
use Rattle.ws_history.proofs.Searching.{round_any, no_round}
use Rattle.ws_history.proofs.reports.is_inside.Goals as goal

pub returns-then-is_inside_input : goal.returns-then-is_inside_input
returns-then-is_inside_input c = sym (or_left _ _ (sym c.is_inside_input.ensures ∙ c.if-is_inside_input.true))

pub returns-then-level-eq1 : goal.returns-then-level-eq1
returns-then-level-eq1 c =
    let F = read_of c.args.room.now in
    let below : c.loop-r.r < c.args.room.now.spec.rounds = omega arith in
    let one : F.level c.args.i c.args.j (c.loop-r.r + 1) ≡ 1 = cc in
    sym (or_right _ _ (round_any (λ (k : ℕ). F.level c.args.i c.args.j k == 1) c.args.room.now.spec.rounds c.loop-r.r below (eq-eqb _ 1 one)))

pub returns : goal.returns
returns c =
    let F = read_of c.args.room.now in
    let input : is_inside_input c.args.room.now.spec F c.args.i c.args.j ≡ false = sym c.is_inside_input.ensures ∙ c.if-is_inside_input.false in
    let none = no_round (λ (k : ℕ). F.level c.args.i c.args.j k == 1) c.args.room.now.spec.rounds (λ k below. c.loop-r.invariant k (omega arith)) in
    let outside : is_inside c.args.room.now.spec F c.args.i c.args.j ≡ false = rw input none in
    sym outside
