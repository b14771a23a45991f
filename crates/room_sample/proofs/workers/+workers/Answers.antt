use Rattle.std.proofs.Common.{◌≤◌, ◌+◌, ◌-◌, ◌/◌, ℕ, IfOk, arith, rules, subst}
use Rattle.room_sample.specs.Parts.{AreCountedFrom}
use Rattle.room_sample.proofs.Parts.{parts_counted}
use Rattle.room_sample.proofs.workers.+workers.Goals as goal

pub returns : goal.returns
returns g t c =
    let own = c.args.places.count / c.args.workers in
    let left = c.args.places.count - own in
    let fits : own ≤ c.args.places.count = search rules in
    let first = subst (λ r. IfOk r (AreCountedFrom c.args.spec.now c.args.plan.now c.args.places.first own)) c.in_ok-tally.was c.join-tally.ensures.first in
    let rest = subst (λ r. IfOk r (AreCountedFrom c.args.spec.now c.args.plan.now (c.args.places.first + own) left)) c.in_ok-later.was c.join-tally.ensures.second in
    subst (λ (n : ℕ). AreCountedFrom c.args.spec.now c.args.plan.now c.args.places.first n c.in_ok-both.field-0) (omega (arith, fits))
    (parts_counted c.args.spec.now c.args.plan.now c.args.places.first own left c.in_ok-tally.field-0 c.in_ok-later.field-0 c.in_ok-both.field-0 first rest c.in_ok-both.ensures)
