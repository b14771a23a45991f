use Rattle.std.proofs.Common.{◌<◌, ◌≤◌, ℕ, Option, sym, ap, arith}
use Rattle.std.proofs.lemmas.Bool.{le-leb}
use Rattle.std.specs.Prelude.{nat_le, unwrap_or}
use Rattle.room_search.specs.Ends.{fields_by}
use Rattle.room_search.proofs.Finding.{no_place, places}
use Rattle.room_search.proofs.reading.first_with.Goals as goal

pub returns-then-r-step-clause-value : goal.returns-then-r-step-clause-value
returns-then-r-step-clause-value c =
    let F = fields_by c.args.subject.now.spec.now c.args.words.now in
    let below : c.loop-i.i < c.args.subject.now.spec.now.simulators = omega arith in
    let high : c.args.r ≤ F.step c.loop-i.i c.args.p = omega arith in
    let found = places (λ (step : ℕ). nat_le c.args.r step) (λ (i : ℕ). F.step i c.args.p) c.args.subject.now.spec.now.simulators c.loop-i.i below c.loop-i.invariant (le-leb _ _ high) in
    sym (ap (λ (o : Option ℕ). unwrap_or o 0) found)

pub returns-clause-value : goal.returns-clause-value
returns-clause-value c =
    let F = fields_by c.args.subject.now.spec.now c.args.words.now in
    let none = no_place (λ (step : ℕ). nat_le c.args.r step) (λ (i : ℕ). F.step i c.args.p) c.args.subject.now.spec.now.simulators (λ k below. c.loop-i.invariant k (omega arith)) in
    sym (ap (λ (o : Option ℕ). unwrap_or o 0) none)
