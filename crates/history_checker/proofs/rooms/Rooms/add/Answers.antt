use Rattle.std.proofs.Common.{◌≡◌, ◌∙◌, false, List, ℕ, refl, sym, ap, true≢false}
use Rattle.history_checker.specs.Verdicts.{has_room, specs_of}
use Rattle.history_checker.proofs.rooms.Rooms.add.Goals as goal

pub returns-then-has-clause-taken : goal.returns-then-has-clause-taken
returns-then-has-clause-taken c = (λ e. ap (λ (name : List ℕ). has_room name (specs_of c.args.self.now)) (sym c.name.ensures) ∙ sym c.if-has.ensures, λ e. refl)

pub push-requires : goal.push-requires
push-requires c = ap (λ (name : List ℕ). has_room name (specs_of c.args.self.now)) (sym c.name.ensures) ∙ sym c.if-has.ensures

pub returns-in-Ok-clause-taken : goal.returns-in-Ok-clause-taken
returns-in-Ok-clause-taken c =
    let fresh : has_room c.args.spec.name (specs_of c.args.self.now) ≡ false = ap (λ (name : List ℕ). has_room name (specs_of c.args.self.now)) (sym c.name.ensures) ∙ sym c.if-has.ensures in
    (λ e. absurd cc, λ e. absurd (true≢false (sym e ∙ fresh)))

pub returns-in-Err-clause-taken : goal.returns-in-Err-clause-taken
returns-in-Err-clause-taken c =
    let fresh : has_room c.args.spec.name (specs_of c.args.self.now) ≡ false = ap (λ (name : List ℕ). has_room name (specs_of c.args.self.now)) (sym c.name.ensures) ∙ sym c.if-has.ensures in
    (λ e. absurd cc, λ e. absurd (true≢false (sym e ∙ fresh)))
