use Rattle.std.proofs.Common.{◌≡◌, ◌∙◌, ◌<◌, ℕ, true, false, eqb, length, List, ap, sym, arith}
use Rattle.std.specs.List.{list_any}
use Rattle.view_why.proofs.Allowing.{allows_room, refuses_over}
use Rattle.view_why.proofs.reported.may_decide.Goals as goal

pub returns-then-before-most : goal.returns-then-before-most
returns-then-before-most c = λ spec events inputs values.
    allows_room spec c.args.most c.args.v events c.args.before.now values (ap (λ (all : List ℕ). list_any (λ y. eqb y c.args.v) all) inputs ∙ sym c.contains.ensures.value ∙ c.if-not-contains.false)
    (omega (arith, c.if-before-most.true, c.from-most.ensures))

pub returns-then-before-most-2 : goal.returns-then-before-most-2
returns-then-before-most-2 c = λ spec events inputs values.
    refuses_over spec c.args.most c.args.v events c.args.before.now values (omega (arith, c.if-before-most-2.true, c.from-most.ensures))
