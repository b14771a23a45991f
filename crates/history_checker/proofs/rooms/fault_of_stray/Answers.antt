use Rattle.std.proofs.Common.{◌∙◌, ap, sym}
use Rattle.history_checker.specs.Verdicts.{has_room}
use Rattle.history_checker.proofs.SaidLines.{name_said}
use Rattle.history_checker.proofs.rooms.fault_of_stray.Goals as goal

pub returns-in-Ok : goal.returns-in-Ok
returns-in-Ok c = λ rooms unknown.
    let said = sym c.in-Ok.ensures in
    (c.in-Ok.field-0, said, ap (λ name. has_room name rooms) (name_said c.args.line.now c.in-Ok.field-0 said) ∙ unknown)
