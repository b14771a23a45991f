use Rattle.std.proofs.Common.{◌∙◌, ◌++◌, ◌∷◌, [], List, ap}
use Rattle.scheduler.specs.declared.rooms.RoomResult.{RoomResult}
use Rattle.scheduler.proofs.gathers.VecRoomResultGathers.add.Goals as goal

pub returns : goal.returns
returns c = (
  c.in_ok-report.report,
  λ fields are. (c.in_ok-report.ensures.fields fields are, c.in_ok-report.ensures.truth fields are),
  λ results is. c.in_ok-push.ensures.items ∙ ap (λ (l : List RoomResult). l ++ record { core = c.args.core; report = c.in_ok-report.report } ∷ []) is,
)
