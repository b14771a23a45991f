use Rattle.std.proofs.Common.{[], List, refl, subst, sym}
use Rattle.history_checker.specs.Verdicts.{HasProcessed, RoomState}
use Rattle.view_why.proofs.run_rooms.RunRoomsOpens.push.Goals as goal

pub returns-clause-unfed : goal.returns-clause-unfed
returns-clause-unfed c = λ unfed. c.in_ok-push.ensures.processed [] refl (subst (λ (rooms : List RoomState). HasProcessed rooms []) (sym c.self.view_is) unfed)
