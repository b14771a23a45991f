use Rattle.std.proofs.Common.{◌++◌, ◌∷◌, [], sym, ap, ◌∙◌, subst}
use Rattle.room_spec.specs.Rooms.{RoomSpec}
use Rattle.history_checker.specs.Verdicts.{RoomState, StandsAfter, TaskStands}
use Rattle.history_checker.proofs.room.Room.feed.Goals as goal

pub returns-clause-processed : goal.returns-clause-processed
returns-clause-processed c = λ fed one event line after.
    let counted = c.count.ensures.task fed one event line after.1 in
    let stood = subst (λ (room : RoomState). StandsAfter room fed room.broken) (sym c.count.ensures.others) after.0 in
    let spec = c.follow.ensures.spec ∙ ap (λ (room : RoomState). room.spec) c.count.ensures.others in (
      c.follow.ensures.processed fed one event line stood,
      rw (c.follow.ensures.tally) (subst (λ (spec : RoomSpec). TaskStands spec (fed ++ one ∷ []) spec.task c.count.new.self.tally) (sym spec) counted),
    )
