use Rattle.std.proofs.Common.{◌++◌, ◌∷◌, [], refl, sym, subst}
use Rattle.transcript.specs.declared.event.Event.TheVariants.{Write}
use Rattle.room_spec.specs.Rooms.{RoomSpec}
use Rattle.history_checker.specs.Verdicts.{TaskStands}
use Rattle.history_checker.proofs.Counting.{uncounted}
use Rattle.history_checker.proofs.room.Room.feed_write.Goals as goal

pub returns-clause-processed : goal.returns-clause-processed
returns-clause-processed c = λ fed one event line after.
    let room = c.args.self.now in
    let counted = uncounted room.spec fed one (Write c.args.p c.args.v) room.spec.task room.tally refl event after.1 in (
      c.follow_write.ensures.processed fed one event line after.0,
      rw (c.follow_write.ensures.tally) (subst (λ (spec : RoomSpec). TaskStands spec (fed ++ one ∷ []) spec.task room.tally) (sym c.follow_write.ensures.spec) counted),
    )
