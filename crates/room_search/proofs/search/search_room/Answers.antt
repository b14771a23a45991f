use Rattle.std.proofs.Common.{arith}
use Rattle.room_search.proofs.Going.{open_at_first}
use Rattle.room_search.proofs.search.search_room.Goals as goal

pub returns-clause-complete : goal.returns-clause-complete
returns-clause-complete g c = λ zero outcome reachable. c.in_ok-reach.ensures.complete zero outcome (open_at_first c.args.spec.now c.args.crashes outcome reachable)

pub returns-clause-sound : goal.returns-clause-sound
returns-clause-sound g c = λ reached there.
    let is = c.in_ok-reach.ensures.sound reached there in
    record { may_come = is.may_come; few = let few = is.few in omega (arith, few); reported = is.reported }
