use Rattle.std.proofs.Common.{◌≡◌, sym, ap, ◌∙◌, subst}
use Rattle.room_spec.specs.Rooms.{RoomSpec}
use Rattle.simulator.specs.Knowing.{knowledge_of}
use Rattle.simulator.specs.Ranges.{IsMind}
use Rattle.room_core.specs.Calls.{configuration_of}
use Rattle.room_core.specs.Rooms.{mind_at}
use Rattle.room_search.proofs.Going.{mind_here}
use Rattle.room_search.proofs.Steps.{known_is_one}
use Rattle.room_search.proofs.first.first_local.Goals as goal

pub returns-clause-local : goal.returns-clause-local
returns-clause-local c =
    let spec = c.args.subject.now.spec.now in
    let mind = mind_at (configuration_of c.args.subject.now.start.now) c.args.i in
    let known_is : c.knowledge.result ≡ knowledge_of mind = c.knowledge.ensures ∙ ap knowledge_of (c.mind.ensures.value ∙ sym (mind_here c.args.subject.now.start.now c.args.i)) in
    record {
      known = known_is_one spec mind c.knowledge.result (subst (λ (s : RoomSpec). IsMind s mind) c.requires.same c.mind.ensures.is_mind) known_is;
      own = c.in_ok-own.ensures.words;
    }

pub returns-clause-known : goal.returns-clause-known
returns-clause-known c = c.knowledge.ensures ∙ ap knowledge_of (c.mind.ensures.value ∙ sym (mind_here c.args.subject.now.start.now c.args.i))
