use Rattle.room_search.specs.Steps.{SaysNoMore}
use Rattle.room_search.proofs.stepping.pass_view.Given as goal

abbrev pub invariant-loop-word : goal.invariant-loop-word
invariant-loop-word l = SaysNoMore l.subject.spec.now l.fn.said l.said
