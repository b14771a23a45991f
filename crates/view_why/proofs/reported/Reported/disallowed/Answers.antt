use Rattle.std.proofs.Common.{◌<◌, List, arith, length, refl, subst}
use Rattle.std.proofs.lemmas.Option.{slice_get_read, slice_get_within}
use Rattle.transcript.specs.declared.event.Event.{Event}
use Rattle.decision_tasks.specs.Tasks.{IsFirstBroken, KeepsDecisions}
use Rattle.view_why.specs.Keeping.{IsDisallowed}
use Rattle.view_why.specs.Reported.{ReportedRoom}
use Rattle.view_why.proofs.reported.Reported.disallowed.Goals as goal

pub returns-in-None-clause-none : goal.returns-in-None-clause-none
returns-in-None-clause-none c =
    subst (λ (reported : ReportedRoom). KeepsDecisions c.args.task.now reported.spec reported.events) c.self.view_is (subst (KeepsDecisions c.args.task.now c.self.inside.spec) c.as_slice.ensures.value c.in-None.ensures.none)

pub returns-in-Some-clause-some : goal.returns-in-Some-clause-some
returns-in-Some-clause-some c =
    let events = c.self.inside.events.items in
    let first = subst (λ (all : List Event). IsFirstBroken c.args.task.now c.self.inside.spec all c.in-Some.moment) c.as_slice.ensures.value c.in-Some.ensures.some in
    let within = slice_get_within events c.in-Some.moment.at first.event first.there in
    let below : c.in-Some.moment.at < length c.self.inside.lines.items = omega (arith, within, c.self.invariant) in
    let there = slice_get_read c.self.inside.lines.items (length c.self.inside.lines.items) c.in-Some.moment.at c.index.result.now refl below c.index.ensures in
    subst (λ (reported : ReportedRoom). IsDisallowed c.args.task.now reported (record { line = c.index.result.now; moment = c.in-Some.moment })) c.self.view_is (record { first = first; line = there })
