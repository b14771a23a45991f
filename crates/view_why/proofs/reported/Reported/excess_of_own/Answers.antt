use Rattle.std.proofs.Common.{◌≡◌, ◌∙◌, ◌<◌, ◌+◌, Some, length, refl, ap, sym, subst, arith}
use Rattle.std.specs.Prelude.{slice_get}
use Rattle.std.proofs.lemmas.Option.{slice_get_read}
use Rattle.view_why.specs.Reported.{ReportedRoom, judged_room}
use Rattle.view_why.proofs.Allowing.{breaks_own, event_there, first_refused, keeps_more}
use Rattle.view_why.proofs.reported.Reported.excess_of_own.Goals as goal

pub loop-at-preserved : goal.loop-at-preserved
loop-at-preserved c =
    let reported = c.args.self.now in
    let at = c.loop-at.at in
    let below : at < length reported.events = omega (arith, c.loop-at-test.true, c.len-at-end.ensures, ap (λ (room : ReportedRoom). length room.events) c.self.view_is) in
    let there = event_there reported.events at below in (
      c.in_ok-note_decision.ensures c.loop-at.invariant.0,
      keeps_more (judged_room reported.spec) c.in-Some.most reported.events at there.0 there.1 c.loop-at.invariant.1 (c.if-not-is_allowed.ensures there.0 there.1),
    )

pub returns-then-not-is_allowed-clause-first : goal.returns-then-not-is_allowed-clause-first
returns-then-not-is_allowed-clause-first c =
    let reported = c.args.self.now in
    let at = c.loop-at.at in
    let below : at < length reported.events = omega (arith, c.loop-at-test.true, c.len-at-end.ensures, ap (λ (room : ReportedRoom). length room.events) c.self.view_is) in
    let within : at < length c.self.inside.lines.items = omega (arith, c.loop-at-test.true, c.len-at-end.ensures, c.self.invariant) in
    let there = event_there reported.events at below in
    let on = subst (λ (room : ReportedRoom). slice_get room.lines at ≡ Some c.index.result.now) c.self.view_is (slice_get_read c.self.inside.lines.items _ at c.index.result.now refl within c.index.ensures) in
    let task = sym (ap (λ (room : ReportedRoom). room.spec.task) c.self.view_is) ∙ sym c.task.ensures.value ∙ c.in-Some.is in
    first_refused reported c.in-Some.most at c.index.result.now there.0 task there.1 on c.loop-at.invariant.1 c.if-not-is_allowed.ensures

pub returns-then-not-is_allowed-clause-keeps : goal.returns-then-not-is_allowed-clause-keeps
returns-then-not-is_allowed-clause-keeps c =
    let reported = c.args.self.now in
    let at = c.loop-at.at in
    let below : at < length reported.events = omega (arith, c.loop-at-test.true, c.len-at-end.ensures, ap (λ (room : ReportedRoom). length room.events) c.self.view_is) in
    let there = event_there reported.events at below in
    let task = sym (ap (λ (room : ReportedRoom). room.spec.task) c.self.view_is) ∙ sym c.task.ensures.value ∙ c.in-Some.is in (
      λ never. absurd cc,
      λ keeps. absurd (breaks_own (judged_room reported.spec) c.in-Some.most reported.events at task
          (record { event = there.0; there = there.1; breaks = c.if-not-is_allowed.ensures there.0 there.1; kept_before = c.loop-at.invariant.1 }) keeps),
    )
