use Rattle.std.proofs.Common.{◌≡◌, ◌∙◌, true, false, List, sym, ap, subst}
use Rattle.std.proofs.lemmas.Result.{err_from_is_err_and}
use Rattle.transcript.specs.Lines.{line_said}
use Rattle.history_checker.specs.Verdicts.{FedEvent, fed_to, has_room}
use Rattle.history_checker.proofs.CallerLemmas.{after-with_room, has_room-lookup, IsKeyed-with_room, specs-with_room}
use Rattle.view_why.specs.Reported.{AreReported, IsReported, ReportedRoom, specs_of}
use Rattle.view_why.proofs.Hearing.{has_some, known, unknown}
use Rattle.view_why.proofs.RoomLists.{spec_in, reported_more}
use Rattle.view_why.proofs.rooms.ReportedRoomsTakesEvents.take.Goals as goal

pub returns-in_default-clause-err : goal.returns-in_default-clause-err
returns-in_default-clause-err c =
    let name = c.in-Ok.read.0 in
    let none : has_room name (specs_of c.args.self.now) ≡ false =
    ap (λ (rooms : List ReportedRoom). has_room name (specs_of rooms)) (sym c.self.view_is) ∙ has_room-lookup spec_in name c.self.inside.rooms.entries c.self.invariant ∙ sym c.in_default.ensures.found in
    unknown (specs_of c.args.self.now) c.args.number (line_said c.args.line.now) c.in-Ok.read (sym c.in-Ok.ensures) none

pub invariant_of-self : goal.invariant_of-self
invariant_of-self c =
    IsKeyed-with_room spec_in c.self.inside.rooms.entries c.in-Some.index c.index_mut.result.now c.tell.new.self c.index_mut.ensures.value (ap (λ (reported : ReportedRoom). reported.spec) c.in_err-tell.ensures.err) c.self.invariant

pub returns-in_err-tell-clause-err : goal.returns-in_err-tell-clause-err
returns-in_err-tell-clause-err c =
    let name = c.in-Ok.read.0 in
    let there : has_room name (specs_of c.args.self.now) ≡ true =
    ap (λ (rooms : List ReportedRoom). has_room name (specs_of rooms)) (sym c.self.view_is) ∙ has_room-lookup spec_in name c.self.inside.rooms.entries c.self.invariant ∙ sym c.in-Some.ensures.found in
    let p = err_from_is_err_and c.from_residual.result c.from_residual.ensures.1 in
    rw (p.1, p.2) (has_some name (specs_of c.args.self.now) there)

pub invariant_of-self-2 : goal.invariant_of-self-2
invariant_of-self-2 c =
    IsKeyed-with_room spec_in c.self.inside.rooms.entries c.in-Some.index c.index_mut.result.now c.tell.new.self c.index_mut.ensures.value (ap (λ (reported : ReportedRoom). reported.spec) c.in_ok-tell.ensures.reported) c.self.invariant

pub returns-clause-rooms : goal.returns-clause-rooms
returns-clause-rooms c =
    specs-with_room spec_in c.self.inside.rooms.entries c.in-Some.index c.index_mut.result.now c.tell.new.self c.index_mut.ensures.value (ap (λ (reported : ReportedRoom). reported.spec) c.in_ok-tell.ensures.reported) ∙ ap specs_of c.self.view_is

pub returns-clause-taken : goal.returns-clause-taken
returns-clause-taken c =
    let read = c.in-Ok.read in
    let there : has_room read.0 (specs_of c.args.self.now) ≡ true =
    ap (λ (rooms : List ReportedRoom). has_room read.0 (specs_of rooms)) (sym c.self.view_is) ∙ has_room-lookup spec_in read.0 c.self.inside.rooms.entries c.self.invariant ∙ sym c.in-Some.ensures.found in
    let one : FedEvent = record { name = read.0; event = read.1; line = c.args.number } in
    let room = c.index_mut.result.now in (
      one,
      known (specs_of c.args.self.now) c.args.number (line_said c.args.line.now) read (sym c.in-Ok.ensures) there,
      λ fed before.
          after-with_room spec_in IsReported c.self.inside.rooms.entries c.in-Some.index room c.tell.new.self fed one c.self.invariant c.in-Some.ensures.unique (sym c.in-Some.ensures.index) c.index_mut.ensures.value
          (ap (λ (reported : ReportedRoom). reported.spec) c.in_ok-tell.ensures.reported)
          (reported_more room c.tell.new.self (fed_to room.spec.name fed) one c.in_ok-tell.ensures.reported)
          (subst (λ rooms. AreReported rooms fed) (sym c.self.view_is) before),
    )
