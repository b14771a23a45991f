use Rattle.std.proofs.Common.{◌∙◌, ap, refl, sym, subst, arith}
use Rattle.std.proofs.lemmas.Option.{slice_get_read}
use Rattle.room_spec.specs.Rooms.{RoomSpec}
use Rattle.transcript.specs.Tasks.{KeepsOwnTask}
use Rattle.view_why.specs.Reported.{IsExcess, ReportedRoom, judged_room}
use Rattle.view_why.proofs.Breaking.{ordinary_inside}
use Rattle.view_why.proofs.Owning.{first_as_judged, judged_as_is}
use Rattle.view_why.proofs.Reporting.{excess_is, excess_within}
use Rattle.view_why.proofs.reported.Reported.excess_ordinary.Goals as goal

pub index-requires : goal.index-requires
index-requires c =
    let reported : ReportedRoom = record { spec = c.self.inside.spec; events = c.self.inside.events.items; lines = c.self.inside.lines.items } in
    let excess = first_as_judged reported.spec reported.events c.in-Err.at (ordinary_inside reported.spec c.args.self.now.spec (ap (λ (room : ReportedRoom). room.spec) c.self.view_is) c.requires) (rw c.as_slice.ensures.value at (c.in-Err.ensures.first c.in-Err.at).0 refl) in
    omega (arith, excess_within reported excess.0 c.in-Err.at c.self.invariant excess.2, c.self.inside.lines.ok.0)

pub returns-in-Err-clause-first : goal.returns-in-Err-clause-first
returns-in-Err-clause-first c =
    let reported : ReportedRoom = record { spec = c.self.inside.spec; events = c.self.inside.events.items; lines = c.self.inside.lines.items } in
    let excess = first_as_judged reported.spec reported.events c.in-Err.at (ordinary_inside reported.spec c.args.self.now.spec (ap (λ (room : ReportedRoom). room.spec) c.self.view_is) c.requires) (rw c.as_slice.ensures.value at (c.in-Err.ensures.first c.in-Err.at).0 refl) in
    let below = excess_within reported excess.0 c.in-Err.at c.self.invariant excess.2 in
    let there = slice_get_read c.self.inside.lines.items _ c.in-Err.at c.index.result.now refl below c.index.ensures in
    let P : ReportedRoom → Type 0 = λ room. IsExcess room (record { at = c.in-Err.at; line = c.index.result.now; most = c.in-Some.most }) in
    subst P c.self.view_is (excess_is reported c.in-Some.most c.in-Err.at c.index.result.now (sym c.in-Some.is ∙ c.task.ensures.value) excess there)

pub returns-in-Ok-clause-keeps : goal.returns-in-Ok-clause-keeps
returns-in-Ok-clause-keeps c = (
  λ done. subst (λ (room : ReportedRoom). KeepsOwnTask (judged_room room.spec) room.events) c.self.view_is
      (subst (λ (room : RoomSpec). KeepsOwnTask room c.self.inside.events.items) (sym (judged_as_is c.self.inside.spec (ordinary_inside c.self.inside.spec c.args.self.now.spec (ap (λ (room : ReportedRoom). room.spec) c.self.view_is) c.requires)))
      (rw c.as_slice.ensures.value at c.in-Ok.ensures.keeps.0 refl)),
  λ keeps. refl,
)
