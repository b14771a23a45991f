use Rattle.std.proofs.Common.{◌≡◌, ◌∙◌, ◌<◌, length, Some, refl, ap, sym, subst}
use Rattle.std.specs.Prelude.{slice_get}
use Rattle.std.proofs.lemmas.Option.{slice_get_read}
use Rattle.transcript.specs.Tasks.{decided_by}
use Rattle.view_why.specs.Reported.{ReportedRoom}
use Rattle.view_why.proofs.Deciding.{decides_none}
use Rattle.view_why.proofs.reported.Reported.note_decision.Goals as goal

pub note_value-requires : goal.note_value-requires
note_value-requires c =
    let P : ReportedRoom → Type 0 = λ reported. slice_get reported.events c.args.index ≡ Some c.index.result.now in
    let below : c.args.index < length c.self.inside.events.items = subst (λ (reported : ReportedRoom). c.args.index < length reported.events) (sym c.self.view_is) c.requires in
    let there = subst P c.self.view_is (slice_get_read c.self.inside.events.items _ c.args.index c.index.result.now refl below c.index.ensures) in
    (c.in-Decide.p, there ∙ ap Some c.in-Decide.is)

pub returns-in-Write : goal.returns-in-Write
returns-in-Write c = λ is.
    let P : ReportedRoom → Type 0 = λ reported. slice_get reported.events c.args.index ≡ Some c.index.result.now in
    let below : c.args.index < length c.self.inside.events.items = subst (λ (reported : ReportedRoom). c.args.index < length reported.events) (sym c.self.view_is) c.requires in
    let there = subst P c.self.view_is (slice_get_read c.self.inside.events.items _ c.args.index c.index.result.now refl below c.index.ensures) in
    decides_none c.args.self.now c.args.index c.args.before.now.items is c.index.result.now there (ap decided_by c.in-Write.is)

pub returns-in-Snap : goal.returns-in-Snap
returns-in-Snap c = λ is.
    let P : ReportedRoom → Type 0 = λ reported. slice_get reported.events c.args.index ≡ Some c.index.result.now in
    let below : c.args.index < length c.self.inside.events.items = subst (λ (reported : ReportedRoom). c.args.index < length reported.events) (sym c.self.view_is) c.requires in
    let there = subst P c.self.view_is (slice_get_read c.self.inside.events.items _ c.args.index c.index.result.now refl below c.index.ensures) in
    decides_none c.args.self.now c.args.index c.args.before.now.items is c.index.result.now there (ap decided_by c.in-Snap.is)
