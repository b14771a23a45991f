use Rattle.std.proofs.Common.{◌≡◌, ◌∙◌, ◌<◌, ◌+◌, eqb, length, List, Some, refl, ap, sym, subst, arith}
use Rattle.std.specs.Prelude.{slice_get}
use Rattle.std.specs.List.{list_any}
use Rattle.std.proofs.lemmas.Option.{slice_get_read, slice_get_within}
use Rattle.transcript.specs.declared.event.Event.TheVariants.{Decide}
use Rattle.view_why.specs.Reported.{AreDecidedBefore, ReportedRoom}
use Rattle.view_why.specs.declared.reported.Decision.{Decision}
use Rattle.view_why.proofs.Deciding.{decides_again, decides_first}
use Rattle.view_why.proofs.reported.Reported.note_value.Goals as goal

pub index-requires : goal.index-requires
index-requires c =
    let within = slice_get_within c.args.self.now.events c.args.index (Decide c.requires.0 c.args.v) c.requires.1 in
    let same = c.self.invariant in
    let long = ap (λ (reported : ReportedRoom). length reported.events) c.self.view_is in
    omega (arith, within, same, long)

pub returns-then-is_among : goal.returns-then-is_among
returns-then-is_among c = λ is.
    decides_again c.args.self.now c.args.index c.args.before.now.items is c.requires.0 c.args.v c.requires.1
    (ap (λ (all : List Decision). list_any (λ (one : Decision). eqb one.value c.args.v) all) (sym c.as_slice.ensures.value) ∙ sym c.is_among.ensures ∙ c.if-is_among.true)

pub returns : goal.returns
returns c = λ is.
    let none = ap (λ (all : List Decision). list_any (λ (one : Decision). eqb one.value c.args.v) all) (sym c.as_slice.ensures.value) ∙ sym c.is_among.ensures ∙ c.if-is_among.false in
    let within = slice_get_within c.args.self.now.events c.args.index (Decide c.requires.0 c.args.v) c.requires.1 in
    let same = c.self.invariant in
    let long = ap (λ (reported : ReportedRoom). length reported.events) c.self.view_is in
    let below : c.args.index < length c.self.inside.lines.items = omega (arith, within, same, long) in
    let P : ReportedRoom → Type 0 = λ reported. slice_get reported.lines c.args.index ≡ Some c.index.result.now in
    let there = subst P c.self.view_is (slice_get_read c.self.inside.lines.items _ c.args.index c.index.result.now refl below c.index.ensures) in
    subst (AreDecidedBefore c.args.self.now (c.args.index + 1)) (sym c.in_ok-push.ensures.items)
    (decides_first c.args.self.now c.args.index c.args.before.now.items is c.requires.0 c.args.v c.requires.1 c.index.result.now there none)
