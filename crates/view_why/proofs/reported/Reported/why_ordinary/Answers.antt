use Rattle.std.proofs.Common.{◌≡◌, ◌∙◌, true, false, refl, sym, ap, subst, arith}
use Rattle.std.specs.Prelude.{Result, Err, Some}
use Rattle.std.proofs.lemmas.Option.{slice_get_read}
use Rattle.room_spec.specs.Rooms.{is_reduction}
use Rattle.history_checker.specs.declared.reason.Break.{Break}
use Rattle.view_why.specs.declared.reported.LineBreak.{LineBreak}
use Rattle.view_why.specs.Reported.{ReportedRoom, IsLineBreak, IsRunIn, line_of_write}
use Rattle.view_why.proofs.Breaking.{in_ordinary, ordinary_inside, within, line_clause}
use Rattle.view_why.proofs.reported.Reported.why_ordinary.Goals as goal

same_found : (a b : Break) → ◌≡◌ {A = Result (Unit {0}) Break} (Err a) (Err b) → a ≡ b
same_found a b e = cc

pub index-requires : goal.index-requires
index-requires c =
    let found = rw c.as_slice.ensures.value at ((c.in-Err.ensures.first c.in-Err.broken).0 refl) in
    let reported : ReportedRoom = record { spec = c.self.inside.spec; events = c.self.inside.events.items; lines = c.self.inside.lines.items } in
    omega (arith, within reported c.in-Err.broken c.self.invariant found, c.self.inside.lines.ok.0)

pub returns-in-Err-clause-run : goal.returns-in-Err-clause-run
returns-in-Err-clause-run c =
    let P : ReportedRoom → Type 0 = λ reported. (false ≡ true → IsRunIn reported.spec reported.events) × (IsRunIn reported.spec reported.events → false ≡ true) in
    subst P c.self.view_is (in_ordinary c.self.inside.spec c.self.inside.events.items (false ≡ true) (ordinary_inside c.self.inside.spec c.args.self.now.spec (ap (λ (room : ReportedRoom). room.spec) c.self.view_is) c.requires) (rw c.as_slice.ensures.value at c.in-Err.ensures.run))

pub returns-in-Err-clause-first : goal.returns-in-Err-clause-first
returns-in-Err-clause-first c =
    let first = rw c.as_slice.ensures.value at c.in-Err.ensures.first in
    let found = (first c.in-Err.broken).0 refl in
    let reported : ReportedRoom = record { spec = c.self.inside.spec; events = c.self.inside.events.items; lines = c.self.inside.lines.items } in
    let below = within reported c.in-Err.broken c.self.invariant found in
    let P : ReportedRoom → Type 0 = λ room.
    (broken : LineBreak) → (◌≡◌ {A = Result (Unit {0}) LineBreak} (Err (record { at = c.in-Err.broken.at; line = c.index.result.now; reason = Some c.in-Err.broken.reason; earlier = c.line_of_write.result })) (Err broken) → IsLineBreak room broken)
    × (IsLineBreak room broken → ◌≡◌ {A = Result (Unit {0}) LineBreak} (Err (record { at = c.in-Err.broken.at; line = c.index.result.now; reason = Some c.in-Err.broken.reason; earlier = c.line_of_write.result })) (Err broken)) in
    subst P c.self.view_is
    (line_clause reported c.in-Err.broken c.index.result.now c.line_of_write.result (ordinary_inside c.self.inside.spec c.args.self.now.spec (ap (λ (room : ReportedRoom). room.spec) c.self.view_is) c.requires) found (λ other is. same_found c.in-Err.broken other ((first other).1 is))
    (slice_get_read c.self.inside.lines.items _ c.in-Err.broken.at c.index.result.now refl below c.index.ensures)
    (c.line_of_write.ensures ∙ ap (λ (room : ReportedRoom). line_of_write room.lines (Some c.in-Err.broken.reason)) (sym c.self.view_is)))
