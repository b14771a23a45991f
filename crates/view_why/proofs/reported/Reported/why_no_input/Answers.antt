use Rattle.std.proofs.Common.{◌≡◌, ◌↔◌, ◌∙◌, ℕ, true, false, refl, sym, ap, subst, arith}
use Rattle.std.specs.Prelude.{Result, Ok, Err, None}
use Rattle.std.proofs.lemmas.Option.{slice_get_read}
use Rattle.view_why.specs.declared.reported.LineBreak.{LineBreak}
use Rattle.view_why.specs.Reported.{ReportedRoom, IsLineBreak, IsRunIn}
use Rattle.view_why.proofs.Breaking.{in_reduction, line_clause_of, no_line, reduction_inside, within_reduction}
use Rattle.view_why.proofs.reported.Reported.why_no_input.Goals as goal

same_found : (a b : ℕ) → ◌≡◌ {A = Result (Unit {0}) ℕ} (Err a) (Err b) → a ≡ b
same_found a b e = cc

pub index-requires : goal.index-requires
index-requires c =
    let found = rw c.as_slice.ensures.value at ((c.in-Err.ensures.first c.in-Err.at).0 refl) in
    let reported : ReportedRoom = record { spec = c.self.inside.spec; events = c.self.inside.events.items; lines = c.self.inside.lines.items } in
    omega (arith, within_reduction reported c.in-Err.at c.self.invariant found, c.self.inside.lines.ok.0)

pub returns-in-Err-clause-run : goal.returns-in-Err-clause-run
returns-in-Err-clause-run c =
    let P : ReportedRoom → Type 0 = λ reported. (false ≡ true → IsRunIn reported.spec reported.events) × (IsRunIn reported.spec reported.events → false ≡ true) in
    subst P c.self.view_is
    (in_reduction c.self.inside.spec c.self.inside.events.items (false ≡ true) (reduction_inside c.self.inside.spec c.args.self.now.spec (ap (λ (room : ReportedRoom). room.spec) c.self.view_is) c.requires)
    (rw c.as_slice.ensures.value at c.in-Err.ensures.run))

pub returns-in-Err-clause-first : goal.returns-in-Err-clause-first
returns-in-Err-clause-first c =
    let first = rw c.as_slice.ensures.value at c.in-Err.ensures.first in
    let found = (first c.in-Err.at).0 refl in
    let reported : ReportedRoom = record { spec = c.self.inside.spec; events = c.self.inside.events.items; lines = c.self.inside.lines.items } in
    let below = within_reduction reported c.in-Err.at c.self.invariant found in
    let P : ReportedRoom → Type 0 = λ room.
    (broken : LineBreak) → (◌≡◌ {A = Result (Unit {0}) LineBreak} (Err (record { at = c.in-Err.at; line = c.index.result.now; reason = None; earlier = None })) (Err broken) → IsLineBreak room broken)
    × (IsLineBreak room broken → ◌≡◌ {A = Result (Unit {0}) LineBreak} (Err (record { at = c.in-Err.at; line = c.index.result.now; reason = None; earlier = None })) (Err broken)) in
    subst P c.self.view_is
    (line_clause_of reported c.in-Err.at c.index.result.now (reduction_inside c.self.inside.spec c.args.self.now.spec (ap (λ (room : ReportedRoom). room.spec) c.self.view_is) c.requires) found
    (λ other is. same_found c.in-Err.at other ((first other).1 is))
    (slice_get_read c.self.inside.lines.items _ c.in-Err.at c.index.result.now refl below c.index.ensures))

pub returns-in-Ok-clause-first : goal.returns-in-Ok-clause-first
returns-in-Ok-clause-first c =
    let first = rw c.as_slice.ensures.value at c.in-Ok.ensures.first in
    let reported : ReportedRoom = record { spec = c.self.inside.spec; events = c.self.inside.events.items; lines = c.self.inside.lines.items } in
    subst (λ (room : ReportedRoom). (broken : LineBreak) → ◌≡◌ {A = Result (Unit {0}) LineBreak} (Ok tt) (Err broken) ↔ IsLineBreak room broken) c.self.view_is
    (no_line reported (reduction_inside c.self.inside.spec c.args.self.now.spec (ap (λ (room : ReportedRoom). room.spec) c.self.view_is) c.requires) (λ at breaks. absurd (let never = (first at).1 breaks in cc)))
