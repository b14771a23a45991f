-- The line that breaks a room's run.
use Rattle.std.proofs.Common.{◌≡◌, ◌↔◌, ◌∙◌, ℕ, ◌<◌, Bool, true, false, List, length, Option, Some, None, refl, sym, ap, subst, arith}
use Rattle.std.specs.Prelude.{Result, Ok, Err, slice_get}
use Rattle.std.proofs.lemmas.Option.{slice_get_within}
use Rattle.room_spec.specs.Rooms.{RoomSpec, is_reduction}
use Rattle.transcript.specs.Reductions.{IsFirstBreakOf, IsRunOf}
use Rattle.transcript.specs.Runs.{IsRun}
use Rattle.transcript.specs.declared.event.Event.{Event}
use Rattle.history_checker.specs.Reasons.{IsBreak}
use Rattle.history_checker.specs.declared.reason.Break.{Break}
use Rattle.history_checker.specs.declared.reason.Reason.{Reason}
use Rattle.view_why.specs.declared.reported.LineBreak.{LineBreak}
use Rattle.view_why.specs.Reported.{ReportedRoom, IsBreakFor, IsLineBreak, IsRunBy, IsRunIn, line_of_write}

pub within : (reported : ReportedRoom) (broken : Break) → length reported.lines ≡ length reported.events → IsBreak reported.spec reported.events broken → broken.at < length reported.lines
within reported broken same is = omega (arith, same, slice_get_within reported.events broken.at is.first.event is.first.there)

same_some : (a b : ℕ) → Some a ≡ Some b → a ≡ b
same_some a b e = cc

same_break : (a b : LineBreak) → a.at ≡ b.at → a.line ≡ b.line → a.reason ≡ b.reason → a.earlier ≡ b.earlier → a ≡ b
same_break a b at line reason earlier =
    ap (λ (n : ℕ). record { at = n; line = a.line; reason = a.reason; earlier = a.earlier }) at
    ∙ ap (λ (n : ℕ). record { at = b.at; line = n; reason = a.reason; earlier = a.earlier }) line
    ∙ ap (λ (r : Option Reason). record { at = b.at; line = b.line; reason = r; earlier = a.earlier }) reason
    ∙ ap (λ (o : Option ℕ). record { at = b.at; line = b.line; reason = b.reason; earlier = o }) earlier

-- in an ordinary room there is a reason
break_for : (spec : RoomSpec) (events : List Event) (at : ℕ) (reason : Option Reason) → is_reduction spec ≡ false → IsBreakFor spec events at reason → (one : Reason) × (reason ≡ Some one) × IsBreak spec events (record { at = at; reason = one })
break_for spec events at None ordinary is = let never : true ≡ false = sym is.0 ∙ ordinary in absurd cc
break_for spec events at (Some one) ordinary is = (one, refl, is.1)

-- in a reduction there is none
no_reason_for : (spec : RoomSpec) (events : List Event) (at : ℕ) (reason : Option Reason) → is_reduction spec ≡ true → IsBreakFor spec events at reason → (reason ≡ None) × IsFirstBreakOf spec events at
no_reason_for spec events at None reduction is = (refl, is.1)
no_reason_for spec events at (Some one) reduction is = let never : true ≡ false = sym reduction ∙ is.0 in absurd cc

-- the event that breaks a run is one of the room's
pub broken_there : (spec : RoomSpec) (events : List Event) (at : ℕ) (reason : Option Reason) → IsBreakFor spec events at reason → at < length events
broken_there spec events at None is = slice_get_within events at is.1.event is.1.there
broken_there spec events at (Some one) is = slice_get_within events at is.1.first.event is.1.first.there

-- where one break alone is of the list, one line alone breaks it
pub one_line : (reported : ReportedRoom) (found : Break) (a b : LineBreak) → is_reduction reported.spec ≡ false → ((other : Break) → IsBreak reported.spec reported.events other → found ≡ other) → IsLineBreak reported a → IsLineBreak reported b → a ≡ b
one_line reported found a b ordinary only one other =
    let for_a = break_for reported.spec reported.events a.at a.reason ordinary one.first in
    let for_b = break_for reported.spec reported.events b.at b.reason ordinary other.first in
    let both = sym (only (record { at = a.at; reason = for_a.0 }) for_a.2) ∙ only (record { at = b.at; reason = for_b.0 }) for_b.2 in
    let at : a.at ≡ b.at = ap (λ (x : Break). x.at) both in
    let reason : a.reason ≡ b.reason = for_a.1 ∙ ap (λ (x : Break). Some x.reason) both ∙ sym for_b.1 in
    same_break a b at (same_some a.line b.line (sym one.line ∙ ap (slice_get reported.lines) at ∙ other.line)) reason
    (sym one.earlier ∙ ap (line_of_write reported.lines) reason ∙ other.earlier)

mine : (reported : ReportedRoom) (found : Break) (line : ℕ) (earlier : Option ℕ) → is_reduction reported.spec ≡ false → IsBreak reported.spec reported.events found → slice_get reported.lines found.at ≡ Some line → earlier ≡ line_of_write reported.lines (Some found.reason)
    → IsLineBreak reported (record { at = found.at; line = line; reason = Some found.reason; earlier = earlier })
mine reported found line earlier ordinary is at behind = record { first = (ordinary, is); line = at; earlier = sym behind }

same_err : (a b : LineBreak) → ◌≡◌ {A = Result (Unit {0}) LineBreak} (Err a) (Err b) → a ≡ b
same_err a b e = cc

pub line_clause : (reported : ReportedRoom) (found : Break) (line : ℕ) (earlier : Option ℕ) → is_reduction reported.spec ≡ false → IsBreak reported.spec reported.events found → ((other : Break) → IsBreak reported.spec reported.events other → found ≡ other)
    → slice_get reported.lines found.at ≡ Some line → earlier ≡ line_of_write reported.lines (Some found.reason) → (broken : LineBreak)
    → (◌≡◌ {A = Result (Unit {0}) LineBreak} (Err (record { at = found.at; line = line; reason = Some found.reason; earlier = earlier })) (Err broken) → IsLineBreak reported broken)
    × (IsLineBreak reported broken → ◌≡◌ {A = Result (Unit {0}) LineBreak} (Err (record { at = found.at; line = line; reason = Some found.reason; earlier = earlier })) (Err broken))
line_clause reported found line earlier ordinary is only at behind broken =
    let this : LineBreak = record { at = found.at; line = line; reason = Some found.reason; earlier = earlier } in
    let stands = mine reported found line earlier ordinary is at behind in (
      λ e. subst (IsLineBreak reported) (same_err this broken e) stands,
      λ other. ap Err (one_line reported found this broken ordinary only stands other),
    )

-- ---- a reduction

pub within_reduction : (reported : ReportedRoom) (at : ℕ) → length reported.lines ≡ length reported.events → IsFirstBreakOf reported.spec reported.events at → at < length reported.lines
within_reduction reported at same is = omega (arith, same, slice_get_within reported.events at is.event is.there)

-- where one place alone is the first break of the list, one line alone breaks it
one_line_of : (reported : ReportedRoom) (found : ℕ) (a b : LineBreak) → is_reduction reported.spec ≡ true → ((other : ℕ) → IsFirstBreakOf reported.spec reported.events other → found ≡ other) → IsLineBreak reported a → IsLineBreak reported b → a ≡ b
one_line_of reported found a b reduction only one other =
    let for_a = no_reason_for reported.spec reported.events a.at a.reason reduction one.first in
    let for_b = no_reason_for reported.spec reported.events b.at b.reason reduction other.first in
    let at : a.at ≡ b.at = sym (only a.at for_a.1) ∙ only b.at for_b.1 in
    let reason : a.reason ≡ b.reason = for_a.0 ∙ sym for_b.0 in
    same_break a b at (same_some a.line b.line (sym one.line ∙ ap (slice_get reported.lines) at ∙ other.line)) reason
    (sym one.earlier ∙ ap (line_of_write reported.lines) reason ∙ other.earlier)

pub line_clause_of : (reported : ReportedRoom) (found line : ℕ) → is_reduction reported.spec ≡ true → IsFirstBreakOf reported.spec reported.events found → ((other : ℕ) → IsFirstBreakOf reported.spec reported.events other → found ≡ other)
    → slice_get reported.lines found ≡ Some line → (broken : LineBreak)
    → (◌≡◌ {A = Result (Unit {0}) LineBreak} (Err (record { at = found; line = line; reason = None; earlier = None })) (Err broken) → IsLineBreak reported broken)
    × (IsLineBreak reported broken → ◌≡◌ {A = Result (Unit {0}) LineBreak} (Err (record { at = found; line = line; reason = None; earlier = None })) (Err broken))
line_clause_of reported found line reduction is only at broken =
    let this : LineBreak = record { at = found; line = line; reason = None; earlier = None } in
    let stands : IsLineBreak reported this = record { first = (reduction, is); line = at; earlier = refl } in (
      λ e. subst (IsLineBreak reported) (same_err this broken e) stands,
      λ other. ap Err (one_line_of reported found this broken reduction only stands other),
    )

-- ---- runs by the kind of the room

pub in_ordinary : (spec : RoomSpec) (events : List Event) (P : Type 0) → is_reduction spec ≡ false → P ↔ IsRun spec events → P ↔ IsRunIn spec events
in_ordinary spec events P ordinary is = subst (λ (reduction : Bool). P ↔ IsRunBy reduction spec events) (sym ordinary) is

pub in_reduction : (spec : RoomSpec) (events : List Event) (P : Type 0) → is_reduction spec ≡ true → P ↔ IsRunOf spec events → P ↔ IsRunIn spec events
in_reduction spec events P reduction is = subst (λ (reduction : Bool). P ↔ IsRunBy reduction spec events) (sym reduction) is

pub ordinary_inside : (inside spec : RoomSpec) → inside ≡ spec → is_reduction spec ≡ false → is_reduction inside ≡ false
ordinary_inside inside spec is ordinary = ap is_reduction is ∙ ordinary

pub reduction_inside : (inside spec : RoomSpec) → inside ≡ spec → is_reduction spec ≡ true → is_reduction inside ≡ true
reduction_inside inside spec is reduction = ap is_reduction is ∙ reduction

pub no_line : (reported : ReportedRoom) → is_reduction reported.spec ≡ true → ((at : ℕ) → IsFirstBreakOf reported.spec reported.events at → ⊥) → (broken : LineBreak) → ◌≡◌ {A = Result (Unit {0}) LineBreak} (Ok tt) (Err broken) ↔ IsLineBreak reported broken
no_line reported reduction none broken = (
  λ same. absurd cc,
  λ breaks. absurd (none broken.at (no_reason_for reported.spec reported.events broken.at broken.reason reduction breaks.first).1),
)
