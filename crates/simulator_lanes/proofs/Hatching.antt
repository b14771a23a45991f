-- A lane is hatched while its simulator is in the unsafe section.
use Rattle.std.proofs.Common.{◌≡◌, ◌∙◌, ℕ, ◌+◌, ◌<◌, ◌≤◌, ◌==◌, ◌&&◌, ◌||◌, Bool, true, false, cond, List, [], ◌∷◌, ◌++◌, Option, Some, None, ap, length, refl, sym, arith}
use Rattle.std.specs.List.{filter, last_or}
use Rattle.std.proofs.lemmas.List.{append-nil, append_assoc, length-append}
use Rattle.picture_shapes.specs.declared.shape.Shape.{Shape}
use Rattle.run_columns.specs.declared.column.Change.{Change}
use Rattle.run_columns.specs.declared.column.Change.TheVariants.{Nothing, Crashes}
use Rattle.run_columns.specs.declared.column.Column.{Column}
use Rattle.run_columns.specs.declared.column.Scale.TheVariants.{Steps}
use Rattle.run_columns.specs.declared.mark.StepKind.{StepKind}
use Rattle.run_columns.specs.declared.mark.StepKind.TheVariants.{StoreWrite, CountWrite, Snapshot, Propose, Enter, Look, Stand, Withdraw, Ask, LoadView, LoadValue, Decide}
use Rattle.run_columns.specs.declared.mark.Mark.{Mark}
use Rattle.run_columns.specs.declared.mark.Mark.TheVariants.{Step, Crash}
use Rattle.run_columns.specs.Columns.{change_by, change_by_kind, column_of, columns_by, columns_from, columns_of, joins, next_column, simulator_of}
use Rattle.run_columns.specs.StepKinds.{is_same}
use Rattle.run_columns.proofs.CallerLemmas.{one_each}
use Rattle.simulator_lanes.specs.declared.lanes.Phase.{Phase}
use Rattle.simulator_lanes.specs.declared.lanes.Phase.TheVariants.{Outside, Inside, Stuck}
use Rattle.simulator_lanes.specs.declared.layout.Grid.{Grid}
use Rattle.simulator_lanes.specs.Lanes.{inside, inside_at, insides_from, lane_insides, phase_after, phase_in}
use Rattle.simulator_lanes.specs.Layout.{cell}
use Rattle.simulator_lanes.specs.Unsafe.{enters_or_crashes, has_crashed, hatch, hatch_colour, is_crash, is_entry, is_passage, is_unsafe, passes}

-- ---- the columns, by their marks

change_of : ℕ → Mark → Change
change_of simulator mark = cond (simulator_of mark == simulator) (change_by mark) Nothing

-- what a lane shows of these marks from this place on
shown : Grid → ℕ → Phase → ℕ → List Mark → List Shape
shown grid simulator phase place [] = []
shown grid simulator phase place (mark ∷ marks) =
    inside grid simulator place (phase_in (change_of simulator mark) phase) ++ shown grid simulator (phase_after (change_of simulator mark) phase) (place + 1) marks

apart : (first mark : Mark) → joins Steps first mark ≡ false
apart (Step first) (Step step) = refl
apart (Step first) (Crash simulator) = refl
apart (Crash simulator) mark = refl

shown_from : (grid : Grid) (simulator : ℕ) (phase : Phase) (place before : ℕ) (mark : Mark) (marks : List Mark) → place + length marks < 65535
    → insides_from grid simulator phase (columns_from Steps (column_of place before mark) marks) ≡ shown grid simulator phase place (mark ∷ marks)
unfolding shown change_of
shown_from grid simulator phase place before mark [] small = refl
shown_from grid simulator phase place before mark (next ∷ marks) small =
    let column = column_of place before mark in
    let here : (next_column column next).place ≡ place + 1 = omega (arith, small) in
    rw (apart mark next) (ap (λ (shapes : List Shape). inside grid simulator place (phase_in (change_of simulator mark) phase) ++ shapes)
    (shown_from grid simulator (phase_after (change_of simulator mark) phase) (next_column column next).place (next_column column next).before next marks (omega (arith, small, here))
    ∙ ap (λ (at : ℕ). shown grid simulator (phase_after (change_of simulator mark) phase) at (next ∷ marks)) here))

shown_by : (grid : Grid) (simulator : ℕ) (marks : List Mark) → length marks ≤ 400 → lane_insides grid (columns_by Steps marks) simulator ≡ shown grid simulator Outside 0 marks
unfolding lane_insides columns_by shown
shown_by grid simulator [] few = refl
shown_by grid simulator (mark ∷ marks) few = shown_from grid simulator Outside 0 0 mark marks (omega (arith, few))

lane_is : (grid : Grid) (simulator : ℕ) (marks : List Mark) → length marks ≤ 400 → lane_insides grid (columns_of marks).columns simulator ≡ shown grid simulator Outside 0 marks
lane_is grid simulator marks few = ap (λ (columns : List Column). lane_insides grid columns simulator) (one_each marks few) ∙ shown_by grid simulator marks few

-- ---- one more

phase_end : ℕ → Phase → List Mark → Phase
phase_end simulator phase [] = phase
phase_end simulator phase (mark ∷ marks) = phase_end simulator (phase_after (change_of simulator mark) phase) marks

shown_more : (grid : Grid) (simulator : ℕ) (phase : Phase) (place : ℕ) (before : List Mark) (mark : Mark)
    → shown grid simulator phase place (before ++ mark ∷ []) ≡ shown grid simulator phase place before ++ inside grid simulator (place + length before) (phase_in (change_of simulator mark) (phase_end simulator phase before))
unfolding shown phase_end
shown_more grid simulator phase place [] mark =
    let here : place ≡ place + 0 = omega arith in
    append-nil (inside grid simulator place (phase_in (change_of simulator mark) phase)) ∙ ap (λ (at : ℕ). inside grid simulator at (phase_in (change_of simulator mark) phase)) here
shown_more grid simulator phase place (first ∷ before) mark =
    let rest = phase_after (change_of simulator first) phase in
    let here = inside grid simulator place (phase_in (change_of simulator first) phase) in
    let next : place + 1 + length before ≡ place + length (first ∷ before) = omega arith in
    ap (λ (shapes : List Shape). here ++ shapes) (shown_more grid simulator rest (place + 1) before mark
    ∙ ap (λ (at : ℕ). shown grid simulator rest (place + 1) before ++ inside grid simulator at (phase_in (change_of simulator mark) (phase_end simulator rest before))) next)
    ∙ sym (append_assoc here (shown grid simulator rest (place + 1) before) (inside grid simulator (place + length (first ∷ before)) (phase_in (change_of simulator mark) (phase_end simulator rest before))))

-- ---- who is inside

phase_by : Bool → Bool → Phase
phase_by unsafe crashed = cond unsafe (cond crashed Stuck Inside) Outside

unfoldable pub unsafe_next : ℕ → Bool → Mark → Bool
unsafe_next simulator unsafe mark = cond (passes simulator mark) (is_entry (Some mark)) unsafe

crashed_next : ℕ → Bool → Mark → Bool
crashed_next simulator crashed mark = cond (enters_or_crashes simulator mark) (is_crash (Some mark)) crashed

step_after : (same : Bool) (kind : StepKind) (unsafe crashed : Bool)
    → phase_after (cond same (change_by_kind kind) Nothing) (phase_by unsafe crashed) ≡ phase_by (cond (same && is_passage kind) (is_same kind Enter) unsafe) (cond (same && is_same kind Enter) false crashed)
unfolding phase_by
step_after false kind unsafe crashed = refl
step_after true StoreWrite unsafe crashed = refl
step_after true CountWrite unsafe crashed = refl
step_after true Snapshot unsafe crashed = refl
step_after true Propose unsafe crashed = refl
step_after true Enter unsafe crashed = refl
step_after true Look unsafe crashed = refl
step_after true Stand unsafe crashed = refl
step_after true Withdraw unsafe crashed = refl
step_after true Ask unsafe crashed = refl
step_after true LoadView unsafe crashed = refl
step_after true LoadValue unsafe crashed = refl
step_after true Decide unsafe crashed = refl

crash_after : (same unsafe crashed : Bool) → phase_after (cond same Crashes Nothing) (phase_by unsafe crashed) ≡ phase_by unsafe (cond same true crashed)
unfolding phase_by
crash_after false unsafe crashed = refl
crash_after true false crashed = refl
crash_after true true false = refl
crash_after true true true = refl

mark_after : (simulator : ℕ) (mark : Mark) (unsafe crashed : Bool)
    → phase_after (change_of simulator mark) (phase_by unsafe crashed) ≡ phase_by (unsafe_next simulator unsafe mark) (crashed_next simulator crashed mark)
unfolding change_of unsafe_next crashed_next
mark_after simulator (Step step) unsafe crashed = step_after (step.simulator == simulator) step.kind unsafe crashed
mark_after simulator (Crash other) unsafe crashed = crash_after (other == simulator) unsafe crashed

unsafe_from : ℕ → Bool → List Mark → Bool
unsafe_from simulator unsafe [] = unsafe
unsafe_from simulator unsafe (mark ∷ marks) = unsafe_from simulator (unsafe_next simulator unsafe mark) marks

crashed_from : ℕ → Bool → List Mark → Bool
crashed_from simulator crashed [] = crashed
crashed_from simulator crashed (mark ∷ marks) = crashed_from simulator (crashed_next simulator crashed mark) marks

phase_from : (simulator : ℕ) (unsafe crashed : Bool) (marks : List Mark)
    → phase_end simulator (phase_by unsafe crashed) marks ≡ phase_by (unsafe_from simulator unsafe marks) (crashed_from simulator crashed marks)
unfolding phase_end unsafe_from crashed_from
phase_from simulator unsafe crashed [] = refl
phase_from simulator unsafe crashed (mark ∷ marks) =
    ap (λ (phase : Phase). phase_end simulator phase marks) (mark_after simulator mark unsafe crashed)
    ∙ phase_from simulator (unsafe_next simulator unsafe mark) (crashed_next simulator crashed mark) marks

unsafe_more : (simulator : ℕ) (unsafe : Bool) (marks : List Mark) (mark : Mark) → unsafe_from simulator unsafe (marks ++ mark ∷ []) ≡ unsafe_next simulator (unsafe_from simulator unsafe marks) mark
unfolding unsafe_from
unsafe_more simulator unsafe [] mark = refl
unsafe_more simulator unsafe (first ∷ marks) mark = unsafe_more simulator (unsafe_next simulator unsafe first) marks mark

crashed_more : (simulator : ℕ) (crashed : Bool) (marks : List Mark) (mark : Mark) → crashed_from simulator crashed (marks ++ mark ∷ []) ≡ crashed_next simulator (crashed_from simulator crashed marks) mark
unfolding crashed_from
crashed_more simulator crashed [] mark = refl
crashed_more simulator crashed (first ∷ marks) mark = crashed_more simulator (crashed_next simulator crashed first) marks mark

-- the last of some marks decides
last_if : (test : Bool) (says : Option Mark → Bool) (last : Option Mark) (mark : Mark) (marks : List Mark)
    → says (last_or last (cond test (mark ∷ marks) marks)) ≡ says (last_or (cond test (Some mark) last) marks)
last_if true says last mark marks = refl
last_if false says last mark marks = refl

said_if : (test : Bool) (says : Option Mark → Bool) (last : Option Mark) (mark : Mark) → says (cond test (Some mark) last) ≡ cond test (says (Some mark)) (says last)
said_if true says last mark = refl
said_if false says last mark = refl

unsafe_is_from : (simulator : ℕ) (last : Option Mark) (marks : List Mark) → is_entry (last_or last (filter (passes simulator) marks)) ≡ unsafe_from simulator (is_entry last) marks
unfolding unsafe_from unsafe_next
unsafe_is_from simulator last [] = refl
unsafe_is_from simulator last (mark ∷ marks) =
    last_if (passes simulator mark) is_entry last mark (filter (passes simulator) marks)
    ∙ unsafe_is_from simulator (cond (passes simulator mark) (Some mark) last) marks
    ∙ ap (λ (unsafe : Bool). unsafe_from simulator unsafe marks) (said_if (passes simulator mark) is_entry last mark)

crashed_is_from : (simulator : ℕ) (last : Option Mark) (marks : List Mark) → is_crash (last_or last (filter (enters_or_crashes simulator) marks)) ≡ crashed_from simulator (is_crash last) marks
unfolding crashed_from crashed_next
crashed_is_from simulator last [] = refl
crashed_is_from simulator last (mark ∷ marks) =
    last_if (enters_or_crashes simulator mark) is_crash last mark (filter (enters_or_crashes simulator) marks)
    ∙ crashed_is_from simulator (cond (enters_or_crashes simulator mark) (Some mark) last) marks
    ∙ ap (λ (crashed : Bool). crashed_from simulator crashed marks) (said_if (enters_or_crashes simulator mark) is_crash last mark)

unsafe_is : (simulator : ℕ) (marks : List Mark) → is_unsafe simulator marks ≡ unsafe_from simulator false marks
unsafe_is simulator marks = unsafe_is_from simulator None marks

crashed_is : (simulator : ℕ) (marks : List Mark) → has_crashed simulator marks ≡ crashed_from simulator false marks
crashed_is simulator marks = crashed_is_from simulator None marks

phase_is : (simulator : ℕ) (marks : List Mark) → phase_end simulator Outside marks ≡ phase_by (is_unsafe simulator marks) (has_crashed simulator marks)
unfolding phase_by
phase_is simulator marks =
    phase_from simulator false false marks
    ∙ ap (λ (unsafe : Bool). phase_by unsafe (crashed_from simulator false marks)) (sym (unsafe_is simulator marks))
    ∙ ap (phase_by (is_unsafe simulator marks)) (sym (crashed_is simulator marks))

pub unsafe_after : (simulator : ℕ) (before : List Mark) (mark : Mark) → is_unsafe simulator (before ++ mark ∷ []) ≡ unsafe_next simulator (is_unsafe simulator before) mark
unsafe_after simulator before mark =
    unsafe_is simulator (before ++ mark ∷ []) ∙ unsafe_more simulator false before mark ∙ ap (λ (unsafe : Bool). unsafe_next simulator unsafe mark) (sym (unsafe_is simulator before))

crashed_after : (simulator : ℕ) (before : List Mark) (mark : Mark) → has_crashed simulator (before ++ mark ∷ []) ≡ crashed_next simulator (has_crashed simulator before) mark
crashed_after simulator before mark =
    crashed_is simulator (before ++ mark ∷ []) ∙ crashed_more simulator false before mark ∙ ap (λ (crashed : Bool). crashed_next simulator crashed mark) (sym (crashed_is simulator before))

-- ---- what is drawn

hatch_by : Grid → ℕ → ℕ → Bool → Bool → Bool → List Shape
hatch_by grid simulator place unsafe after crashed = cond (unsafe || after) (inside_at grid (cell grid simulator place) (hatch_colour crashed)) []

still_in : (grid : Grid) (simulator place : ℕ) (unsafe crashed : Bool) → inside grid simulator place (phase_by unsafe crashed) ≡ hatch_by grid simulator place unsafe unsafe crashed
unfolding phase_by hatch_by
still_in grid simulator place false crashed = refl
still_in grid simulator place true false = refl
still_in grid simulator place true true = refl

leaves_in : (grid : Grid) (simulator place : ℕ) (unsafe crashed : Bool) → inside grid simulator place (phase_by unsafe crashed) ≡ hatch_by grid simulator place unsafe false crashed
unfolding phase_by hatch_by
leaves_in grid simulator place false crashed = refl
leaves_in grid simulator place true false = refl
leaves_in grid simulator place true true = refl

enters_in : (grid : Grid) (simulator place : ℕ) (unsafe : Bool) → inside grid simulator place Inside ≡ hatch_by grid simulator place unsafe true false
unfolding hatch_by
enters_in grid simulator place false = refl
enters_in grid simulator place true = refl

step_in : (grid : Grid) (simulator place : ℕ) (same : Bool) (kind : StepKind) (unsafe crashed : Bool)
    → inside grid simulator place (phase_in (cond same (change_by_kind kind) Nothing) (phase_by unsafe crashed))
    ≡ hatch_by grid simulator place unsafe (cond (same && is_passage kind) (is_same kind Enter) unsafe) (cond (same && is_same kind Enter) false crashed)
step_in grid simulator place false kind unsafe crashed = still_in grid simulator place unsafe crashed
step_in grid simulator place true StoreWrite unsafe crashed = still_in grid simulator place unsafe crashed
step_in grid simulator place true CountWrite unsafe crashed = still_in grid simulator place unsafe crashed
step_in grid simulator place true Snapshot unsafe crashed = still_in grid simulator place unsafe crashed
step_in grid simulator place true Propose unsafe crashed = still_in grid simulator place unsafe crashed
step_in grid simulator place true Enter unsafe crashed = enters_in grid simulator place unsafe
step_in grid simulator place true Look unsafe crashed = still_in grid simulator place unsafe crashed
step_in grid simulator place true Stand unsafe crashed = leaves_in grid simulator place unsafe crashed
step_in grid simulator place true Withdraw unsafe crashed = leaves_in grid simulator place unsafe crashed
step_in grid simulator place true Ask unsafe crashed = still_in grid simulator place unsafe crashed
step_in grid simulator place true LoadView unsafe crashed = still_in grid simulator place unsafe crashed
step_in grid simulator place true LoadValue unsafe crashed = still_in grid simulator place unsafe crashed
step_in grid simulator place true Decide unsafe crashed = still_in grid simulator place unsafe crashed

crash_in : (grid : Grid) (simulator place : ℕ) (same unsafe crashed : Bool)
    → inside grid simulator place (phase_in (cond same Crashes Nothing) (phase_by unsafe crashed)) ≡ hatch_by grid simulator place unsafe unsafe (cond same true crashed)
unfolding phase_by hatch_by
crash_in grid simulator place false unsafe crashed = still_in grid simulator place unsafe crashed
crash_in grid simulator place true false crashed = refl
crash_in grid simulator place true true false = refl
crash_in grid simulator place true true true = refl

mark_in : (grid : Grid) (simulator place : ℕ) (mark : Mark) (unsafe crashed : Bool)
    → inside grid simulator place (phase_in (change_of simulator mark) (phase_by unsafe crashed)) ≡ hatch_by grid simulator place unsafe (unsafe_next simulator unsafe mark) (crashed_next simulator crashed mark)
unfolding change_of unsafe_next crashed_next
mark_in grid simulator place (Step step) unsafe crashed = step_in grid simulator place (step.simulator == simulator) step.kind unsafe crashed
mark_in grid simulator place (Crash other) unsafe crashed = crash_in grid simulator place (other == simulator) unsafe crashed

hatch_is : (grid : Grid) (simulator : ℕ) (before : List Mark) (mark : Mark)
    → inside grid simulator (0 + length before) (phase_in (change_of simulator mark) (phase_end simulator Outside before)) ≡ hatch grid simulator before mark
unfolding hatch_by
hatch_is grid simulator before mark =
    let place : 0 + length before ≡ length before = omega arith in
    ap (λ (at : ℕ). inside grid simulator at (phase_in (change_of simulator mark) (phase_end simulator Outside before))) place
    ∙ ap (λ (phase : Phase). inside grid simulator (length before) (phase_in (change_of simulator mark) phase)) (phase_is simulator before)
    ∙ mark_in grid simulator (length before) mark (is_unsafe simulator before) (has_crashed simulator before)
    ∙ ap (λ (after : Bool). hatch_by grid simulator (length before) (is_unsafe simulator before) after (crashed_next simulator (has_crashed simulator before) mark)) (sym (unsafe_after simulator before mark))
    ∙ ap (hatch_by grid simulator (length before) (is_unsafe simulator before) (is_unsafe simulator (before ++ mark ∷ []))) (sym (crashed_after simulator before mark))

pub hatched_more : (grid : Grid) (simulator : ℕ) (before : List Mark) (mark : Mark) → length before < 400
    → lane_insides grid (columns_of (before ++ mark ∷ [])).columns simulator ≡ lane_insides grid (columns_of before).columns simulator ++ hatch grid simulator before mark
hatched_more grid simulator before mark few =
    lane_is grid simulator (before ++ mark ∷ []) (omega (arith, few, length-append before (mark ∷ [])))
    ∙ shown_more grid simulator Outside 0 before mark
    ∙ ap (λ (shapes : List Shape). shown grid simulator Outside 0 before ++ shapes) (hatch_is grid simulator before mark)
    ∙ ap (λ (shapes : List Shape). shapes ++ hatch grid simulator before mark) (sym (lane_is grid simulator before (omega (arith, few))))

pub hatched_none : (grid : Grid) (simulator : ℕ) → lane_insides grid (columns_of []).columns simulator ≡ []
unfolding lane_insides columns_by
hatched_none grid simulator = refl
