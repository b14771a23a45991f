-- A lane stays hatched until its simulator leaves the agreement.
use Rattle.std.proofs.Common.{◌≡◌, ◌∙◌, ◌⊎◌, inl, inr, ℕ, ◌<◌, ◌≤◌, ◌&&◌, ◌||◌, Bool, true, false, cond, List, [], ◌∷◌, ◌++◌, Some, ap, eq-eqb, length, refl, subst, sym, arith}
use Rattle.std.specs.List.{list_any}
use Rattle.std.proofs.lemmas.Bool.{cases_lt}
use Rattle.std.proofs.lemmas.List.{append-nil, append_assoc, length-append}
use Rattle.picture_shapes.specs.declared.colour.Colour.TheVariants.{Hatched, Pale}
use Rattle.picture_shapes.specs.declared.shape.Shape.{Shape}
use Rattle.run_columns.specs.declared.mark.StepKind.{StepKind}
use Rattle.run_columns.specs.declared.mark.StepKind.TheVariants.{Enter}
use Rattle.run_columns.specs.declared.mark.Mark.{Mark}
use Rattle.run_columns.specs.declared.mark.Mark.TheVariants.{Step}
use Rattle.run_columns.specs.declared.mark.Step.{Step as StepMark}
use Rattle.run_columns.specs.Columns.{columns_of}
use Rattle.run_columns.specs.StepKinds.{is_same}
use Rattle.simulator_lanes.specs.declared.layout.Grid.{Grid}
use Rattle.simulator_lanes.specs.Lanes.{inside_at, lane_insides}
use Rattle.simulator_lanes.specs.Layout.{cell}
use Rattle.simulator_lanes.specs.Unsafe.{IsHatchedAt, has_crashed, hatch, hatch_colour, is_entry, is_passage, is_unsafe, passes}
use Rattle.simulator_lanes.proofs.Hatching.{hatched_more, unsafe_after, unsafe_next}

-- what is drawn in the lane of a simulator
abbrev lane_of : Grid → ℕ → List Mark → List Shape
lane_of grid simulator marks = lane_insides grid (columns_of marks).columns simulator

regroup : (before : List Mark) (mark : Mark) (more : List Mark) → before ++ mark ∷ more ≡ (before ++ mark ∷ []) ++ more
regroup before mark more = sym (append_assoc before (mark ∷ []) more)

-- what happens later changes nothing that is drawn
goes_on : (grid : Grid) (simulator : ℕ) (before more : List Mark) → length (before ++ more) ≤ 400
    → (rest : List Shape) × (lane_of grid simulator (before ++ more) ≡ lane_of grid simulator before ++ rest)
goes_on grid simulator before [] few = ([], ap (lane_of grid simulator) (append-nil before) ∙ sym (append-nil (lane_of grid simulator before)))
goes_on grid simulator before (mark ∷ more) few =
    let count = length-append before (mark ∷ more) in
    let later = goes_on grid simulator (before ++ mark ∷ []) more (subst (λ (l : List Mark). length l ≤ 400) (regroup before mark more) few) in (
      hatch grid simulator before mark ++ later.0,
      ap (lane_of grid simulator) (regroup before mark more)
          ∙ later.1
          ∙ ap (λ (shapes : List Shape). shapes ++ later.0) (hatched_more grid simulator before mark (omega (arith, few, count)))
          ∙ append_assoc (lane_of grid simulator before) (hatch grid simulator before mark) later.0,
    )

hatch_if : (one other : Bool) (shapes : List Shape) → other ≡ true → cond (one || other) shapes [] ≡ shapes
hatch_if true other shapes is = refl
hatch_if false true shapes is = refl
hatch_if false false shapes is = absurd cc

hatches : (crashed : Bool) → (hatch_colour crashed ≡ Hatched) ⊎ (hatch_colour crashed ≡ Pale)
hatches true = inr refl
hatches false = inl refl

-- hatched in the column of what happens, if its simulator is in the unsafe section after that
hatched_here : (grid : Grid) (simulator : ℕ) (before : List Mark) (mark : Mark) (more : List Mark) → is_unsafe simulator (before ++ mark ∷ []) ≡ true → length (before ++ mark ∷ more) ≤ 400
    → IsHatchedAt grid (before ++ mark ∷ more) simulator (length before)
hatched_here grid simulator before mark more unsafe few =
    let count = length-append before (mark ∷ more) in
    let colour = hatch_colour (has_crashed simulator (before ++ mark ∷ [])) in
    let shapes = inside_at grid (cell grid simulator (length before)) colour in
    let later = goes_on grid simulator (before ++ mark ∷ []) more (subst (λ (l : List Mark). length l ≤ 400) (regroup before mark more) few) in
    record {
      colour = colour;
      hatches = hatches (has_crashed simulator (before ++ mark ∷ []));
      left = lane_of grid simulator before;
      right = later.0;
      drawn =
          ap (lane_of grid simulator) (regroup before mark more)
          ∙ later.1
          ∙ ap (λ (all : List Shape). all ++ later.0) (hatched_more grid simulator before mark (omega (arith, few, count)))
          ∙ ap (λ (here : List Shape). (lane_of grid simulator before ++ here) ++ later.0) (hatch_if (is_unsafe simulator before) (is_unsafe simulator (before ++ mark ∷ [])) shapes unsafe)
          ∙ append_assoc (lane_of grid simulator before) shapes later.0;
    }

none_first : (test : Mark → Bool) (mark : Mark) (marks : List Mark) → list_any test (mark ∷ marks) ≡ false → (test mark ≡ false) × (list_any test marks ≡ false)
none_first test mark marks none = by (test mark) (list_any test marks) none
  where
    by : (one other : Bool) → (one || other) ≡ false → (one ≡ false) × (other ≡ false)
    by true other is = absurd cc
    by false other is = (refl, is)

still_unsafe : (simulator : ℕ) (before : List Mark) (mark : Mark) → is_unsafe simulator before ≡ true → passes simulator mark ≡ false → is_unsafe simulator (before ++ mark ∷ []) ≡ true
unfolding unsafe_next
still_unsafe simulator before mark unsafe stays = unsafe_after simulator before mark ∙ ap (λ (b : Bool). cond b (is_entry (Some mark)) (is_unsafe simulator before)) stays ∙ unsafe

-- from a column after which it is in the unsafe section on to the last one, if it passes neither into nor out of one after that
hatched_since : (grid : Grid) (simulator : ℕ) (before : List Mark) (mark : Mark) (since : List Mark) → is_unsafe simulator (before ++ mark ∷ []) ≡ true → list_any (passes simulator) since ≡ false
    → length (before ++ mark ∷ since) ≤ 400 → (place : ℕ) → length before ≤ place → place < length (before ++ mark ∷ since) → IsHatchedAt grid (before ++ mark ∷ since) simulator place
hatched_since grid simulator before mark [] unsafe stays few place from to =
    let here : length before ≡ place = omega (arith, length-append before (mark ∷ []), from, to) in
    subst (IsHatchedAt grid (before ++ mark ∷ []) simulator) here (hatched_here grid simulator before mark [] unsafe few)
hatched_since grid simulator before mark (next ∷ since) unsafe stays few place from to = elim (cases_lt (length before) place) [
  | inl later ↦
      let same = regroup before mark (next ∷ since) in
      let none = none_first (passes simulator) next since stays in
      let more = length-append before (mark ∷ []) in
      subst (λ (l : List Mark). IsHatchedAt grid l simulator place) (sym same)
      (hatched_since grid simulator (before ++ mark ∷ []) next since (still_unsafe simulator (before ++ mark ∷ []) next unsafe none.0) none.1
      (subst (λ (l : List Mark). length l ≤ 400) same few) place (omega (arith, later, more)) (subst (λ (l : List Mark). place < length l) same to))
  | inr now ↦
      let here : length before ≡ place = omega (arith, from, now) in
      subst (IsHatchedAt grid (before ++ mark ∷ next ∷ since) simulator) here (hatched_here grid simulator before mark (next ∷ since) unsafe few)
]

entry_passes : (entry : StepMark) (simulator : ℕ) → entry.kind ≡ Enter → entry.simulator ≡ simulator → passes simulator (Step entry) ≡ true
entry_passes entry simulator enters by =
    ap (λ (b : Bool). b && is_passage entry.kind) (eq-eqb entry.simulator simulator by) ∙ ap is_passage enters

enters_unsafe : (before : List Mark) (entry : StepMark) (simulator : ℕ) → entry.kind ≡ Enter → entry.simulator ≡ simulator → is_unsafe simulator (before ++ Step entry ∷ []) ≡ true
unfolding unsafe_next
enters_unsafe before entry simulator enters by =
    unsafe_after simulator before (Step entry)
    ∙ ap (λ (b : Bool). cond b (is_entry (Some (Step entry))) (is_unsafe simulator before)) (entry_passes entry simulator enters by)
    ∙ ap (λ (kind : StepKind). is_same kind Enter) enters

pub hatched_to_the_end : (grid : Grid) (simulator : ℕ) (before since : List Mark) (entry : StepMark) → entry.kind ≡ Enter → entry.simulator ≡ simulator → list_any (passes simulator) since ≡ false
    → length (before ++ Step entry ∷ since) ≤ 400 → (place : ℕ) → length before ≤ place → place < length (before ++ Step entry ∷ since) → IsHatchedAt grid (before ++ Step entry ∷ since) simulator place
hatched_to_the_end grid simulator before since entry enters by stays few place from to =
    hatched_since grid simulator before (Step entry) since (enters_unsafe before entry simulator enters by) stays few place from to
