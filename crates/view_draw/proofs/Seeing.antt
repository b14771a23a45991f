-- What somebody who looks on has kept of steps.
use Rattle.std.proofs.Common.{◌≡◌, ◌∙◌, false, List, [], ◌∷◌, ◌++◌, sym, ap}
use Rattle.std.proofs.lemmas.List.{append-nil, append_assoc}
use Rattle.room_core.specs.Observing.{AreSeen, TakenStep}
use Rattle.run_columns.specs.declared.mark.Mark.{Mark}
use Rattle.view_draw.specs.Seen.{AreMarks, IsOneMore, Keeps, Kept}

-- the marks of steps, behind others
record AreKept (old : Kept) (steps : List TakenStep) (new : Kept) : Type 0 where
  well : old.failed ≡ false
  marks : List Mark
  are_marks : AreMarks steps marks
  kept : new.marks ≡ old.marks ++ marks

with_one : (old middle new : Kept) (step : TakenStep) (steps : List TakenStep) → IsOneMore old step.room step.simulator middle
    → AreKept middle steps new → AreKept old (step ∷ steps) new
with_one old middle new step steps one later = record {
  well = one.well;
  marks = one.mark ∷ later.marks;
  are_marks = (one.is_mark, later.are_marks);
  kept = later.kept ∙ ap (λ (t : List Mark). t ++ later.marks) one.kept ∙ append_assoc old.marks (one.mark ∷ []) later.marks;
}

all_kept : (steps : List TakenStep) (old new : Kept) → AreSeen Keeps old steps new → new.failed ≡ false → AreKept old steps new
all_kept [] old new seen well = record {
  well = ap (λ (k : Kept). k.failed) seen ∙ well;
  marks = [];
  are_marks = _;
  kept = ap (λ (k : Kept). k.marks) (sym seen) ∙ sym (append-nil old.marks);
}
all_kept (step ∷ steps) old new seen well =
    let later : AreKept seen.0 steps new = all_kept steps seen.0 new seen.2 well in
    with_one old seen.0 new step steps (seen.1 later.well) later

-- the marks of all steps, from nothing on
pub seen_are_marks : (steps : List TakenStep) (old new : Kept) → old.marks ≡ [] → AreSeen Keeps old steps new → new.failed ≡ false → AreMarks steps new.marks
seen_are_marks steps old new none seen well =
    let all : AreKept old steps new = all_kept steps old new seen well in
    let same : new.marks ≡ all.marks = all.kept ∙ ap (λ (t : List Mark). t ++ all.marks) none in
    rw same all.are_marks
