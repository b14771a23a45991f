-- The atomic steps of a command as they are drawn.
use Rattle.std.specs.Prelude.{◌≡◌, ⊤, ℕ, Bool, false, List, [], ◌∷◌, ◌++◌}
use Rattle.room_spec.specs.Sizes.{memory_words, sizes_in}
use Rattle.room_core.specs.Calls.{RoomState}
use Rattle.room_core.specs.Observing.{TakenStep}
use Rattle.room_steps.specs.Steps.{IsStepOf}
use Rattle.room_steps.specs.declared.step.AtomicStep.{AtomicStep}
use Rattle.run_columns.specs.Seen.{step_mark}
use Rattle.run_columns.specs.declared.mark.Mark.{Mark}
use Rattle.run_columns.specs.declared.mark.Mark.TheVariants.{Step}

-- what is drawn of the step that simulator i took in this room, as it was before
pub record IsMarkOf (room : RoomState) (i : ℕ) (mark : Mark) : Type 0 where
  pub step : AtomicStep
  pub is_step : IsStepOf room i step
  pub mark_is : mark ≡ Step (step_mark (memory_words (sizes_in room.spec)) step)

-- a mark for each step, in order
abbrev pub AreMarks : List TakenStep → List Mark → Type 0
AreMarks [] [] = ⊤
AreMarks (step ∷ steps) (mark ∷ marks) = IsMarkOf step.room step.simulator mark × AreMarks steps marks
AreMarks [] (mark ∷ marks) = ⊥
AreMarks (step ∷ steps) [] = ⊥

-- the marks that an observer has kept, and whether an allocation failed for one
pub record Kept : Type 0 where
  pub marks : List Mark
  pub failed : Bool

abbrev pub nothing_kept : Kept
nothing_kept = record { marks = []; failed = false }

pub record IsOneMore (old : Kept) (room : RoomState) (i : ℕ) (new : Kept) : Type 0 where
  pub well : old.failed ≡ false
  pub mark : Mark
  pub is_mark : IsMarkOf room i mark
  pub kept : new.marks ≡ old.marks ++ mark ∷ []

-- a step was seen: its mark is kept, unless an allocation failed
abbrev pub Keeps : Kept → RoomState → ℕ → Kept → Type 0
Keeps old room i new = new.failed ≡ false → IsOneMore old room i new
