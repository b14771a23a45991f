-- What a step does to the words of its room.
use Rattle.std.proofs.Common.{◌≡◌, ◌∙◌, ℕ, zero, suc, Bool, true, false, cond, leb, List, [], ◌∷◌, Option, refl, sym, ap, subst}
use Rattle.std.specs.Prelude.{slice_index, slice_set}
use Rattle.room_spec.specs.Rooms.{RoomSpec}
use Rattle.room_spec.specs.Sizes.{sizes_in}
use Rattle.view_table.specs.Places.{IsPlace, index_of}
use Rattle.view_table.specs.declared.place.Place.{Place}
use Rattle.simulator.specs.Moves.{IsOperation, move_of, words_after}
use Rattle.simulator.specs.declared.goal.Goal.{Goal}
use Rattle.simulator.specs.declared.operation.Move.{Move}
use Rattle.simulator.specs.declared.operation.Move.TheVariants.{Load, Store, Add, Sub, Finished, OutOfTurns}
use Rattle.simulator.specs.declared.sweep.Ready.{Ready}
use Rattle.simulator.specs.declared.sweep.Ready.TheVariants as ready
use Rattle.room_core.specs.Calls.{RoomState, Step, decision_at, has_crashed, ready_at, reply_when, room_after_step, room_when, step_reply}
use Rattle.room_core.specs.declared.reply.StepReply.TheVariants.{Stepped, Crashed, NoSimulator}
use Rattle.room_core.proofs.CallerLemmasOnSpecs.{same_spec}
use Rattle.room_steps.specs.Steps.{IsNextStep, IsStepOf, end_in, index_of_move, mind_in, new_decision}
use Rattle.room_steps.specs.declared.step.AtomicStep.{AtomicStep}

-- a place of the room is one of the room after it
pub place_after : (room after : RoomState) (i : ℕ) (place : Place) → after ≡ room_after_step room i → IsPlace (sizes_in room.spec) place → IsPlace (sizes_in after.spec) place
place_after room after i place to is = subst (λ (spec : RoomSpec). IsPlace (sizes_in spec) place) (sym (ap (λ (r : RoomState). r.spec) to ∙ same_spec room (Step i))) is

-- a step that is taken next, with what it left
pub step_left : (room after : RoomState) (i : ℕ) (next : AtomicStep) (word : ℕ) (end : Option Goal) (decision : Option ℕ) → after ≡ room_after_step room i → IsNextStep room i next
    → word ≡ slice_index after.words (index_of (sizes_in after.spec) next.place) → end ≡ end_in (mind_in after i) next.process → decision ≡ new_decision (decision_at room i) (decision_at after i)
    → IsStepOf room i (record next { after = word; end = end; decision = decision })
step_left room after i next word end decision to is read ended decided =
    let same : after.spec ≡ room.spec = ap (λ (r : RoomState). r.spec) to ∙ same_spec room (Step i) in
    let at : index_of (sizes_in after.spec) next.place ≡ index_of_move next.operation = ap (λ (spec : RoomSpec). index_of (sizes_in spec) next.place) same ∙ is.place.index in
    record {
      next = record {
        simulator = is.simulator;
        turn = is.turn;
        process = is.process;
        round = is.round;
        line = is.line;
        operation = is.operation;
        is_operation = is.is_operation;
        place = is.place;
        word = is.word;
      };
      after = read ∙ ap (λ (k : ℕ). slice_index after.words k) at ∙ ap (λ (r : RoomState). slice_index r.words (index_of_move next.operation)) to;
      ended = ended ∙ ap (λ (r : RoomState). end_in (mind_in r i) next.process) to;
      decision = decided ∙ ap (λ (r : RoomState). new_decision (decision_at room i) (decision_at r i)) to;
    }

-- a word that is set to what it is stays
set_same : (words : List ℕ) (at : ℕ) → slice_set words at (slice_index words at) ≡ words
set_same [] at = refl
set_same (word ∷ words) zero = refl
set_same (word ∷ words) (suc at) = ap (λ (others : List ℕ). word ∷ others) (set_same words at)

-- and one that was set is set to what it is then
set_again : (words : List ℕ) (at number : ℕ) → slice_set words at number ≡ slice_set words at (slice_index (slice_set words at number) at)
set_again [] at number = refl
set_again (word ∷ words) zero number = refl
set_again (word ∷ words) (suc at) number = ap (λ (others : List ℕ). word ∷ others) (set_again words at number)

one_word : (operation : Move) (words : List ℕ) → IsOperation operation → words_after operation words ≡ slice_set words (index_of_move operation) (slice_index (words_after operation words) (index_of_move operation))
one_word (Load at) words is = sym (set_same words at)
one_word (Store at number) words is = set_again words at number
one_word (Add at number) words is = set_again words at _
one_word (Sub at number) words is = set_again words at _
one_word Finished words is = absurd is
one_word OutOfTurns words is = absurd is

-- a step that is taken is one of the mind on the words
moved_when : (absent crashed : Bool) (answer : Ready) (room : RoomState) (i : ℕ) → cond absent NoSimulator (cond crashed Crashed (reply_when answer)) ≡ Stepped
    → (cond absent room (cond crashed room (room_when answer room i))).words ≡ words_after (move_of room.spec (mind_in room i)) room.words
moved_when true crashed answer room i is = absurd cc
moved_when false true answer room i is = absurd cc
moved_when false false ready.Step room i is = refl
moved_when false false ready.Idle room i is = absurd cc
moved_when false false ready.OutOfTurns room i is = absurd cc

moved_words : (room : RoomState) (i : ℕ) → step_reply room i ≡ Stepped → (room_after_step room i).words ≡ words_after (move_of room.spec (mind_in room i)) room.words
moved_words room i stepped = moved_when (leb room.spec.simulators i) (has_crashed room i) (ready_at room i) room i stepped

pub changes_one : (room : RoomState) (i : ℕ) (step : AtomicStep) → step_reply room i ≡ Stepped → IsStepOf room i step → (room_after_step room i).words ≡ slice_set room.words (index_of (sizes_in room.spec) step.place) step.after
changes_one room i step stepped is =
    let to : (room_after_step room i).words ≡ words_after step.operation room.words = moved_words room i stepped ∙ ap (λ (m : Move). words_after m room.words) (sym is.next.operation) in
    to ∙ one_word step.operation room.words is.next.is_operation
    ∙ ap (λ (words : List ℕ). slice_set room.words (index_of_move step.operation) (slice_index words (index_of_move step.operation))) (sym to)
    ∙ ap (λ (word : ℕ). slice_set room.words (index_of_move step.operation) word) (sym is.after)
    ∙ ap (λ (at : ℕ). slice_set room.words at step.after) (sym is.next.place.index)
