-- What the words, minds and marks of a room say is what its fields say.
use Rattle.std.proofs.Common.{◌≡◌, ℕ, refl, sym, ap, ◌∙◌, subst, arith}
use Rattle.room_spec.specs.Rooms.{IsWithinLimits}
use Rattle.room_spec.specs.Sizes.{Sizes, AreSizes, memory_words, sizes_in}
use Rattle.level_cells.specs.Fields.{level_of}
use Rattle.sim_memory.specs.Steps.{AreSameSteps, AreWithin, step_in}
use Rattle.sim_memory.proofs.CallerLemmas.{word_steps}
use Rattle.simulator.specs.Minds.{MindOf, MindState}
use Rattle.room_core.specs.Calls.{RoomState, configuration_of, sweep_at}
use Rattle.room_core.specs.Fields.{Fields, StepMap}
use Rattle.room_core.specs.Reading.{AgreeIn, AreAlikeMinds, AreFieldsOf, AreWordsAt, fields_in, unworded, worded, words_from}
use Rattle.room_core.proofs.fields.FieldCalls.{fields_stand}
use Rattle.room_core.proofs.fields.FieldReplays.{mind_is}
use Rattle.room_core.proofs.fields.Snapshots.{level_at, memory_steps}
use Rattle.std.proofs.Common.{List}
use Rattle.std.proofs.lemmas.List.FromFn.{get_or-map-range_with_len}
use Rattle.view_table.specs.declared.place.Place.{Place}
use Rattle.view_table.specs.declared.place.Place.TheVariants as places
use Rattle.view_table.specs.Words.{word_at}
use Rattle.room_core.proofs.fields.States.{mind_here}

module _ (sizes : Sizes) (are : AreSizes sizes) where
  of_words : (words : List ℕ) (place : ℕ → Place) (steps : StepMap) → AreWordsAt sizes words place steps → AreSameSteps sizes.m sizes.n (step_in sizes (words_from sizes words place)) steps
  of_words words place steps is =
      word_steps sizes steps (words_from sizes words place) are is.within (λ w below. get_or-map-range_with_len (λ x. word_at sizes words (place x)) 0 (memory_words sizes) w w 0 below (omega arith) ∙ is.same w below)

  of_mind : (mind : MindState) (field : MindOf StepMap) → AreWithin sizes field.before → AreWithin sizes field.snapshot → mind ≡ worded sizes field → AreAlikeMinds sizes (unworded sizes mind) field
  of_mind mind field before within is =
      subst (λ (m : MindState). AreAlikeMinds sizes (unworded sizes m) field) (sym is)
      (record { before = memory_steps sizes field.before are before; snapshot = memory_steps sizes field.snapshot are within; rest = refl })

pub agrees : (room : RoomState) (fields : Fields) → IsWithinLimits room.spec → AreFieldsOf room fields → AgreeIn (sizes_in room.spec) (fields_in room) fields
agrees room fields limits are =
    let for = fields_stand room fields limits are in
    let words = for.reads.words in
    record {
      step = of_words (sizes_in room.spec) limits.shape room.words places.Memory fields.step words.step;
      level = λ i j k simulator process round.
          ap (λ (w : ℕ). level_of w i) (words.level j k process round) ∙ level_at (λ a. fields.level a j k) room.spec.simulators i (λ a. for.tracks.range.level a j k) simulator;
      view = λ i j k simulator process round. of_words (sizes_in room.spec) limits.shape room.words (places.View i j k) (fields.view i j k) (words.view i j k simulator process round);
      value = words.value;
      out = words.out;
      mind = λ i below. of_mind (sizes_in room.spec) limits.shape (sweep_at room i).mind (fields.mind i) (for.tracks.before i) (for.tracks.snapshot i) (sym (mind_here room i) ∙ mind_is (configuration_of room) fields i for below);
      quiet = λ i below. sym (are.counts i below);
      crashed = for.reads.crashed;
    }
