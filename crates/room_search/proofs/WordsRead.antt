-- Memory words, and the words of a view, say the same step numbers where they are among a room's words and in the list of them by their places.
use Rattle.std.proofs.Common.{◌≡◌, ℕ, ◌+◌, ◌-◌, ◌<◌, ◌≤◌, min, List, drop, get_or, sym, ap, ◌∙◌, arith}
use Rattle.std.proofs.lemmas.List.{get_or-drop}
use Rattle.std.proofs.lemmas.List.FromFn.{get_or-map-range_with_len}
use Rattle.room_spec.specs.Sizes.{Sizes, AreSizes, memory_words}
use Rattle.room_spec.proofs.CallerLemmas.{are_memory_words}
use Rattle.level_cells.specs.Fields.{field_of}
use Rattle.view_table.specs.declared.place.Place.{Place}
use Rattle.view_table.specs.declared.place.Place.TheVariants as places
use Rattle.view_table.specs.Places.{IsProcess, IsRound, IsSimulator, index_of, words_of}
use Rattle.view_table.specs.Words.{word_at}
use Rattle.view_table.proofs.CallerLemmas.{memory_first, view_together, within}
use Rattle.sim_memory.specs.Steps.{AreSameSteps, place_of, step_in, word_of}
use Rattle.sim_memory.proofs.CallerLemmas.{word_below}
use Rattle.room_core.specs.Reading.{words_from}

module _ (sizes : Sizes) (are : AreSizes sizes) where
  pub same_words : (words listed : List ℕ) (place : ℕ → Place) → ((w : ℕ) → w < memory_words sizes → get_or words w 0 ≡ word_at sizes listed (place w)) → AreSameSteps sizes.m sizes.n (step_in sizes words) (step_in sizes (words_from sizes listed place))
  same_words words listed place each i p below less =
      let w = word_of sizes i p in
      let here = word_below sizes i p are below less in
      ap (λ (word : ℕ). min (field_of word (place_of sizes i p) sizes.bits) sizes.rounds)
      (each w here ∙ sym (get_or-map-range_with_len (λ (x : ℕ). word_at sizes listed (place x)) 0 (memory_words sizes) w w 0 here (omega arith)))

  pub memory_read : (words : List ℕ) → AreSameSteps sizes.m sizes.n (step_in sizes words) (step_in sizes (words_from sizes words places.Memory))
  memory_read words = same_words words words places.Memory (λ w here. ap (λ (at : ℕ). get_or words at 0) (sym (memory_first sizes w)))

  pub view_read : (words : List ℕ) (i j k : ℕ) → AreSameSteps sizes.m sizes.n (step_in sizes (drop (index_of sizes (places.View i j k 0)) words)) (step_in sizes (words_from sizes words (places.View i j k)))
  view_read words i j k =
      same_words (drop (index_of sizes (places.View i j k 0)) words) words (places.View i j k)
      (λ w here. get_or-drop (index_of sizes (places.View i j k 0)) words w 0 ∙ ap (λ (at : ℕ). get_or words at 0) (sym (view_together sizes i j k w)))

  -- a view lies within the words
  pub view_fits : (i j k : ℕ) → IsSimulator sizes i → IsProcess sizes j → IsRound sizes k → index_of sizes (places.View i j k 0) + memory_words sizes ≤ words_of sizes
  view_fits i j k simulator process round =
      let c = are_memory_words sizes are in
      let last = within sizes (places.View i j k (memory_words sizes - 1)) (simulator, process, round, omega (arith, c.some)) in
      omega (arith, last, view_together sizes i j k (memory_words sizes - 1), c.some)

pub memory_fits : (sizes : Sizes) → memory_words sizes ≤ words_of sizes
unfolding words_of
memory_fits sizes = omega arith
