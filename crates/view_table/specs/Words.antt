-- A room's memory as a list of its words.
use Rattle.std.specs.Prelude.{ℕ, List, slice_index, slice_set}
use Rattle.room_spec.specs.Sizes.{Sizes}
use Rattle.view_table.specs.declared.place.Place.{Place}
use Rattle.view_table.specs.Places.{index_of}

-- the word of a place
abbrev pub word_at : Sizes → List ℕ → Place → ℕ
word_at sizes words place = slice_index words (index_of sizes place)

-- the words with this one stored at a place
abbrev pub with_word : Sizes → List ℕ → Place → ℕ → List ℕ
with_word sizes words place word = slice_set words (index_of sizes place) word
