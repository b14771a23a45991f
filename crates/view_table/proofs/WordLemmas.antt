-- A list that has a word for each place.
use Rattle.std.proofs.Common.{◌≡◌, ◌≢◌, ℕ, List, length, get_or, replicate, sym, ap, ◌∙◌, arith}
use Rattle.std.proofs.lemmas.List.{get_or-set_same, get_or-set_other, get_or-replicate}
use Rattle.std.proofs.lemmas.Grind.{same_number_lists}
use Rattle.room_spec.specs.Sizes.{Sizes}
use Rattle.view_table.specs.declared.place.Place.{Place}
use Rattle.view_table.specs.Places.{IsPlace, index_of, words_of}
use Rattle.view_table.specs.Words.{word_at, with_word}
use Rattle.view_table.proofs.PlaceLemmas.{distinct, within, some_place}

pub here : (sizes : Sizes) (words : List ℕ) (place : Place) (word : ℕ) → length words ≡ words_of sizes → IsPlace sizes place → word_at sizes (with_word sizes words place word) place ≡ word
here sizes words place word whole range = get_or-set_same words (index_of sizes place) word 0 (omega (arith, within sizes place range))

pub elsewhere : (sizes : Sizes) (words : List ℕ) (place other : Place) (word : ℕ) → IsPlace sizes place → IsPlace sizes other → other ≢ place → word_at sizes (with_word sizes words place word) other ≡ word_at sizes words other
elsewhere sizes words place other word range other_range apart =
    get_or-set_other words (index_of sizes place) (index_of sizes other) word 0 (λ same. apart (distinct sizes other place other_range range same))

pub same_words : (sizes : Sizes) (words others : List ℕ) → length words ≡ words_of sizes → length others ≡ words_of sizes → ((place : Place) → IsPlace sizes place → word_at sizes words place ≡ word_at sizes others place) → words ≡ others
same_words sizes words others whole other_whole agree =
    same_number_lists words others (whole ∙ sym other_whole) (λ at less.
    let found = some_place sizes at (omega arith) in
    ap (λ i. get_or words i 0) (sym found.1.index) ∙ agree found.0 found.1.in_range ∙ ap (λ i. get_or others i 0) found.1.index)

pub zeros : (sizes : Sizes) (place : Place) → IsPlace sizes place → word_at sizes (replicate (words_of sizes) 0) place ≡ 0
zeros sizes place range = get_or-replicate (words_of sizes) (index_of sizes place) 0 0 (within sizes place range)
