-- The places of rooms that were worked by hand.
use Rattle.std.proofs.Common.{◌≡◌, ℕ, true, false, ◌++◌, List, [], ◌∷◌, length, map, refl}
use Rattle.std.specs.List.{flat_map, range_with_len}
use Rattle.room_spec.specs.Sizes.{Sizes, memory_words}
use Rattle.view_table.specs.declared.place.Place.{Place}
use Rattle.view_table.specs.declared.place.Place.TheVariants.{Memory, Levels, View, Value, Out}
use Rattle.view_table.specs.Places.{index_of, words_of}

-- one process, one simulator, one round
smallest : Sizes
smallest = record {
  n = 1;
  m = 1;
  bits = 1;
  rounds = 1;
  reduction = false;
}

smallest_steps : index_of smallest (Memory 0) ≡ 0
unfolding smallest index_of memory_words
smallest_steps = refl

smallest_levels : index_of smallest (Levels 0 1) ≡ 1
unfolding smallest index_of memory_words
smallest_levels = refl

smallest_view : index_of smallest (View 0 0 1 0) ≡ 2
unfolding smallest index_of memory_words
smallest_view = refl

smallest_value : index_of smallest (Value 0 0 1) ≡ 3
unfolding smallest index_of memory_words
smallest_value = refl

smallest_out : index_of smallest (Out 0 0) ≡ 4
unfolding smallest index_of memory_words
smallest_out = refl

smallest_words : words_of smallest ≡ 5
unfolding smallest words_of memory_words
smallest_words = refl

-- two processes, two simulators, one round
two_by_two : Sizes
two_by_two = record {
  n = 2;
  m = 2;
  bits = 1;
  rounds = 1;
  reduction = false;
}

two_by_two_words : words_of two_by_two ≡ 15
unfolding two_by_two words_of memory_words
two_by_two_words = refl

two_by_two_last : index_of two_by_two (Out 1 1) ≡ 14
unfolding two_by_two index_of memory_words
two_by_two_last = refl

-- the most words of any room: 16 processes, one simulator, 15 rounds
longest : Sizes
longest = record {
  n = 16;
  m = 1;
  bits = 4;
  rounds = 15;
  reduction = false;
}

longest_words : words_of longest ≡ 737
unfolding longest words_of memory_words
longest_words = refl

longest_last : index_of longest (Out 0 15) ≡ 736
unfolding longest index_of memory_words
longest_last = refl

-- eight processes, four simulators, three rounds: a full word of step numbers
full : Sizes
full = record {
  n = 8;
  m = 4;
  bits = 2;
  rounds = 3;
  reduction = false;
}

full_words : words_of full ≡ 249
unfolding full words_of memory_words
full_words = refl

full_last : index_of full (Out 3 7) ≡ 248
unfolding full index_of memory_words
full_last = refl

-- ---- the places in the order of their words

abbrev in_order : Sizes → List Place
in_order sizes =
    let simulators = range_with_len 0 sizes.m in
    let processes = range_with_len 0 sizes.n in
    let rounds = range_with_len 1 sizes.rounds in
    map Memory (range_with_len 0 (memory_words sizes)) ++ (flat_map (λ j. map (Levels j) rounds) processes ++ (flat_map (λ i. flat_map (λ j. flat_map (λ k. map (View i j k) (range_with_len 0 (memory_words sizes))) rounds) processes) simulators ++ (flat_map (λ i. flat_map (λ j. map (Value i j) rounds) processes) simulators ++ flat_map (λ i. map (Out i) processes) simulators)))

abbrev indexes : Sizes → List ℕ
indexes sizes = map (index_of sizes) (in_order sizes)

abbrev all_words : Sizes → List ℕ
all_words sizes = range_with_len 0 (words_of sizes)

longest_in_order : indexes longest ≡ all_words longest
unfolding longest index_of words_of memory_words
longest_in_order = refl

-- so many processes and simulators, with as many rounds from `first` on
abbrev sized : ℕ → ℕ → ℕ → ℕ → ℕ → List Sizes
sized n m bits first count = map (λ rounds. record { n = n; m = m; bits = bits; rounds = rounds; reduction = false }) (range_with_len first count)

-- the 40 rooms whose step numbers fill a word
abbrev full_words_of_steps : List Sizes
full_words_of_steps = flat_map (λ some. some) (sized 8 8 1 1 1 ∷ sized 16 4 1 1 1 ∷ sized 4 8 2 2 2 ∷ sized 8 4 2 2 2 ∷ sized 16 2 2 2 2 ∷ sized 2 8 4 8 8 ∷ sized 4 4 4 8 8 ∷ sized 8 2 4 8 8 ∷ sized 16 1 4 8 8 ∷ [])

full_words_are_forty : length full_words_of_steps ≡ 40
full_words_are_forty = refl

full_words_in_order : map indexes full_words_of_steps ≡ map all_words full_words_of_steps
unfolding index_of words_of memory_words
full_words_in_order = refl

-- ---- rooms of several memory words

-- nine processes, two simulators, fifteen rounds: two words
big : Sizes
big = record {
  n = 9;
  m = 2;
  bits = 4;
  rounds = 15;
  reduction = false;
}

big_words : (memory_words big ≡ 2) × (words_of big ≡ 965) × (index_of big (Out 1 8) ≡ 964)
unfolding big memory_words words_of index_of
big_words = (refl, refl, refl)

-- eight processes, eight simulators, fifteen rounds: four full words
widest : Sizes
widest = record {
  n = 8;
  m = 8;
  bits = 4;
  rounds = 15;
  reduction = false;
}

widest_words : memory_words widest ≡ 4
unfolding widest memory_words
widest_words = refl

-- the most words of an ordinary room
most_words : words_of (record { n = 16; m = 4; bits = 4; rounds = 15; reduction = false }) ≡ 5108
unfolding words_of memory_words
most_words = refl

-- rooms of two, three and four memory words, of which some are not full
abbrev several_words : List Sizes
several_words = flat_map (λ some. some) (sized 9 8 1 1 1 ∷ sized 11 3 2 2 2 ∷ sized 11 2 3 4 1 ∷ sized 11 4 3 7 1 ∷ sized 12 7 3 4 1 ∷ sized 5 4 4 8 1 ∷ sized 7 7 4 9 1 ∷ sized 8 8 4 8 1 ∷ [])

several_words_in_order : map indexes several_words ≡ map all_words several_words
unfolding index_of words_of memory_words
several_words_in_order = refl

-- ---- reductions

-- two simulators run three processes for two rounds: the words of the ordinary room, and then three words of levels and six of proposals
shared : Sizes
shared = record {
  n = 3;
  m = 2;
  bits = 2;
  rounds = 2;
  reduction = true;
}

shared_words : words_of shared ≡ 46
unfolding shared words_of memory_words
shared_words = refl

ordinary_words : words_of (record shared { reduction = false }) ≡ 37
unfolding shared words_of memory_words
ordinary_words = refl

-- the rounds from 1 on have the words that they have in the ordinary room
same_levels : index_of shared (Levels 2 2) ≡ index_of (record shared { reduction = false }) (Levels 2 2)
unfolding shared index_of memory_words
same_levels = refl

shared_inputs : map (index_of shared) (map (λ j. Levels j 0) (range_with_len 0 3) ++ flat_map (λ i. map (λ j. Value i j 0) (range_with_len 0 3)) (range_with_len 0 2)) ≡ range_with_len 37 9
unfolding shared index_of memory_words
shared_inputs = refl

-- the most words of any room
most_words_shared : words_of (record { n = 16; m = 4; bits = 4; rounds = 15; reduction = true }) ≡ 5188
unfolding words_of memory_words
most_words_shared = refl
