-- What is written of vectors of inputs, whatever they are judged by.
use Rattle.std.specs.Prelude.{ℕ, List, ◌∷◌, ◌++◌, codes, decimal}
use Rattle.io_text.specs.Numbers.{numbers_text}

-- what each line of a vector begins with: the room's name and the vector
abbrev pub vector_words : List ℕ → List ℕ → List ℕ
vector_words name inputs = (name ++ codes " inputs") ++ numbers_text inputs

-- for how many of how many vectors the task is kept, as these words say it
abbrev pub vectors_line : List ℕ → List ℕ → ℕ → ℕ → List ℕ
vectors_line name words kept count = (name ++ words) ++ ((32 ∷ decimal kept) ++ (codes " of" ++ ((32 ∷ decimal count) ++ codes " vectors of inputs\n")))

-- there are more vectors of this number of values than a room is judged with
abbrev pub too_many_line : List ℕ → ℕ → List ℕ
too_many_line name values = (name ++ codes " has more than 65536 vectors of") ++ ((32 ∷ decimal values) ++ codes " values: none is tried; give fewer values, or a room of fewer processes\n")
