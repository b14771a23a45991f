-- The definitions of vectors and values on what was worked out by hand.
use Rattle.std.proofs.Common.{◌≡◌, [], ◌∷◌, Ok, Err, refl}
use Rattle.std.specs.Prelude.{codes}
use Rattle.std.specs.Fmt.{digits}
use Rattle.input_vectors.specs.Lines.{too_many_line, vector_words}
use Rattle.input_vectors.specs.Values.{values_in}
use Rattle.input_vectors.specs.Vectors.{vector_count, vectors}
use Rattle.input_vectors.specs.declared.values.ValuesFault.TheVariants.{NoNumber, Repeated, TooMany}

-- ---- vectors

pairs : vectors (0 ∷ 1 ∷ []) 2 ≡ (0 ∷ 0 ∷ []) ∷ (0 ∷ 1 ∷ []) ∷ (1 ∷ 0 ∷ []) ∷ (1 ∷ 1 ∷ []) ∷ []
pairs = refl

-- values are taken in the order in which they are given
in_order : vectors (7 ∷ 3 ∷ []) 1 ≡ (7 ∷ []) ∷ (3 ∷ []) ∷ []
in_order = refl

one_value : vectors (5 ∷ []) 3 ≡ (5 ∷ 5 ∷ 5 ∷ []) ∷ []
one_value = refl

how_many : vector_count (0 ∷ 1 ∷ 2 ∷ []) 4 ≡ 81
how_many = refl

-- ---- lines

words : vector_words (codes "pair") (0 ∷ 15 ∷ []) ≡ codes "pair inputs 0 15"
unfolding digits
words = refl

crowded : too_many_line (codes "wide") 3 ≡ codes "wide has more than 65536 vectors of 3 values: none is tried; give fewer values, or a room of fewer processes\n"
unfolding digits
crowded = refl

-- ---- values

two_values : values_in (codes "0,1") ≡ Ok (0 ∷ 1 ∷ [])
two_values = refl

single : values_in (codes "4294967295") ≡ Ok (4294967295 ∷ [])
single = refl

too_great : values_in (codes "0,4294967296") ≡ Err (NoNumber 2)
too_great = refl

none_said : values_in [] ≡ Err (NoNumber 1)
none_said = refl

empty_piece : values_in (codes "1,,2") ≡ Err (NoNumber 2)
empty_piece = refl

leading_zero : values_in (codes "1,01") ≡ Err (NoNumber 2)
leading_zero = refl

said_twice : values_in (codes "1,2,1") ≡ Err (Repeated 3)
said_twice = refl

seventeen : values_in (codes "0,1,2,3,4,5,6,7,8,9,10,11,12,13,14,15,16") ≡ Err TooMany
seventeen = refl
