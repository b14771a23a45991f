-- Streams of random numbers.
use Rattle.std.specs.Prelude.{ℕ, ◌+◌, ◌*◌, ◌^◌}
use Rattle.rand_core.specs.Steps.{stream_of, steps_u64_high}
use Rattle.rand_core.specs.Stream.{Stream, next_u32}
use Rattle.rand.specs.Uniform.{canon}
use Rattle.rand_xoshiro.specs.SplitMix64.{splitmix_seed}
use Rattle.rand_xoshiro.specs.Xoshiro256.{of_seed, plus_plus}
use Rattle.room_sample.specs.declared.chances.Chances.{Chances}

-- what a generator will give
abbrev pub random_in : Chances → Stream
random_in chances = stream_of (steps_u64_high plus_plus) chances.random

-- what the generator of a schedule will give, by the seed and by its number
abbrev pub random_of : ℕ → ℕ → Stream
random_of seed schedule = stream_of (steps_u64_high plus_plus) (of_seed (splitmix_seed 32 (seed * 2 ^ 32 + schedule)))

-- a number below `count`, and what is left of the stream
unfoldable pub below : ℕ → Stream → ℕ × Stream
below count random = canon (2 ^ 32) next_u32 count random
