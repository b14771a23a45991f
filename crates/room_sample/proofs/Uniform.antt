-- A number below another, drawn from a stream.
use Rattle.std.proofs.Common.{◌≡◌, ◌∙◌, ℕ, ◌+◌, ◌<◌, ap, arith}
use Rattle.std.specs.Prelude.{pos}
use Rattle.rand_core.specs.Stream.{Stream, next_u32}
use Rattle.rand.specs.Uniform.{DrawsBetween, canon}
use Rattle.room_sample.specs.Chances.{below}

pair_is : {A B : Type 0} (x x' : A) (t t' : B) → x ≡ x' → t ≡ t' → ◌≡◌ {A = A × B} (x, t) (x', t')
pair_is x x' t t' first second = ap (λ y. (y, t)) first ∙ ap (λ u. (x', u)) second

pos_same : (x y : ℕ) → pos x ≡ pos y → x ≡ y
pos_same x y e = cc

pub drawn_below : {standard : Stream → ℕ → Stream → Type 0} (count x : ℕ) (s t : Stream) → count < 4294967296 → DrawsBetween pos 4294967296 standard (canon 4294967296 next_u32) (pos 0) (pos count) s x t → ◌≡◌ {A = ℕ × Stream} (x, t) (below count s)
unfolding below
drawn_below count x s t small draws =
    let width : count + 0 ≡ count = omega arith in
    let number : x ≡ 0 + (canon 4294967296 next_u32 (count + 0) s).0 = pos_same x (0 + (canon 4294967296 next_u32 (count + 0) s).0) (draws.value (λ e. absurd (omega (arith, small, e)))) in
    let none : 0 + (canon 4294967296 next_u32 (count + 0) s).0 ≡ (canon 4294967296 next_u32 (count + 0) s).0 = omega arith in
    pair_is x (canon 4294967296 next_u32 count s).0 t (canon 4294967296 next_u32 count s).1
    (number ∙ none ∙ ap (λ (n : ℕ). (canon 4294967296 next_u32 n s).0) width)
    (draws.rest (λ e. absurd (omega (arith, small, e))) ∙ ap (λ (n : ℕ). (canon 4294967296 next_u32 n s).1) width)
