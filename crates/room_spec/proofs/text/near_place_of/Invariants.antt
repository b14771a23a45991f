use Rattle.std.proofs.Common.{◌≡◌, ◌<◌, ℕ, false, get_or}
use Rattle.std.specs.Prelude.{◌==◌}
use Rattle.room_spec.proofs.text.near_place_of.Given as goal

-- the byte stands at no place so far
abbrev pub invariant-loop-place : goal.invariant-loop-place
invariant-loop-place l = (k : ℕ) → k < l.place → (get_or l.text k 0 == l.byte) ≡ false
