-- Places in a picture.
use Rattle.std.specs.Prelude.{ℕ, ◌+◌, ◌-◌, ◌^◌, min}
use Rattle.picture_shapes.specs.declared.shape.Frame.{Frame}
use Rattle.picture_shapes.specs.declared.shape.Point.{Point}

-- a sum that stops at the greatest number
abbrev pub plus : ℕ → ℕ → ℕ
plus number more = min (number + more) (2 ^ 64 - 1)

abbrev pub moved : Point → ℕ → ℕ → Point
moved at right down = record { x = plus at.x right; y = plus at.y down }

abbrev pub frame_at : Point → ℕ → ℕ → Frame
frame_at start width height = record { x = start.x; y = start.y; width = width; height = height }
