-- What is read of a block.
use Rattle.std.proofs.Common.{◌≡◌, ℕ, Ok, Err, Result, ap, inl, inr, sym}
use Rattle.room_spec.specs.Blocks.{OrMemory, out_of_memory}
use Rattle.room_spec.specs.Rooms.{RoomSpec}
use Rattle.room_spec.specs.declared.fault.SpecFault.{SpecFault}

abbrev ReadRoom : Type 0
ReadRoom = Result (RoomSpec × ℕ) SpecFault

abbrev read_as : RoomSpec → ℕ → ReadRoom
read_as room len = Ok (room, len)

abbrev none_read : ReadRoom
none_read = Err out_of_memory

same_room : (room want : RoomSpec) (len other : ℕ) → read_as room len ≡ read_as want other → room ≡ want
same_room room want len other is =
    let same : (room, len) ≡ (want, other) = cc in
    ap (λ (p : RoomSpec × ℕ). p.0) same

same_length : (room want : RoomSpec) (len other : ℕ) → read_as room len ≡ read_as want other → len ≡ other
same_length room want len other is =
    let same : (room, len) ≡ (want, other) = cc in
    ap (λ (p : RoomSpec × ℕ). p.1) same

-- what was read is what the text says
pub or_said : (lacks : Type 0) (room : RoomSpec) (len : ℕ) (said : ReadRoom) → OrMemory lacks (read_as room len) said → said ≡ read_as room len
or_said lacks room len said read = elim read [
  | inl is ↦ sym is
  | inr lack ↦ let never : read_as room len ≡ none_read = lack.0 in absurd cc
]

-- and it is as long
pub or_length : (lacks : Type 0) (room want : RoomSpec) (len other : ℕ) → OrMemory lacks (read_as room len) (read_as want other) → len ≡ other
or_length lacks room want len other read = elim read [
  | inl is ↦ same_length room want len other is
  | inr lack ↦ let never : read_as room len ≡ none_read = lack.0 in absurd cc
]

-- if what is a block was read, it is the room that the block says
pub or_read : (lacks : Type 0) (room want : RoomSpec) (len other : ℕ) → OrMemory lacks (read_as room len) (read_as want other) → room ≡ want
or_read lacks room want len other read = elim read [
  | inl is ↦ same_room room want len other is
  | inr lack ↦ let never : read_as room len ≡ none_read = lack.0 in absurd cc
]
