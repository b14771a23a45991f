-- What was read of an input.
use Rattle.std.specs.Prelude.{◌≡◌, ℕ, ◌+◌, ◌<◌, ◌≤◌, ◌==◌, Bool, false, ◌&&◌, nat_lt, List, ◌++◌, length, Option, Result, Ok, Err}
use Rattle.std.specs.Global.{Vec}
use Rattle.std.specs.Io.KnownBytes.{Consumes, IsAtEnd}
use Rattle.io_text.specs.declared.input.TheConstants.{MAX_INPUT}
use Rattle.io_text.specs.declared.fault.DeviceFault.{DeviceFault}
use Rattle.io_text.specs.declared.fault.DeviceFault.TheVariants.{Read, Write, TooLong, Memory}

abbrev pub most_bytes : ℕ
most_bytes = MAX_INPUT

-- a read into so much room says that nothing is left
abbrev pub is_end : {E : Type 0} → Result ℕ E → ℕ → Bool
is_end (Ok count) room = (count == 0) && nat_lt 0 room
is_end (Err fault) room = false

-- the next bytes of the reader, this many, were appended to the text; there are none only at its end
pub record IsPiece (old new : Option (List ℕ)) (before after : List ℕ) (count : ℕ) : Type 0 where
  pub bytes : List ℕ
  pub behind : after ≡ before ++ bytes
  pub count_is : length bytes ≡ count
  pub consumed : Consumes old new bytes
  pub at_end : count ≡ 0 → IsAtEnd new

-- the reader's next bytes make the text too long
pub record IsTooMuch (old : Option (List ℕ)) (before : List ℕ) : Type 0 where
  pub new : Option (List ℕ)
  pub bytes : List ℕ
  pub consumed : Consumes old new bytes
  pub long : most_bytes < length before + length bytes

-- the reader's next bytes fit after the text
pub record IsInRoom (old : Option (List ℕ)) (before : List ℕ) : Type 0 where
  pub new : Option (List ℕ)
  pub bytes : List ℕ
  pub consumed : Consumes old new bytes
  pub fits : length before + length bytes ≤ most_bytes

-- the faults with which a read may end: memory may be refused to bytes that fit
abbrev pub MayEnd : Option (List ℕ) → List ℕ → DeviceFault → Type 0
MayEnd old before TooLong = IsTooMuch old before
MayEnd old before Read = Unit {0}
MayEnd old before Memory = IsInRoom old before
MayEnd old before Write = ⊥

-- what was read of a whole input, where the reader didn't fail and memory wasn't refused
abbrev pub IsWholeInput : List ℕ → Result (Vec ℕ) DeviceFault → Type 0
IsWholeInput input (Ok text) = text.items ≡ input
IsWholeInput input (Err TooLong) = most_bytes < length input
IsWholeInput input (Err Read) = Unit {0}
IsWholeInput input (Err Memory) = Unit {0}
IsWholeInput input (Err Write) = ⊥

-- the faults with which reading may end
abbrev pub IsReadFault : DeviceFault → Type 0
IsReadFault Read = Unit {0}
IsReadFault TooLong = Unit {0}
IsReadFault Memory = Unit {0}
IsReadFault Write = ⊥
