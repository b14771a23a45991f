-- How reading ends.
use Rattle.std.specs.Prelude.{Bool, true, false, Result, Ok, Err}
use Rattle.io_text.specs.declared.fault.DeviceFault.{DeviceFault}
use Rattle.io_text.specs.declared.fault.DeviceFault.TheVariants.{Read, Write, TooLong, Memory}

-- the reader failed
abbrev pub is_read_failed : {A : Type 0} → Result A DeviceFault → Bool
is_read_failed (Ok value) = false
is_read_failed (Err Read) = true
is_read_failed (Err Write) = false
is_read_failed (Err TooLong) = false
is_read_failed (Err Memory) = false
