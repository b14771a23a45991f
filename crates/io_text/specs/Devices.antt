-- What a call leaves of the reader and the writer that it was given.
use Rattle.std.specs.Prelude.{◌≡◌, ℕ, ◌+◌, ◌≤◌, Bool, true, false, List, length, Option, IfSome, Result, OnOk, if◌then◌else◌}
use Rattle.io_text.specs.Reading.{most_bytes}
use Rattle.io_text.specs.declared.device.Device.{Device}

-- The reader failed exactly if reading ended the call. Of what it had to give each read but the last gave a byte at least, and
-- once it had said that nothing is left it was not asked again.
abbrev pub HasRead : {R : Type 0} → Device R → Device R → Option (List ℕ) → Bool → Type 0
HasRead old new given is_failed =
    (new.failed ≡ is_failed)
    × (new.calls ≤ old.calls + most_bytes + 1)
    × IfSome given (λ input. new.calls ≤ old.calls + length input + 1)
    × (old.ended ≡ false → new.asked_past_end ≡ old.asked_past_end)

-- The writer failed exactly if writing ended the call. What was written was passed on, also if the call ended with a
-- fault, unless that is of the writer. No write was of nothing.
abbrev pub HasWritten : {W A E : Type 0} → Device W → Device W → Result A E → Bool → Type 0
HasWritten old new result is_failed =
    (new.failed ≡ is_failed)
    × OnOk result (new.flushed ≡ true)
    × (is_failed ≡ false → old.flushed ≡ true → new.flushed ≡ true)
    × (new.empty_write ≡ old.empty_write)

-- how many writes failed, where one that fails ends the call
abbrev pub failed_writes : Bool → ℕ
failed_writes is_failed = if is_failed then 1 else 0
