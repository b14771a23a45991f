-- Forms of lines, and where a line leaves its form.
use Rattle.std.specs.Prelude.{ℕ, zero, suc, ◌+◌, ◌-◌, ◌==◌, ◌^◌, ◌&&◌, Bool, true, false, List, [], ◌∷◌, take, drop, min, nat_le, nat_lt, Option, Some, None, if◌then◌else◌}
use Rattle.std.specs.List.{prefix_len}
use Rattle.std.specs.Option.{option_map}
use Rattle.protocol_lang.specs.Numbers.{is_digit, number_of}
use Rattle.room_spec.specs.Names.{is_name_byte}
use Rattle.fault_text.specs.declared.forms.Step.{Step}
use Rattle.protocol_lang.specs.declared.meaning.TheConstants.{MAX_PROCESSES}
use Rattle.room_spec.specs.declared.name.TheConstants.{MAX_NAME}
use Rattle.room_spec.specs.declared.spec.TheConstants.{MAX_AGREED, MAX_ROUNDS, MAX_SIMULATORS, MAX_TURNS}
use Rattle.fault_text.specs.declared.forms.TheConstants.{MORE_OWN_VALUES, MORE_VALUES}

-- ---- numbers

abbrev pub digits_of : List ℕ → ℕ
digits_of line = prefix_len is_digit line

abbrev pub is_within : ℕ → ℕ → Option ℕ → Bool
is_within least most None = false
is_within least most (Some number) = nat_le least number && nat_le number most

-- the field is a number from `least` to `most`; above 2 ^ 32 it makes no difference by how much
abbrev pub reaches : ℕ → ℕ → List ℕ → Bool
reaches least most field = is_within least most (option_map (λ n. min n (2 ^ 32)) (number_of field))

-- the numbers that a byte of a form stands for
abbrev pub range_of : ℕ → Option (ℕ × ℕ)
range_of byte =
    if byte == 66 then Some (1, 2)  -- B, a version
    else if byte == 77 then Some (1, MAX_SIMULATORS)  -- M simulators
    else if byte == 83 then Some (1, MAX_ROUNDS)  -- S rounds
    else if byte == 84 then Some (1, MAX_TURNS)  -- T turns
    else if byte == 75 then Some (1, MAX_AGREED)  -- K values that are agreed on
    else if byte == 81 then Some (1, MAX_PROCESSES)  -- Q processes
    else if byte == 74 then Some (0, MAX_SIMULATORS - 1)  -- J, a simulator of a block
    else if byte == 73 then Some (0, 255)  -- I, a simulator of a command
    else if byte == 67 then Some (1, 65535)  -- C steps
    else if byte == 80 then Some (0, MAX_PROCESSES - 1)  -- P, a process
    else if byte == 86 then Some (0, 4294967295)  -- V, a value
    else None

-- ---- what a byte of a form takes of a line

abbrev pub no_step : Step
no_step = record { len = 0; fits = false }

abbrev pub number_step : ℕ → ℕ → List ℕ → Step
number_step least most line = if reaches least most (take (digits_of line) line) then record { len = digits_of line; fits = true } else no_step

abbrev pub literal_step : ℕ → List ℕ → Step
literal_step byte [] = no_step
literal_step byte (first ∷ rest) = if first == byte then record { len = 1; fits = true } else no_step

abbrev pub ranged : ℕ → List ℕ → Option (ℕ × ℕ) → Step
ranged byte line None = literal_step byte line
ranged byte line (Some range) = number_step range.0 range.1 line

abbrev pub ranged_step : ℕ → List ℕ → Step
ranged_step byte line = ranged byte line (range_of byte)

abbrev pub name_len : List ℕ → ℕ
name_len line = prefix_len is_name_byte line

abbrev pub name_step : List ℕ → Step
name_step line = record { len = min (name_len line) MAX_NAME; fits = nat_lt 0 (name_len line) && nat_le (name_len line) MAX_NAME }

abbrev pub value_step : List ℕ → Step
value_step line = number_step 0 4294967295 line

abbrev pub entry_step : List ℕ → Step
entry_step [] = value_step []
entry_step (first ∷ rest) = if first == 46 then record { len = 1; fits = true } else value_step (first ∷ rest)

abbrev pub item_step : Bool → List ℕ → Step
item_step entries line = if entries then entry_step line else value_step line

-- values, or entries, each after a blank
unfoldable pub more_step : ℕ → Bool → ℕ → List ℕ → Step
more_step most entries at [] = record { len = at; fits = true }
more_step zero entries at (first ∷ item) = record { len = at; fits = true }
more_step (suc most) entries at (first ∷ item) =
    if first == 32 then (if (item_step entries item).fits then more_step most entries (at + 1 + (item_step entries item).len) (drop (item_step entries item).len item) else record { len = at + 1 + (item_step entries item).len; fits = false })
    else record { len = at; fits = true }

-- N is a name, E an entry of a snapshot, W and F are up to 15 more values or entries, O up to 7 more values
abbrev pub step_of : ℕ → List ℕ → Step
step_of byte line =
    if byte == 78 then name_step line
    else if byte == 69 then entry_step line
    else if byte == 87 then more_step MORE_VALUES false 0 line
    else if byte == 79 then more_step MORE_OWN_VALUES false 0 line
    else if byte == 70 then more_step MORE_VALUES true 0 line
    else ranged_step byte line

-- ---- where a line leaves a form

abbrev pub go_on : (ℕ → List ℕ → ℕ × List ℕ) → ℕ → List ℕ → List ℕ → Step → ℕ × List ℕ
go_on later at form line step = if step.fits then later (at + step.len) (drop step.len line) else (at + step.len, form)

-- the place, which is this one or after it, and what is left of the form there: nothing if the line should end
unfoldable pub misfit_from : ℕ → List ℕ → List ℕ → ℕ × List ℕ
misfit_from at [] line = (at, [])
misfit_from at (byte ∷ form) line = go_on (λ next rest. misfit_from next form rest) at (byte ∷ form) line (step_of byte line)
