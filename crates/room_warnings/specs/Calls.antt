-- Calls that ask for a process that the room doesn't have.
use Rattle.std.specs.Prelude.{ℕ, ◌^◌, ◌&&◌, ◌||◌, Bool, false, List, drop, take, min, nat_eq, nat_le, Option, Some, None, codes}
use Rattle.std.specs.List.{prefix_len, starts_with}
use Rattle.std.specs.Option.{option_map}
use Rattle.protocol_lang.specs.Numbers.{is_digit, number_of}
use Rattle.room_warnings.specs.Words.{after_byte, after_blanks}

abbrev pub is_call : List ℕ → Bool
is_call text = starts_with nat_eq text (codes "cell") || starts_with nat_eq text (codes "seen")

-- what comes after the parenthesis after the word with which a text begins
abbrev pub argument : List ℕ → List ℕ
argument text = after_blanks (after_byte 40 (after_blanks (drop 4 text)))

abbrev pub digits_in : List ℕ → ℕ
digits_in text = prefix_len is_digit text

abbrev pub is_no_process : ℕ → Option ℕ → Bool
is_no_process n None = false
is_no_process n (Some number) = nat_le n number

-- above 2 ^ 32 it makes no difference by how much
abbrev pub is_beyond : ℕ → List ℕ → Bool
is_beyond n digits = is_no_process n (option_map (λ number. min number (2 ^ 32)) (number_of digits))

abbrev pub is_closed : List ℕ → Bool
is_closed text = starts_with nat_eq (after_blanks text) (codes ")")

-- the text begins with `cell(K)` or `seen(K)`, and K is the number of no process of a room of n
abbrev pub calls_none : ℕ → List ℕ → Bool
calls_none n text =
    is_call text && (is_beyond n (take (digits_in (argument text)) (argument text)) && is_closed (drop (digits_in (argument text)) (argument text)))
