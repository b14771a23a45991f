-- The lines of a task, and each as a text of the language.
use Rattle.std.specs.Prelude.{ℕ, Bool, not, ◌+◌, ◌-◌, ◌==◌, List, [], ◌∷◌, ◌++◌, length, Option, Some, None, min, codes, if◌then◌else◌}
use Rattle.std.specs.Str.{bytes_eq}
use Rattle.std.specs.List.{filter, list_any, slice_split}
use Rattle.protocol_lang.specs.Tokens.{is_blank, is_letter}

-- ---- lines

abbrev pub has_words : List ℕ → Bool
has_words line = list_any (λ byte. not (is_blank byte)) line

-- what is between the semicolons of a text, unless it is blank
abbrev pub lines_in : List ℕ → List (List ℕ)
lines_in text = filter has_words (slice_split (λ byte. byte == 59) text)

-- ---- a line in the language

-- A decision has no round, so that `given` in a line is what `round` is in a protocol, and `round` is no word of it.
abbrev pub renamed : List ℕ → List ℕ
renamed word = if bytes_eq word (codes "given") then codes "round" else if bytes_eq word (codes "round") then codes "given" else word

-- a line whose first letters, which were read before, are the beginning of a word
abbrev pub renamed_after : List ℕ → List ℕ → List ℕ
renamed_after word [] = renamed word
renamed_after word (byte ∷ bytes) = if is_letter byte then renamed_after (word ++ byte ∷ []) bytes else renamed word ++ (byte ∷ renamed_after [] bytes)

-- ---- a line as a protocol

abbrev pub head : List ℕ
head = codes "first input;\nwhen "

-- the protocol that decides 1 where the line holds, and 0 where it doesn't
abbrev pub protocol_text : List ℕ → List ℕ
protocol_text line = head ++ (renamed_after [] line ++ codes " decide 1;\nelse decide 0;\n")

-- where in the line a fault of its protocol is, counted from 1: after its end, if what comes after it is at fault
abbrev pub place_in : List ℕ → Option ℕ → ℕ
place_in line None = 1
place_in line (Some place) = min (place - length head) (length line) + 1
