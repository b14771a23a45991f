-- What may help at a place of a line.
use Rattle.std.specs.Prelude.{ℕ, ◌==◌, ◌&&◌, ◌||◌, Bool, false, not, List, [], ◌∷◌, ◌++◌, length, take, map, nat_eq, nat_le, nat_lt, codes, if◌then◌else◌}
use Rattle.std.specs.List.{ends_with, prefix_len, starts_with}
use Rattle.std.specs.Str.{bytes_eq, str_eq_ignore_ascii_case}
use Rattle.room_spec.specs.Texts.{first_line, later_lines}
use Rattle.fault_text.specs.Lines.{indented, word_len}
use Rattle.fault_text.specs.Places.{is_blank}
use Rattle.fault_text.specs.declared.hints.TheConstants.{AROUND_TOKEN, AT_PLACE, AT_START, AT_TOKEN, LINE_WORDS, OTHER_WORDS, WORDS}

-- ---- tables

-- a line that may help, unless it is empty
abbrev pub hint : List ℕ → List ℕ
hint [] = []
hint (byte ∷ words) = indented (byte ∷ words)

-- what helps with a text, by the first entry with whose first line it begins; the entry's second line is the help
unfoldable pub advice : List (List ℕ) → List ℕ → List ℕ
advice [] text = []
advice (entry ∷ others) text = if starts_with nat_eq text (first_line entry) then later_lines entry else advice others text

-- the same for a word, by the first entry whose first line it is
unfoldable pub meaning : List (List ℕ) → List ℕ → List ℕ
meaning [] word = []
meaning (entry ∷ others) word = if bytes_eq word (first_line entry) then later_lines entry else meaning others word

-- ---- words that are near others

-- the same but for their first two bytes, which have changed places
abbrev pub is_swapped : List ℕ → List ℕ → Bool
is_swapped [] known = false
is_swapped (x ∷ []) known = false
is_swapped (x ∷ x2 ∷ xs) [] = false
is_swapped (x ∷ x2 ∷ xs) (y ∷ []) = false
is_swapped (x ∷ x2 ∷ xs) (y ∷ y2 ∷ ys) = (x == y2) && ((x2 == y) && bytes_eq xs ys)

-- their first bytes differ: this is the only difference, or one has a byte more there, or two bytes have changed places
abbrev pub differs_once : ℕ → List ℕ → ℕ → List ℕ → Bool
differs_once x xs y ys = bytes_eq xs ys || (bytes_eq xs (y ∷ ys) || (bytes_eq (x ∷ xs) ys || is_swapped (x ∷ xs) (y ∷ ys)))

unfoldable pub is_one_edit : List ℕ → List ℕ → Bool
is_one_edit [] known = length known == 1
is_one_edit (x ∷ xs) [] = length xs == 0
is_one_edit (x ∷ xs) (y ∷ ys) = if x == y then is_one_edit xs ys else differs_once x xs y ys

-- one edit away from a known word, or that word in other letters, small or capital
abbrev pub is_near : List ℕ → List ℕ → Bool
is_near word known = is_one_edit word known || (str_eq_ignore_ascii_case word known && not (bytes_eq word known))

-- the first of these words that is near this one
unfoldable pub nearest : List ℕ → List (List ℕ) → List ℕ
nearest word [] = []
nearest word (entry ∷ others) = if is_near word entry then entry else nearest word others

abbrev pub near_word : List ℕ → List ℕ
near_word known = indented (codes "did you mean `" ++ (known ++ codes "`?"))

abbrev pub near_words : List ℕ → List ℕ
near_words [] = []
near_words (byte ∷ known) = near_word (byte ∷ known)

abbrev pub near_hint : List ℕ → List (List ℕ) → List ℕ
near_hint word known = if nat_lt (length word) 2 then [] else near_words (nearest word known)

-- ---- lines

abbrev pub blank_advice : List ℕ → List ℕ
blank_advice line = if is_blank line then codes "blank lines may be only in a protocol's text" else []

-- of a space before which a line should have ended, or before which there is another one
abbrev pub space_advice : List ℕ → List ℕ → List ℕ
space_advice front back =
    if not (starts_with nat_eq back (codes " ")) then []
    else if is_blank back then codes "no line ends with a space"
    else if ends_with nat_eq front (codes " ") then codes "here is a second space: one space parts two words"
    else []

abbrev pub first_word : List ℕ → List ℕ
first_word line = take (word_len line) line

-- of blanks and words
unfoldable pub shape_hints : List ℕ → List ℕ → List ℕ → List ℕ
shape_hints line front back =
    hint (space_advice front back) ++ (hint (blank_advice line) ++ near_hint (first_word line) (map (λ entry. entry.now) LINE_WORDS))

-- of a line that has these bytes before the place of its fault and these from there on
abbrev pub line_hints : List ℕ → List ℕ → List ℕ → List ℕ
line_hints line front back =
    hint (advice (map (λ entry. entry.now) AT_PLACE) back)
    ++ (hint (advice (map (λ entry. entry.now) AT_START) line) ++ shape_hints line front back)

-- ---- protocols

abbrev pub is_letter : ℕ → Bool
is_letter byte = nat_le 97 byte && nat_le byte 122 || nat_le 65 byte && nat_le byte 90 || byte == 95

abbrev pub letters_of : List ℕ → ℕ
letters_of text = prefix_len is_letter text

abbrev pub no_word : List ℕ → List ℕ
no_word word = codes "the language has no word `" ++ (word ++ codes "`")

abbrev pub near_to : List ℕ → List ℕ
near_to word = indented (no_word word) ++ near_hint word (map (λ entry. entry.now) WORDS)

-- what the language has for a word of another, or else that it doesn't have the word, and the word that is near it
abbrev pub meaning_or_near : List ℕ → List ℕ → List ℕ
meaning_or_near word [] = near_to word
meaning_or_near word (byte ∷ words) = hint (byte ∷ words)

abbrev pub word_hints : List ℕ → List ℕ
word_hints word = meaning_or_near word (meaning (map (λ entry. entry.now) OTHER_WORDS) word)

abbrev pub word_hints_if : List ℕ → List ℕ
word_hints_if [] = []
word_hints_if (byte ∷ word) = word_hints (byte ∷ word)

-- the first, unless it is empty
abbrev pub or_else : List ℕ → List ℕ → List ℕ
or_else [] other = other
or_else (byte ∷ words) other = byte ∷ words

-- of a protocol's text that has these bytes from one before the place of its fault on, and these from there on
abbrev pub token_hints : List ℕ → List ℕ → List ℕ
token_hints around back = hint (or_else (advice (map (λ entry. entry.now) AROUND_TOKEN) around) (advice (map (λ entry. entry.now) AT_TOKEN) back))

-- of one that has a word there, if it has, which the language doesn't have
abbrev pub unknown_hints : List ℕ → List ℕ
unknown_hints back = word_hints_if (take (letters_of back) back)
