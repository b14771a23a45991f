-- Words and symbols of a protocol's text that has no fault.
use Rattle.std.specs.Prelude.{ℕ, ◌==◌, ◌||◌, Bool, false, List, [], ◌∷◌, drop, nat_eq, if◌then◌else◌}
use Rattle.std.specs.List.{prefix_len, starts_with}

abbrev pub is_blank : ℕ → Bool
is_blank byte = byte == 32 || byte == 10

abbrev pub blanks_in : List ℕ → ℕ
blanks_in text = prefix_len is_blank text

abbrev pub after_blanks : List ℕ → List ℕ
after_blanks text = drop (blanks_in text) text

-- what comes after this byte, with which a text begins; nothing if it doesn't
abbrev pub after_byte : ℕ → List ℕ → List ℕ
after_byte byte [] = []
after_byte byte (first ∷ rest) = if first == byte then rest else []

-- a word is in a text: no word of the language is a part of another one that is looked for
unfoldable pub has_word : List ℕ → List ℕ → Bool
has_word word [] = false
has_word word (byte ∷ rest) = starts_with nat_eq (byte ∷ rest) word || has_word word rest
