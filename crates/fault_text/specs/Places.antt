-- A place of an input, with its line.
use Rattle.std.specs.Prelude.{ℕ, ◌+◌, ◌-◌, ◌/◌, ◌%◌, ◌==◌, ◌&&◌, Bool, true, false, List, [], ◌∷◌, ◌++◌, length, take, drop, nat_eq, nat_le, nat_lt, codes, decimal, if◌then◌else◌}
use Rattle.std.specs.List.{list_all, starts_with}
use Rattle.fault_text.specs.declared.places.TheConstants.{WIDE, KEPT}

-- ---- bytes that can be seen

abbrev pub hex_digit : ℕ → ℕ
hex_digit digit = if nat_lt digit 10 then 48 + digit else 97 + (digit - 10)

-- a tab is \t, a carriage return \r, and every other byte below 32 \x and two digits
abbrev pub seen_byte : ℕ → List ℕ
seen_byte byte =
    if byte == 9 then 92 ∷ 116 ∷ []
    else if byte == 13 then 92 ∷ 114 ∷ []
    else if nat_le byte 31 then 92 ∷ 120 ∷ hex_digit (byte / 16) ∷ hex_digit (byte % 16) ∷ []
    else byte ∷ []

abbrev pub is_blank : List ℕ → Bool
is_blank bytes = list_all (λ byte. byte == 32) bytes

-- a blank at a line's end is a dot in the middle of the line (U+00B7)
abbrev pub seen_here : Bool → ℕ → List ℕ
seen_here at_end byte = if at_end then 194 ∷ 183 ∷ [] else seen_byte byte

-- the bytes as they are shown, if a line ends with them or not
unfoldable pub seen : Bool → List ℕ → List ℕ
seen ends [] = []
seen ends (byte ∷ bytes) = seen_here (ends && is_blank (byte ∷ bytes)) byte ++ seen ends bytes

-- ---- a line round a place

-- what the line has before the place; of more than 60 bytes the last 58
abbrev pub front_shown : Bool → List ℕ → List ℕ
front_shown ends front = if nat_le (length front) WIDE then seen ends front else codes ".." ++ seen ends (drop (length front - KEPT) front)

-- and from the place on; of more than 60 bytes the first 58
abbrev pub back_shown : List ℕ → List ℕ
back_shown back = if nat_le (length back) WIDE then seen true back else seen false (take KEPT back) ++ codes ".."

-- it begins with a byte-order mark, U+FEFF
abbrev pub has_mark : List ℕ → Bool
has_mark back = starts_with nat_eq back (239 ∷ 187 ∷ 191 ∷ [])

-- the same with such a mark shown as \u{feff}
abbrev pub with_mark : List ℕ → List ℕ
with_mark back = if has_mark back then (92 ∷ codes "u{feff}") ++ back_shown (drop 3 back) else back_shown back

-- as many blanks as a text is wide: bytes from 128 to 191 belong to the character before them
unfoldable pub blanks_below : List ℕ → List ℕ
blanks_below [] = []
blanks_below (byte ∷ bytes) = (if nat_le 128 byte && nat_le byte 191 then [] else 32 ∷ []) ++ blanks_below bytes

-- ---- what is said of it

abbrev pub heading : ℕ → List ℕ → List ℕ
heading number sentence = codes "line" ++ ((32 ∷ decimal number) ++ (codes ": " ++ sentence))

-- the sentence after the line's number; the line; and a caret below the place
abbrev pub place_notes : ℕ → List ℕ → List ℕ → List ℕ → List (List ℕ)
place_notes number sentence front back =
    heading number sentence
    ∷ (front_shown (length back == 0) front ++ with_mark back)
    ∷ (blanks_below (front_shown (length back == 0) front) ++ codes "^")
    ∷ []
