-- XML, as far as a picture needs it: elements with their attributes, nested and closed, and words between them.
use Rattle.std.specs.Prelude.{◌≡◌, ℕ, ◌||◌, ◌&&◌, ◌==◌, not, Bool, true, nat_le, nat_lt, List, [], ◌∷◌, ◌++◌, codes}
use Rattle.std.specs.List.{list_all}

abbrev pub is_mark : ℕ → Bool
is_mark byte = (byte == 34) || ((byte == 38) || ((byte == 60) || (byte == 62)))

-- the end of a line, or printable ASCII but no mark
abbrev pub is_bare : ℕ → Bool
is_bare byte = (byte == 10) || (not (nat_lt byte 32 || nat_lt 126 byte) && not (is_mark byte))

-- a letter, a digit, or `-`
abbrev pub is_of_name : ℕ → Bool
is_of_name byte = ((nat_le 97 byte && nat_le byte 122) || (nat_le 65 byte && nat_le byte 90)) || ((nat_le 48 byte && nat_le byte 57) || (byte == 45))

abbrev pub IsXmlName : List ℕ → Type 0
IsXmlName name = list_all is_of_name name ≡ true

-- names for the marks
pub data IsEntity : List ℕ → Type 0 where
  ampersand : IsEntity (codes "&amp;")
  less : IsEntity (codes "&lt;")
  greater : IsEntity (codes "&gt;")
  quote : IsEntity (codes "&quot;")

-- words between tags
pub data AreWords : List ℕ → Type 0 where
  no_words : AreWords []
  byte : (first : ℕ) (rest : List ℕ) → is_bare first ≡ true → AreWords rest → AreWords (first ∷ rest)
  entity : (first rest : List ℕ) → IsEntity first → AreWords rest → AreWords (first ++ rest)

pub data AreAttributes : List ℕ → Type 0 where
  no_attributes : AreAttributes []
  attribute : (name value rest : List ℕ) → IsXmlName name → list_all is_bare value ≡ true → AreAttributes rest
      → AreAttributes (32 ∷ name ++ (codes "=\"" ++ (value ++ (codes "\"" ++ rest))))

-- what is between the tags of an element
pub data IsContent : List ℕ → Type 0 where
  nothing : IsContent []
  words : (first rest : List ℕ) → AreWords first → IsContent rest → IsContent (first ++ rest)
  empty : (name attributes rest : List ℕ) → IsXmlName name → AreAttributes attributes → IsContent rest
      → IsContent (60 ∷ name ++ (attributes ++ (codes "/>" ++ rest)))
  element : (name attributes content rest : List ℕ) → IsXmlName name → AreAttributes attributes → IsContent content → IsContent rest
      → IsContent (60 ∷ name ++ (attributes ++ (codes ">" ++ (content ++ (codes "</" ++ (name ++ (codes ">" ++ rest)))))))

-- one element, and the end of its last line
pub record IsDocument (text : List ℕ) : Type 0 where
  pub name : List ℕ
  pub attributes : List ℕ
  pub content : List ℕ
  pub is_name : IsXmlName name
  pub are_attributes : AreAttributes attributes
  pub is_content : IsContent content
  pub text_is : text ≡ 60 ∷ name ++ (attributes ++ (codes ">" ++ (content ++ (codes "</" ++ (name ++ codes ">\n")))))
