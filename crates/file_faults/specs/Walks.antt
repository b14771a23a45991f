-- A file gone through part by part.
use Rattle.std.specs.Prelude.{ℕ, zero, suc, List, [], ◌∷◌, ◌++◌, Option, Some, None}

-- what is said of the part with which a text begins, whose first line has this number, by what is known from the parts before it; what is known
-- after it; the number of the line after it; what comes after it; what is said at the end; and that no more is explained
pub record Parts (Known : Type 0) : Type 0 where
  pub said : Known → ℕ → List ℕ → List ℕ
  pub known : Known → ℕ → List ℕ → Known
  pub next : ℕ → List ℕ → ℕ
  pub later : List ℕ → List ℕ
  pub ends : Known → List ℕ
  pub enough : List ℕ

-- parts of which each is explained by itself
abbrev pub alone : List ℕ → (ℕ → List ℕ → List ℕ) → (ℕ → List ℕ → ℕ) → (List ℕ → List ℕ) → Parts (Unit {0})
alone enough said next later = record { said = λ known. said; known = λ known number text. known; next = next; later = later; ends = λ known. []; enough = enough }

-- how many parts may still be explained after one more of which this is said; none ends the walk
abbrev pub left_after : ℕ → List ℕ → Option ℕ
left_after left [] = Some left
left_after zero (byte ∷ said) = None
left_after (suc left) (byte ∷ said) = Some left

abbrev pub said_if_left : List ℕ → ℕ → List ℕ → List ℕ
said_if_left enough left [] = []
said_if_left enough zero (byte ∷ said) = enough
said_if_left enough (suc left) (byte ∷ said) = byte ∷ said

abbrev pub go_on : (ℕ → List ℕ) → Option ℕ → List ℕ
go_on later None = []
go_on later (Some left) = later left

-- what is said of a text, of which there are at most this many parts and this many of them are explained
unfoldable pub said_from : {Known : Type 0} → Parts Known → ℕ → ℕ → Known → ℕ → List ℕ → List ℕ
said_from parts zero left known number text = parts.ends known
said_from parts (suc most) left known number [] = parts.ends known
said_from parts (suc most) left known number (byte ∷ bytes) =
    said_if_left parts.enough left (parts.said known number (byte ∷ bytes))
    ++ go_on (λ fewer. said_from parts most fewer (parts.known known number (byte ∷ bytes)) (parts.next number (byte ∷ bytes)) (parts.later (byte ∷ bytes)))
    (left_after left (parts.said known number (byte ∷ bytes)))
