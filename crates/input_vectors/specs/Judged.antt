-- What is written of each of many vectors.
use Rattle.std.specs.Prelude.{◌≡◌, ℕ, ◌+◌, Bool, List, [], ◌∷◌, ◌++◌, if◌then◌else◌}
use Rattle.std.specs.List.{concat}

abbrev pub one_if : Bool → ℕ
one_if kept = if kept then 1 else 0

-- a text for each of these vectors, in order: one that may be written of it, and says whether it is kept; and how many are kept
abbrev pub AreVectorTexts : (List ℕ → Bool → List ℕ → Type 0) → List (List ℕ) → ℕ → List (List ℕ) → Type 0
AreVectorTexts IsText [] kept [] = kept ≡ 0
AreVectorTexts IsText (inputs ∷ all) kept (text ∷ texts) = (one : Bool) × (others : ℕ) × IsText inputs one text × AreVectorTexts IsText all others texts × (kept ≡ one_if one + others)
AreVectorTexts IsText [] kept (text ∷ texts) = ⊥
AreVectorTexts IsText (inputs ∷ all) kept [] = ⊥

-- the texts of these vectors were added
pub record AddsVectors (IsText : List ℕ → Bool → List ℕ → Type 0) (all : List (List ℕ)) (kept : ℕ) (before after : List ℕ) : Type 0 where
  pub texts : List (List ℕ)
  pub each : AreVectorTexts IsText all kept texts
  pub after_is : after ≡ before ++ concat texts
