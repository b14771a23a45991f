-- What holds of two inputs that were read.
use Rattle.std.proofs.Common.{◌≡◌, ◌∙◌, ℕ, List, Option, Some, None, subst}
use Rattle.std.specs.Prelude.{IfSome}

-- what was read is what was left to read, if that is known
pub of_both : (P : List ℕ → List ℕ → Type 0) (one two : Option (List ℕ)) (file next read read' : List ℕ) → IfSome one (λ bytes. read ≡ bytes) → IfSome two (λ bytes. read' ≡ bytes) → file ≡ read → next ≡ read'
    → P file next → IfSome one (λ first. IfSome two (λ second. P first second))
of_both P None two file next read read' whole whole' is is' holds = tt
of_both P (Some first) None file next read read' whole whole' is is' holds = tt
of_both P (Some first) (Some second) file next read read' whole whole' is is' holds = subst (λ (bytes : List ℕ). P bytes second) (is ∙ whole) (subst (P file) (is' ∙ whole') holds)
