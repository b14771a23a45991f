-- Nothing is said of a file of rooms exactly if none of its blocks is refused.
use Rattle.std.proofs.Common.{◌≡◌, ◌↔◌, ℕ, List, [], ◌∷◌, ◌++◌, length, refl, sym, ap, ◌∙◌, arith}
use Rattle.std.specs.List.{flat_map}
use Rattle.fault_text.specs.Refusals.{noted_refusal, noted_refusals, refusal_line}
use Rattle.fault_text.specs.declared.refusals.RefusedBlock.{RefusedBlock}
use Rattle.file_faults.specs.Files.{AreRefusalsSaid}

pub nothing_left : (xs ys : List ℕ) → xs ++ ys ≡ [] → (xs ≡ []) × (ys ≡ [])
nothing_left [] ys is = (refl, is)
nothing_left (x ∷ xs) ys is = absurd (omega (arith, ap length is))

none_noted : (input : List ℕ) (refusals : List RefusedBlock) → noted_refusals input refusals ≡ [] → refusals ≡ []
unfolding noted_refusal noted_refusals
none_noted input [] is = refl
none_noted input (refusal ∷ refusals) is = absurd (omega (arith, ap length is))

none_refused : (refusals : List RefusedBlock) → flat_map refusal_line refusals ≡ [] → refusals ≡ []
none_refused [] is = refl
none_refused (refusal ∷ refusals) is = absurd (omega (arith, ap length is))

noted_none : (input : List ℕ) (refusals : List RefusedBlock) → refusals ≡ [] → noted_refusals input refusals ≡ []
unfolding noted_refusals
noted_none input [] is = refl
noted_none input (refusal ∷ refusals) is = absurd (omega (arith, ap length is))

pub refused_said : (input refused said : List ℕ) → AreRefusalsSaid input refused said → (said ≡ []) ↔ (refused ≡ [])
refused_said input refused said are = (
  (λ none. are.1 ∙ ap (flat_map refusal_line) (none_noted input are.0 (sym are.2 ∙ none))),
  (λ none. are.2 ∙ noted_none input are.0 (none_refused are.0 (sym are.1 ∙ none))),
)
