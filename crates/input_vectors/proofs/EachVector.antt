-- Texts of vectors, one by one.
use Rattle.std.proofs.Common.{◌≡◌, ◌∙◌, ℕ, ◌+◌, ◌≤◌, Bool, false, true, List, [], ◌∷◌, ◌++◌, Some, length, take, refl, sym, ap, subst, arith}
use Rattle.std.specs.Prelude.{slice_get}
use Rattle.std.specs.List.{concat}
use Rattle.std.proofs.lemmas.List.{append-nil, append_assoc, take_all, take_more}
use Rattle.std.proofs.lemmas.List.Folds.{concat-append}
use Rattle.std.proofs.lemmas.Option.{get_or_from_slice_get, slice_get_within}
use Rattle.input_vectors.specs.Judged.{AddsVectors, AreVectorTexts, one_if}

pub one_if_small : (one : Bool) → one_if one ≤ 1
one_if_small true = omega arith
one_if_small false = omega arith

module _ (IsText : List ℕ → Bool → List ℕ → Type 0) where
  texts_more : (all : List (List ℕ)) (kept : ℕ) (texts : List (List ℕ)) (inputs : List ℕ) (one : Bool) (text : List ℕ) → AreVectorTexts IsText all kept texts → IsText inputs one text
      → AreVectorTexts IsText (all ++ inputs ∷ []) (kept + one_if one) (texts ++ text ∷ [])
  texts_more [] kept [] inputs one text are is = (one, 0, is, refl, omega (arith, are))
  texts_more (other ∷ all) kept (first ∷ texts) inputs one text are is = (are.0, are.1 + one_if one, are.2, texts_more all are.1 texts inputs one text are.3 is, omega (arith, are.4))
  texts_more [] kept (first ∷ texts) inputs one text are is = absurd are
  texts_more (other ∷ all) kept [] inputs one text are is = absurd are

  pub no_vectors : (before : List ℕ) → AddsVectors IsText [] 0 before before
  no_vectors before = record { texts = []; each = refl; after_is = sym (append-nil before) }

  pub one_vector_more : (all : List (List ℕ)) (i : ℕ) (inputs : List ℕ) (kept sum : ℕ) (one : Bool) (before so_far after : List ℕ) → slice_get all i ≡ Some inputs → sum ≡ kept + one_if one
      → AddsVectors IsText (take i all) kept before so_far → (text : List ℕ) × IsText inputs one text × (after ≡ so_far ++ text) → AddsVectors IsText (take (i + 1) all) sum before after
  one_vector_more all i inputs kept sum one before so_far after at summed adds more =
      let text = more.0 in
      let within = slice_get_within all i inputs at in
      let took : take (i + 1) all ≡ take i all ++ inputs ∷ [] = take_more all i inputs within ∙ ap (λ (v : List ℕ). take i all ++ v ∷ []) (get_or_from_slice_get all i inputs inputs at) in
      let each : AreVectorTexts IsText (take i all ++ inputs ∷ []) sum (adds.texts ++ text ∷ []) =
      subst (λ (n : ℕ). AreVectorTexts IsText (take i all ++ inputs ∷ []) n (adds.texts ++ text ∷ [])) (sym summed) (texts_more (take i all) kept adds.texts inputs one text adds.each more.1) in
      record {
        texts = adds.texts ++ text ∷ [];
        each = subst (λ (vectors : List (List ℕ)). AreVectorTexts IsText vectors sum (adds.texts ++ text ∷ [])) (sym took) each;
        after_is =
            more.2 ∙ ap (λ (t : List ℕ). t ++ text) adds.after_is ∙ append_assoc before (concat adds.texts) text
            ∙ ap (λ (t : List ℕ). before ++ (concat adds.texts ++ t)) (sym (append-nil text))
            ∙ ap (λ (t : List ℕ). before ++ t) (sym (concat-append adds.texts (text ∷ [])));
      }

  pub all_judged : (all : List (List ℕ)) (i kept : ℕ) (before after : List ℕ) → length all ≤ i → AddsVectors IsText (take i all) kept before after → AddsVectors IsText all kept before after
  all_judged all i kept before after past adds = subst (λ (vectors : List (List ℕ)). AddsVectors IsText vectors kept before after) (take_all i all (omega (arith, past))) adds
