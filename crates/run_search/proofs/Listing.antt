-- Lists of local states, one by one.
use Rattle.std.proofs.Common.{◌≡◌, ℕ, ◌+◌, ◌<◌, List, [], ◌∷◌, ◌++◌, length, get_or, sym, subst, arith, inl, inr}
use Rattle.std.proofs.lemmas.Bool.{cases_eq}
use Rattle.std.proofs.lemmas.List.{get_or_append_left, get_or_push}
use Rattle.run_search.specs.declared.local_state.LocalState.{LocalState}
use Rattle.run_search.specs.States.{blank}

-- what holds of each local state holds with one more
pub each_push : (P : ℕ → LocalState → Type 0) (state new : List LocalState) (local : LocalState) (count : ℕ) → new ≡ state ++ local ∷ [] → length state ≡ count → ((q : ℕ) → q < count → P q (get_or state q blank)) → P count local
    → (q : ℕ) → q < count + 1 → P q (get_or new q blank)
each_push P state new local count is long each last q below = subst (λ (l : List LocalState). P q (get_or l q blank)) (sym is) (elim (cases_eq q count) [
  | inl same ↦ subst (λ (r : ℕ). P r (get_or (state ++ local ∷ []) r blank)) (sym same) (subst (P count) (sym (get_or_push state local blank count long)) last)
  | inr other ↦
      let less : q < count = omega (arith, below, other) in
      subst (P q) (sym (get_or_append_left state (local ∷ []) blank q (omega (arith, less, long)))) (each q less)
])
