-- Which states are the same to a task.
use Rattle.std.proofs.Common.{◌≡◌, ℕ, List, [], ◌∷◌, ◌++◌, Option, Some, None, refl, sym, ap, ◌∙◌, subst, inl, inr, ◌⊎◌}
use Rattle.std.specs.List.{Contains, cons_option}
use Rattle.std.proofs.lemmas.List.{append-nil}
use Rattle.std.proofs.lemmas.List.Elements.{Contains-append_left, Contains-push, Contains-push_cases, filter_map-append}
use Rattle.std.proofs.lemmas.Option.{none-some, same_Some}
use Rattle.room_spec.specs.Rooms.{RoomSpec}
use Rattle.transcript.proofs.CallerLemmas.{contains_in, in_contains}
use Rattle.run_search.specs.declared.ended.Ended.{Ended}
use Rattle.run_search.specs.declared.ended.Ended.TheVariants as ends
use Rattle.run_search.specs.declared.local_state.Due.{Due}
use Rattle.run_search.specs.declared.local_state.Due.TheVariants.{Write, Snap, Decide, Decided, Spent}
use Rattle.run_search.specs.declared.local_state.LocalState.{LocalState}
use Rattle.run_search.specs.Outcomes.{ended}
use Rattle.run_search.specs.Picks.{Breaks, IsSame}
use Rattle.run_search.specs.Tasks.{AreFewInputs, decided_value, decided_values}
use Rattle.run_search.proofs.Deciding.{same_values}

-- ---- what is decided

-- the value of a process that ends so
abbrev value_of : Ended → Option ℕ
value_of (ends.Decided v) = Some v
value_of ends.Spent = None
value_of ends.Stopped = None

value_is : (due : Due) → decided_value due ≡ value_of (ended due)
value_is (Write v) = refl
value_is Snap = refl
value_is (Decide v) = refl
value_is (Decided v) = refl
value_is Spent = refl

same_value : (one other : LocalState) → ended one.due ≡ ended other.due → decided_value one.due ≡ decided_value other.due
same_value one other same = value_is one.due ∙ ap value_of same ∙ sym (value_is other.due)

pub values_push : (state : List LocalState) (local : LocalState) → decided_values (state ++ local ∷ []) ≡ decided_values state ++ cons_option (decided_value local.due) []
values_push state local = filter_map-append (λ (one : LocalState). decided_value one.due) state (local ∷ [])

push_cases : (values : List ℕ) (last : Option ℕ) (v : ℕ) → Contains (values ++ cons_option last []) v → Contains values v ⊎ (last ≡ Some v)
push_cases values None v there = inl (subst (λ (l : List ℕ). Contains l v) (append-nil values) there)
push_cases values (Some w) v there = elim (Contains-push_cases values w v there) [ inl before ↦ inl before | inr same ↦ inr (ap Some same) ]

push_there : (values : List ℕ) (last : Option ℕ) (v : ℕ) → Contains values v ⊎ (last ≡ Some v) → Contains (values ++ cons_option last []) v
push_there values None v (inl before) = subst (λ (l : List ℕ). Contains l v) (sym (append-nil values)) before
push_there values None v (inr none) = absurd (none-some v none)
push_there values (Some w) v (inl before) = Contains-append_left values (w ∷ []) v before
push_there values (Some w) v (inr same) = subst (Contains (values ++ w ∷ [])) (same_Some w v same) (Contains-push values w)

-- what is decided with one process more
decided_push : (one other : List LocalState) (option last : LocalState) → ((v : ℕ) → Contains (decided_values one) v → Contains (decided_values other) v) → ended option.due ≡ ended last.due
    → (v : ℕ) → Contains (decided_values (one ++ option ∷ [])) v → Contains (decided_values (other ++ last ∷ [])) v
decided_push one other option last within same v there =
    subst (λ (l : List ℕ). Contains l v) (sym (values_push other last)) (push_there (decided_values other) (decided_value last.due) v
    (elim (push_cases (decided_values one) (decided_value option.due) v (subst (λ (l : List ℕ). Contains l v) (values_push one option) there)) [
      | inl before ↦ inl (within v before)
      | inr is ↦ inr (sym (same_value option last same) ∙ is)
    ]))

decided_kept : (state : List LocalState) (local : LocalState) (v : ℕ) → Contains (decided_values state) v → Contains (decided_values (state ++ local ∷ [])) v
decided_kept state local v there = subst (λ (l : List ℕ). Contains l v) (sym (values_push state local)) (push_there (decided_values state) (decided_value local.due) v (inl there))

-- ---- tasks

-- with more values decided a broken task stays broken
pub breaks_within : (spec : RoomSpec) (most : ℕ) (one other : List LocalState) → ((v : ℕ) → Contains (decided_values one) v → Contains (decided_values other) v) → Breaks spec most one → Breaks spec most other
breaks_within spec most one other within breaks are =
    breaks (same_values spec most (decided_values other) (decided_values one) (λ v at. contains_in v (decided_values other) (within v (in_contains v (decided_values one) at))) are)

breaks_push : (spec : RoomSpec) (most : ℕ) (state : List LocalState) (local : LocalState) → Breaks spec most state → Breaks spec most (state ++ local ∷ [])
breaks_push spec most state local breaks = breaks_within spec most state (state ++ local ∷ []) (decided_kept state local) breaks

-- what has the same answer as a state that breaks the task breaks it, and as one that keeps it keeps it
pub same_breaks : (spec : RoomSpec) (most : ℕ) (one other : List LocalState) → IsSame spec most one other → Breaks spec most other → Breaks spec most one
same_breaks spec most one other (inl both) breaks = both.0
same_breaks spec most one other (inr same) breaks = breaks_within spec most other one (λ v there. (same v).1 there) breaks

pub same_keeps : (spec : RoomSpec) (most : ℕ) (one other : List LocalState) → IsSame spec most one other → AreFewInputs spec most (decided_values one) → AreFewInputs spec most (decided_values other)
same_keeps spec most one other (inl both) are = absurd (both.0 are)
same_keeps spec most one other (inr same) are = same_values spec most (decided_values one) (decided_values other) (λ v at. contains_in v (decided_values one) ((same v).1 (in_contains v (decided_values other) at))) are

-- ---- the same to a task

pub same_own : (spec : RoomSpec) (most : ℕ) (state : List LocalState) → IsSame spec most state state
same_own spec most state = inr (λ v. (λ there. there, λ there. there))

pub same_sym : (spec : RoomSpec) (most : ℕ) (one other : List LocalState) → IsSame spec most one other → IsSame spec most other one
same_sym spec most one other (inl both) = inl (both.1, both.0)
same_sym spec most one other (inr same) = inr (λ v. ((same v).1, (same v).0))

pub same_on : (spec : RoomSpec) (most : ℕ) (one other last : List LocalState) → IsSame spec most one other → IsSame spec most other last → IsSame spec most one last
same_on spec most one other last (inl both) (inl next) = inl (both.0, next.1)
same_on spec most one other last (inl both) (inr same) = inl (both.0, breaks_within spec most other last (λ v there. (same v).0 there) both.1)
same_on spec most one other last (inr same) (inl next) = inl (breaks_within spec most other one (λ v there. (same v).1 there) next.0, next.1)
same_on spec most one other last (inr same) (inr next) = inr (λ v. (λ there. (next v).0 ((same v).0 there), λ there. (same v).1 ((next v).1 there)))

-- with one process more
pub same_more : (spec : RoomSpec) (most : ℕ) (one other : List LocalState) (option last : LocalState) → IsSame spec most one other → ended option.due ≡ ended last.due → IsSame spec most (one ++ option ∷ []) (other ++ last ∷ [])
same_more spec most one other option last (inl both) end = inl (breaks_push spec most one option both.0, breaks_push spec most other last both.1)
same_more spec most one other option last (inr same) end =
    inr (λ v. (decided_push one other option last (λ w there. (same w).0 there) end v, decided_push other one last option (λ w there. (same w).1 there) (sym end) v))
