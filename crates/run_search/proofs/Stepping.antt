-- Steps from the states of runs.
use Rattle.std.proofs.Common.{◌≡◌, ℕ, ◌<◌, List, [], ◌∷◌, ◌++◌, get_or, set, Option, Some, None, refl, sym, ap, ◌∙◌}
use Rattle.std.specs.Option.{option_map}
use Rattle.std.proofs.lemmas.Option.{same_Some}
use Rattle.room_spec.specs.Rooms.{RoomSpec, processes}
use Rattle.transcript.specs.declared.event.Event.{Event}
use Rattle.transcript.specs.declared.event.Event.TheVariants as events
use Rattle.transcript.specs.Runs.{IsRun}
use Rattle.transcript.proofs.CallerLemmas.{IsRun-push}
use Rattle.run_search.specs.declared.local_state.Due.{Due}
use Rattle.run_search.specs.declared.local_state.Due.TheVariants.{Write, Snap, Decide, Decided, Spent}
use Rattle.run_search.specs.declared.local_state.LocalState.{LocalState}
use Rattle.run_search.specs.States.{blank, state_of}
use Rattle.run_search.specs.Steps.{done_by, event_due_in, lasts, moved_by, moved_in, state_after}
use Rattle.run_search.proofs.Following.{may_follow, step_is}

-- ---- a step from the state of a run

moves_due : (spec : RoomSpec) (row : List (Option ℕ)) (p : ℕ) (local new : LocalState) (due : Due) → moved_by spec row p local due ≡ Some new → (event : Event) × (done_by row p due ≡ Some event)
moves_due spec row p local new (Write v) h = (events.Write p v, refl)
moves_due spec row p local new Snap h = (events.Snap p (record { items = row }), refl)
moves_due spec row p local new (Decide v) h = (events.Decide p v, refl)
moves_due spec row p local new (Decided v) h = absurd cc
moves_due spec row p local new Spent h = absurd cc

mapped : (f : LocalState → List LocalState) (moved : Option LocalState) (next : List LocalState) → option_map f moved ≡ Some next → (new : LocalState) × (moved ≡ Some new)
mapped f None next h = absurd cc
mapped f (Some new) next h = (new, refl)

-- a step from a state is taken by an event
pub due_there : (spec : RoomSpec) (state next : List LocalState) (p : ℕ) → state_after spec state p ≡ Some next → (event : Event) × (event_due_in state p ≡ Some event)
due_there spec state next p is =
    let new = mapped (λ (local : LocalState). set state p local) (moved_in spec state p) next is in
    moves_due spec (lasts state) p (get_or state p blank) new.0 (get_or state p blank).due new.1

-- the run after it
pub record Follows (spec : RoomSpec) (history : List Event) (event : Event) (next : List LocalState) : Type 0 where
  pub run : IsRun spec (history ++ event ∷ [])
  pub state_is : next ≡ state_of spec (history ++ event ∷ [])

pub follows : (spec : RoomSpec) (history : List Event) (state next : List LocalState) (p : ℕ) (event : Event) → IsRun spec history → state ≡ state_of spec history → p < processes spec
    → event_due_in state p ≡ Some event → state_after spec state p ≡ Some next → Follows spec history event next
follows spec history state next p event run state_is below due is =
    let may = may_follow spec history p event below (ap (λ (s : List LocalState). event_due_in s p) (sym state_is) ∙ due) in
    let to = step_is spec history event run may.0 in
    record {
      run = IsRun-push spec history event run may.0;
      state_is = same_Some next (state_of spec (history ++ event ∷ [])) (sym is ∙ ap (λ (s : List LocalState). state_after spec s p) state_is ∙ ap (state_after spec (state_of spec history)) (sym may.1) ∙ to);
    }
