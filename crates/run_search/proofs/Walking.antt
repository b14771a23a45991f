-- Runs are walked: each step of a node's processes is one of a run.
use Rattle.std.proofs.Common.{◌≡◌, ℕ, ◌+◌, ◌<◌, ◌≤◌, List, [], ◌∷◌, ◌++◌, length, get_or, set, Option, Some, refl, sym, ap, ◌∙◌, subst, arith, inl, inr}
use Rattle.std.specs.Option.{option_map}
use Rattle.std.proofs.lemmas.Bool.{cases_eq}
use Rattle.std.proofs.lemmas.List.{ext_get_or, get_or-set_other, get_or-set_same, set-get_or, set-set}
use Rattle.room_spec.specs.Rooms.{RoomSpec, processes}
use Rattle.transcript.specs.declared.event.Event.{Event}
use Rattle.transcript.specs.Runs.{process_of, IsEnabled, IsRun}
use Rattle.run_search.specs.declared.local_state.LocalState.{LocalState}
use Rattle.run_search.specs.Nodes.{GoesAlone, IsRunTo, IsWithinRounds, Moves}
use Rattle.run_search.specs.States.{blank, events_of, state_of}
use Rattle.run_search.specs.Steps.{event_due_in, lasts, moved_by, moved_in, state_after}
use Rattle.run_search.proofs.Chains.{goes_first, goes_more}
use Rattle.run_search.proofs.Closing.{first_within, moved_within}
use Rattle.run_search.proofs.Counting.{local_more}
use Rattle.run_search.proofs.Covering.{mapped_by}
use Rattle.run_search.proofs.Following.{process_within, run_induction, step_is}
use Rattle.run_search.proofs.Places.{get_or-state, length-state}
use Rattle.run_search.proofs.Realising.{goes_last, row_kept}
use Rattle.run_search.proofs.Stepping.{due_there, follows}

-- ---- rounds

abbrev AllWithin : RoomSpec → List LocalState → Type 0
AllWithin spec state = (p : ℕ) → p < processes spec → IsWithinRounds spec (get_or state p blank)

within_first : (spec : RoomSpec) → AllWithin spec (state_of spec [])
within_first spec p below = subst (IsWithinRounds spec) (sym (get_or-state spec [] p blank below)) (first_within spec p)

within_after : (spec : RoomSpec) (state next : List LocalState) (q : ℕ) → length state ≡ processes spec → q < processes spec → state_after spec state q ≡ Some next → AllWithin spec state → AllWithin spec next
within_after spec state next q long within is before p below =
    let moved = mapped_by (λ (local : LocalState). set state q local) (moved_in spec state q) next is in
    let new = moved.0 in
    subst (λ (s : List LocalState). IsWithinRounds spec (get_or s p blank)) moved.2 (elim (cases_eq p q) [
      | inl same ↦ subst (λ (r : ℕ). IsWithinRounds spec (get_or (set state q new) r blank)) (sym same)
          (subst (IsWithinRounds spec) (sym (get_or-set_same state q new blank (omega (arith, long, within)))) (moved_within spec (lasts state) q (get_or state q blank) new (before q within) moved.1))
      | inr other ↦ subst (IsWithinRounds spec) (sym (get_or-set_other state q p new blank other)) (before p below)
    ])

-- a process makes no more writes in a run than there are rounds
pub run_within : (spec : RoomSpec) (history : List Event) → IsRun spec history → (p : ℕ) → p < processes spec → IsWithinRounds spec (get_or (state_of spec history) p blank)
run_within spec history run = run_induction spec (λ events. AllWithin spec (state_of spec events)) (within_first spec) more history run
  where
    more : (before : List Event) (event : Event) → IsRun spec before → IsEnabled spec before event → AllWithin spec (state_of spec before) → AllWithin spec (state_of spec (before ++ event ∷ []))
    more before event run_before may so_far =
        within_after spec (state_of spec before) (state_of spec (before ++ event ∷ [])) (process_of event) (length-state spec before) (process_within spec before event may) (step_is spec before event run_before may) so_far

pub state_within : (spec : RoomSpec) (history : List Event) (state : List LocalState) (p : ℕ) → IsRunTo spec history state → p < processes spec → IsWithinRounds spec (get_or state p blank)
state_within spec history state p is below = subst (λ (s : List LocalState). IsWithinRounds spec (get_or s p blank)) (sym is.state_is) (run_within spec history is.run p below)

pub width_of : (spec : RoomSpec) (history : List Event) (state : List LocalState) → IsRunTo spec history state → length state ≡ processes spec
width_of spec history state is = ap length is.state_is ∙ length-state spec history

-- ---- one step

-- something is due if a step leads on
pub due_some : (spec : RoomSpec) (state : List LocalState) (p : ℕ) (new : LocalState) → Moves spec (lasts state) p (get_or state p blank) new → (event : Event) × (event_due_in state p ≡ Some event)
due_some spec state p new moves = due_there spec state (set state p new) p (ap (option_map (λ (one : LocalState). set state p one)) moves)

-- the run with that event
pub run_more : (spec : RoomSpec) (history : List Event) (state : List LocalState) (p : ℕ) (event : Event) (new : LocalState) → IsRunTo spec history state → p < processes spec
    → event_due_in state p ≡ Some event → Moves spec (lasts state) p (get_or state p blank) new → IsRunTo spec (history ++ event ∷ []) (set state p new)
run_more spec history state p event new is below due moves =
    let more = follows spec history state (set state p new) p event is.run is.state_is below due (ap (option_map (λ (one : LocalState). set state p one)) moves) in
    record { run = more.run; state_is = more.state_is }

-- ---- one process goes on

-- so far: the other processes are where they were, and the rest of the chain is left
pub record IsOnTheWay (spec : RoomSpec) (first : List LocalState) (p : ℕ) (to : LocalState) (events : List Event) (state : List LocalState) : Type 0 where
  pub run : IsRunTo spec events state
  pub left : (steps : ℕ) × GoesAlone spec (lasts first) p steps (get_or state p blank) to
  pub row : lasts state ≡ lasts first
  pub others : state ≡ set first p (get_or state p blank)

pub way_first : (spec : RoomSpec) (first : List LocalState) (p : ℕ) (to : LocalState) (events : List Event) → IsRunTo spec events first → (steps : ℕ) × GoesAlone spec (lasts first) p steps (get_or first p blank) to → IsOnTheWay spec first p to events first
way_first spec first p to events run goes = record { run = run; left = goes; row = refl; others = sym (set-get_or first p blank) }

-- the next step of the chain
pub way_step : (spec : RoomSpec) (first : List LocalState) (p : ℕ) (to : LocalState) (events : List Event) (state : List LocalState) → IsOnTheWay spec first p to events state → (get_or state p blank ≡ to → ⊥) → (new : LocalState) × Moves spec (lasts state) p (get_or state p blank) new
way_step spec first p to events state way other =
    let next = goes_first spec (lasts first) p way.left.0 (get_or state p blank) to way.left.1 other in
    (next.0, ap (λ (r : List (Option ℕ)). moved_by spec r p (get_or state p blank) (get_or state p blank).due) way.row ∙ next.1.moves)

pub way_more : (spec : RoomSpec) (first : List LocalState) (p : ℕ) (to : LocalState) (events more : List Event) (state new : List LocalState) → p < processes spec → IsOnTheWay spec first p to events state → (get_or state p blank ≡ to → ⊥)
    → IsRunTo spec more new → ((next : LocalState) → Moves spec (lasts state) p (get_or state p blank) next → new ≡ set state p next) → IsOnTheWay spec first p to more new × (events_of (get_or state p blank) < events_of (get_or new p blank)) × (events_of (get_or new p blank) ≤ events_of to)
way_more spec first p to events more state new below way other run new_is =
    let old = get_or state p blank in
    let next = goes_first spec (lasts first) p way.left.0 old to way.left.1 other in
    let moves : Moves spec (lasts state) p old next.0 = ap (λ (r : List (Option ℕ)). moved_by spec r p old old.due) way.row ∙ next.1.moves in
    let is = new_is next.0 moves in
    let long = width_of spec events state way.run in
    let inside : p < length state = omega (arith, long, below) in
    let here : get_or new p blank ≡ next.0 = ap (λ (s : List LocalState). get_or s p blank) is ∙ get_or-set_same state p next.0 blank inside in
    let one = local_more spec (lasts state) p old next.0 old.due moves in
    let least = goes_more spec (lasts first) p next.2 next.0 to next.4 in
    let less = ap events_of here in (
      record {
        run = run;
        left = (next.2, subst (λ (l : LocalState). GoesAlone spec (lasts first) p next.2 l to) (sym here) next.4);
        row = ap lasts is ∙ row_kept state p next.0 inside next.1.alone ∙ way.row;
        others = is ∙ ap (λ (s : List LocalState). set s p next.0) way.others ∙ set-set first p old next.0 ∙ ap (set first p) (sym here);
      },
      omega (arith, one, less),
      omega (arith, least, less),
    )

-- ---- each process goes on

-- the first `count` processes have gone on
pub record HasGone (spec : RoomSpec) (first to : List LocalState) (count : ℕ) (events : List Event) (state : List LocalState) : Type 0 where
  pub run : IsRunTo spec events state
  pub row : lasts state ≡ lasts first
  pub gone : (q : ℕ) → q < count → get_or state q blank ≡ get_or to q blank
  pub rest : (q : ℕ) → count ≤ q → get_or state q blank ≡ get_or first q blank

pub gone_first : (spec : RoomSpec) (first to : List LocalState) (events : List Event) → IsRunTo spec events first → HasGone spec first to 0 events first
gone_first spec first to events run = record { run = run; row = refl; gone = λ q below. absurd (omega (arith, below)); rest = λ q past. refl }

pub gone_step : (spec : RoomSpec) (first to : List LocalState) (p : ℕ) (events : List Event) (state : List LocalState) → HasGone spec first to p events state
    → (steps : ℕ) × GoesAlone spec (lasts first) p steps (get_or first p blank) (get_or to p blank) → (steps : ℕ) × GoesAlone spec (lasts state) p steps (get_or state p blank) (get_or to p blank)
gone_step spec first to p events state gone goes =
    (goes.0, subst (λ (r : List (Option ℕ)). GoesAlone spec r p goes.0 (get_or state p blank) (get_or to p blank)) (sym gone.row) (subst (λ (l : LocalState). GoesAlone spec (lasts first) p goes.0 l (get_or to p blank)) (sym (gone.rest p (omega arith))) goes.1))

pub gone_more : (spec : RoomSpec) (first to : List LocalState) (p : ℕ) (events more : List Event) (state new : List LocalState) → p < processes spec → HasGone spec first to p events state
    → (steps : ℕ) × GoesAlone spec (lasts first) p steps (get_or first p blank) (get_or to p blank) → IsRunTo spec more new → new ≡ set state p (get_or to p blank) → HasGone spec first to (p + 1) more new
gone_more spec first to p events more state new below gone goes run is =
    let one = get_or to p blank in
    let again = gone_step spec first to p events state gone goes in
    let long = width_of spec events state gone.run in
    let inside : p < length state = omega (arith, long, below) in
    record {
      run = run;
      row = ap lasts is ∙ row_kept state p one inside (goes_last spec (lasts state) p again.0 (get_or state p blank) one again.1) ∙ gone.row;
      gone = λ q less. ap (λ (s : List LocalState). get_or s q blank) is ∙ elim (cases_eq q p) [
        | inl same ↦ subst (λ (r : ℕ). get_or (set state p one) r blank ≡ get_or to r blank) (sym same) (get_or-set_same state p one blank inside)
        | inr other ↦ get_or-set_other state p q one blank other ∙ gone.gone q (omega (arith, less, other))
      ];
      rest = λ q past. ap (λ (s : List LocalState). get_or s q blank) is ∙ get_or-set_other state p q one blank (λ same. omega (arith, past, same)) ∙ gone.rest q (omega (arith, past));
    }

pub gone_all : (spec : RoomSpec) (first to : List LocalState) (count : ℕ) (events : List Event) (state : List LocalState) → HasGone spec first to count events state → count ≡ processes spec → length to ≡ processes spec → state ≡ to
gone_all spec first to count events state gone all long =
    let wide = width_of spec events state gone.run in
    ext_get_or blank state to (wide ∙ sym long) (λ q below. gone.gone q (omega (arith, below, wide, all)))
