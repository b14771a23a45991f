-- How many events led to a state.
use Rattle.std.proofs.Common.{◌≡◌, ℕ, ◌+◌, ◌*◌, ◌<◌, Bool, true, false, List, [], ◌∷◌, ◌++◌, length, get_or, set, Option, Some, None, refl, sym, ap, ◌∙◌, arith, ltb}
use Rattle.std.specs.Option.{option_map}
use Rattle.std.proofs.lemmas.List.Sums.{sum_by-set}
use Rattle.std.proofs.lemmas.List.{length_push}
use Rattle.std.proofs.lemmas.Option.{none-some, same_Some}
use Rattle.protocol_lang.specs.Meaning.{next_action}
use Rattle.protocol_lang.specs.declared.meaning.Action.{Action}
use Rattle.protocol_lang.specs.declared.meaning.Action.TheVariants as actions
use Rattle.room_spec.specs.Rooms.{RoomSpec}
use Rattle.transcript.specs.declared.event.Event.{Event}
use Rattle.transcript.specs.Runs.{process_of, IsEnabled, IsRun}
use Rattle.run_search.specs.declared.local_state.Due.{Due}
use Rattle.run_search.specs.declared.local_state.Due.TheVariants.{Write, Snap, Decide, Decided, Spent}
use Rattle.run_search.specs.declared.local_state.LocalState.{LocalState}
use Rattle.run_search.specs.States.{blank, by_due, due_for, events_in, events_of, state_of}
use Rattle.run_search.specs.Steps.{lasts, moved_by, moved_in, state_after}
use Rattle.run_search.proofs.Following.{process_within, run_induction, step_is}
use Rattle.run_search.proofs.Places.{length-state}

next_due : (left : Bool) (action : Action) (writes : ℕ) → by_due (due_for left action) writes ≡ 2 * writes + 1
next_due true (actions.Write v) writes = refl
next_due false (actions.Write v) writes = refl
next_due true (actions.Decide v) writes = refl
next_due false (actions.Decide v) writes = refl

pub local_more : (spec : RoomSpec) (row : List (Option ℕ)) (p : ℕ) (local new : LocalState) (due : Due) → moved_by spec row p local due ≡ Some new → events_of new ≡ by_due due local.writes + 1
local_more spec row p local new (Write v) is =
    let same = same_Some (let after : LocalState = record { due = Snap; last = Some v; writes = local.writes + 1 } in after) new is in
    let here : events_of new ≡ 2 * (local.writes + 1) = ap events_of (sym same) in
    omega (arith, here)
local_more spec row p local new Snap is =
    let left = ltb local.writes spec.rounds in
    let action = next_action spec.protocol (get_or spec.inputs p 0) p local.writes row in
    let same = same_Some (let after : LocalState = record { due = due_for left action; last = local.last; writes = local.writes } in after) new is in
    ap events_of (sym same) ∙ next_due left action local.writes
local_more spec row p local new (Decide v) is =
    let same = same_Some (let after : LocalState = record { due = Decided v; last = local.last; writes = local.writes } in after) new is in
    let here : events_of new ≡ 2 * local.writes + 2 = ap events_of (sym same) in
    omega (arith, here)
local_more spec row p local new (Decided v) is = absurd (none-some new is)
local_more spec row p local new Spent is = absurd (none-some new is)

-- a step adds one event
pub state_more : (spec : RoomSpec) (state next : List LocalState) (p : ℕ) → p < length state → state_after spec state p ≡ Some next → events_in next ≡ events_in state + 1
state_more spec state next p below is = by (moved_in spec state p) refl
  where
    by : (moved : Option LocalState) → moved_in spec state p ≡ moved → events_in next ≡ events_in state + 1
    by None none = absurd (none-some next (sym (ap (option_map (λ (local : LocalState). set state p local)) none) ∙ is))
    by (Some new) some =
        let next_is : set state p new ≡ next = same_Some (set state p new) next (sym (ap (option_map (λ (local : LocalState). set state p local)) some) ∙ is) in
        let one = local_more spec (lasts state) p (get_or state p blank) new (get_or state p blank).due some in
        let sum = sum_by-set events_of state p new blank below in
        let here : events_in next ≡ events_in (set state p new) = ap events_in (sym next_is) in
        omega (arith, sum, one, here)

-- the state of a run says how many events the run has
pub counted : (spec : RoomSpec) (history : List Event) → IsRun spec history → events_in (state_of spec history) ≡ length history + events_in (state_of spec [])
counted spec history run = run_induction spec (λ events. events_in (state_of spec events) ≡ length events + events_in (state_of spec [])) (omega arith) more history run
  where
    more : (before : List Event) (event : Event) → IsRun spec before → IsEnabled spec before event → events_in (state_of spec before) ≡ length before + events_in (state_of spec []) → events_in (state_of spec (before ++ event ∷ [])) ≡ length (before ++ event ∷ []) + events_in (state_of spec [])
    more before event run_before may so_far =
        let below = process_within spec before event may in
        let long = length-state spec before in
        let one = state_more spec (state_of spec before) (state_of spec (before ++ event ∷ [])) (process_of event) (omega (arith, below, long)) (step_is spec before event run_before may) in
        omega (arith, one, so_far, length_push before event)
