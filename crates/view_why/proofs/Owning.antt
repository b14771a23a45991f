-- The simulators' own inputs, one after the other.
use Rattle.std.proofs.Common.{◌≡◌, ◌↔◌, ◌∙◌, ℕ, ◌+◌, ◌≤◌, Bool, false, inl, inr, List, [], ◌∷◌, ◌++◌, length, take, Some, None, refl, sym, ap, subst, arith, if◌then◌else◌}
use Rattle.std.specs.Prelude.{slice_get}
use Rattle.std.proofs.lemmas.Bool.{cases_lt}
use Rattle.std.proofs.lemmas.List.{take_all, take_more}
use Rattle.std.proofs.lemmas.Option.{get_or_from_slice_get, slice_get-get_or, slice_get_within}
use Rattle.room_spec.specs.Rooms.{AreOwn, IsWithinLimits, RoomSpec, is_reduction}
use Rattle.transcript.specs.Runs.{IsRun}
use Rattle.transcript.specs.Tasks.{IsFirstExcess, KeepsOwnTask}
use Rattle.transcript.specs.declared.event.Event.{Event}
use Rattle.view_why.specs.Reported.{IsRunIn, IsRunBy, ReportedRoom, judged_room}
use Rattle.view_why.specs.Keeping.{IsWellRoom}
use Rattle.room_spec.specs.declared.version.Version.{Version}

-- one more
pub taken : (xs : List ℕ) (i x : ℕ) → slice_get xs i ≡ Some x → take (i + 1) xs ≡ take i xs ++ x ∷ []
taken xs i x there = take_more xs i x (slice_get_within xs i x there) ∙ ap (λ e. take i xs ++ e ∷ []) (get_or_from_slice_get xs i x x there)

-- where none is left all were taken
pub all_taken : (xs : List ℕ) (i : ℕ) → slice_get xs i ≡ None → take i xs ≡ xs
all_taken xs i none = elim (cases_lt i (length xs)) [
  | inl below ↦ absurd (let some = slice_get-get_or xs i 0 below in cc)
  | inr past ↦ take_all i xs past
]

few_by : (own inputs : List ℕ) (version : Version) (simulators : ℕ) → AreOwn own version inputs simulators → length own ≤ simulators
few_by [] inputs version simulators are = omega arith
few_by (input ∷ own) inputs version simulators are = let same = are.2 in omega (arith, same)

-- no more than there are simulators
pub all_of_limits : (spec : RoomSpec) (i : ℕ) → IsWithinLimits spec → spec.simulators ≤ i → take i spec.own ≡ spec.own
all_of_limits spec i limits past = let few = few_by spec.own spec.inputs spec.version spec.simulators limits.own in take_all i spec.own (omega (arith, few, past))

-- ---- ordinary rooms

-- the task of an ordinary room is judged by the room as it is
pub judged_as_is : (spec : RoomSpec) → is_reduction spec ≡ false → judged_room spec ≡ spec
judged_as_is spec ordinary = ap (λ (reduction : Bool). record spec { inputs = if reduction then spec.own else spec.inputs }) ordinary

pub first_as_judged : (spec : RoomSpec) (events : List Event) (at : ℕ) → is_reduction spec ≡ false → (n : ℕ) × (spec.task ≡ Some n) × IsFirstExcess spec n events at → (n : ℕ) × (spec.task ≡ Some n) × IsFirstExcess (judged_room spec) n events at
first_as_judged spec events at ordinary first = (first.0, first.1, subst (λ (room : RoomSpec). IsFirstExcess room first.0 events at) (sym (judged_as_is spec ordinary)) first.2)

-- an ordinary room that keeps to both
pub well_ordinary : (reported : ReportedRoom) → is_reduction reported.spec ≡ false → IsRunIn reported.spec reported.events × KeepsOwnTask (judged_room reported.spec) reported.events ↔ IsWellRoom reported
well_ordinary reported ordinary = (
  λ is. (ordinary, subst (λ (reduction : Bool). IsRunBy reduction reported.spec reported.events) ordinary is.0, subst (λ (room : RoomSpec). KeepsOwnTask room reported.events) (judged_as_is reported.spec ordinary) is.1),
  λ is. (subst (λ (reduction : Bool). IsRunBy reduction reported.spec reported.events) (sym ordinary) is.1, subst (λ (room : RoomSpec). KeepsOwnTask room reported.events) (sym (judged_as_is reported.spec ordinary)) is.2),
)
