-- A room that is fed one more event.
use Rattle.std.proofs.Common.{◌≡◌, ℕ, true, false, List, [], ◌∷◌, ◌++◌, length, Option, Some, None, refl, ap, ◌∙◌, subst}
use Rattle.std.specs.Prelude.{is_some, is_err, Result, Ok, Err}
use Rattle.std.proofs.lemmas.List.{map_push, length-map}
use Rattle.std.proofs.lemmas.Option.{slice_get_within}
use Rattle.room_spec.specs.Rooms.{RoomSpec}
use Rattle.transcript.specs.declared.event.Event.{Event}
use Rattle.transcript.specs.Runs.{IsEnabled, IsRun, IsFirstBreak}
use Rattle.history_checker.specs.declared.process.Process.{Process}
use Rattle.history_checker.specs.declared.process.Rule.{Rule}
use Rattle.history_checker.specs.Processes.{Tracks, Follows}
use Rattle.history_checker.specs.Verdicts.{FedEvent, RoomState, StandsAfter, BreaksOn, events_of}
use Rattle.transcript.proofs.CallerLemmas.{slice_get-append, slice_get-push, IsRun-push}
use Rattle.history_checker.proofs.Breaking.{not_enabled}
use Rattle.history_checker.proofs.Runs.{break-push, break-append}

pub events-push : (fed : List FedEvent) (one : FedEvent) (event : Event) → one.event ≡ event → events_of (fed ++ one ∷ []) ≡ events_of fed ++ event ∷ []
events-push fed one event is = map_push (λ o. o.event) fed one ∙ ap (λ e. events_of fed ++ e ∷ []) is

breaks_still : (spec : RoomSpec) (fed : List FedEvent) (one : FedEvent) (line : ℕ) → BreaksOn spec fed line → BreaksOn spec (fed ++ one ∷ []) line
breaks_still spec fed one line broken = record {
  place = broken.place;
  first = rw (events-push fed one one.event refl) (break-append spec (events_of fed) one.event broken.place broken.first);
  one = broken.one;
  there = slice_get-append fed (one ∷ []) broken.place (slice_get_within fed broken.place broken.one broken.there) ∙ broken.there;
  line_is = broken.line_is;
}

stays : (room : RoomState) (fed : List FedEvent) (one : FedEvent) (broken : Option ℕ) → is_some broken ≡ true → StandsAfter room fed broken → StandsAfter room (fed ++ one ∷ []) broken
stays room fed one None some stands = absurd cc
stays room fed one (Some line) some stands = breaks_still room.spec fed one line stands

-- a room that is broken stays so
pub stays_broken : (room : RoomState) (fed : List FedEvent) (one : FedEvent) → is_some room.broken ≡ true → StandsAfter room fed room.broken → StandsAfter room (fed ++ one ∷ []) room.broken
stays_broken room fed one some stands = stays room fed one room.broken some stands

refused_event : (spec : RoomSpec) (old new : List Process) (before : List Event) (event : Event) (answer : Result (Unit {0}) Rule) → is_err answer ≡ true
    → Follows spec event old answer new → Tracks spec old before → IsEnabled spec before event → ⊥
refused_event spec old new before event (Ok done) refused follows tracks = absurd cc
refused_event spec old new before event (Err rule) refused follows tracks = not_enabled spec before event rule (follows before tracks).0

accepted_event : (spec : RoomSpec) (old new : List Process) (before : List Event) (event : Event) (answer : Result (Unit {0}) Rule) → is_err answer ≡ false
    → Follows spec event old answer new → Tracks spec old before → IsEnabled spec before event × Tracks spec new (before ++ event ∷ [])
accepted_event spec old new before event (Ok done) accepted follows tracks = follows before tracks
accepted_event spec old new before event (Err rule) accepted follows tracks = absurd cc

-- an event that may not follow breaks it
pub breaks_now : (spec : RoomSpec) (old new : List Process) (fed : List FedEvent) (one : FedEvent) (event : Event) (line : ℕ) (answer : Result (Unit {0}) Rule) → one.event ≡ event → one.line ≡ line
    → is_err answer ≡ true → Follows spec event old answer new → IsRun spec (events_of fed) × Tracks spec old (events_of fed) → BreaksOn spec (fed ++ one ∷ []) line
breaks_now spec old new fed one event line answer event_is line_is refused follows stands = record {
  place = length fed;
  first =
      rw (events-push fed one event event_is)
      (subst (IsFirstBreak spec (events_of fed ++ event ∷ [])) (length-map fed (λ o. o.event)) (break-push spec (events_of fed) event stands.0 (refused_event spec old new (events_of fed) event answer refused follows stands.1)));
  one = one;
  there = slice_get-push fed one;
  line_is = line_is;
}

-- an event that may follow leaves a run
pub runs_on : (spec : RoomSpec) (old new : List Process) (fed : List FedEvent) (one : FedEvent) (event : Event) (answer : Result (Unit {0}) Rule) → one.event ≡ event
    → is_err answer ≡ false → Follows spec event old answer new → IsRun spec (events_of fed) × Tracks spec old (events_of fed) → IsRun spec (events_of (fed ++ one ∷ [])) × Tracks spec new (events_of (fed ++ one ∷ []))
runs_on spec old new fed one event answer event_is accepted follows stands =
    let both = accepted_event spec old new (events_of fed) event answer accepted follows stands.1 in
    rw (events-push fed one event event_is) (IsRun-push spec (events_of fed) event stands.0 both.0, both.1)

whole : (room : RoomState) (fed : List FedEvent) (broken : Option ℕ) → is_some broken ≡ false → StandsAfter room fed broken → IsRun room.spec (events_of fed) × Tracks room.spec room.processes (events_of fed)
whole room fed None none stands = stands
whole room fed (Some line) none stands = absurd cc

-- a room that isn't broken stands after a run
pub unbroken : (room : RoomState) (fed : List FedEvent) → is_some room.broken ≡ false → StandsAfter room fed room.broken → IsRun room.spec (events_of fed) × Tracks room.spec room.processes (events_of fed)
unbroken room fed none stands = whole room fed room.broken none stands

whole_again : (room : RoomState) (fed : List FedEvent) (broken : Option ℕ) → is_some broken ≡ false → IsRun room.spec (events_of fed) × Tracks room.spec room.processes (events_of fed) → StandsAfter room fed broken
whole_again room fed None none stands = stands
whole_again room fed (Some line) none stands = absurd cc

pub still_unbroken : (room : RoomState) (fed : List FedEvent) → is_some room.broken ≡ false → IsRun room.spec (events_of fed) × Tracks room.spec room.processes (events_of fed) → StandsAfter room fed room.broken
still_unbroken room fed none stands = whole_again room fed room.broken none stands
