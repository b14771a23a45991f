-- A room's task that is fed one more event.
use Rattle.std.proofs.Common.{◌≡◌, ℕ, true, false, List, [], ◌∷◌, ◌++◌, length, Option, Some, None, refl, sym, ◌∙◌, subst}
use Rattle.std.specs.Prelude.{is_some}
use Rattle.std.proofs.lemmas.List.{length-map}
use Rattle.std.proofs.lemmas.Option.{slice_get_within}
use Rattle.room_spec.specs.Rooms.{RoomSpec}
use Rattle.transcript.specs.declared.event.Event.{Event}
use Rattle.transcript.specs.Tasks.{IsFirstExcess, KeepsTask, decided_by}
use Rattle.transcript.proofs.CallerLemmas.{slice_get-append, slice_get-push}
use Rattle.history_checker.specs.Tasks.{IsTally, HasDecided, TallyState}
use Rattle.history_checker.specs.Verdicts.{FedEvent, ExceedsOn, TallyStands, TaskStands, events_of}
use Rattle.history_checker.proofs.Feeding.{events-push}
use Rattle.history_checker.proofs.Tallies.{KeepsTask-nil, no_tally, follows_other, keeps_push, excess_append, excess_push}

exceeds_still : (spec : RoomSpec) (most : ℕ) (fed : List FedEvent) (one : FedEvent) (line : ℕ) → ExceedsOn spec most fed line → ExceedsOn spec most (fed ++ one ∷ []) line
exceeds_still spec most fed one line exceeds = record {
  place = exceeds.place;
  first = rw (events-push fed one one.event refl) (excess_append spec most (events_of fed) one.event exceeds.place exceeds.first);
  one = exceeds.one;
  there = slice_get-append fed (one ∷ []) exceeds.place (slice_get_within fed exceeds.place exceeds.one exceeds.there) ∙ exceeds.there;
  line_is = exceeds.line_is;
}

-- a task that is broken stays so
pub broken_still : (spec : RoomSpec) (most : ℕ) (fed : List FedEvent) (one : FedEvent) (decided : List ℕ) (excess : Option ℕ) → is_some excess ≡ true → TallyStands spec most fed decided excess → TallyStands spec most (fed ++ one ∷ []) decided excess
broken_still spec most fed one decided None some stands = absurd cc
broken_still spec most fed one decided (Some line) some stands = exceeds_still spec most fed one line stands

pub unbroken_task : (spec : RoomSpec) (most : ℕ) (fed : List FedEvent) (decided : List ℕ) (excess : Option ℕ) → is_some excess ≡ false → TallyStands spec most fed decided excess → KeepsTask spec most (events_of fed) × IsTally most (events_of fed) decided
unbroken_task spec most fed decided None none stands = stands
unbroken_task spec most fed decided (Some line) none stands = absurd cc

-- a decision that it doesn't allow breaks it
pub breaks_task : (spec : RoomSpec) (most : ℕ) (old new : List ℕ) (fed : List FedEvent) (one : FedEvent) (event : Event) (line : ℕ) → one.event ≡ event → one.line ≡ line
    → HasDecided spec most event old false new → KeepsTask spec most (events_of fed) × IsTally most (events_of fed) old → ExceedsOn spec most (fed ++ one ∷ []) line
breaks_task spec most old new fed one event line event_is line_is refuses stands = record {
  place = length fed;
  first =
      rw (events-push fed one event event_is)
      (subst (IsFirstExcess spec most (events_of fed ++ event ∷ [])) (length-map fed (λ o. o.event)) (excess_push spec most (events_of fed) event stands.0 (refuses (events_of fed) stands.1)));
  one = one;
  there = slice_get-push fed one;
  line_is = line_is;
}

-- one that it allows leaves it kept
pub keeps_on : (spec : RoomSpec) (most : ℕ) (old new : List ℕ) (excess : Option ℕ) (fed : List FedEvent) (one : FedEvent) (event : Event) → is_some excess ≡ false → one.event ≡ event
    → HasDecided spec most event old true new → KeepsTask spec most (events_of fed) × IsTally most (events_of fed) old → TallyStands spec most (fed ++ one ∷ []) new excess
keeps_on spec most old new None fed one event none event_is allows stands =
    let both = allows (events_of fed) stands.1 in
    rw (events-push fed one event event_is) (keeps_push spec most (events_of fed) event stands.0 both.0, both.1)
keeps_on spec most old new (Some line) fed one event none event_is allows stands = absurd cc

-- before the first event the task holds
pub task_begins : (spec : RoomSpec) (most : ℕ) → TallyStands spec most [] [] None
task_begins spec most = (KeepsTask-nil spec most, no_tally most)

-- a room that has a task, whose tally is fed
pub counts_on : (spec : RoomSpec) (most : ℕ) (fed more : List FedEvent) (old new : TallyState) → Some most ≡ spec.task → (TallyStands spec most fed old.decided old.excess → TallyStands spec most more new.decided new.excess) → TaskStands spec fed spec.task (Some old) → TaskStands spec more spec.task (Some new)
counts_on spec most fed more old new is step stands = subst (λ (task : Option ℕ). TaskStands spec more task (Some new)) is (step (subst (λ (task : Option ℕ). TaskStands spec fed task (Some old)) (sym is) stands))

tally_kept : (spec : RoomSpec) (most : ℕ) (fed : List FedEvent) (one : FedEvent) (event : Event) (decided : List ℕ) (excess : Option ℕ) → decided_by event ≡ None → one.event ≡ event → TallyStands spec most fed decided excess → TallyStands spec most (fed ++ one ∷ []) decided excess
tally_kept spec most fed one event decided None none is stands = keeps_on spec most decided decided None fed one event refl is (follows_other spec most decided event none) stands
tally_kept spec most fed one event decided (Some line) none is stands = exceeds_still spec most fed one line stands

-- an event that decides nothing counts for no task
pub uncounted : (spec : RoomSpec) (fed : List FedEvent) (one : FedEvent) (event : Event) (task : Option ℕ) (tally : Option TallyState) → decided_by event ≡ None → one.event ≡ event → TaskStands spec fed task tally → TaskStands spec (fed ++ one ∷ []) task tally
uncounted spec fed one event None tally none is stands = stands
uncounted spec fed one event (Some most) None none is stands = stands
uncounted spec fed one event (Some most) (Some tally) none is stands = tally_kept spec most fed one event tally.decided tally.excess none is stands
