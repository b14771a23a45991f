-- Tasks, worked by hand: three processes, each of which waits for all but one.
use Rattle.std.proofs.Common.{◌≡◌, ℕ, zero, suc, ◌<◌, ◌≤◌, List, [], ◌∷◌, get_or, take, Option, Some, None, refl, arith, subst}
use Rattle.std.specs.Prelude.{codes}
use Rattle.protocol_lang.specs.Thresholds.{waits_for_all_but}
use Rattle.room_spec.specs.Rooms.{IsCertified, RoomSpec}
use Rattle.room_spec.specs.declared.version.Version.TheVariants.{Two}
use Rattle.transcript.specs.declared.event.Event.{Event}
use Rattle.transcript.specs.declared.event.Event.TheVariants.{Write, Snap, Decide}
use Rattle.transcript.specs.Tasks.{decided_in, different, MayBeDecided, IsInTask, KeepsTask, IsFirstExcess}

abbrev vote : RoomSpec
vote = record { version = Two; name = codes "vote"; inputs = 5 ∷ 3 ∷ 9 ∷ []; own = []; simulators = 2; rounds = 3; turns = 100; task = Some 1; fuses = []; protocol = waits_for_all_but 1 }

abbrev snap_by : ℕ → List (Option ℕ) → Event
snap_by p row = Snap p (record { items = row })

-- process 0 decides without the input of process 1, which is less
abbrev first_vote : List Event
first_vote = Write 0 5 ∷ Write 2 9 ∷ snap_by 0 (Some 5 ∷ None ∷ Some 9 ∷ []) ∷ Decide 0 5 ∷ Write 1 3 ∷ snap_by 1 (Some 5 ∷ Some 3 ∷ Some 9 ∷ []) ∷ []

abbrev votes : List Event
votes = Write 0 5 ∷ Write 2 9 ∷ snap_by 0 (Some 5 ∷ None ∷ Some 9 ∷ []) ∷ Decide 0 5 ∷ Write 1 3 ∷ snap_by 1 (Some 5 ∷ Some 3 ∷ Some 9 ∷ []) ∷ Decide 1 3 ∷ []

waits_for_two : IsCertified vote 1
waits_for_two = record { protocol = refl; fewer = omega arith }

-- who waits for all but three of three waits for none
waits_for_none : IsCertified (record vote { protocol = waits_for_all_but 3 }) 3 → ⊥
waits_for_none certified = let fewer : 3 < 3 = certified.fewer in absurd (omega (arith, fewer))

two_values : different (decided_in votes) ≡ 5 ∷ 3 ∷ []
two_values = refl

counted_once : different (5 ∷ 3 ∷ 5 ∷ 9 ∷ 3 ∷ []) ≡ 5 ∷ 3 ∷ 9 ∷ []
counted_once = refl

-- the first decision may be of any input
first_decision : (most : ℕ) → 1 ≤ most → MayBeDecided vote most (take 3 votes) 5
first_decision most some = record { input = (0, omega arith, refl); few = some }

second_decision : MayBeDecided vote 2 first_vote 3
second_decision = record { input = (1, omega arith, refl); few = omega arith }

abbrev InTask : ℕ → List Event → ℕ → Event → Type 0
InTask most events t event = IsInTask vote most (take t events) event

some_is : (a b : Event) → Some a ≡ Some b → a ≡ b
some_is a b is = cc

kept_so_far : (most : ℕ) → 1 ≤ most → KeepsTask vote most first_vote
kept_so_far most some zero event is = subst (InTask most first_vote 0) (some_is (Write 0 5) event is) tt
kept_so_far most some (suc zero) event is = subst (InTask most first_vote 1) (some_is (Write 2 9) event is) tt
kept_so_far most some (suc (suc zero)) event is = subst (InTask most first_vote 2) (some_is (snap_by 0 (Some 5 ∷ None ∷ Some 9 ∷ [])) event is) tt
kept_so_far most some (suc (suc (suc zero))) event is = subst (InTask most first_vote 3) (some_is (Decide 0 5) event is) (first_decision most some)
kept_so_far most some (suc (suc (suc (suc zero)))) event is = subst (InTask most first_vote 4) (some_is (Write 1 3) event is) tt
kept_so_far most some (suc (suc (suc (suc (suc zero))))) event is = subst (InTask most first_vote 5) (some_is (snap_by 1 (Some 5 ∷ Some 3 ∷ Some 9 ∷ [])) event is) tt
kept_so_far most some (suc (suc (suc (suc (suc (suc t)))))) event is = absurd cc

-- where one value alone may be decided, the second one is too many
second_value : IsFirstExcess vote 1 votes 6
second_value = record { event = Decide 1 3; there = refl; breaks = λ may. (let two : 2 ≤ 1 = may.few in absurd (omega (arith, two))); kept_before = kept_so_far 1 (omega arith) }

-- the same value is decided twice and counts once
same_value : MayBeDecided vote 1 first_vote 5
same_value = record { input = (0, omega arith, refl); few = omega arith }

-- a value that is no input breaks each task, also where it is the first
no_vote : (k : ℕ) → k < 3 → ◌≡◌ {A = ℕ} (get_or vote.inputs k 7) 7 → ⊥
no_vote zero below is = absurd (omega (arith, is))
no_vote (suc zero) below is = absurd (omega (arith, is))
no_vote (suc (suc zero)) below is = absurd (omega (arith, is))
no_vote (suc (suc (suc k))) below is = absurd (omega (arith, below))

no_input : IsFirstExcess vote 16 (Decide 0 7 ∷ []) 0
no_input = record { event = Decide 0 7; there = refl; breaks = λ may. (let at = may.input in no_vote at.0 at.1 at.2); kept_before = λ t event is. absurd cc }
