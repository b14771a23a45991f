-- What the answers of `Rooms` by an index say of the room that has this index.
use Rattle.std.proofs.Common.{◌≡◌, ◌∙◌, ℕ, List, Option, Some, None, refl, ap, subst}
use Rattle.std.specs.Prelude.{slice_get, MatchOption, IsSomeAnd}
use Rattle.std.specs.Option.{option_map}
use Rattle.std.proofs.lemmas.Option.{slice_get-map}
use Rattle.room_spec.specs.Rooms.{RoomSpec}
use Rattle.history_checker.specs.Verdicts.{FedEvent, IsTaskAnswer, IsVerdict, fed_to, names_of}
use Rattle.history_checker.specs.declared.verdict.Verdict.{Verdict}
use Rattle.history_checker.specs.declared.verdict.TaskVerdict.{TaskVerdict}

-- where there is a verdict there is its room
pub room_judged : (found : Option RoomSpec) (result : Option Verdict) (verdict : Verdict) (fed : List FedEvent) → result ≡ Some verdict → MatchOption found (result ≡ None) (λ spec. IsSomeAnd result (IsVerdict spec (fed_to spec.name fed)))
    → (room : RoomSpec) × (found ≡ Some room) × IsVerdict room (fed_to room.name fed) verdict
room_judged None result verdict fed is none = absurd cc
room_judged (Some room) result verdict fed is some = (room, refl, subst (λ r. IsSomeAnd r (IsVerdict room (fed_to room.name fed))) is some)

-- and the answer on its task
pub task_judged : (found : Option RoomSpec) (room : RoomSpec) (task : Option TaskVerdict) (fed : List FedEvent) → found ≡ Some room → MatchOption found (task ≡ None) (λ spec. IsTaskAnswer spec (fed_to spec.name fed) task) → IsTaskAnswer room (fed_to room.name fed) task
task_judged found room task fed is answer = subst (λ (f : Option RoomSpec). MatchOption f (task ≡ None) (λ spec. IsTaskAnswer spec (fed_to spec.name fed) task)) is answer

-- the name at a room's place is the room's
pub name_there : (rooms : List RoomSpec) (index : ℕ) (room : RoomSpec) (name : List ℕ) → slice_get rooms index ≡ Some room → Some name ≡ slice_get (names_of rooms) index → name ≡ room.name
name_there rooms index room name there name_is =
    let same : Some name ≡ Some room.name = name_is ∙ slice_get-map (λ (r : RoomSpec). r.name) rooms index ∙ ap (option_map (λ (r : RoomSpec). r.name)) there in cc
