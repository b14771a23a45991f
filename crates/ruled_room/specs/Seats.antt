-- The seat of one simulator, and what an operation makes of it.
use Rattle.std.proofs.Common.{◌≡◌, ◌∙◌, ℕ, zero, suc, List, [], ◌∷◌, map, refl, sym, ap, subst, Option, None}
use Rattle.std.specs.Option.{option_map}
use Rattle.atomic_table.specs.Table.{Me}
use Rattle.room_spec.specs.Rooms.{RoomSpec}
use Rattle.simulator.specs.Minds.{MindState}
use Rattle.simulator.specs.Moves.{move_of, taken}
use Rattle.simulator.specs.declared.operation.Move.{Move}
use Rattle.simulator.proofs.CallerLemmas.{keeps_number}
use Rattle.ruled_room.specs.declared.rule.Operation.{Operation}
use Rattle.ruled_room.specs.declared.rule.Progress.{Progress}
use Rattle.ruled_room.specs.declared.rule.View.{View}
use Rattle.ruled_room.specs.Views.{alone, and_then, further, noted, only}

-- it has the simulator of this mind, which has done some operations, and no other
abbrev pub IsSeatOf : {S : Type 0} → RoomSpec → MindState → Me S View → Type 0
IsSeatOf spec mind me = (operations : List Operation) × (me ≡ (alone spec mind.number (record { mind = mind; operations = operations }), []))

pub only-further : (spec : RoomSpec) (move : Move) (i : ℕ) (x : Progress) (a : ℕ) → map (option_map (further spec move a)) (only i x) ≡ only i (further spec move a x)
only-further spec move zero x a = refl
only-further spec move (suc i) x a = ap (λ (l : List (Option Progress)). None ∷ l) (only-further spec move i x a)

-- after an operation it has that simulator one operation further
pub noted_alone : {S : Type 0} (spec : RoomSpec) (move : Move) (i answer : ℕ) (progress : Progress) (me after : Me S View) → me ≡ (alone spec i progress, []) → after ≡ (noted move answer me.0, []) → after ≡ (alone spec i (further spec move answer progress), [])
noted_alone {S} spec move i answer progress me after is done =
    let there : noted move answer me.0 ≡ alone spec i (further spec move answer progress) = ap (λ (m : Me S View). noted move answer m.0) is ∙ (λ k. record { spec = spec; held = only-further spec move i progress answer k }) in
    done ∙ (λ k. (there k, []))

-- and is the seat of the mind that has taken the answer in
pub seat_goes_on : {S : Type 0} (spec : RoomSpec) (mind : MindState) (answer : ℕ) (me after : Me S View) → IsSeatOf spec mind me → after ≡ (noted (move_of spec mind) answer me.0, []) → IsSeatOf spec (taken spec mind answer).mind after
seat_goes_on {S} spec mind answer me after is done =
    let next = (taken spec mind answer).mind in
    let operations = and_then is.0 (move_of spec mind) answer in
    let there = noted_alone spec (move_of spec mind) mind.number answer (record { mind = mind; operations = is.0 }) me after is.1 done in
    (operations, subst (λ (i : ℕ). after ≡ (alone spec i (record { mind = next; operations = operations }), [])) (sym (keeps_number spec mind answer)) there)
