-- The steps that a command takes follow one another.
use Rattle.std.proofs.Common.{◌≡◌, ◌≢◌, ℕ, zero, suc, Bool, false, cond, List, [], ◌∷◌, ◌++◌, length, refl, sym, ◌∙◌, subst}
use Rattle.room_core.specs.Calls.{RoomState, configuration_of, room_after_settle, room_after_step, room_after_steps, step_reply}
use Rattle.room_core.specs.Rooms.{Configuration}
use Rattle.room_core.specs.Observing.{Follow, TakenStep, Traced, is_stepped, steps_of_settling, steps_of_steps, traced_kind}
use Rattle.room_core.specs.declared.reply.StepReply.{StepReply}
use Rattle.room_core.specs.declared.reply.StepReply.TheVariants.{Stepped, Idle, OutOfTurns, Crashed, NoSimulator}
use Rattle.room_core.proofs.fields.States.{woken_data}
use Rattle.room_core.proofs.fields.Taken.{idle_same}
use Rattle.room_core.proofs.settling.Settling.{settled_keeps}
use Rattle.room_core.proofs.settling.Observed.{room_of_settled}

abbrev one_step : RoomState → ℕ → TakenStep
one_step room i = record { room = room; simulator = i }

follow_more : (start : Configuration) (taken : List TakenStep) (room : RoomState) (i : ℕ) → Follow start taken (configuration_of room) → step_reply room i ≡ Stepped → Follow start (taken ++ one_step room i ∷ []) (configuration_of (room_after_step room i))
follow_more start [] room i are is = (sym are, is, refl)
follow_more start (step ∷ taken) room i are is = (are.0, are.1, follow_more (configuration_of (room_after_step step.room step.simulator)) taken room i are.2 is)

-- what a call answers
data Answers : StepReply → Type 0 where
  steps : Answers Stepped
  rests : (reply : StepReply) → reply ≢ Stepped → is_stepped reply ≡ false → Answers reply

answered : (reply : StepReply) → Answers reply
answered Stepped = steps
answered Idle = rests Idle (λ is. absurd cc) refl
answered OutOfTurns = rests OutOfTurns (λ is. absurd cc) refl
answered Crashed = rests Crashed (λ is. absurd cc) refl
answered NoSimulator = rests NoSimulator (λ is. absurd cc) refl

step_by : (start : Configuration) (traced : Traced) (i : ℕ) (reply : StepReply) → Answers reply → step_reply traced.room i ≡ reply → Follow start traced.taken (configuration_of traced.room)
    → Follow start (cond (is_stepped reply) (traced.taken ++ one_step traced.room i ∷ []) traced.taken) (configuration_of (room_after_step traced.room i))
step_by start traced i reply steps is are = follow_more start traced.taken traced.room i are is
step_by start traced i reply (rests other apart none) is are =
    subst (λ (b : Bool). Follow start (cond b (traced.taken ++ one_step traced.room i ∷ []) traced.taken) (configuration_of (room_after_step traced.room i))) (sym none)
    (subst (Follow start traced.taken) (sym (idle_same traced.room i (λ stepped. apart (sym is ∙ stepped)))) are)

abbrev Followed : Configuration → Traced → Type 0
Followed start traced = Follow start traced.taken (configuration_of traced.room)

pub settling_follows : (room : RoomState) → Follow (configuration_of room) (steps_of_settling room) (configuration_of (room_after_settle room))
settling_follows room =
    let start = configuration_of room in
    let first : Traced = record { room = room; taken = [] } in
    subst (λ (r : RoomState). Follow start (steps_of_settling room) (configuration_of r)) (room_of_settled first)
    (settled_keeps traced_kind (Followed start)
    (λ i traced are. step_by start traced i (step_reply traced.room i) (answered (step_reply traced.room i)) refl are)
    (λ i traced are. subst (Follow start traced.taken) (sym (woken_data traced.room i)) are)
    first refl)

-- these are the steps of so many calls
abbrev FollowOn : RoomState → ℕ → List TakenStep → Type 0
FollowOn room i taken = Follow (configuration_of room) taken (configuration_of (room_after_steps room i (length taken)))

first_follows : (room : RoomState) (i count : ℕ) (reply : StepReply) → Answers reply → step_reply room i ≡ reply → FollowOn (room_after_step room i) i (steps_of_steps (room_after_step room i) i count)
    → FollowOn room i (cond (is_stepped reply) (one_step room i ∷ steps_of_steps (room_after_step room i) i count) [])
first_follows room i count reply steps is rest = (refl, is, rest)
first_follows room i count reply (rests other apart none) is rest = subst (λ (b : Bool). FollowOn room i (cond b (one_step room i ∷ steps_of_steps (room_after_step room i) i count) [])) (sym none) refl

pub steps_follow : (room : RoomState) (i count : ℕ) → Follow (configuration_of room) (steps_of_steps room i count) (configuration_of (room_after_steps room i (length (steps_of_steps room i count))))
steps_follow room i zero = refl
steps_follow room i (suc count) = first_follows room i count (step_reply room i) (answered (step_reply room i)) refl (steps_follow (room_after_step room i) i count)
