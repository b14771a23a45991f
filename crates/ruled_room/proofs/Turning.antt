-- A simulator takes the steps of a turn at one go.
use Rattle.std.proofs.Common.{◌≡◌, ◌≢◌, ◌⊎◌, inl, inr, ◌∙◌, ℕ, zero, suc, ◌-◌, ◌<◌, ◌≤◌, true, List, [], ◌∷◌, length, refl, sym, ap, subst, arith}
use Rattle.atomic_table.specs.Seated.{TableId}
use Rattle.atomic_table.specs.Table.{Me}
use Rattle.room_spec.specs.Rooms.{RoomSpec}
use Rattle.simulator.specs.declared.operation.Move.{Move}
use Rattle.simulator.specs.declared.sweep.Ready.TheVariants.{Step}
use Rattle.simulator.specs.declared.turn.Turn.{Turn}
use Rattle.simulator.specs.declared.turn.Turn.TheVariants.{Still}
use Rattle.simulator.specs.Bounds.{IsReadyThroughout, answered, answered_all}
use Rattle.simulator.specs.Moves.{IsOperation, move_of}
use Rattle.simulator.specs.Runs.{Asked, LeavesTurn, Runs}
use Rattle.simulator.specs.Sweeps.{SweepState, is_resting, quiet_after, ready_of}
use Rattle.simulator.proofs.CallerLemmas.{answered_along, counts_on, keeps_number, kept, moves, moves_on, ready_along, stays_open, turn_ends}
use Rattle.room_core.specs.declared.reply.StepReply.{StepReply}
use Rattle.room_core.specs.declared.reply.StepReply.TheVariants.{Stepped, Idle, OutOfTurns, Crashed, NoSimulator}
use Rattle.ruled_room.specs.declared.rule.Progress.{Progress}
use Rattle.ruled_room.specs.declared.rule.View.{View}
use Rattle.ruled_room.specs.Parts.{IsSweepOf, RoomName, SimulatorData, StaysInTurn, TakesStep, StepsInTurn, TakesSteps, after_steps, stepped_with}
use Rattle.ruled_room.specs.Seats.{noted_alone}
use Rattle.ruled_room.specs.Views.{alone, done_by, noted, only, progress_in}
use Rattle.ruled_room.proofs.Running.{alone_so, only-done}

-- ---- the sweep along the steps

pub sweep_after_steps : (start : SimulatorData) (answers : List ℕ) → (after_steps start answers).sweep ≡ answered_all start.room.spec start.sweep answers
sweep_after_steps start [] = refl
sweep_after_steps start (answer ∷ answers) = sweep_after_steps (stepped_with start answer) answers

room_after_steps : (start : SimulatorData) (answers : List ℕ) → (after_steps start answers).room ≡ start.room
room_after_steps start [] = refl
room_after_steps start (answer ∷ answers) = room_after_steps (stepped_with start answer) answers

number_after_steps : (start : SimulatorData) (answers : List ℕ) → (after_steps start answers).number ≡ start.number
number_after_steps start [] = refl
number_after_steps start (answer ∷ answers) = number_after_steps (stepped_with start answer) answers

-- a step that it was ready for leaves it a sweep of its room
pub sweeps_on : (spec : RoomSpec) (i : ℕ) (sweep : SweepState) (answer : ℕ) → IsSweepOf spec i sweep → ready_of spec sweep.mind sweep.quiet ≡ Step → IsSweepOf spec i (answered spec sweep answer)
sweeps_on spec i sweep answer is ready = record {
  is_mind = kept spec sweep.mind answer is.is_mind (moves spec sweep.mind sweep.quiet is.is_mind ready);
  number = keeps_number spec sweep.mind answer ∙ is.number;
  quiet = counts_on spec sweep.mind sweep.quiet answer is.is_mind is.quiet;
}

sweeps_along : (spec : RoomSpec) (i : ℕ) (sweep : SweepState) (answers : List ℕ) → IsSweepOf spec i sweep → IsReadyThroughout spec sweep answers → IsSweepOf spec i (answered_all spec sweep answers)
sweeps_along spec i sweep [] is ready = is
sweeps_along spec i sweep (answer ∷ answers) is ready = sweeps_along spec i (answered spec sweep answer) answers (sweeps_on spec i sweep answer is ready.0) ready.1

-- ---- its turn

stays_along : (start : SimulatorData) (answers : List ℕ) (turn : Turn) → LeavesTurn start.room.spec start.sweep.mind answers turn → IsOperation (move_of start.room.spec start.sweep.mind) → StaysInTurn start answers (length answers - 1)
stays_along start [] turn leaves operation k below = absurd (omega (arith, below))
stays_along start (x ∷ []) turn leaves operation k below = absurd (omega (arith, below))
stays_along start (x ∷ y ∷ answers) turn leaves operation zero below = stays_open start.room.spec start.sweep.mind x operation leaves.0
stays_along start (x ∷ y ∷ answers) turn leaves operation (suc k) below =
    stays_along (stepped_with start x) (y ∷ answers) turn leaves.1 (moves_on start.room.spec start.sweep.mind x operation leaves.0) k (omega (arith, below))

ends_along : (start : SimulatorData) (answers : List ℕ) (turn : Turn) → LeavesTurn start.room.spec start.sweep.mind answers turn → turn ≢ Still → is_resting (after_steps start answers).sweep.mind.line ≡ true
ends_along start [] turn leaves ends = absurd (ends leaves)
ends_along start (x ∷ []) turn leaves ends = turn_ends start.room.spec start.sweep.mind x (λ still. ends (sym leaves ∙ still))
ends_along start (x ∷ y ∷ answers) turn leaves ends = ends_along (stepped_with start x) (y ∷ answers) turn leaves.1 ends

-- ---- its seat

-- the seat holds the simulator as it has come so far, and no other
abbrev pub IsSeated : {S : Type 0} → SimulatorData → TableId → Me S View → Type 0
IsSeated at table me = (table ≡ at.room.table) × (me ≡ (alone at.room.spec at.number (record { mind = at.sweep.mind; operations = at.operations }), []))

-- each operation is noted in the seat, on the same table
abbrev pub IsNoting : {M S : Type 0} → (M → TableId) → (M → Me S View) → (M → Move → ℕ → M → Type 0) → Type 0
IsNoting table me does = (seat : _) (next : Move) (answer : ℕ) (after : _) → does seat next answer after → (table after ≡ table seat) × (me after ≡ (noted next answer (me seat).0, []))

seated_along : {M S : Type 0} (table : M → TableId) (me : M → Me S View) (does : M → Move → ℕ → M → Type 0) → IsNoting table me does → (start : SimulatorData) (answers : List ℕ) (seat last : M) → IsSeated start (table seat) (me seat) → Asked does start.room.spec seat start.sweep.mind answers last → IsSeated (after_steps start answers) (table last) (me last)
seated_along {M} table me does noting start [] seat last here asked = subst (λ (s : M). IsSeated start (table s) (me s)) asked here
seated_along table me does noting start (answer ∷ answers) seat last here asked =
    let move = move_of start.room.spec start.sweep.mind in
    let before : Progress = record { mind = start.sweep.mind; operations = start.operations } in
    let done = noting seat move answer asked.0 asked.1 in
    let next = noted_alone start.room.spec move start.number answer before (me seat) (me asked.0) here.1 done.1 in
    seated_along table me does noting (stepped_with start answer) answers asked.0 last (done.0 ∙ here.0, next) asked.2

-- what a contract sees of a simulator, by its seat
abbrev pub seen : {S : Type 0} → TableId → Me S View → ℕ → SweepState → SimulatorData
seen table me i sweep = record { room = record { table = table; spec = me.0.spec }; number = i; sweep = sweep; operations = done_by (progress_in me.0 i) }

seen_seated : {S : Type 0} (at : SimulatorData) (table : TableId) (me : Me S View) (i : ℕ) (sweep : SweepState) → IsSeated at table me → sweep ≡ at.sweep → i ≡ at.number → seen table me i sweep ≡ at
seen_seated {S} at table me i sweep here is number =
    let view : me.0 ≡ alone at.room.spec at.number (record { mind = at.sweep.mind; operations = at.operations }) = ap (λ (m : Me S View). m.0) here.1 in
    let done : done_by (progress_in me.0 i) ≡ at.operations = (λ k. done_by (progress_in (view k) (number k))) ∙ only-done at.number (record { mind = at.sweep.mind; operations = at.operations }) in
    λ k. record { room = record { table = here.0 k; spec = (view k).spec }; number = number k; sweep = is k; operations = done k }

-- ---- what the code leaves

-- what the type of a simulator keeps
abbrev pub IsKept : {S : Type 0} → Me S View → ℕ → SweepState → Type 0
IsKept me i sweep = (me.0.held ≡ only i (record { mind = sweep.mind; operations = done_by (progress_in me.0 i) })) × (me.1 ≡ []) × IsSweepOf me.0.spec i sweep

pub record HasRun {S : Type 0} (most : ℕ) (start : SimulatorData) (table : TableId) (me : Me S View) (sweep : SweepState) : Type 0 where
  pub steps : StepsInTurn most start (seen table me start.number sweep)
  pub keeps : IsKept me start.number sweep

kept_seated : {S : Type 0} (at : SimulatorData) (table : TableId) (me : Me S View) (i : ℕ) (sweep : SweepState) → IsSeated at table me → sweep ≡ at.sweep → i ≡ at.number → IsSweepOf at.room.spec i sweep → IsKept me i sweep
kept_seated {S} at table me i sweep here is number swept =
    let progress : Progress = record { mind = at.sweep.mind; operations = at.operations } in
    let held : me.0.held ≡ only i progress = ap (λ (m : Me S View). m.0.held) here.1 ∙ ap (λ (n : ℕ). only n progress) (sym number) in
    let named : at.room.spec ≡ me.0.spec = sym (ap (λ (m : Me S View). m.0.spec) here.1) in
    (alone_so i me.0.held progress sweep.mind held (ap (λ (s : SweepState). s.mind) (sym is)), ap (λ (m : Me S View). m.1) here.1, subst (λ (spec : RoomSpec). IsSweepOf spec i sweep) named swept)

pub has_run : {M S : Type 0} (table : M → TableId) (me : M → Me S View) (does : M → Move → ℕ → M → Type 0) → IsNoting table me does → (spec : RoomSpec) (i most count : ℕ) (seat last : M) (sweep after : SweepState) (turn : Turn)
    → IsKept (me seat) i sweep → (me seat).0.spec ≡ spec → ready_of spec sweep.mind sweep.quiet ≡ Step → Runs does spec seat sweep.mind count last after.mind turn → after.quiet ≡ quiet_after turn sweep.quiet
    → count ≤ most → (0 < most → 0 < count) → (count ≡ most) ⊎ (turn ≢ Still) → HasRun most (seen (table seat) (me seat) i sweep) (table last) (me last) after
has_run {M} {S} table me does noting spec i most count seat last sweep after turn keeps named ready runs quiet few some ended =
    let start : SimulatorData = seen (table seat) (me seat) i sweep in
    let own = start.room.spec in
    let runs_own : Runs does own seat sweep.mind count last after.mind turn = subst (λ (s : RoomSpec). Runs does s seat sweep.mind count last after.mind turn) (sym named) runs in
    let answers = runs_own.answers in
    let ready_own : ready_of own sweep.mind sweep.quiet ≡ Step = subst (λ (s : RoomSpec). ready_of s sweep.mind sweep.quiet ≡ Step) (sym named) ready in
    let operation : IsOperation (move_of own sweep.mind) = moves own sweep.mind sweep.quiet keeps.2.is_mind ready_own in
    let all = ready_along own sweep.mind sweep.quiet answers turn runs_own.turn_is operation ready_own in
    let here : IsSeated start (table seat) (me seat) = (refl, λ k. (record { spec = own; held = keeps.0 k }, keeps.1 k)) in
    let there = seated_along table me does noting start answers seat last here runs_own.asked in
    let swept : answered_all own sweep answers ≡ after = answered_along own sweep.mind sweep.quiet answers turn runs_own.turn_is ∙ (λ k. record { mind = (sym runs_own.mind_is) k; quiet = (sym quiet) k }) in
    let is : after ≡ (after_steps start answers).sweep = sym swept ∙ sym (sweep_after_steps start answers) in
    let number = sym (number_after_steps start answers) in
    let room : start.room ≡ (after_steps start answers).room = sym (room_after_steps start answers) in
    let sweeps : IsSweepOf own i after = subst (λ (s : SweepState). IsSweepOf own i s) swept (sweeps_along own i sweep answers keeps.2 all) in
    let many = runs_own.as_many in
    record {
      steps = record {
        answers = answers;
        is = seen_seated (after_steps start answers) (table last) (me last) i after there is number;
        ready = all;
        stays = stays_along start answers turn runs_own.turn_is operation;
        within = omega (arith, many, few);
        some = λ any. omega (arith, many, some any);
        ended = by ended answers many (λ ends. ap (λ (s : SweepState). is_resting s.mind.line) is ∙ ends_along start answers turn runs_own.turn_is ends);
      };
      keeps = kept_seated (after_steps start answers) (table last) (me last) i after there is number (subst (λ (r : RoomName). IsSweepOf r.spec i after) room sweeps);
    }
  where
    by : (count ≡ most) ⊎ (turn ≢ Still) → (answers : List ℕ) → length answers ≡ count → (turn ≢ Still → is_resting after.mind.line ≡ true) → (length answers ≡ most) ⊎ (is_resting after.mind.line ≡ true)
    by (inl all) answers many rests = inl (many ∙ all)
    by (inr ends) answers many rests = inr (rests ends)

-- a run of one step is that step
of_one : (old new : SimulatorData) → StepsInTurn 1 old new → (answer : ℕ) × (new ≡ stepped_with old answer)
of_one old new takes = by takes.answers takes.is takes.within (takes.some (omega arith))
  where
    by : (answers : List ℕ) → new ≡ after_steps old answers → length answers ≤ 1 → 0 < length answers → (answer : ℕ) × (new ≡ stepped_with old answer)
    by [] is few some = absurd (omega (arith, some))
    by (answer ∷ []) is few some = (answer, is)
    by (x ∷ y ∷ answers) is few some = absurd (omega (arith, few))

pub step_of : (old new : SimulatorData) (reply : StepReply) → TakesSteps 1 old reply new → TakesStep old reply new
step_of old new Stepped takes = of_one old new takes
step_of old new Idle takes = takes
step_of old new OutOfTurns takes = takes
step_of old new Crashed takes = takes
step_of old new NoSimulator takes = takes
