-- What one step more makes of a turn and of a drive.
use Rattle.std.proofs.Common.{◌≡◌, ◌⊎◌, inl, inr, ℕ, zero, suc, ◌+◌, ◌-◌, ◌<◌, ◌≤◌, Bool, true, false, cond, leb, ltb, List, [], ◌∷◌, length, Option, Some, None, refl, sym, ap, ◌∙◌, subst, arith}
use Rattle.std.proofs.lemmas.Bool.{ltb-false}
use Rattle.std.proofs.lemmas.Bool.Decides.{nat_tests}
use Rattle.room_spec.specs.Rooms.{RoomSpec}
use Rattle.simulator.specs.Sweeps.{SweepState, is_resting, ready_of}
use Rattle.simulator.specs.declared.sweep.Ready.{Ready}
use Rattle.simulator.specs.declared.sweep.Ready.TheVariants as ready
use Rattle.simulator.specs.Minds.{MindState, unfinished_in}
use Rattle.simulator.proofs.CallerLemmas.{idle_waits, bounded, limit_most, stays_in_turn, steps_by_one}
use Rattle.simulator.specs.Ranges.{turn_limit}
use Rattle.simulator.specs.Bounds.{IsReadyThroughout}
use Rattle.room_core.specs.Calls.{reply_when, step_bound}
use Rattle.room_core.specs.declared.reply.StepReply.TheVariants as replies
use Rattle.room_core.proofs.CallerLemmas.{steps_within}
use Rattle.ruled_room.specs.Parts.{IsSweepOf, RoomName, SimulatorData, StaysInTurn, StepsInTurn, after_steps, stepped_with}
use Rattle.ruled_room.proofs.CallerLemmas.{sweeps_on}
use Rattle.ruled_room.specs.declared.stop.Stop.{Stop}
use Rattle.ruled_room.specs.declared.stop.Stop.TheVariants.{Idle, OutOfTurns, Crashed}
use Rattle.scheduler.specs.Drives.{Drives, GoesOn, HasLeft, HasStopped, IsWithinFuse, TakesTurn, is_burnt, stop_at, stop_of, stop_when, stopped}

-- ---- one step before others

goes_more : (fuse : Option ℕ) (start : SimulatorData) (answer : ℕ) (answers : List ℕ) → stop_at fuse start ≡ None → GoesOn fuse (stepped_with start answer) answers → GoesOn fuse start (answer ∷ answers)
goes_more fuse start answer answers none on zero below = none
goes_more fuse start answer answers none on (suc k) below = on k (omega (arith, below))

-- ---- a turn before others

drive_after : (fuse : Option ℕ) (start : SimulatorData) (answers : List ℕ) (stop : Stop) (new : SimulatorData) → GoesOn fuse start answers → Drives fuse (after_steps start answers) stop new → Drives fuse start stop new
drive_after fuse start [] stop new on drives = drives
drive_after fuse start (answer ∷ answers) stop new on drives =
    let rest = drive_after fuse (stepped_with start answer) answers stop new (λ k below. on (suc k) (omega (arith, below))) drives in
    record {
      answers = answer ∷ rest.answers;
      goes_on = goes_more fuse start answer rest.answers (on 0 (omega arith)) rest.goes_on;
      stops = rest.stops;
      is = rest.is;
    }

pub drive_more : (fuse : Option ℕ) (start next : SimulatorData) (stop : Stop) (new : SimulatorData) → TakesTurn fuse start None next → Drives fuse next stop new → Drives fuse start stop new
drive_more fuse start next stop new takes drives = drive_after fuse start takes.answers stop new takes.goes_on (subst (λ (at : SimulatorData). Drives fuse at stop new) takes.ends.3 drives)

pub drive_stops : (fuse : Option ℕ) (start : SimulatorData) (stop : Stop) (new : SimulatorData) → TakesTurn fuse start (Some stop) new → Drives fuse start stop new
drive_stops fuse start stop new takes = record { answers = takes.answers; goes_on = takes.goes_on; stops = takes.ends.1; is = takes.ends.2 }

-- ---- why it stops

burnt_by : (burnt : Bool) (answer : Ready) → cond burnt (Some Crashed) (stop_when answer) ≡ None → (burnt ≡ false) × (answer ≡ ready.Step)
burnt_by true answer is = absurd cc
burnt_by false ready.Step is = (refl, refl)
burnt_by false ready.Idle is = absurd cc
burnt_by false ready.OutOfTurns is = absurd cc

-- whoever doesn't stop has fuse left, and a step to take
pub goes : (fuse : Option ℕ) (spec : RoomSpec) (sweep : SweepState) → stop_of fuse spec sweep ≡ None → (is_burnt fuse sweep.mind.steps ≡ false) × (ready_of spec sweep.mind sweep.quiet ≡ ready.Step)
goes fuse spec sweep none = burnt_by (is_burnt fuse sweep.mind.steps) (ready_of spec sweep.mind sweep.quiet) none

abbrev Why : Stop → Bool → Ready → Type 0
Why Crashed burnt answer = burnt ≡ true
Why Idle burnt answer = (burnt ≡ false) × (answer ≡ ready.Idle)
Why OutOfTurns burnt answer = (burnt ≡ false) × (answer ≡ ready.OutOfTurns)

why : (burnt : Bool) (answer : Ready) (stop : Stop) → cond burnt (Some Crashed) (stop_when answer) ≡ Some stop → Why stop burnt answer
why true answer Crashed is = refl
why true answer Idle is = absurd cc
why true answer OutOfTurns is = absurd cc
why false ready.Step stop is = absurd cc
why false ready.Idle Idle is = (refl, refl)
why false ready.Idle OutOfTurns is = absurd cc
why false ready.Idle Crashed is = absurd cc
why false ready.OutOfTurns OutOfTurns is = (refl, refl)
why false ready.OutOfTurns Idle is = absurd cc
why false ready.OutOfTurns Crashed is = absurd cc

idle_by : (rests enough has_turns : Bool) → cond rests (cond enough ready.Idle (cond has_turns ready.Step ready.OutOfTurns)) ready.Step ≡ ready.Idle → rests ≡ true
idle_by true enough has_turns is = refl
idle_by false enough has_turns is = absurd cc

out_by : (rests enough has_turns : Bool) → cond rests (cond enough ready.Idle (cond has_turns ready.Step ready.OutOfTurns)) ready.Step ≡ ready.OutOfTurns → (rests ≡ true) × (has_turns ≡ false)
out_by true true has_turns is = absurd cc
out_by true false true is = absurd cc
out_by true false false is = (refl, refl)
out_by false enough has_turns is = absurd cc

stops_by : (stop : Stop) (fuse : Option ℕ) (spec : RoomSpec) (i : ℕ) (sweep : SweepState) → IsSweepOf spec i sweep → Why stop (is_burnt fuse sweep.mind.steps) (ready_of spec sweep.mind sweep.quiet) → HasStopped fuse spec stop sweep
stops_by Crashed fuse spec i sweep is by = by
stops_by Idle fuse spec i sweep is by =
    (by.0, idle_by (is_resting sweep.mind.line) (leb (unfinished_in sweep.mind.goals) sweep.quiet) (ltb sweep.mind.turns spec.turns) by.1, λ process. idle_waits spec sweep.mind sweep.quiet process is.quiet by.1)
stops_by OutOfTurns fuse spec i sweep is by =
    let out = out_by (is_resting sweep.mind.line) (leb (unfinished_in sweep.mind.goals) sweep.quiet) (ltb sweep.mind.turns spec.turns) by.1 in
    let most = is.is_mind.turns in
    (by.0, out.0, omega (arith, ltb-false _ _ out.1, most))

-- waking changes no mind
stopped_by : (stop : Stop) (fuse : Option ℕ) (spec : RoomSpec) (at : SimulatorData) → HasStopped fuse spec stop at.sweep → HasStopped fuse spec stop (stopped stop at).sweep
stopped_by Crashed fuse spec at is = is
stopped_by Idle fuse spec at is = is
stopped_by OutOfTurns fuse spec at is = is

has_stopped : (fuse : Option ℕ) (at : SimulatorData) (stop : Stop) (new : SimulatorData) → IsSweepOf at.room.spec at.number at.sweep → stop_at fuse at ≡ Some stop → new ≡ stopped stop at → HasStopped fuse at.room.spec stop new.sweep
has_stopped fuse at stop new is stops to =
    let by = why (is_burnt fuse at.sweep.mind.steps) (ready_of at.room.spec at.sweep.mind at.sweep.quiet) stop stops in
    subst (λ (end : SimulatorData). HasStopped fuse at.room.spec stop end.sweep) (sym to) (stopped_by stop fuse at.room.spec at (stops_by stop fuse at.room.spec at.number at.sweep is by))

-- ---- what stays, and what grows

pub same_stopped : (stop : Stop) (at : SimulatorData) → ((stopped stop at).room ≡ at.room) × ((stopped stop at).number ≡ at.number) × ((stopped stop at).sweep.mind ≡ at.sweep.mind)
same_stopped Crashed at = (refl, refl, refl)
same_stopped Idle at = (refl, refl, refl)
same_stopped OutOfTurns at = (refl, refl, refl)

fuse_more : (fuse : Option ℕ) (steps more : ℕ) → is_burnt fuse steps ≡ false → more ≡ steps + 1 → IsWithinFuse fuse steps → IsWithinFuse fuse more
fuse_more None steps more left is within = tt
fuse_more (Some after) steps more left is within = grind (arith, nat_tests)

within_more : (fuse : Option ℕ) (steps count : ℕ) → ((more : ℕ) → more < count → is_burnt fuse (steps + more) ≡ false) → IsWithinFuse fuse steps → IsWithinFuse fuse (steps + count)
within_more fuse steps zero left within = let same : steps ≡ steps + 0 = omega arith in subst (IsWithinFuse fuse) same within
within_more fuse steps (suc count) left within =
    fuse_more fuse (steps + count) (steps + suc count) (left count (omega arith)) (omega arith) (within_more fuse steps count (λ more below. left more (omega (arith, below))) within)

-- how many steps it may still take
abbrev pub left : SimulatorData → ℕ
left at = step_bound at.room.spec - at.sweep.mind.steps

-- so many steps further
record HasStepped (start at : SimulatorData) (count : ℕ) : Type 0 where
  room : at.room ≡ start.room
  number : at.number ≡ start.number
  sweep : IsSweepOf start.room.spec start.number at.sweep
  steps : at.sweep.mind.steps ≡ start.sweep.mind.steps + count

stepped_along : (start : SimulatorData) (answers : List ℕ) → IsSweepOf start.room.spec start.number start.sweep → IsReadyThroughout start.room.spec start.sweep answers → HasStepped start (after_steps start answers) (length answers)
stepped_along start [] is ready = record { room = refl; number = refl; sweep = is; steps = omega arith }
stepped_along start (answer ∷ answers) is ready =
    let rest = stepped_along (stepped_with start answer) answers (sweeps_on start.room.spec start.number start.sweep answer is ready.0) ready.1 in
    record { room = rest.room; number = rest.number; sweep = rest.sweep; steps = omega (arith, rest.steps, steps_by_one start.room.spec start.sweep.mind answer) }

-- with the steps that its turn had taken they are no more than a turn may take
turn_short : (start : SimulatorData) (answers : List ℕ) → IsSweepOf start.room.spec start.number start.sweep → IsReadyThroughout start.room.spec start.sweep answers → StaysInTurn start answers (length answers - 1) → start.sweep.mind.turn_steps + length answers ≤ turn_limit start.room.spec
turn_short start [] is ready stays = omega (arith, bounded start.room.spec start.sweep.mind is.is_mind)
turn_short start (answer ∷ []) is ready stays = omega (arith, bounded start.room.spec start.sweep.mind is.is_mind)
turn_short start (answer ∷ next ∷ answers) is ready stays =
    let rest = turn_short (stepped_with start answer) (next ∷ answers) (sweeps_on start.room.spec start.number start.sweep answer is ready.0) ready.1 (λ k below. stays (suc k) (omega (arith, below))) in
    omega (arith, rest, stays_in_turn start.room.spec start.sweep.mind answer (stays 0 (omega arith)))

-- what is known at the end of a turn
pub record HasTurned (fuse : Option ℕ) (start new : SimulatorData) : Type 0 where
  pub steps : TakesTurn fuse start None new
  pub within : IsWithinFuse fuse start.sweep.mind.steps → IsWithinFuse fuse new.sweep.mind.steps
  pub room : new.room ≡ start.room
  pub number : new.number ≡ start.number
  pub more : start.sweep.mind.steps < new.sweep.mind.steps
  pub most : new.sweep.mind.steps ≤ step_bound start.room.spec
  pub bound : new.sweep.mind.steps + start.sweep.mind.turn_steps ≤ start.sweep.mind.steps + turn_limit start.room.spec

-- and where it stops
pub record StopsTurn (fuse : Option ℕ) (start : SimulatorData) (stop : Stop) (new : SimulatorData) : Type 0 where
  pub steps : TakesTurn fuse start (Some stop) new
  pub stops : HasStopped fuse start.room.spec stop new.sweep
  pub within : IsWithinFuse fuse start.sweep.mind.steps → IsWithinFuse fuse new.sweep.mind.steps
  pub room : new.room ≡ start.room
  pub number : new.number ≡ start.number
  pub bound : new.sweep.mind.steps + start.sweep.mind.turn_steps ≤ start.sweep.mind.steps + turn_limit start.room.spec

-- ---- the steps of a turn at one go

ready_goes : (burnt : Bool) (answer : Ready) → burnt ≡ false → answer ≡ ready.Step → cond burnt (Some Crashed) (stop_when answer) ≡ None
ready_goes true answer left is = absurd cc
ready_goes false answer left is = ap stop_when is

burns : (burnt : Bool) (answer : Ready) → burnt ≡ true → cond burnt (Some Crashed) (stop_when answer) ≡ Some Crashed
burns true answer is = refl
burns false answer is = absurd cc

-- no step of these burns the fuse
abbrev IsLeft : Option ℕ → SimulatorData → ℕ → Type 0
IsLeft fuse at count = (more : ℕ) → more < count → is_burnt fuse (at.sweep.mind.steps + more) ≡ false

left_now : (fuse : Option ℕ) (at : SimulatorData) (count : ℕ) → IsLeft fuse at count → 0 < count → is_burnt fuse at.sweep.mind.steps ≡ false
left_now fuse at count left some =
    let same : at.sweep.mind.steps + 0 ≡ at.sweep.mind.steps = omega arith in
    subst (λ (steps : ℕ). is_burnt fuse steps ≡ false) same (left 0 some)

left_later : (fuse : Option ℕ) (at : SimulatorData) (answer count : ℕ) → IsLeft fuse at (suc count) → IsLeft fuse (stepped_with at answer) count
left_later fuse at answer count left more below =
    let one = steps_by_one at.room.spec at.sweep.mind answer in
    let same : at.sweep.mind.steps + suc more ≡ (stepped_with at answer).sweep.mind.steps + more = omega (arith, one) in
    subst (λ (steps : ℕ). is_burnt fuse steps ≡ false) same (left (suc more) (omega (arith, below)))

goes_along : (fuse : Option ℕ) (start : SimulatorData) (answers : List ℕ) → IsReadyThroughout start.room.spec start.sweep answers → IsLeft fuse start (length answers) → GoesOn fuse start answers
goes_along fuse start [] ready left = λ k below. absurd (omega (arith, below))
goes_along fuse start (answer ∷ answers) ready left =
    goes_more fuse start answer answers (ready_goes _ _ (left_now fuse start (suc (length answers)) left (omega arith)) ready.0) (goes_along fuse (stepped_with start answer) answers ready.1 (left_later fuse start answer (length answers) left))

-- it stops after these
stops_after : (fuse : Option ℕ) (start new : SimulatorData) (answers : List ℕ) (stop : Stop) → IsSweepOf start.room.spec start.number start.sweep → IsReadyThroughout start.room.spec start.sweep answers → IsLeft fuse start (length answers) → StaysInTurn start answers (length answers)
    → stop_at fuse (after_steps start answers) ≡ Some stop → new ≡ stopped stop (after_steps start answers) → StopsTurn fuse start stop new
stops_after fuse start new answers stop is ready left stays stops to =
    let at = after_steps start answers in
    let same = same_stopped stop at in
    let along = stepped_along start answers is ready in
    let swept : IsSweepOf at.room.spec at.number at.sweep = subst (λ (q : RoomName × ℕ). IsSweepOf q.0.spec q.1 at.sweep) (λ k. (sym along.room k, sym along.number k)) along.sweep in
    let steps : new.sweep.mind.steps ≡ start.sweep.mind.steps + length answers = ap (λ (n : SimulatorData). n.sweep.mind.steps) to ∙ ap (λ (mind : MindState). mind.steps) same.2 ∙ along.steps in
    record {
      steps = record { answers = answers; goes_on = goes_along fuse start answers ready left; ends = (stays, stops, to) };
      stops = subst (λ (room : RoomName). HasStopped fuse room.spec stop new.sweep) along.room (has_stopped fuse at stop new swept stops to);
      within = λ within. subst (IsWithinFuse fuse) (sym steps) (within_more fuse start.sweep.mind.steps (length answers) left within);
      room = ap (λ (n : SimulatorData). n.room) to ∙ same.0 ∙ along.room;
      number = ap (λ (n : SimulatorData). n.number) to ∙ same.1 ∙ along.number;
      bound = omega (arith, steps, turn_short start answers is ready (λ k below. stays k (omega (arith, below))));
    }

-- ---- what the code finds

-- none is left
pub burnt_first : (fuse : Option ℕ) (start : SimulatorData) (left : ℕ) → IsSweepOf start.room.spec start.number start.sweep → HasLeft fuse start.sweep.mind.steps left → left ≡ 0 → StopsTurn fuse start Crashed start
burnt_first fuse start left is has none = stops_after fuse start start [] Crashed is tt (λ more below. absurd (omega (arith, below))) (λ k below. absurd (omega (arith, below))) (by has.burnt) refl
  where
    by : (is_burnt fuse (start.sweep.mind.steps + left) ≡ true) ⊎ (left ≡ 18446744073709551615) → stop_at fuse start ≡ Some Crashed
    by (inl burnt) = let same : start.sweep.mind.steps + left ≡ start.sweep.mind.steps = omega (arith, none) in burns _ _ (subst (λ (steps : ℕ). is_burnt fuse steps ≡ true) same burnt)
    by (inr most) = absurd (omega (arith, none, most))

idle_stops : (answer : Ready) → replies.Idle ≡ reply_when answer → stop_when answer ≡ Some Idle
idle_stops ready.Step is = absurd cc
idle_stops ready.Idle is = refl
idle_stops ready.OutOfTurns is = absurd cc

out_stops : (answer : Ready) → replies.OutOfTurns ≡ reply_when answer → stop_when answer ≡ Some OutOfTurns
out_stops ready.Step is = absurd cc
out_stops ready.Idle is = absurd cc
out_stops ready.OutOfTurns is = refl

-- none is to be taken
stops_first : (fuse : Option ℕ) (start new : SimulatorData) (left : ℕ) (stop : Stop) → IsSweepOf start.room.spec start.number start.sweep → HasLeft fuse start.sweep.mind.steps left → 0 < left → stop_when (ready_of start.room.spec start.sweep.mind start.sweep.quiet) ≡ Some stop → new ≡ stopped stop start → StopsTurn fuse start stop new
stops_first fuse start new left stop is has some stops to =
    let whole : is_burnt fuse start.sweep.mind.steps ≡ false = left_now fuse start left has.whole some in
    stops_after fuse start new [] stop is tt (λ more below. absurd (omega (arith, below))) (λ k below. absurd (omega (arith, below))) (ap (λ (b : Bool). cond b (Some Crashed) (stop_when (ready_of start.room.spec start.sweep.mind start.sweep.quiet))) whole ∙ stops) to

pub idle_first : (fuse : Option ℕ) (start new : SimulatorData) (left : ℕ) → IsSweepOf start.room.spec start.number start.sweep → HasLeft fuse start.sweep.mind.steps left → 0 < left → replies.Idle ≡ reply_when (ready_of start.room.spec start.sweep.mind start.sweep.quiet) → new ≡ stopped Idle start → StopsTurn fuse start Idle new
idle_first fuse start new left is has some reply to = stops_first fuse start new left Idle is has some (idle_stops _ reply) to

pub out_first : (fuse : Option ℕ) (start new : SimulatorData) (left : ℕ) → IsSweepOf start.room.spec start.number start.sweep → HasLeft fuse start.sweep.mind.steps left → 0 < left → replies.OutOfTurns ≡ reply_when (ready_of start.room.spec start.sweep.mind start.sweep.quiet) → new ≡ stopped OutOfTurns start → StopsTurn fuse start OutOfTurns new
out_first fuse start new left is has some reply to = stops_first fuse start new left OutOfTurns is has some (out_stops _ reply) to

-- the last step ended the turn
pub turn_ended : (fuse : Option ℕ) (start new : SimulatorData) (left : ℕ) → IsSweepOf start.room.spec start.number start.sweep → HasLeft fuse start.sweep.mind.steps left → 0 < left → StepsInTurn left start new → is_resting new.sweep.mind.line ≡ true → HasTurned fuse start new
turn_ended fuse start new left is has some takes rests =
    let answers = takes.answers in
    let along = subst (λ (n : SimulatorData). HasStepped start n (length answers)) (sym takes.is) (stepped_along start answers is takes.ready) in
    let few : IsLeft fuse start (length answers) = λ more below. has.whole more (omega (arith, below, takes.within)) in
    let end : is_resting (after_steps start answers).sweep.mind.line ≡ true = ap (λ (n : SimulatorData). is_resting n.sweep.mind.line) (sym takes.is) ∙ rests in
    record {
      steps = record { answers = answers; goes_on = goes_along fuse start answers takes.ready few; ends = (takes.some some, takes.stays, end, takes.is) };
      within = λ within. subst (IsWithinFuse fuse) (sym along.steps) (within_more fuse start.sweep.mind.steps (length answers) few within);
      room = along.room;
      number = along.number;
      more = omega (arith, along.steps, takes.some some);
      most = steps_within start.room.spec new.sweep.mind along.sweep.is_mind;
      bound = omega (arith, along.steps, turn_short start answers is takes.ready takes.stays);
    }

-- its turn is open after all steps
stays_all : (start : SimulatorData) (answers : List ℕ) → StaysInTurn start answers (length answers - 1) → is_resting (after_steps start answers).sweep.mind.line ≡ false → StaysInTurn start answers (length answers)
stays_all start [] stays goes k below = absurd (omega (arith, below))
stays_all start (answer ∷ []) stays goes zero below = goes
stays_all start (answer ∷ []) stays goes (suc k) below = absurd (omega (arith, below))
stays_all start (answer ∷ next ∷ answers) stays goes zero below = stays 0 (omega arith)
stays_all start (answer ∷ next ∷ answers) stays goes (suc k) below =
    stays_all (stepped_with start answer) (next ∷ answers) (λ j less. stays (suc j) (omega (arith, less))) goes k (omega (arith, below))

-- the fuse burnt down in it
pub turn_cut : (fuse : Option ℕ) (start new : SimulatorData) (left : ℕ) → IsSweepOf start.room.spec start.number start.sweep → HasLeft fuse start.sweep.mind.steps left → StepsInTurn left start new → is_resting new.sweep.mind.line ≡ false → StopsTurn fuse start Crashed new
turn_cut fuse start new left is has takes stays =
    let answers = takes.answers in
    let along = stepped_along start answers is takes.ready in
    let end : is_resting (after_steps start answers).sweep.mind.line ≡ false = ap (λ (n : SimulatorData). is_resting n.sweep.mind.line) (sym takes.is) ∙ stays in
    let all = whole takes.ended in
    let short = turn_short start answers is takes.ready takes.stays in
    let few : left < 18446744073709551615 = omega (arith, all, short, limit_most start.room.spec is.is_mind.limits) in
    stops_after fuse start new answers Crashed is takes.ready (λ more below. has.whole more (omega (arith, below, takes.within))) (stays_all start answers takes.stays end) (by has.burnt (omega (arith, all, along.steps)) few) takes.is
  where
    whole : (length takes.answers ≡ left) ⊎ (is_resting new.sweep.mind.line ≡ true) → length takes.answers ≡ left
    whole (inl all) = all
    whole (inr ended) = absurd cc

    by : (is_burnt fuse (start.sweep.mind.steps + left) ≡ true) ⊎ (left ≡ 18446744073709551615) → start.sweep.mind.steps + left ≡ (after_steps start takes.answers).sweep.mind.steps → left < 18446744073709551615 → stop_at fuse (after_steps start takes.answers) ≡ Some Crashed
    by (inl burnt) same less = burns _ _ (subst (λ (steps : ℕ). is_burnt fuse steps ≡ true) same burnt)
    by (inr most) same less = absurd (omega (arith, most, less))
