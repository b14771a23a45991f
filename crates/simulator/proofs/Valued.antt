-- A run with one value more, in a row of them that is counted at its end.
use Rattle.std.proofs.Common.{◌≡◌, ◌∙◌, ℕ, ◌+◌, ◌<◌, ◌≤◌, List, length, refl, ap, subst, arith}
use Rattle.std.proofs.lemmas.Bool.{lt-ltb}
use Rattle.room_spec.specs.Rooms.{RoomSpec, processes}
use Rattle.simulator.specs.declared.line.Line.{Line}
use Rattle.simulator.specs.declared.line.Line.TheVariants.{Values}
use Rattle.simulator.specs.declared.operation.Move.{Move}
use Rattle.simulator.specs.declared.operation.Move.TheVariants.{Load}
use Rattle.simulator.specs.declared.turn.Turn.{Turn}
use Rattle.simulator.specs.declared.turn.Turn.TheVariants.{Still}
use Rattle.simulator.specs.Minds.{MindState}
use Rattle.simulator.specs.Moves.{IsOperation, entry_in, move_at, move_of, taken, taken_at, value_index}
use Rattle.simulator.specs.Ranges.{IsMind, at_line}
use Rattle.simulator.specs.Runs.{Wants}
use Rattle.simulator.specs.Turns.{TakenOf, counted, counted_by, gathered_all, goes_on, with_value}
use Rattle.simulator.proofs.Limits.{small}
use Rattle.simulator.proofs.Longer.{RunsOn, runs_on}

-- ---- one value more

pub counts_none : (mind : MindState) → mind ≡ counted_by 0 mind
counts_none mind =
    let steps : mind.steps ≡ mind.steps + 0 = omega arith in
    let turn_steps : mind.turn_steps ≡ mind.turn_steps + 0 = omega arith in
    ap (λ (k : ℕ). record mind { steps = k }) steps ∙ ap (λ (k : ℕ). record mind { steps = mind.steps + 0; turn_steps = k }) turn_steps

pub one_more : (count : ℕ) (mind : MindState) → counted_by (count + 1) mind ≡ counted (counted_by count mind)
one_more count mind =
    let steps : mind.steps + (count + 1) ≡ mind.steps + count + 1 = omega arith in
    let turn_steps : mind.turn_steps + (count + 1) ≡ mind.turn_steps + count + 1 = omega arith in
    ap (λ (k : ℕ). record mind { steps = k; turn_steps = mind.turn_steps + (count + 1) }) steps ∙ ap (λ (k : ℕ). record mind { steps = mind.steps + count + 1; turn_steps = k }) turn_steps

value_taken : (spec : RoomSpec) (self after : MindState) (count answer : ℕ) → after ≡ with_value (entry_in spec self.snapshot) spec answer self
    → gathered_all spec (counted_by (count + 1) after) ≡ taken_at Values spec (counted (counted_by count self)) answer
value_taken spec self after count answer is =
    ap (λ (mind : MindState). gathered_all spec (counted_by (count + 1) mind)) is
    ∙ ap (λ (mind : MindState). gathered_all spec mind) (one_more count (with_value (entry_in spec self.snapshot) spec answer self))

-- where a process is left, its value comes next
pub values_left : (spec : RoomSpec) (mind : MindState) → length mind.entries < processes spec → gathered_all spec mind ≡ goes_on Values mind
values_left spec mind less = rw (lt-ltb (length mind.entries) (processes spec) less) refl

-- ---- numbers

pub record FitsMore (mind after : MindState) (count : ℕ) : Type 0 where
  pub steps : after.steps + (count + 1) ≤ 4294967295
  pub turn_steps : after.turn_steps + (count + 1) ≤ 65535

pub fits_more : (spec : RoomSpec) (row : ℕ → ℕ) (self after : MindState) (count answer : ℕ) → IsMind spec (at_line Values (counted_by count self)) → after ≡ with_value row spec answer self → FitsMore self after count
fits_more spec row self after count answer is_mind is =
    let few = small spec (at_line Values (counted_by count self)) is_mind in
    record {
      steps = omega (arith, few.steps, ap (λ (mind : MindState). mind.steps) is);
      turn_steps = omega (arith, few.turn_steps, ap (λ (mind : MindState). mind.turn_steps) is);
    }

-- ---- the run

pub value_on : {M C : Type 0} (serves : M → C → RoomSpec → MindState → Type 0) (does : M → Move → ℕ → M → Type 0)
    (serves_on : (memory : M) (context : C) (spec : RoomSpec) (mind : MindState) (answer : ℕ) (next : M) → serves memory context spec mind → IsMind spec mind → IsOperation (move_of spec mind) → does memory (move_of spec mind) answer next → serves next context spec (taken spec mind answer).mind)
    (context : C) (spec : RoomSpec) (memory next : M) (self after end : MindState) (count answer : ℕ) (load : Move) (later : Line) (turn : Turn)
    → Wants serves context spec memory (at_line Values (counted_by count self)) Still
    → load ≡ Load (value_index spec self (length self.entries)) → does memory load answer next
    → after ≡ with_value (entry_in spec self.snapshot) spec answer self
    → at_line later end ≡ (gathered_all spec (counted_by (count + 1) after)).mind → turn ≡ (gathered_all spec (counted_by (count + 1) after)).turn
    → RunsOn serves does context spec 1 memory next (at_line Values (counted_by count self)) (at_line later end) turn
value_on serves does serves_on context spec memory next self after end count answer load later turn wants loads done is mind_is turn_is =
    let before : MindState = counted_by count self in
    let asked : does memory (move_at Values spec before) answer next = subst (λ (move : Move). does memory move answer next) loads done in
    let same = value_taken spec self after count answer is in
    let mind : at_line later end ≡ (taken_at Values spec (counted before) answer).mind = mind_is ∙ ap (λ (t : TakenOf (List ℕ)). t.mind) same in
    let turns : turn ≡ (taken_at Values spec (counted before) answer).turn = turn_is ∙ ap (λ (t : TakenOf (List ℕ)). t.turn) same in
    runs_on serves does serves_on context spec memory next before end Values later answer turn wants asked mind turns
