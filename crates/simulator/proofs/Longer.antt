-- A run with one step more, at whatever line it is, and with a row of steps more.
use Rattle.std.proofs.Common.{◌≡◌, ◌∙◌, ℕ, ◌+◌, List, refl, sym, ap, subst, arith}
use Rattle.room_spec.specs.Rooms.{RoomSpec}
use Rattle.simulator.specs.declared.line.Line.{Line}
use Rattle.simulator.specs.declared.operation.Move.{Move}
use Rattle.simulator.specs.declared.turn.Turn.{Turn}
use Rattle.simulator.specs.declared.turn.Turn.TheVariants.{Still}
use Rattle.simulator.specs.Minds.{MindState}
use Rattle.simulator.specs.Moves.{IsOperation, move_at, move_of, taken, taken_at}
use Rattle.simulator.specs.Ranges.{IsMind, at_line}
use Rattle.simulator.specs.Runs.{Continues, Runs, Wants}
use Rattle.simulator.specs.Turns.{TakenOf, counted}
use Rattle.simulator.proofs.Keeping.{kept}
use Rattle.simulator.proofs.Onward.{move_aside, moves_on, runs_more, taken_aside}

module _ {M C : Type 0} (serves : M → C → RoomSpec → MindState → Type 0) (does : M → Move → ℕ → M → Type 0)
    (serves_on : (memory : M) (context : C) (spec : RoomSpec) (mind : MindState) (answer : ℕ) (next : M) → serves memory context spec mind → IsMind spec mind → IsOperation (move_of spec mind) → does memory (move_of spec mind) answer next → serves next context spec (taken spec mind answer).mind)
    (context : C) (spec : RoomSpec) (memory next : M) (before after : MindState) (line later : Line) (answer : ℕ) (turn : Turn)
    (wants : Wants serves context spec memory (at_line line before) Still)
    (done : does memory (move_at line spec before) answer next)
    (mind_is : at_line later after ≡ (taken_at line spec (counted before) answer).mind)
    (turn_is : turn ≡ (taken_at line spec (counted before) answer).turn) where
  mind : MindState
  mind = at_line line before

  is : at_line later after ≡ (taken spec mind answer).mind
  unfolding mind
  is = mind_is ∙ ap (λ (t : TakenOf (List ℕ)). t.mind) (sym (taken_aside line line spec before answer))

  ends : turn ≡ (taken spec mind answer).turn
  unfolding mind
  ends = turn_is ∙ ap (λ (t : TakenOf (List ℕ)). t.turn) (sym (taken_aside line line spec before answer))

  asked : does memory (move_of spec mind) answer next
  unfolding mind
  asked = subst (λ move. does memory move answer next) (sym (move_aside line spec before)) done

  pub wants_on : Wants serves context spec next (at_line later after) turn
  unfolding mind
  wants_on =
      let operation = wants.operation refl in
      record {
        is_mind = subst (IsMind spec) (sym is) (kept spec mind answer wants.is_mind operation);
        operation = λ still. subst (λ (m : MindState). IsOperation (move_of spec m)) (sym is) (moves_on spec mind answer operation (sym ends ∙ still));
        served = subst (λ (m : MindState). serves next context spec m) (sym is) (serves_on memory context spec mind answer next wants.served wants.is_mind operation asked);
      }

  pub continues_on : (count : ℕ) → Continues does spec count memory (at_line line before) Still (count + 1) next (at_line later after) turn
  unfolding mind
  continues_on count first start runs =
      subst (λ (m : MindState). Runs does spec first start (count + 1) next m turn) (sym is)
      (subst (λ (t : Turn). Runs does spec first start (count + 1) next (taken spec mind answer).mind t) (sym ends) (runs_more does spec first start count memory mind answer next runs asked))

-- ---- a row of steps

-- This many steps lead from a memory and a mind in an open turn to those others.
pub record RunsOn {M C : Type 0} (serves : M → C → RoomSpec → MindState → Type 0) (does : M → Move → ℕ → M → Type 0) (context : C) (spec : RoomSpec) (steps : ℕ) (memory next : M) (before after : MindState) (turn : Turn) : Type 0 where
  pub wants : Wants serves context spec next after turn
  pub continues : (count : ℕ) → Continues does spec count memory before Still (count + steps) next after turn

pub runs_on : {M C : Type 0} (serves : M → C → RoomSpec → MindState → Type 0) (does : M → Move → ℕ → M → Type 0)
    (serves_on : (memory : M) (context : C) (spec : RoomSpec) (mind : MindState) (answer : ℕ) (next : M) → serves memory context spec mind → IsMind spec mind → IsOperation (move_of spec mind) → does memory (move_of spec mind) answer next → serves next context spec (taken spec mind answer).mind)
    (context : C) (spec : RoomSpec) (memory next : M) (before after : MindState) (line later : Line) (answer : ℕ) (turn : Turn)
    → Wants serves context spec memory (at_line line before) Still → does memory (move_at line spec before) answer next
    → at_line later after ≡ (taken_at line spec (counted before) answer).mind → turn ≡ (taken_at line spec (counted before) answer).turn
    → RunsOn serves does context spec 1 memory next (at_line line before) (at_line later after) turn
runs_on serves does serves_on context spec memory next before after line later answer turn wants done mind_is turn_is = record {
  wants = wants_on serves does serves_on context spec memory next before after line later answer turn wants done mind_is turn_is;
  continues = continues_on serves does serves_on context spec memory next before after line later answer turn wants done mind_is turn_is;
}

pub runs_then : {M C : Type 0} (serves : M → C → RoomSpec → MindState → Type 0) (does : M → Move → ℕ → M → Type 0) (context : C) (spec : RoomSpec) (steps more : ℕ) (memory next last : M) (before middle after : MindState) (turn : Turn)
    → RunsOn serves does context spec steps memory next before middle Still → RunsOn serves does context spec more next last middle after turn
    → RunsOn serves does context spec (steps + more) memory last before after turn
runs_then serves does context spec steps more memory next last before middle after turn one other = record {
  wants = other.wants;
  continues = λ count first start runs.
      let same : count + steps + more ≡ count + (steps + more) = omega arith in
      subst (λ (n : ℕ). Runs does spec first start n last after turn) same (other.continues (count + steps) first start (one.continues count first start runs));
}

-- and one step more
pub step_then : {M C : Type 0} (serves : M → C → RoomSpec → MindState → Type 0) (does : M → Move → ℕ → M → Type 0)
    (serves_on : (memory : M) (context : C) (spec : RoomSpec) (mind : MindState) (answer : ℕ) (next : M) → serves memory context spec mind → IsMind spec mind → IsOperation (move_of spec mind) → does memory (move_of spec mind) answer next → serves next context spec (taken spec mind answer).mind)
    (context : C) (spec : RoomSpec) (steps : ℕ) (memory next last : M) (before middle after : MindState) (line later : Line) (move : Move) (answer : ℕ) (turn : Turn)
    → RunsOn serves does context spec steps memory next before (at_line line middle) Still → does next move answer last → move ≡ move_at line spec middle
    → at_line later after ≡ (taken_at line spec (counted middle) answer).mind → turn ≡ (taken_at line spec (counted middle) answer).turn
    → RunsOn serves does context spec (steps + 1) memory last before (at_line later after) turn
step_then serves does serves_on context spec steps memory next last before middle after line later move answer turn on done move_is mind_is turn_is =
    runs_then serves does context spec steps 1 memory next last before (at_line line middle) (at_line later after) turn on
    (runs_on serves does serves_on context spec next last middle after line later answer turn on.wants (subst (λ (m : Move). does next m answer last) move_is done) mind_is turn_is)
