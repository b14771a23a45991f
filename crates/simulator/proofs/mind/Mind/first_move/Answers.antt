use Rattle.std.proofs.Common.{◌≡◌, ℕ, ◌<◌, List, length, get_or, Option, Some, sym, ap, ◌∙◌, subst, arith, refl, nat_lt, true}
use Rattle.std.proofs.lemmas.List.{get_or_default}
use Rattle.room_spec.specs.Rooms.{RoomSpec}
use Rattle.simulator.specs.contracts.mind.Mind.{the_view}
use Rattle.simulator.specs.declared.goal.Goal.{Goal}
use Rattle.simulator.specs.declared.goal.Goal.TheVariants.{Write, Done}
use Rattle.simulator.specs.declared.operation.Move.{Move}
use Rattle.simulator.specs.Minds.{MindState, goal_at, next_process}
use Rattle.simulator.specs.Moves.{first_move, first_move_at}
use Rattle.room_spec.specs.Sizes.{sizes_in}
use Rattle.simulator.specs.Ranges.{IsGoal}
use Rattle.simulator.proofs.Processes.{found_there, shown_is_left}
use Rattle.simulator.proofs.mind.Mind.first_move.Goals as goal

-- the goal read is that of the mind's next process, and a turn is left
moves_so : (spec : RoomSpec) (viewed mind : MindState) (goals read : List Goal) (sweep : ℕ) (next : Option ℕ) (process : ℕ) (blank : Goal) (move : Move) → viewed ≡ mind → mind.process < length mind.goals → goals ≡ viewed.goals → sweep ≡ mind.process → next ≡ next_process goals sweep → next ≡ Some process → read ≡ viewed.goals → nat_lt viewed.turns spec.turns ≡ true → move ≡ first_move_at (get_or read process blank) spec viewed.number process → move ≡ first_move (next_process mind.goals mind.process) spec mind
moves_so spec viewed mind goals read sweep next process blank move is within are stands searched found reads less moves =
    let left = shown_is_left viewed mind goals sweep next process is within are stands searched found in
    let found_in : next_process viewed.goals viewed.process ≡ Some process = sym (found_there viewed mind goals sweep next is are stands searched) ∙ found in
    let has : get_or read process blank ≡ goal_at viewed.goals process = ap (λ (l : List Goal). get_or l process blank) reads ∙ get_or_default viewed.goals process blank Done left.below in
    subst (λ (m : MindState). move ≡ first_move (next_process m.goals m.process) spec m) is
    (moves ∙ ap (λ (g : Goal). first_move_at g spec viewed.number process) has ∙ sym (ap (λ (n : Option ℕ). first_move n spec viewed) found_in ∙ rw less refl))

pub bounds-deref-process : goal.bounds-deref-process
bounds-deref-process c =
    let left = shown_is_left (the_view c.self.inside) c.args.self.now c.as_slice.result.now c.process.result c.next_process.result c.in-Some.process c.self.view_is (omega (arith, c.requires.1.process, c.requires.1.goals)) c.as_slice.ensures.value c.process.ensures c.next_process.ensures c.in-Some.is in
    omega (arith, left.below, ap (λ (l : List Goal). length l) c.deref.ensures.0)

pub offset_bounds-deref-process : goal.offset_bounds-deref-process
offset_bounds-deref-process c = omega (arith, bounds-deref-process c, c.deref.ensures.1)

pub first_move_at-requires-clause-process : goal.first_move_at-requires-clause-process
first_move_at-requires-clause-process c =
    let left = shown_is_left (the_view c.self.inside) c.args.self.now c.as_slice.result.now c.process.result c.next_process.result c.in-Some.process c.self.view_is (omega (arith, c.requires.1.process, c.requires.1.goals)) c.as_slice.ensures.value c.process.ensures c.next_process.ensures c.in-Some.is in
    omega (arith, left.below, ap (λ (m : MindState). length m.goals) c.self.view_is, c.requires.1.goals)

pub returns : goal.returns
returns c = moves_so c.args.spec.now (the_view c.self.inside) c.args.self.now c.as_slice.result.now c.deref.result.now c.process.result c.next_process.result c.in-Some.process (Write 0 0) c.first_move_at.result c.self.view_is (omega (arith, c.requires.1.process, c.requires.1.goals)) c.as_slice.ensures.value c.process.ensures c.next_process.ensures c.in-Some.is c.deref.ensures.0 (ap (λ (m : MindState). nat_lt m.turns c.args.spec.now.turns) c.self.view_is ∙ sym c.has_turn_left.ensures ∙ c.if-not-has_turn_left.false)
    (c.first_move_at.ensures ∙ ap (λ (number : ℕ). first_move_at (get_or c.deref.result.now c.in-Some.process (Write 0 0)) c.args.spec.now number c.in-Some.process) (c.number.ensures ∙ ap (λ (m : MindState). m.number) (sym c.self.view_is)))

pub first_move_at-requires-clause-round : goal.first_move_at-requires-clause-round
first_move_at-requires-clause-round c =
    let left = shown_is_left (the_view c.self.inside) c.args.self.now c.as_slice.result.now c.process.result c.next_process.result c.in-Some.process c.self.view_is (omega (arith, c.requires.1.process, c.requires.1.goals)) c.as_slice.ensures.value c.process.ensures c.next_process.ensures c.in-Some.is in
    let below = first_move_at-requires-clause-process c in
    subst (λ (goal : Goal). IsGoal (sizes_in c.args.spec.now) goal) (ap (λ (m : MindState). goal_at m.goals c.in-Some.process) (sym c.self.view_is) ∙ get_or_default c.self.inside.goals.items c.in-Some.process Done (Write 0 0) left.below ∙ ap (λ (l : List Goal). get_or l c.in-Some.process (Write 0 0)) (sym c.deref.ensures.0)) (c.requires.1.rounds c.in-Some.process below)
