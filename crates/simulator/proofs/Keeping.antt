-- Every answer leads from a mind to a mind.
use Rattle.std.proofs.Common.{◌≡◌, ◌≢◌, ℕ, ◌+◌, ◌-◌, ◌*◌, ◌%◌, ◌<◌, ◌≤◌, min, Bool, true, false, cond, eqb, ltb, zero, suc, replicate, List, [], ◌∷◌, ◌++◌, length, get_or, set, Option, Some, None, refl, sym, ap, ◌∙◌, subst, arith}
use mathlib.Core.Logic.{dite}
use native.Mathlib.Decide.{ℕ_discrete}
use Rattle.std.specs.Prelude.{◌&&◌, ◌||◌}
use Rattle.std.proofs.lemmas.Bool.{and_from, and_parts, le-leb, eqb-true, eqb-false, ne_eqb, ltb-true, ltb-false}
use Rattle.std.proofs.lemmas.Nat.{mod_below, mul-le}
use Rattle.simulator.proofs.Stepping.{words_some}
use Rattle.simulator.proofs.Limits.{limit_most}
use Rattle.std.proofs.lemmas.List.{get_or-set_same, get_or-set_other, length-set, length-append}
use Rattle.std.proofs.lemmas.List.FromFn.{length-map-range_with_len, get_or-map-range_with_len}
use Rattle.protocol_lang.specs.declared.meaning.Action.{Action}
use Rattle.protocol_lang.specs.declared.meaning.Action.TheVariants as actions
use Rattle.protocol_lang.specs.Meaning.{next_action}
use Rattle.protocol_lang.specs.Numbers.{greatest}
use Rattle.room_spec.specs.Rooms.{RoomSpec, IsWithinLimits, is_reduction, is_value, processes}
use Rattle.room_spec.specs.Sizes.{Sizes, first_of, sizes_in}
use Rattle.view_table.specs.Places.{IsAgreementRound}
use Rattle.std.specs.List.{list_all}
use Rattle.std.proofs.lemmas.List.{get_or-replicate, length-replicate}
use Rattle.safe_agreement.specs.Levels.{has_level}
use Rattle.level_cells.specs.Fields.{levels_of}
use Rattle.simulator.specs.declared.goal.Goal.{Goal}
use Rattle.simulator.specs.declared.goal.Goal.TheVariants as goals
use Rattle.simulator.specs.declared.line.Line.{Line}
use Rattle.simulator.specs.declared.line.Line.TheVariants.{Rest, Raise, Snap, Show, Enter, Look, Leave, Ask, GetInput, GetView, Values, Out}
use Rattle.simulator.specs.declared.turn.Turn.{Turn}
use Rattle.simulator.specs.declared.turn.Turn.TheVariants.{Useful, Quiet}
use Rattle.simulator.specs.declared.operation.Move.{Move}
use Rattle.simulator.specs.declared.operation.Move.TheVariants.{OutOfTurns}
use Rattle.simulator.specs.Minds.{MindState, is_unfinished, goal_at, current_goal, current_input, current_round, round_of, next_process, first_goal, first_goals, first_write, opening_mind, or_else}
use Rattle.simulator.specs.Moves.{entry_in, chosen_in, is_again, loaded, first_move_at, first_move, move_at, move_of, IsOperation, taken_at, taken}
use Rattle.simulator.specs.Turns.{TakenOf, asks_in, gets_in, stayed, with_input, collected, counted, begun, goes_on, ended, asked, after_write, acted, most_collects, padded, gathered, opened_at, opened, scanned, with_decision, words_in}
use Rattle.simulator.specs.Firsts.{IsVisited, AreVisitedLast}
use Rattle.simulator.specs.Quiet.{unfinished_from}
use Rattle.simulator.proofs.Visiting.{visited_begun, visited_ended, visited_stayed, visited_first}
use Rattle.simulator.specs.Ranges.{AreInputs, HasDecision, IsCollectCount, IsGoal, IsLineIn, greatest_limit, most_steps, charged_steps, scan_steps, turn_limit, words_at, IsOpenAt, IsMind}
use Rattle.simulator.proofs.Processes.{next_is_left}
use Rattle.simulator.proofs.Gathering.{padded_is}
use Rattle.simulator.proofs.Ranging.{agreed_range, chosen_below}

-- ---- the limit of a turn

limit_over : (spec : RoomSpec) (steps entries : ℕ) → entries ≤ processes spec → steps ≤ 7 + scan_steps spec + 2 * words_in spec + entries → steps ≤ turn_limit spec
unfolding turn_limit
limit_over spec steps entries few most = omega (arith, few, most)

scan_whole : (spec : RoomSpec) (collects : ℕ) → words_in spec ≢ 1 → collects ≤ most_collects spec → words_in spec * collects ≤ scan_steps spec
scan_whole spec collects several most =
    let is : scan_steps spec ≡ words_in spec * most_collects spec = ap (λ (b : Bool). cond b 1 (words_in spec * most_collects spec)) (ne_eqb _ _ several) in
    omega (arith, is, mul-le (words_in spec) collects (words_in spec) (most_collects spec) (omega arith) most)

-- ---- a mind in the midst of a step: its process is unfinished, and its turn is charged

pub record IsBusy (spec : RoomSpec) (mind : MindState) : Type 0 where
  pub limits : IsWithinLimits spec
  pub number : mind.number < spec.simulators
  pub goals : length mind.goals ≡ processes spec
  pub rounds : (process : ℕ) → process < processes spec → IsGoal (sizes_in spec) (goal_at mind.goals process)
  pub process : mind.process < processes spec
  pub turns : mind.turns ≤ spec.turns
  pub entries : length mind.entries ≤ processes spec
  pub snapshot : length mind.snapshot ≡ 4
  pub before : length mind.before ≡ 4
  pub counted : mind.steps + greatest_limit ≤ greatest_limit * mind.turns + mind.turn_steps
  pub unfinished : is_unfinished (current_goal mind) ≡ true
  pub inputs : AreInputs spec mind.inputs
  pub order : AreVisitedLast (unfinished_from mind.goals mind.process)
  pub decision : HasDecision mind.goals mind.decision

busy_at : (spec : RoomSpec) (mind : MindState) → IsMind spec mind → is_unfinished (current_goal mind) ≡ true → mind.steps + greatest_limit ≤ greatest_limit * mind.turns + mind.turn_steps → IsBusy spec (counted mind)
busy_at spec mind is unfinished charged = record {
  limits = is.limits;
  number = is.number;
  goals = is.goals;
  rounds = is.rounds;
  process = is.process;
  turns = is.turns;
  entries = is.entries;
  snapshot = is.snapshot;
  before = is.before;
  counted = omega arith;
  unfinished = unfinished;
  inputs = is.inputs;
  order = is.order;
  decision = is.decision;
}

busy_begun : (spec : RoomSpec) (mind : MindState) (process : ℕ) → next_process mind.goals mind.process ≡ Some process → IsMind spec mind → mind.steps ≤ greatest_limit * mind.turns + mind.turn_steps → mind.turns < spec.turns → process < processes spec → is_unfinished (goal_at mind.goals process) ≡ true → IsBusy spec (begun process (counted mind))
busy_begun spec mind process found is charged left below unfinished = record {
  limits = is.limits;
  number = is.number;
  goals = is.goals;
  rounds = is.rounds;
  process = below;
  turns = omega arith;
  entries = is.entries;
  snapshot = is.snapshot;
  before = is.before;
  counted = omega arith;
  unfinished = unfinished;
  inputs = is.inputs;
  order = visited_begun mind.goals mind.process process found is.order;
  decision = is.decision;
}

-- ---- the turn goes on

goes : (spec : RoomSpec) (mind : MindState) (line : Line) → IsBusy spec mind → mind.word < words_at spec line → IsCollectCount spec line mind.collects → mind.turn_steps ≤ most_steps spec line mind.word mind.collects (length mind.entries) → charged_steps line mind.steps ≤ mind.steps + greatest_limit → IsOpenAt line spec (goes_on line mind).mind → IsLineIn (current_round mind) line → IsMind spec (goes_on line mind).mind
goes spec mind line is word collects few charged at round = record {
  limits = is.limits;
  number = is.number;
  goals = is.goals;
  rounds = is.rounds;
  process = is.process;
  turns = is.turns;
  entries = is.entries;
  snapshot = is.snapshot;
  before = is.before;
  word = word;
  collects = collects;
  few = few;
  counted = omega (arith, is.counted);
  at = at;
  round = round;
  inputs = is.inputs;
  order = is.order;
  decision = is.decision;
}

-- ---- the turn ends

-- a goal in place of an unfinished one: if it isn't `Done`, the simulator has a decision exactly if it had one
same_decision : (all : List Goal) (sweep : ℕ) (goal : Goal) (decision : Option ℕ) → sweep < length all → is_unfinished (goal_at all sweep) ≡ true → goal ≢ goals.Done → HasDecision all decision → HasDecision (set all sweep goal) decision
same_decision all sweep goal (Some decision) below left other has =
    let apart : has.0 ≢ sweep = λ e. absurd (let wrong : true ≡ false = sym left ∙ ap is_unfinished (ap (goal_at all) (sym e) ∙ has.2) in cc) in
    (has.0, omega (arith, has.1, length-set all sweep goal), get_or-set_other all sweep has.0 goal goals.Done apart ∙ has.2)
same_decision all sweep goal None below left other none = λ process within done.
    dite (ℕ_discrete process sweep)
    (λ (e : process ≡ sweep). other (sym (ap (λ (p : ℕ). get_or (set all sweep goal) p goals.Done) e ∙ get_or-set_same all sweep goal goals.Done below) ∙ done))
    (λ (n : process ≢ sweep). none process (omega (arith, within, length-set all sweep goal)) (sym (get_or-set_other all sweep process goal goals.Done n) ∙ done))

-- and with `Done` it has one
first_decision : (all : List Goal) (sweep decision : ℕ) (own : Option ℕ) → sweep < length all → HasDecision (set all sweep goals.Done) (or_else own (Some decision))
first_decision all sweep decision (Some own) below = (sweep, omega (arith, below, length-set all sweep goals.Done), get_or-set_same all sweep goals.Done goals.Done below)
first_decision all sweep decision None below = (sweep, omega (arith, below, length-set all sweep goals.Done), get_or-set_same all sweep goals.Done goals.Done below)

decides_first : (spec : RoomSpec) (mind : MindState) (decision : ℕ) → IsBusy spec mind → HasDecision (set mind.goals mind.process goals.Done) (with_decision decision mind).decision
decides_first spec mind decision is = first_decision mind.goals mind.process decision mind.decision (omega (arith, is.goals, is.process))

set_goal : (all : List Goal) (sweep process : ℕ) (sizes : Sizes) (goal : Goal) → process < length all → IsGoal sizes goal → IsGoal sizes (goal_at all process) → IsGoal sizes (goal_at (set all sweep goal) process)
set_goal all sweep process sizes goal below range was =
    dite (ℕ_discrete process sweep)
    (λ (e : process ≡ sweep). subst (λ g. IsGoal sizes g) (sym (ap (λ (p : ℕ). get_or (set all sweep goal) p goals.Done) e ∙ get_or-set_same all sweep goal goals.Done (omega arith))) range)
    (λ (n : process ≢ sweep). subst (λ g. IsGoal sizes g) (sym (get_or-set_other all sweep process goal goals.Done n)) was)

ends : (spec : RoomSpec) (mind : MindState) (own : Option ℕ) (turn : Turn) (goal : Goal) → IsBusy spec mind → IsGoal (sizes_in spec) goal → IsVisited goal → HasDecision (set mind.goals mind.process goal) own → mind.word < 1 → mind.turn_steps ≤ turn_limit spec
    → IsMind spec (ended turn goal (record mind { decision = own })).mind
ends spec mind own turn goal is range visited decision word few = record {
  limits = is.limits;
  number = is.number;
  goals = length-set mind.goals mind.process goal ∙ is.goals;
  rounds = λ process below. set_goal mind.goals mind.process process (sizes_in spec) goal (omega (arith, is.goals)) range (is.rounds process below);
  process = let some : 0 < length mind.goals = omega (arith, is.goals, is.process) in omega (arith, mod_below (mind.process + 1) (length mind.goals) some, is.goals);
  turns = is.turns;
  entries = is.entries;
  snapshot = is.snapshot;
  before = is.before;
  word = word;
  collects = refl;
  few = omega arith;
  counted = omega (arith, is.counted, limit_most spec is.limits);
  at = tt;
  round = tt;
  inputs = is.inputs;
  order = visited_ended mind.goals mind.process goal (omega (arith, is.goals, is.process)) is.unfinished visited is.order;
  decision = decision;
}

-- with a goal that isn't `Done` it has decided what it had
ends_so : (spec : RoomSpec) (mind : MindState) (turn : Turn) (goal : Goal) → IsBusy spec mind → IsGoal (sizes_in spec) goal → IsVisited goal → goal ≢ goals.Done → mind.word < 1 → mind.turn_steps ≤ turn_limit spec → IsMind spec (ended turn goal mind).mind
ends_so spec mind turn goal is range visited other word few =
    ends spec mind mind.decision turn goal is range visited (same_decision mind.goals mind.process goal mind.decision (omega (arith, is.goals, is.process)) is.unfinished other is.decision) word few

-- the same where the sweep stays, at a process that isn't visited yet
stays_so : (spec : RoomSpec) (mind : MindState) (goal : Goal) → IsBusy spec mind → IsGoal (sizes_in spec) goal → (IsVisited goal → ⊥) → is_unfinished goal ≡ true → goal ≢ goals.Done → mind.word < 1 → mind.turn_steps ≤ turn_limit spec → IsMind spec (stayed Useful goal mind).mind
stays_so spec mind goal is range none left_too other word few = record {
  limits = is.limits;
  number = is.number;
  goals = length-set mind.goals mind.process goal ∙ is.goals;
  rounds = λ process below. set_goal mind.goals mind.process process (sizes_in spec) goal (omega (arith, is.goals)) range (is.rounds process below);
  process = is.process;
  turns = is.turns;
  entries = is.entries;
  snapshot = is.snapshot;
  before = is.before;
  word = word;
  collects = refl;
  few = omega arith;
  counted = omega (arith, is.counted, limit_most spec is.limits);
  at = tt;
  round = tt;
  inputs = is.inputs;
  order = visited_stayed mind.goals mind.process goal (omega (arith, is.goals, is.process)) is.unfinished left_too none is.order;
  decision = same_decision mind.goals mind.process goal mind.decision (omega (arith, is.goals, is.process)) is.unfinished other is.decision;
}

all_set : (values : List ℕ) (i value : ℕ) → list_all is_value values ≡ true → is_value value ≡ true → list_all is_value (set values i value) ≡ true
all_set [] i value all is = refl
all_set (first ∷ values) zero value all is = and_from (is_value value) (list_all is_value values) is (and_parts (is_value first) (list_all is_value values) all).1
all_set (first ∷ values) (suc i) value all is =
    let both = and_parts (is_value first) (list_all is_value values) all in
    and_from (is_value first) (list_all is_value (set values i value)) both.0 (all_set values i value both.1 is)

takes_input : (spec : RoomSpec) (mind : MindState) (input : ℕ) → IsBusy spec mind → input ≤ greatest → IsBusy spec (with_input input mind)
takes_input spec mind input is small = record {
  limits = is.limits;
  number = is.number;
  goals = is.goals;
  rounds = is.rounds;
  process = is.process;
  turns = is.turns;
  entries = is.entries;
  snapshot = is.snapshot;
  before = is.before;
  counted = is.counted;
  unfinished = is.unfinished;
  inputs = (length-set mind.inputs mind.process input ∙ is.inputs.0, all_set mind.inputs mind.process input is.inputs.1 (le-leb input greatest small));
  order = is.order;
  decision = is.decision;
}

-- ---- the lines at which a turn may end

busy_last : (spec : RoomSpec) (mind : MindState) → IsBusy spec mind → IsAgreementRound (sizes_in spec) (current_round mind)
busy_last spec mind is = agreed_range (sizes_in spec) (current_goal mind) (is.rounds mind.process is.process) is.unfinished

reduction_only : (sizes : Sizes) → first_of sizes.reduction ≤ 0 → sizes.reduction ≡ true
reduction_only sizes first = zero_first sizes.reduction first
  where
    zero_first : (b : Bool) → first_of b ≤ 0 → b ≡ true
    zero_first true less = refl
    zero_first false less = absurd (omega (arith, less))

asks_goal : (sizes : Sizes) (round : ℕ) → IsAgreementRound sizes round → IsGoal sizes (asks_in round)
asks_goal sizes zero range = reduction_only sizes range.0
asks_goal sizes (suc round) range = (omega arith, range.1)

asks_visited : (round : ℕ) → IsVisited (asks_in round)
asks_visited zero = tt
asks_visited (suc round) = tt

asks_other : (round : ℕ) → asks_in round ≢ goals.Done
asks_other zero is = absurd cc
asks_other (suc round) is = absurd cc

asks_some : (spec : RoomSpec) (mind : MindState) (chosen k : ℕ) → current_round mind ≡ k → chosen < spec.simulators → IsBusy spec mind → mind.word < 1 → mind.collects ≤ most_collects spec → mind.turn_steps ≤ 6 + scan_steps spec + words_in spec → IsMind spec (goes_on (gets_in k chosen) mind).mind
asks_some spec mind chosen zero none below is at collects few = goes spec mind (GetInput chosen) is at collects (omega (arith, few)) (omega arith) (is.unfinished, below) none
asks_some spec mind chosen (suc k) some below is at collects few = goes spec mind (GetView chosen) is (omega (arith, at, (words_some spec is.limits).0)) collects (omega (arith, few)) (omega arith) (is.unfinished, below) (omega (arith, some))

asks : (spec : RoomSpec) (mind : MindState) (word : ℕ) (chosen : Option ℕ) → chosen_in spec word ≡ chosen → IsBusy spec mind → mind.word < 1 → mind.collects ≤ most_collects spec → mind.turn_steps ≤ 6 + scan_steps spec + words_in spec → IsMind spec (asked chosen mind).mind
asks spec mind word None found is at collects few =
    ends_so spec mind Quiet (asks_in (current_round mind)) is (asks_goal (sizes_in spec) (current_round mind) (busy_last spec mind is)) (asks_visited (current_round mind)) (asks_other (current_round mind)) at (limit_over spec mind.turn_steps 0 (omega arith) (omega (arith, few)))
asks spec mind word (Some chosen) found is at collects few = asks_some spec mind chosen (current_round mind) refl (chosen_below spec word chosen found) is at collects few

write_range : (b : Bool) (sizes : Sizes) (round value : ℕ) → ltb round sizes.rounds ≡ b → IsGoal sizes (cond b (goals.Write (round + 1) value) goals.Spent)
write_range true sizes round value is = (omega arith, let less = ltb-true round sizes.rounds is in omega arith)
write_range false sizes round value is = tt

write_visited : (b : Bool) (round value : ℕ) → 1 ≤ round → IsVisited (cond b (goals.Write (round + 1) value) goals.Spent)
write_visited true round value first = omega arith
write_visited false round value first = tt

write_other : (b : Bool) (round value : ℕ) → cond b (goals.Write round value) goals.Spent ≢ goals.Done
write_other true round value is = cc
write_other false round value is = cc

acts : (spec : RoomSpec) (mind : MindState) (action : Action) → IsBusy spec mind → 1 ≤ current_round mind → mind.word < 1 → mind.collects ≤ most_collects spec → mind.turn_steps ≤ 6 + scan_steps spec + 2 * words_in spec + length mind.entries → IsMind spec (acted spec action mind).mind
acts spec mind (actions.Write value) is some at collects few =
    ends_so spec mind Useful (after_write spec.rounds (current_round mind) value) is (write_range _ (sizes_in spec) (current_round mind) value refl) (write_visited (ltb (current_round mind) spec.rounds) (current_round mind) value some) (write_other (ltb (current_round mind) spec.rounds) (current_round mind + 1) value) at (limit_over spec mind.turn_steps (length mind.entries) is.entries (omega (arith, few)))
acts spec mind (actions.Decide decision) is some at collects few = goes spec mind (Out decision) is at collects few (omega arith) is.unfinished some

gathers_all : (spec : RoomSpec) (mind : MindState) (b : Bool) → ltb (length mind.entries) (processes spec) ≡ b → IsBusy spec mind → 1 ≤ current_round mind → mind.word < 1 → mind.collects ≤ most_collects spec → mind.turn_steps ≤ 6 + scan_steps spec + 2 * words_in spec + length mind.entries → (length mind.entries < processes spec → 1 ≤ entry_in spec mind.snapshot (length mind.entries)) → IsMind spec (cond b (goes_on Values mind) (acted spec (next_action spec.protocol (current_input spec mind) mind.process (current_round mind) mind.entries) mind)).mind
gathers_all spec mind true less is some at collects few shown = let below = ltb-true _ _ less in goes spec mind Values is at collects few (omega arith) (is.unfinished, below, shown below) some
gathers_all spec mind false less is some at collects few shown = acts spec mind (next_action spec.protocol (current_input spec mind) mind.process (current_round mind) mind.entries) is some at collects few

gathers : (spec : RoomSpec) (mind : MindState) (entries : List (Option ℕ)) → IsBusy spec mind → 1 ≤ current_round mind → mind.word < 1 → mind.collects ≤ most_collects spec → length entries ≤ processes spec → mind.turn_steps ≤ 6 + scan_steps spec + 2 * words_in spec + length entries → IsMind spec (gathered (entry_in spec mind.snapshot) spec entries mind).mind
gathers spec mind entries is some at collects within few =
    let row = entry_in spec mind.snapshot in
    let padding = padded_is row (processes spec - length entries) entries in
    let after = padded row (processes spec) entries in
    let busy : IsBusy spec (record mind { entries = after }) = record {
      limits = is.limits;
      number = is.number;
      goals = is.goals;
      rounds = is.rounds;
      process = is.process;
      turns = is.turns;
      entries = omega (arith, padding.short);
      snapshot = is.snapshot;
      before = is.before;
      counted = is.counted;
      unfinished = is.unfinished;
      inputs = is.inputs;
      order = is.order;
      decision = is.decision;
    } in
    gathers_all spec (record mind { entries = after }) _ refl busy some at collects (omega (arith, padding.long)) (λ less. padding.shown (omega arith))

-- a word is loaded
loads : (spec : RoomSpec) (mind : MindState) (answer : ℕ) → IsBusy spec mind → IsBusy spec (loaded answer mind)
loads spec mind answer is = record {
  limits = is.limits;
  number = is.number;
  goals = is.goals;
  rounds = is.rounds;
  process = is.process;
  turns = is.turns;
  entries = is.entries;
  snapshot = length-set mind.snapshot mind.word answer ∙ is.snapshot;
  before = is.before;
  counted = is.counted;
  unfinished = is.unfinished;
  inputs = is.inputs;
  order = is.order;
  decision = is.decision;
}

-- another word, count of collects or collect before
moves_on : (spec : RoomSpec) (mind : MindState) (word collects : ℕ) (before : List ℕ) → length before ≡ 4 → IsBusy spec mind → IsBusy spec (record mind { word = word; collects = collects; before = before })
moves_on spec mind word collects before long is = record {
  limits = is.limits;
  number = is.number;
  goals = is.goals;
  rounds = is.rounds;
  process = is.process;
  turns = is.turns;
  entries = is.entries;
  snapshot = is.snapshot;
  before = long;
  counted = is.counted;
  unfinished = is.unfinished;
  inputs = is.inputs;
  order = is.order;
  decision = is.decision;
}

-- the line goes on with the next word, or is through
by_word : (spec : RoomSpec) (line : Line) (mind : MindState) (last : TakenOf (List ℕ)) (b : Bool) → ltb (mind.word + 1) (words_in spec) ≡ b
    → (mind.word + 1 < words_in spec → IsMind spec (goes_on line (record mind { word = mind.word + 1 })).mind) → (mind.word + 1 ≡ words_in spec → IsMind spec last.mind) → mind.word < words_in spec
    → IsMind spec (cond b (goes_on line (record mind { word = mind.word + 1 })) last).mind
by_word spec line mind last true is more whole within = more (ltb-true _ _ is)
by_word spec line mind last false is more whole within = let least = ltb-false _ _ is in whole (omega (arith, least, within))

no_word : (spec : RoomSpec) → IsWithinLimits spec → 0 < words_in spec
no_word spec limits = let some = (words_some spec limits).0 in omega arith

-- ---- the scan

again : (spec : RoomSpec) (mind : MindState) (b : Bool) → 1 ≤ current_round mind → (b ≡ false → mind.collects < most_collects spec) → IsBusy spec mind → mind.word ≡ 0 → words_in spec ≢ 1 → 1 ≤ mind.collects → mind.collects ≤ most_collects spec → mind.turn_steps ≤ 2 + words_in spec * mind.collects
    → IsMind spec (cond b (goes_on Show mind) (goes_on Snap (record mind { before = mind.snapshot }))).mind
again spec mind true round less is word several some most few =
    let all = scan_whole spec mind.collects several most in
    goes spec mind Show is (omega (arith, word, no_word spec is.limits)) most (omega (arith, few, all)) (omega arith) is.unfinished round
again spec mind false round less is word several some most few =
    goes spec (record mind { before = mind.snapshot }) Snap (moves_on spec mind mind.word mind.collects mind.snapshot is.snapshot is) (omega (arith, word, no_word spec is.limits)) (less refl, λ one. absurd (several one)) (omega (arith, few)) (omega arith) is.unfinished round

not_most : (same : Bool) (collects most : ℕ) → same || eqb collects most ≡ false → collects ≤ most → collects < most
not_most true collects most is few = absurd cc
not_most false collects most is few = let other = eqb-false collects most is in by_differ collects most other few
  where
    by_differ : (x y : ℕ) → x ≢ y → x ≤ y → x < y
    by_differ x y other few = dite (ℕ_discrete x y) (λ (e : x ≡ y). absurd (other e)) (λ (n : x ≢ y). omega arith)

scans : (spec : RoomSpec) (mind : MindState) (same b : Bool) → 1 ≤ current_round mind → eqb (words_in spec) 1 ≡ b → IsBusy spec mind → mind.word ≡ 0 → IsCollectCount spec Snap mind.collects → mind.turn_steps ≤ 2 + words_in spec * (mind.collects + 1)
    → IsMind spec (cond b (goes_on Show mind) (collected spec same (record mind { collects = mind.collects + 1 }))).mind
scans spec mind same true round is busy word collects few =
    let one : words_in spec ≡ 1 = eqb-true _ _ is in
    let none = collects.1 one in
    let steps : words_in spec * (mind.collects + 1) ≡ 1 = ap (λ w. w * (mind.collects + 1)) one ∙ omega (arith, none) in
    let single : scan_steps spec ≡ 1 = ap (λ (b : Bool). cond b 1 (words_in spec * most_collects spec)) is in
    goes spec mind Show busy (omega (arith, word, no_word spec busy.limits)) (omega (arith, none)) (omega (arith, few, steps, single)) (omega arith) busy.unfinished round
scans spec mind same false round is busy word collects few =
    again spec (record mind { collects = mind.collects + 1 }) ((same && ltb 1 (mind.collects + 1)) || eqb (mind.collects + 1) (most_collects spec)) round (λ no. not_most (same && ltb 1 (mind.collects + 1)) (mind.collects + 1) (most_collects spec) no (omega (arith, collects.0)))
    (moves_on spec mind mind.word (mind.collects + 1) mind.before busy.before busy) word (eqb-false _ _ is) (omega arith) (omega (arith, collects.0)) few

-- ---- the first step of a turn

opens_at : (spec : RoomSpec) (mind : MindState) (word : ℕ) (goal : Goal) → current_goal mind ≡ goal → IsBusy spec mind → mind.word < 1 → mind.collects ≡ 0 → mind.turn_steps ≤ 1 → IsMind spec (opened_at goal (chosen_in spec word) mind).mind
opens_at spec mind word (goals.Write round value) has is at none few =
    let range : IsGoal (sizes_in spec) (goals.Write round value) = subst (λ g. IsGoal (sizes_in spec) g) has (is.rounds mind.process is.process) in
    let same : current_round mind ≡ round = ap round_of has in
    goes spec mind Raise is at none few (omega arith) is.unfinished (omega (arith, range.0, same))
opens_at spec mind word (goals.Propose value) has is at none few = goes spec mind Enter is at (omega (arith, none)) (omega (arith, few)) (omega arith) is.unfinished tt
opens_at spec mind word goals.AskInput has is at none few = asks spec mind word (chosen_in spec word) refl is at (omega (arith, none)) (omega (arith, few))
opens_at spec mind word (goals.Ask round) has is at none few = asks spec mind word (chosen_in spec word) refl is at (omega (arith, none)) (omega (arith, few))
opens_at spec mind word goals.Done has is at none few = absurd (let other = sym is.unfinished ∙ ap is_unfinished has in cc)
opens_at spec mind word goals.Spent has is at none few = absurd (let other = sym is.unfinished ∙ ap is_unfinished has in cc)

charged_operation : (b : Bool) (move : Move) → IsOperation (cond b move OutOfTurns) → b ≡ true
charged_operation true move is = refl
charged_operation false move is = absurd is

opens_next : (spec : RoomSpec) (mind : MindState) (word : ℕ) (next : Option ℕ) → next_process mind.goals mind.process ≡ next → IsMind spec mind → mind.word < 1 → mind.collects ≡ 0 → mind.turn_steps ≤ 0 → mind.steps ≤ greatest_limit * mind.turns + mind.turn_steps → IsOperation (first_move next spec mind) → IsMind spec (opened next (chosen_in spec word) (counted mind)).mind
opens_next spec mind word None found is at none few charged operation = absurd operation
opens_next spec mind word (Some process) found is at none few charged operation =
    let next = next_is_left mind.goals mind.process process (omega (arith, is.process, is.goals)) found in
    let left = ltb-true _ _ (charged_operation (ltb mind.turns spec.turns) (first_move_at (goal_at mind.goals process) spec mind.number process) operation) in
    let busy = busy_begun spec mind process found is charged left (omega (arith, next.below, is.goals)) next.unfinished in
    opens_at spec (begun process (counted mind)) word (goal_at mind.goals process) refl busy at none (omega arith)

-- ---- every line

kept_at : (line : Line) (spec : RoomSpec) (mind : MindState) (answer : ℕ) → IsMind spec mind → mind.word < words_at spec line → IsCollectCount spec line mind.collects → mind.turn_steps ≤ most_steps spec line mind.word mind.collects (length mind.entries)
    → charged_steps line mind.steps ≤ greatest_limit * mind.turns + mind.turn_steps → IsOpenAt line spec mind → IsLineIn (current_round mind) line → IsOperation (move_at line spec mind) → IsMind spec (taken_at line spec (counted mind) answer).mind
kept_at Rest spec mind answer is word collects few charged at round operation = opens_next spec mind answer (next_process mind.goals mind.process) refl is word collects few charged operation
kept_at Raise spec mind answer is word collects few charged at round operation =
    goes spec (counted mind) Snap (busy_at spec mind is at charged) (omega (arith, word, no_word spec is.limits)) (omega (arith, collects), λ one. collects) (omega (arith, few)) (omega arith) at round
kept_at Snap spec mind answer is word collects few charged at round operation =
    let got = loaded answer (counted mind) in
    let busy = loads spec (counted mind) answer (busy_at spec mind is at charged) in
    by_word spec Snap got (scanned spec (is_again got) (record got { word = 0 })) (ltb (mind.word + 1) (words_in spec)) refl
    (λ less. goes spec (record got { word = mind.word + 1 }) Snap (moves_on spec got (mind.word + 1) mind.collects mind.before is.before busy) less collects (omega (arith, few)) (omega arith) at round)
    (λ last.
    let more : words_in spec * (mind.collects + 1) ≡ words_in spec * mind.collects + words_in spec = grind arith in
    scans spec (record got { word = 0 }) (is_again got) (eqb (words_in spec) 1) round refl (moves_on spec got 0 mind.collects mind.before is.before busy) refl collects (omega (arith, few, more, last)))
    word
kept_at Show spec mind answer is word collects few charged at round operation =
    let busy = busy_at spec mind is at charged in
    by_word spec Show (counted mind) (goes_on Enter (record (counted mind) { word = 0 })) (ltb (mind.word + 1) (words_in spec)) refl
    (λ less. goes spec (record (counted mind) { word = mind.word + 1 }) Show (moves_on spec (counted mind) (mind.word + 1) mind.collects mind.before is.before busy) less collects (omega (arith, few)) (omega arith) at round)
    (λ last. goes spec (record (counted mind) { word = 0 }) Enter (moves_on spec (counted mind) 0 mind.collects mind.before is.before busy) (omega arith) collects (omega (arith, few, last)) (omega arith) at tt)
    word
kept_at Enter spec mind answer is word collects few charged at round operation = goes spec (counted mind) Look (busy_at spec mind is at charged) word collects (omega (arith, few)) (omega arith) at tt
kept_at Look spec mind answer is word collects few charged at round operation = goes spec (counted mind) (Leave (has_level 2 (levels_of answer spec.simulators))) (busy_at spec mind is at charged) word collects (omega (arith, few)) (omega arith) at tt
kept_at (Leave saw_two) spec mind answer is word collects few charged at round operation = goes spec (counted mind) Ask (busy_at spec mind is at charged) word collects (omega (arith, few)) (omega arith) at tt
kept_at Ask spec mind answer is word collects few charged at round operation = asks spec (counted mind) answer (chosen_in spec answer) refl (busy_at spec mind is at charged) word collects (omega (arith, few))
kept_at (GetInput chosen) spec mind answer is word collects few charged at round operation =
    let input = min answer greatest in
    let busy = takes_input spec (counted mind) input (busy_at spec mind is at.0 charged) (omega arith) in
    stays_so spec (with_input input (counted mind)) (first_write spec input mind.process) busy (omega arith, is.limits.shape.rounds_range.0) (λ two. absurd (omega (arith, two))) refl (λ e. absurd cc) word (limit_over spec (mind.turn_steps + 1) 0 (omega arith) (omega (arith, few)))
kept_at (GetView chosen) spec mind answer is word collects few charged at round operation =
    let got = loaded answer (counted mind) in
    let busy = loads spec (counted mind) answer (busy_at spec mind is at.0 charged) in
    by_word spec (GetView chosen) got (gathered (entry_in spec got.snapshot) spec [] (record got { word = 0 })) (ltb (mind.word + 1) (words_in spec)) refl
    (λ less. goes spec (record got { word = mind.word + 1 }) (GetView chosen) (moves_on spec got (mind.word + 1) mind.collects mind.before is.before busy) less collects (omega (arith, few)) (omega arith) at round)
    (λ last. gathers spec (record got { word = 0 }) [] (moves_on spec got 0 mind.collects mind.before is.before busy) round (omega arith) collects (omega arith) (omega (arith, few, last)))
    word
kept_at Values spec mind answer is word collects few charged at round operation =
    let long : length (mind.entries ++ Some (min answer greatest) ∷ []) ≡ length mind.entries + 1 = length-append mind.entries (Some (min answer greatest) ∷ []) in
    gathers spec (counted mind) (mind.entries ++ Some (min answer greatest) ∷ []) (busy_at spec mind is at.0 charged) round word collects (omega (arith, at.1)) (omega (arith, few, long))
kept_at (Out decision) spec mind answer is word collects few charged at round operation =
    let busy = busy_at spec mind is at charged in
    ends spec (counted mind) (with_decision decision mind).decision Useful goals.Done busy tt tt (decides_first spec (counted mind) decision busy) word (limit_over spec (mind.turn_steps + 1) (length mind.entries) is.entries (omega (arith, few)))

pub kept : (spec : RoomSpec) (mind : MindState) (answer : ℕ) → IsMind spec mind → IsOperation (move_of spec mind) → IsMind spec (taken spec mind answer).mind
kept spec mind answer is operation = kept_at mind.line spec mind answer is is.word is.collects is.few is.counted is.at is.round operation

pub kept_of : (spec : RoomSpec) (mind after : MindState) (answer : ℕ) → after ≡ (taken spec mind answer).mind → IsMind spec mind → IsOperation (move_of spec mind) → IsMind spec after
kept_of spec mind after answer is mind_is operation = subst (λ m. IsMind spec m) (sym is) (kept spec mind answer mind_is operation)

-- ---- the first mind

-- what is left to do before the first step
record AreOpening (spec : RoomSpec) (list : List Goal) : Type 0 where
  long : length list ≡ processes spec
  each : (process : ℕ) → process < processes spec → IsGoal (sizes_in spec) (goal_at list process)
  none : (process : ℕ) → process < processes spec → goal_at list process ≢ goals.Done

open_goals : (b : Bool) (spec : RoomSpec) (value : ℕ) → is_reduction spec ≡ b → IsWithinLimits spec → AreOpening spec (cond b (replicate (processes spec) (goals.Propose value)) (first_goals spec))
open_goals true spec value is limits = record {
  long = length-replicate (processes spec) (goals.Propose value);
  each = λ process below. subst (λ g. IsGoal (sizes_in spec) g) (sym (get_or-replicate (processes spec) process (goals.Propose value) goals.Done below)) is;
  none = λ process below done. (let wrong : goals.Propose value ≡ goals.Done = sym (get_or-replicate (processes spec) process (goals.Propose value) goals.Done below) ∙ done in absurd cc);
}
open_goals false spec value is limits = record {
  long = length-map-range_with_len (first_goal spec) 0 (processes spec);
  each = λ process below. subst (λ g. IsGoal (sizes_in spec) g) (sym (get_or-map-range_with_len (first_goal spec) 0 (processes spec) process process goals.Done below (omega arith))) (omega arith, limits.shape.rounds_range.0);
  none = λ process below done. (let wrong : first_goal spec process ≡ goals.Done = sym (get_or-map-range_with_len (first_goal spec) 0 (processes spec) process process goals.Done below (omega arith)) ∙ done in absurd cc);
}

open_inputs : (b : Bool) (spec : RoomSpec) → is_reduction spec ≡ b → IsWithinLimits spec → AreInputs spec (cond b spec.inputs [])
open_inputs true spec is limits = (rw is refl, limits.values)
open_inputs false spec is limits = (rw is refl, refl)

pub opens : (spec : RoomSpec) (i : ℕ) → IsWithinLimits spec → i < spec.simulators → IsMind spec (opening_mind spec i)
opens spec i limits below =
    let n = limits.shape.n_range in
    let all = open_goals (is_reduction spec) spec (get_or spec.own i 0) refl limits in
    record {
      limits = limits;
      number = below;
      goals = all.long;
      rounds = all.each;
      process = mod_below i (processes spec) n.0;
      turns = omega arith;
      entries = omega arith;
      snapshot = refl;
      before = refl;
      word = omega arith;
      collects = refl;
      few = omega arith;
      counted = omega arith;
      at = tt;
      round = tt;
      inputs = open_inputs (is_reduction spec) spec refl limits;
      order = visited_first spec i (i % processes spec);
      decision = λ process within done. all.none process (omega (arith, within, all.long)) done;
    }

pub opens_of : (spec : RoomSpec) (i : ℕ) (mind : MindState) → mind ≡ opening_mind spec i → IsWithinLimits spec → i < spec.simulators → IsMind spec mind
opens_of spec i mind is limits below = subst (λ m. IsMind spec m) (sym is) (opens spec i limits below)
