-- What `==` says of what simulators know.
use Rattle.std.proofs.Common.{◌≡◌, ℕ, Bool, true, false, eqb, ◌&&◌, List, [], ◌∷◌, Option, Some, None, refl, ap}
use Rattle.std.proofs.lemmas.Bool.{and_parts, eqb-true}
use Rattle.std.specs.Cmp.Lexicographic.{pointwise}
use Rattle.std.specs.Option.{option_eq}
use Rattle.simulator.specs.declared.goal.Goal.{Goal}
use Rattle.simulator.specs.declared.goal.Goal.TheVariants as goals
use Rattle.simulator.specs.declared.line.Line.{Line}
use Rattle.simulator.specs.declared.line.Line.TheVariants.{Rest, Raise, Snap, Show, Enter, Look, Leave, Ask, GetInput, GetView, Values, Out}
use Rattle.simulator.specs.declared.knowledge.Knowledge.{Knowledge}
use Rattle.simulator.specs.contracts.goal.GoalPartialEq.TheImpl as goal
use Rattle.simulator.specs.contracts.line.LinePartialEq.TheImpl as line
use Rattle.simulator.specs.contracts.knowledge.KnowledgePartialEq.TheImpl as known

same_goal : (a b : Goal) → goal.ghosts.eq a b ≡ true → a ≡ b
same_goal (goals.Write k v) (goals.Write l w) h =
    let parts = and_parts (eqb k l) (eqb v w) h in
    let rounds = eqb-true k l parts.0 in
    let values = eqb-true v w parts.1 in
    λ i. goals.Write (rounds i) (values i)
same_goal (goals.Ask k) (goals.Ask l) h = ap goals.Ask (eqb-true k l h)
same_goal (goals.Propose v) (goals.Propose w) h = ap goals.Propose (eqb-true v w h)
same_goal goals.AskInput goals.AskInput h = refl
same_goal goals.Done goals.Done h = refl
same_goal goals.Spent goals.Spent h = refl
same_goal a b h = absurd cc

same_line : (a b : Line) → line.ghosts.eq a b ≡ true → a ≡ b
same_line Rest Rest h = refl
same_line Raise Raise h = refl
same_line Snap Snap h = refl
same_line Show Show h = refl
same_line Enter Enter h = refl
same_line Look Look h = refl
same_line (Leave true) (Leave true) h = refl
same_line (Leave false) (Leave false) h = refl
same_line Ask Ask h = refl
same_line (GetInput a) (GetInput b) h = ap GetInput (eqb-true a b h)
same_line (GetView a) (GetView b) h = ap GetView (eqb-true a b h)
same_line Values Values h = refl
same_line (Out a) (Out b) h = ap Out (eqb-true a b h)
same_line a b h = absurd cc

same_option : (a b : Option ℕ) → option_eq eqb a b ≡ true → a ≡ b
same_option None None h = refl
same_option (Some v) (Some w) h = ap Some (eqb-true v w h)
same_option None (Some w) h = absurd cc
same_option (Some v) None h = absurd cc

same_each : {T : Type 0} (eq : T → T → Bool) → ((a b : T) → eq a b ≡ true → a ≡ b) → (a b : List T) → pointwise eq a b ≡ true → a ≡ b
same_each eq same_one [] [] h = refl
same_each eq same_one [] (y ∷ ys) h = absurd cc
same_each eq same_one (x ∷ xs) [] h = absurd cc
same_each eq same_one (x ∷ xs) (y ∷ ys) h =
    let parts = and_parts (eq x y) (pointwise eq xs ys) h in
    let one = same_one x y parts.0 in
    let more = same_each eq same_one xs ys parts.1 in
    λ i. one i ∷ more i

both : {A : Type 0} (b : Bool) (rest : Bool) → (b ≡ true → A) → b && rest ≡ true → A × (rest ≡ true)
both b rest same h = let parts = and_parts b rest h in (same parts.0, parts.1)

pub same_knowledge : (a b : Knowledge) → known.ghosts.eq a b ≡ true → a ≡ b
same_knowledge a b h =
    let number = both (eqb a.number b.number) _ (eqb-true a.number b.number) h in
    let goals_are = both (pointwise goal.ghosts.eq a.goals.items b.goals.items) _ (same_each goal.ghosts.eq same_goal a.goals.items b.goals.items) number.1 in
    let process = both (eqb a.process b.process) _ (eqb-true a.process b.process) goals_are.1 in
    let lines = both (line.ghosts.eq a.line b.line) _ (same_line a.line b.line) process.1 in
    let word = both (eqb a.word b.word) _ (eqb-true a.word b.word) lines.1 in
    let collects = both (eqb a.collects b.collects) _ (eqb-true a.collects b.collects) word.1 in
    let before = both (pointwise eqb a.before b.before) _ (same_each eqb eqb-true a.before b.before) collects.1 in
    let snapshot = both (pointwise eqb a.snapshot b.snapshot) _ (same_each eqb eqb-true a.snapshot b.snapshot) before.1 in
    let entries = both (pointwise (option_eq eqb) a.entries.items b.entries.items) _ (same_each (option_eq eqb) same_option a.entries.items b.entries.items) snapshot.1 in
    let inputs = both (pointwise eqb a.inputs.items b.inputs.items) _ (same_each eqb eqb-true a.inputs.items b.inputs.items) entries.1 in
    let decision = same_option a.decision b.decision inputs.1 in
    λ i. record {
      number = number.0 i;
      goals = record { items = goals_are.0 i };
      process = process.0 i;
      line = lines.0 i;
      word = word.0 i;
      collects = collects.0 i;
      before = before.0 i;
      snapshot = snapshot.0 i;
      entries = record { items = entries.0 i };
      inputs = record { items = inputs.0 i };
      decision = decision i;
    }
